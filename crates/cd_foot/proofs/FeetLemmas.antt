-- Footprints, one domain after another, from the last to the first.
use Rattle.std.proofs.Common.{◌≡◌, ℕ, ◌+◌, ◌<◌, ◌≤◌, ◌||◌, Bool, List, length, set, Some, slice_get, sym, ap, subst, ◌∙◌, inl, inr, arith}
use Rattle.std.proofs.lemmas.Bool.{cases_eq}
use Rattle.std.proofs.lemmas.List.{length-set}
use Rattle.std.proofs.lemmas.Option.{slice_get_within}
use Rattle.cd_base.specs.declared.place.Place.{Place}
use Rattle.cd_base.specs.declared.place.Range.{Range}
use Rattle.cd_base.specs.Words.{in_ranges}
use Rattle.cd_base.proofs.ListLemmas.{slice_get-set_same, slice_get-set_other}
use Rattle.cd_tree.specs.declared.domain.NodeId.{NodeId}
use Rattle.cd_tree.specs.declared.domain.Domain.{Domain}
use Rattle.cd_tree.specs.Domains.{Node, node_of}
use Rattle.cd_tree.specs.Meaning.{node_reads}
use Rattle.cd_foot.specs.declared.footprints.Foot.{Foot}
use Rattle.cd_foot.specs.declared.gathered.Side.TheVariants.{Reads, Writes}
use Rattle.cd_foot.specs.Feet.{IsFoot, AreFeet}
use Rattle.cd_foot.specs.Gathered.{IsSide, AreFeetFrom}

-- both sets and their union
pub is_foot : (d : Node) (reads writes reach : List Range) → IsSide Reads d reads → IsSide Writes d writes
    → ((p : Place) → in_ranges reach p ≡ (in_ranges reads p || in_ranges writes p)) → IsFoot d (record { reads = reads; writes = writes; reach = reach })
is_foot d reads writes reach one other both = record {
  reads = one.places;
  writes = other.places;
  reach = λ p. both p ∙ ap (λ (b : Bool). b || in_ranges writes p) (one.places p) ∙ ap (λ (b : Bool). node_reads d p || b) (other.places p);
}

-- one domain more
pub feet_more : (at next : ℕ) (id : NodeId) (domains : List Domain) (feet new : List Foot) (foot : Foot) → id.0 ≡ at → next ≡ at + 1
    → next ≤ length domains → AreFeetFrom next domains feet → new ≡ set feet at foot
    → ((d : Node) → node_of domains id ≡ Some d → IsFoot d foot) → AreFeetFrom at domains new
feet_more at next id domains feet new foot here step within behind is foot_is =
    let room : at < length feet = (let size = behind.size in omega (arith, size)) in
    let each : (k : NodeId) (d : Node) (f : Foot) → at ≤ k.0 → node_of domains k ≡ Some d → slice_get (set feet at foot) k.0 ≡ Some f → IsFoot d f =
    λ k d f from found there.
    elim (cases_eq k.0 at) [
      | inl same ↦
          (let make : ℕ → NodeId = λ n. record { 0 = n } in
          let one : k ≡ id = ap make (same ∙ sym here) in
          let mine : slice_get (set feet at foot) k.0 ≡ Some foot = ap (slice_get (set feet at foot)) same ∙ slice_get-set_same feet at foot room in
          let equal : foot ≡ f = cc in
          subst (λ (g : Foot). IsFoot d g) equal (foot_is d (ap (node_of domains) (sym one) ∙ found)))
      | inr other ↦
          behind.each k d f (omega arith) found (sym (slice_get-set_other feet at k.0 foot other) ∙ there)
    ] in
    subst (λ (fs : List Foot). AreFeetFrom at domains fs) (sym is) (record {
      size = length-set feet at foot ∙ behind.size;
      each = each;
    })

-- none yet
pub feet_none : (domains : List Domain) (feet : List Foot) → length feet ≡ length domains → AreFeetFrom (length domains) domains feet
feet_none domains feet size = record {
  size = size;
  each = λ k d f from found there. (let within = slice_get_within feet k.0 f there in absurd (omega (arith, within, size)));
}

-- all of them
pub feet_all : (domains : List Domain) (feet : List Foot) → AreFeetFrom 0 domains feet → AreFeet domains feet
feet_all domains feet all = record {
  size = all.size;
  each = λ id d foot found there. all.each id d foot (omega arith) found there;
}
