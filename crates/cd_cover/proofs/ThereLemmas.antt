-- A program has a first flaw, or none: a set of places with a bound has a least place, and each other question is a test.
use Rattle.std.proofs.Common.{◌≡◌, ◌⊎◌, ℕ, ◌+◌, ◌<◌, ◌≤◌, Bool, true, false, not, ◌&&◌, ◌||◌, List, Option, None, Some, IsSome, refl, inl, inr, arith, subst, sym}
use Rattle.std.proofs.lemmas.Bool.{and_parts}
use Rattle.std.proofs.lemmas.Bool.Decides.{nat_tests}
use Rattle.cd_base.specs.declared.place.Place.{Place}
use Rattle.cd_base.specs.declared.place.Range.{Range}
use Rattle.cd_base.specs.Words.{in_range}
use Rattle.cd_base.specs.Places.{IsLeast}
use Rattle.cd_tree.specs.declared.domain.NodeId.{NodeId}
use Rattle.cd_tree.specs.declared.domain.How.{How}
use Rattle.cd_tree.specs.declared.domain.How.TheVariants.{Copy, Refer, Regen}
use Rattle.cd_tree.specs.declared.domain.Entry.{Entry}
use Rattle.cd_tree.specs.declared.domain.Domain.{Domain}
use Rattle.cd_tree.specs.declared.refusal.Which.TheVariants as which
use Rattle.cd_tree.specs.declared.refusal.Refusal.TheVariants.{Uncovered, NoTarget, Stale, Limit}
use Rattle.cd_tree.specs.Domains.{Node, node, nodes_from, root_of}
use Rattle.cd_tree.specs.Limits.{need_limit}
use Rattle.cd_tree.specs.Meaning.{in_entries, body_reads, body_writes, uncovered, node_need}
use Rattle.cd_tree.specs.Refusals.{FirstOf, numbered}
use Rattle.cd_tree.proofs.RefusalLemmas.{HasAnswer, then_there, first_there}
use Rattle.cd_foot.specs.Bounded.{IsBounded}
use Rattle.cd_cover.specs.Links.{Frame, frames_of, link_in, written_since, stale}
use Rattle.cd_cover.specs.Checks.{CoverageOf, ReferenceOf, EntryOf, NumberedEntryOf, DomainOf, NeedOf}
use Rattle.cd_cover.specs.There.{FirstFlawIsThere}
use Rattle.cd_foot.proofs.BoundedLemmas.{bounded_has_least}
use Rattle.cd_foot.proofs.ThereLemmas.{reach_bounded}

-- ---- what entries leave out

in_reach : (entries reads writes : Bool) → ((reads || writes) && not entries) ≡ true → ((entries || reads) || writes) ≡ true
in_reach true reads writes e = refl
in_reach false reads writes e = (and_parts (reads || writes) true e).0

coverage_there : (d : Node) → HasAnswer (CoverageOf d)
coverage_there (node id domain body) = go (bounded_has_least (uncovered d) within)
  where
    d : Node
    d = node id domain body

    within : IsBounded (uncovered d)
    within = record {
      regions = (reach_bounded d).regions;
      indices = (reach_bounded d).indices;
      within = λ p has. (reach_bounded d).within p (in_reach (in_entries domain.entries p) (body_reads body p) (body_writes body p) has);
    }

    go : (answer : Option Place) × IsLeast (uncovered d) answer → HasAnswer (CoverageOf d)
    go (None, all) = (None, all)
    go (Some place, here) = (Some (Uncovered id place), (refl, here))

-- ---- references

stale_bounded : (r : Range) (frames : List Frame) → IsBounded (stale r frames)
stale_bounded r frames = record {
  regions = r.region + 1;
  indices = r.high;
  within = λ p has. of_range p (and_parts (in_range r p) (written_since r frames p) has).0;
}
  where
    of_range : (p : Place) → in_range r p ≡ true → (p.region < r.region + 1) × (p.index < r.high)
    of_range p has = (grind (has, arith, nat_tests), grind (has, arith, nat_tests))

reference_there : (id : NodeId) (frames : List Frame) (at : ℕ) (r : Range) → HasAnswer (ReferenceOf id frames at r)
reference_there id frames at r = go (link_in r frames) refl (bounded_has_least (stale r frames) (stale_bounded r frames))
  where
    go : (link : Option (NodeId × ℕ)) → link_in r frames ≡ link → (answer : Option Place) × IsLeast (stale r frames) answer
        → HasAnswer (ReferenceOf id frames at r)
    go None is other = (Some (NoTarget id at), (refl, refl, is))
    go (Some link) is (None, fresh) = (None, (subst IsSome (sym is) refl, fresh))
    go (Some link) is (Some place, here) = (Some (Stale id at place), (refl, refl, subst IsSome (sym is) refl, here))

entry_there : (id : NodeId) (frames : List Frame) (at : ℕ) (r : Range) (how : How) → HasAnswer (EntryOf id frames at r how)
entry_there id frames at r Copy = (None, refl)
entry_there id frames at r Refer = reference_there id frames at r
entry_there id frames at r (Regen pattern) = (None, refl)

numbered_there : (id : NodeId) (frames : List Frame) (entry : ℕ × Entry) → HasAnswer (NumberedEntryOf id frames entry)
numbered_there id frames (at, entry) = entry_there id frames at entry.range entry.how

-- ---- the whole program

domain_there : (domains : List Domain) (d : Node) → HasAnswer (DomainOf domains d)
domain_there domains (node id domain body) =
    then_there (CoverageOf (node id domain body)) (FirstOf (NumberedEntryOf id (frames_of domains id)) (numbered 0 domain.entries))
    (coverage_there (node id domain body))
    (first_there (NumberedEntryOf id (frames_of domains id)) (numbered_there id (frames_of domains id)) (numbered 0 domain.entries))

need_there : (root : Node) → HasAnswer (NeedOf root)
need_there root = go (within (node_need root))
  where
    within : (n : ℕ) → (n ≤ need_limit) ⊎ (need_limit < n)
    within n = grind arith

    go : (node_need root ≤ need_limit) ⊎ (need_limit < node_need root) → HasAnswer (NeedOf root)
    go (inl few) = (None, few)
    go (inr many) = (Some (Limit which.Need (node_need root)), (refl, refl, many))

-- each program has a first flaw, or none
pub first_flaw_there : FirstFlawIsThere
first_flaw_there domains =
    then_there (FirstOf (DomainOf domains) (nodes_from 0 domains)) (NeedOf (root_of domains))
    (first_there (DomainOf domains) (domain_there domains) (nodes_from 0 domains)) (need_there (root_of domains))
