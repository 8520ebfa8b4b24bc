-- How one try follows another that failed, on a machine as in the reading.
use Rattle.std.proofs.Common.{◌≡◌, ℕ, zero, suc, ◌+◌, ◌-◌, ◌<◌, ◌≤◌, ◌^◌, min, Bool, true, false, List, [], ◌∷◌, ◌++◌, Option, Some, All, refl, ap, subst, sym, ◌∙◌, append_assoc, drop, arith}
use Rattle.cd_base.specs.Words.{Words, PlaceSet}
use Rattle.cd_tree.specs.declared.domain.NodeId.{NodeId}
use Rattle.cd_tree.specs.declared.domain.Entry.{Entry}
use Rattle.cd_tree.specs.declared.domain.Item.{Item}
use Rattle.cd_tree.specs.declared.domain.Domain.{Domain}
use Rattle.cd_tree.specs.declared.event.Event.{Event}
use Rattle.cd_tree.specs.declared.event.Event.TheVariants.{Begin, Refilled}
use Rattle.cd_tree.specs.Slices.{among}
use Rattle.cd_tree.specs.KindSets.{no_kinds}
use Rattle.cd_tree.specs.Domains.{Node, Body, node, body_by, body_numbers, body_behind}
use Rattle.cd_tree.specs.Fronts.{Front, front_of_node, begins, arrives, next_try, tried}
use Rattle.cd_tree.specs.FrontLaws.{NextTryIsThere, FrontCountsLieBetween}
use Rattle.cd_tree.specs.Legal.{Legal, nothing, same}
use Rattle.cd_tree.specs.LegalLaws.{LegalPieces}
use Rattle.cd_tree.specs.Locality.{SameWords}
use Rattle.cd_tree.specs.Meaning.{in_entries}
use Rattle.cd_tree.specs.Reading.{Case, Counts, Past, joined, only_events, Told, after, TryEnd, Blame, refilled_from, counted, read_node}
use Rattle.cd_tree.specs.Reading.{Failed as failed}
use Rattle.cd_tree.specs.TreeModel.{TreeModel}
use Rattle.cd_field.specs.FieldModel.{FieldModel, begun as begun_on}
use Rattle.cd_tries.specs.Running.{next_begin}
use Rattle.std.proofs.Common.{◌==◌}
use Rattle.std.proofs.lemmas.Bool.{eq-eqb}
use Rattle.cd_core.proofs.Choices.{chosen, other}
use Rattle.cd_core.proofs.Following.{case_on, try_on, Before}
use Rattle.cd_core.proofs.Judging.{Over, all_told}
use Rattle.cd_core.proofs.Trying.{after_twice}

-- events of refilling stand as they are
pub legal_refilled : (tree : TreeModel) (loaded : Words) (id : NodeId) (at : ℕ) (entries : List Entry)
    → Legal tree loaded (refilled_from id at entries) (refilled_from id at entries)
legal_refilled tree loaded id at [] = nothing
legal_refilled tree loaded id at (entry ∷ entries) = same (Refilled id at) _ _ tt (legal_refilled tree loaded id (suc at) entries)

-- a machine behind the begin of a later try, with its entries put back
abbrev pub begun_again : FieldModel → ℕ → Words → PlaceSet → List Entry → FieldModel
begun_again m number words lost entries = record (begun_on m m.node number) {
  words = words;
  lost = lost;
  events = (m.events ++ Begin m.node number ∷ []) ++ refilled_from m.node 0 entries;
}

pub least_of : (n : ℕ) → n + 1 < 2 ^ 64 → next_begin n ≡ n + 1
least_of n fits = omega arith

module _ (tree : TreeModel) (loaded : Words) (halts : ℕ) (domain : Domain) (body : Body) (counts base : Counts) (begun : Words) (P : Type 0) where
  -- behind a try that failed, where one more is to spare, the next is there
  next_there : NextTryIsThere → (m : FieldModel) (attempt spare : ℕ) (cause : Blame)
      → (o : Over tree loaded halts domain body counts base begun P m attempt (suc spare) (failed cause))
      → front_of_node (case_on halts m) (node m.node domain body) counts (suc attempt) 0
      ≡ Some (after (record (all_told tree loaded halts domain body counts base begun P m o.front).past { repeats = (all_told tree loaded halts domain body counts base begun P m o.front).past.repeats + 1 })
      (begins (case_on halts m) (node m.node domain body) spare false (all_told tree loaded halts domain body counts base begun P m o.front).counts))
  next_there tries m attempt spare cause o =
      let w : Case = case_on halts m in
      let d : Node = node m.node domain body in
      let t : Told TryEnd = all_told tree loaded halts domain body counts base begun P m o.front in
      tries w d counts attempt o.point o.front o.is
      ∙ ap (λ (n : ℕ). tried w d n t t.answer) o.left
      ∙ ap (λ (e : TryEnd). tried w d (suc spare) t e) o.ends

  -- so the machine, begun again, stands before its first point
  pub before_again : LegalPieces → NextTryIsThere → (m : FieldModel) (attempt spare : ℕ) (cause : Blame) (number : ℕ) (words : Words) (lost : PlaceSet)
      → (o : Over tree loaded halts domain body counts base begun P m attempt (suc spare) (failed cause))
      → number ≡ (all_told tree loaded halts domain body counts base begun P m o.front).counts m.node.0 + 1
      → (P → SameWords (in_entries domain.entries) words begun)
      → Before tree loaded halts domain body counts base begun P (begun_again m number words lost domain.entries) (suc attempt) 0
      (joined (record (all_told tree loaded halts domain body counts base begun P m o.front).past { repeats = (all_told tree loaded halts domain body counts base begun P m o.front).past.repeats + 1 })
      (only_events (Begin m.node number ∷ refilled_from m.node 0 domain.entries)))
      spare body (counted m.node.0 (all_told tree loaded halts domain body counts base begun P m o.front).counts)
  before_again pieces tries m attempt spare cause number words lost o numbered given =
      let w : Case = case_on halts m in
      let d : Node = node m.node domain body in
      let t : Told TryEnd = all_told tree loaded halts domain body counts base begun P m o.front in
      let repeated : Past = record t.past { repeats = t.past.repeats + 1 } in
      let f : ℕ → Told Front = λ n.
      after repeated (after (only_events (Begin m.node n ∷ refilled_from m.node 0 domain.entries))
      (arrives w spare body (record { node = m.node; detects = domain.detects; begin = n }) 0 no_kinds (counted m.node.0 t.counts))) in
      let said : List Event = Begin m.node number ∷ refilled_from m.node 0 domain.entries in
      let S : List Event → Type 0 = λ es. Legal tree loaded es (t.past.events ++ said) in
      record {
        front = next_there tries m attempt spare cause o
            ∙ ap (λ (n : ℕ). Some (f n)) (sym numbered)
            ∙ ap (λ (x : Told Front). Some x) (after_twice repeated (only_events said)
            (arrives w spare body (record { node = m.node; detects = domain.detects; begin = number }) 0 no_kinds (counted m.node.0 t.counts)));
        legal = subst S (sym (append_assoc m.events (Begin m.node number ∷ []) (refilled_from m.node 0 domain.entries)))
            (pieces tree loaded m.events t.past.events said said o.legal
            (same (Begin m.node number) _ _ tt (legal_refilled tree loaded m.node 0 domain.entries)));
        behind = refl;
        others = λ n apart. other (n == m.node.0) (t.counts n + 1) (t.counts n) apart ∙ o.others n apart;
        words = λ none p. given p;
      }

  -- the number of its begin is one more than its count, which a word of 64 bits holds
  pub numbered_next : NextTryIsThere → FrontCountsLieBetween → (m : FieldModel) (attempt spare : ℕ) (cause : Blame)
      → (o : Over tree loaded halts domain body counts base begun P m attempt (suc spare) (failed cause))
      → ((n : ℕ) → (read_node (case_on halts m) (node m.node domain body) counts).counts n < 2 ^ 64)
      → next_begin m.begin ≡ (all_told tree loaded halts domain body counts base begun P m o.front).counts m.node.0 + 1
  numbered_next tries between m attempt spare cause o small =
      let w : Case = case_on halts m in
      let d : Node = node m.node domain body in
      let t : Told TryEnd = all_told tree loaded halts domain body counts base begun P m o.front in
      let below : counted m.node.0 t.counts m.node.0 ≤ (read_node w d counts).counts m.node.0 =
      (between w d counts (suc attempt) 0 _ m.node.0 (next_there tries m attempt spare cause o)).1 in
      let here : counted m.node.0 t.counts m.node.0 ≡ t.counts m.node.0 + 1 = chosen (m.node.0 == m.node.0) _ _ (eq-eqb m.node.0 m.node.0 refl) in
      let fits : t.counts m.node.0 + 1 < 2 ^ 64 = omega (arith, small m.node.0) in
      ap (λ (n : ℕ). next_begin n) (sym o.begin) ∙ least_of (t.counts m.node.0) fits
