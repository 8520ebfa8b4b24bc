-- Worked cases: the order of pairs, a place that is refused, and what footprints are gathered from.
use Rattle.std.proofs.Common.{◌≡◌, ℕ, zero, suc, true, false, List, [], ◌∷◌, None, Some, refl, inl, arith}
use Rattle.std.proofs.lemmas.Bool.Decides.{nat_tests}
use Rattle.cd_base.specs.declared.place.Place.{Place}
use Rattle.cd_base.specs.declared.place.Range.{Range}
use Rattle.cd_base.specs.Places.{stands_before}
use Rattle.cd_tree.specs.declared.domain.NodeId.{NodeId}
use Rattle.cd_tree.specs.declared.domain.Item.{Item}
use Rattle.cd_tree.specs.declared.domain.Item.TheVariants.{Run, Group}
use Rattle.cd_tree.specs.declared.domain.How.TheVariants as how
use Rattle.cd_tree.specs.declared.domain.Entry.{Entry}
use Rattle.cd_tree.specs.declared.domain.Domain.{Domain}
use Rattle.cd_tree.specs.declared.operation.Op.TheVariants.{Fill, Axpy}
use Rattle.cd_tree.specs.declared.refusal.Refusal.TheVariants.{Overlap}
use Rattle.cd_tree.specs.Domains.{Node, node, stop, run, group, no_more, member}
use Rattle.cd_tree.specs.Meaning.{clash}
use Rattle.cd_foot.specs.declared.gathered.Side.TheVariants.{Reads, Writes}
use Rattle.cd_foot.specs.Gathered.{gathered}
use Rattle.cd_foot.specs.Overlaps.{sibling_pairs, FirstOverlap}

abbrev number : ℕ → NodeId
number n = record { 0 = n }

abbrev part : ℕ → ℕ → ℕ → Range
part region low high = record { region = region; low = low; high = high }

abbrev copied : Range → Entry
copied range = record { range = range; how = how.Copy }

abbrev place : ℕ → ℕ → Place
place region index = record { region = region; index = index }

abbrev domain : List Entry → List Item → Domain
domain entries items = record { name = []; parent = None; retry = 1; detects = 0; entries = entries; items = items }

abbrev leaf : ℕ → Node
leaf n = node (number n) (domain [] []) stop

-- group by group, the first member with each later one, and then the second
pairs_in_order : sibling_pairs
    (group (member (leaf 1) (member (leaf 2) (member (leaf 3) no_more)))
    (run (Fill (part 0 0 1) 7) (group (member (leaf 4) no_more) (group (member (leaf 5) (member (leaf 6) no_more)) stop))))
    ≡ (leaf 1, leaf 2) ∷ (leaf 1, leaf 3) ∷ (leaf 2, leaf 3) ∷ (leaf 5, leaf 6) ∷ []
pairs_in_order = refl

-- all of a region of four words
abbrev all_of : ℕ → Range
all_of region = part region 0 4

-- one member fills the first region; the other fills the second, and preserves the last word of the first
abbrev clashing : List Domain
clashing =
    domain (copied (all_of 0) ∷ copied (all_of 1) ∷ []) (Group (number 1 ∷ number 2 ∷ []) ∷ [])
    ∷ domain (copied (all_of 0) ∷ []) (Run (Fill (all_of 0) 7) ∷ [])
    ∷ domain (copied (all_of 1) ∷ copied (part 0 3 4) ∷ []) (Run (Fill (all_of 1) 9) ∷ [])
    ∷ []

-- what the root reads and writes
root_gathers : gathered Reads [] (domain (copied (all_of 0) ∷ copied (all_of 1) ∷ []) (Run (Axpy (all_of 0) 3 (all_of 1)) ∷ [])) ≡ all_of 0 ∷ all_of 1 ∷ all_of 0 ∷ all_of 1 ∷ []
root_gathers = refl

root_writes : gathered Writes [] (domain (copied (all_of 0) ∷ copied (all_of 1) ∷ []) (Run (Axpy (all_of 0) 3 (all_of 1)) ∷ [])) ≡ all_of 0 ∷ []
root_writes = refl

abbrev one : Node
one = node (number 1) (domain (copied (all_of 0) ∷ []) (Run (Fill (all_of 0) 7) ∷ [])) (run (Fill (all_of 0) 7) stop)

abbrev other : Node
other = node (number 2) (domain (copied (all_of 1) ∷ copied (part 0 3 4) ∷ []) (Run (Fill (all_of 1) 9) ∷ [])) (run (Fill (all_of 1) 9) stop)

no_less : (region index : ℕ) → clash one other (place region index) ≡ true → stands_before (place region index) (place 0 3) ≡ false
no_less zero zero there = absurd (cc)
no_less zero (suc zero) there = absurd (cc)
no_less zero (suc (suc zero)) there = absurd (cc)
no_less zero (suc (suc (suc index))) there = grind (arith, nat_tests)
no_less (suc region) index there = grind (arith, nat_tests)

-- the two are refused at that word
last_word_refused : FirstOverlap clashing (Some (Overlap (number 1) (number 2) (place 0 3)))
last_word_refused = inl (inl (refl, refl, (refl, λ q there. no_less q.region q.index there)))
