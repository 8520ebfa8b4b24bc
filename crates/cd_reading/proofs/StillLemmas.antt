-- A domain without members in which no fault strikes: its reading is one begin more, and no leak.
use Rattle.std.proofs.Common.{◌≡◌, ℕ, zero, suc, ◌+◌, ◌-◌, true, false, ◌<◌, ◌^◌, ◌==◌, bit_or, bit_and, List, [], ◌∷◌, Some, All, length, filter, set, slice_get, slice_index, refl, sym, ap, ◌∙◌, subst, arith}
use Rattle.std.proofs.lemmas.Nat.Bits.{bit_at_and, bit_at-zero, same_from_bits}
use Rattle.cd_tree.specs.KindSets.{no_kinds}
use Rattle.cd_tree.specs.declared.domain.NodeId.{NodeId}
use Rattle.cd_tree.specs.declared.domain.Domain.{Domain}
use Rattle.cd_tree.specs.declared.domain.Item.{Item}
use Rattle.cd_tree.specs.declared.domain.Item.TheVariants.{Run, Group}
use Rattle.cd_tree.specs.declared.document.Fault.{Fault}
use Rattle.cd_tree.specs.Scripts.{struck, kinds_of}
use Rattle.cd_tree.specs.TreeModel.{TreeModel, IsTree}
use Rattle.cd_tree.specs.Domains.{Node, node, body_by, node_of}
use Rattle.cd_tree.specs.Laws.{NestedViewFollows}
use Rattle.cd_tree.specs.Reading.{Case, Counts, counted, Told, TryEnd, Passed, NodeEnd, Done, Try, unless_halted, arrived, judged, detected, read_node, read_points, read_members, read_try}
use Rattle.cd_tree.proofs.KindLemmas.{bit_or-none}
use Rattle.cd_reading.specs.declared.steps.Step.TheVariants.{On}
use Rattle.cd_reading.specs.Plain.{IsRun}
use Rattle.cd_reading.specs.Steps.{quiet}
use Rattle.cd_reading.specs.Strikes.{strikes_in}
use Rattle.cd_reading.specs.Walk.{the_node, listed, AreCounts}
use Rattle.cd_reading.proofs.Quiet.{last_or}
use Rattle.cd_reading.proofs.StruckLemmas.{struck_twice}
use Rattle.cd_reading.proofs.Walking.{Arrives, arrived_step, view_is, count_set}
use Rattle.cd_reading.proofs.Following.{own_counted}

none_and : (a : ℕ) → bit_and 0 a ≡ 0
none_and a = same_from_bits (bit_and 0 a) 0 (λ i. omega (arith, bit_at_and 0 a i, bit_at-zero i))

-- no fault strikes in any begin of a domain
abbrev pub IsStill : List Fault → NodeId → Type 0
IsStill faults id = (begin : ℕ) → filter (strikes_in id.0 begin) faults ≡ []

still_at : (faults : List Fault) (id : NodeId) (begin point : ℕ) → IsStill faults id → 0 ≡ kinds_of (struck faults id begin point)
still_at faults id begin point still =
    sym (ap (λ (own : List Fault). kinds_of (filter (λ (fault : Fault). fault.item == point) own)) (still begin))
    ∙ ap kinds_of (struck_twice faults id begin point)

goes_on : (h : Try) (halts notes : ℕ) → Arrives h halts 0 notes (On (bit_or notes 0))
goes_on h halts notes = record {
  each = λ counts next.
      ap (λ (n : ℕ). quiet (unless_halted h n (bit_or notes 0) counts next (n == no_kinds))) (none_and halts);
}

-- where no fault strikes a point changes nothing
passed : (w : Case) (h : Try) (point notes : ℕ) (counts : Counts) (next : ℕ → Told TryEnd) → IsStill w.faults h.node
    → quiet (arrived w h point notes counts next) ≡ quiet (next notes)
passed w h point notes counts next still =
    arrived_step w h point 0 w.halts notes (On (bit_or notes 0)) counts next (still_at w.faults h.node h.begin point still) refl
    (goes_on h w.halts notes)
    ∙ ap (λ (n : ℕ). quiet (next n)) (bit_or-none notes)

nothing_found : (h : Try) (counts : Counts) → quiet (detected h 0 counts) ≡ (counts, Passed 0)
nothing_found h counts =
    ap (λ (n : ℕ). let q : Counts × TryEnd = (counts, judged h.node 0 n (n == no_kinds)) in q) (none_and h.detects)

points_plain : (w : Case) (find : NodeId → _) (h : Try) (items : List Item) (point : ℕ) (counts : Counts) → All IsRun items → IsStill w.faults h.node
    → quiet (read_points w (body_by find items) h point 0 counts) ≡ (counts, Passed 0)
unfolding read_node read_points read_members
points_plain w find h [] point counts runs still =
    passed w h point 0 counts (λ seen. detected h seen counts) still ∙ nothing_found h counts
points_plain w find h (Run op ∷ items) point counts runs still =
    passed w h point 0 counts (λ seen. read_points w (body_by find items) h (suc point) seen counts) still
    ∙ points_plain w find h items (suc point) counts (λ k d short. runs (suc k) d (omega arith)) still
points_plain w find h (Group ids ∷ items) point counts runs still = absurd (runs 0 (Group ids) (omega arith))

one_there : {A : Type 0} (xs : List A) (i : ℕ) → i < length xs → (x : A) × (slice_get xs i ≡ Some x)
one_there [] i within = absurd (omega arith)
one_there (x ∷ xs) zero within = (x, refl)
one_there (x ∷ xs) (suc i) within = one_there xs i (omega arith)

node_plain : (w : Case) (find : NodeId → _) (id : NodeId) (domain : Domain) (counts : Counts) → All IsRun domain.items → IsStill w.faults id
    → quiet (read_node w (node id domain (body_by find domain.items)) counts) ≡ (counted id.0 counts, Done 0)
unfolding read_node read_points read_members
node_plain w find id domain counts runs still =
    let body = body_by find domain.items in
    let h : Try = record { node = id; detects = domain.detects; begin = counts id.0 + 1 } in
    last_or (domain.retry - 1) id domain (λ now. read_try w id domain body false now) (read_try w id domain body true counts)
    (counted id.0 counts) (Passed 0) (points_plain w find h domain.items 0 (counted id.0 counts) runs still) refl

-- the domain of this number
pub plain_read : (w : Case) (tree : TreeModel) → IsTree tree → NestedViewFollows → (id : NodeId) (counts : Counts) → id.0 < length tree.domains
    → ((domain : Domain) → slice_get tree.domains id.0 ≡ Some domain → All IsRun domain.items) → IsStill w.faults id
    → quiet (read_node w (the_node tree.domains id) counts) ≡ (counted id.0 counts, Done 0)
plain_read w tree is views id counts within runs still =
    let there = one_there tree.domains id.0 within in
    subst (λ (d : Node). quiet (read_node w d counts) ≡ (counted id.0 counts, Done 0)) (sym (view_is tree is views id there.0 there.1))
    (node_plain w (node_of tree.domains) id there.0 counts (runs there.0 there.1) still)

-- its count fits
pub plain_few : (t : Told NodeEnd) (id : ℕ) (counts : List ℕ) (end : NodeEnd) → quiet t ≡ (counted id (listed counts), end)
    → AreCounts t.counts → slice_index counts id + 1 < 2 ^ 64
plain_few t id counts end read few =
    let most : counted id (listed counts) id < 2 ^ 64 =
    subst (λ (c : Counts). c id < 2 ^ 64) (ap (λ (p : Counts × NodeEnd). p.0) read) (few id) in
    let own : counted id (listed counts) id ≡ slice_index counts id + 1 = own_counted id (listed counts) in
    omega arith

-- and stands in the list
pub plain_counts : (t : Told NodeEnd) (id : ℕ) (counts now : List ℕ) (kinds : ℕ) → id < length counts
    → now ≡ set counts id (slice_index counts id + 1) → kinds ≡ 0 → quiet t ≡ (counted id (listed counts), Done 0) → quiet t ≡ (listed now, Done kinds)
plain_counts t id counts now kinds within is none read =
    read
    ∙ ap (λ (c : Counts). let q : Counts × NodeEnd = (c, Done 0) in q)
    (sym (ap listed is ∙ count_set counts id (slice_index counts id + 1) within refl))
    ∙ ap (λ (n : ℕ). let q : Counts × NodeEnd = (listed now, Done n) in q) (sym none)
