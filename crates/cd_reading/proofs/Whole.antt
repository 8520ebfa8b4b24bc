-- The reading of a whole program: counts in a list from no begin to the last, and the path of the cause.
use Rattle.std.proofs.Common.{◌≡◌, ℕ, zero, suc, ◌+◌, ◌<◌, ◌≤◌, ◌^◌, List, ◌∷◌, ◌++◌, All, Option, length, map, take, drop, get_or, slice_index, sym, ap, ◌∙◌, subst, arith, inl, inr, add-one, zero-add}
use Rattle.std.proofs.Math.Path.{fun_ext}
use Rattle.std.proofs.lemmas.Bool.{cases_lt}
use Rattle.std.proofs.lemmas.List.{at_drop_more, drop_all, take_all, take-append-le, get_or_default, get_or_past}
use Rattle.cd_tree.specs.declared.domain.NodeId.{NodeId}
use Rattle.cd_tree.specs.declared.document.Fault.{Fault}
use Rattle.cd_tree.specs.declared.event.Cause.{Cause}
use Rattle.cd_tree.specs.TreeModel.{TreeModel, IsTree}
use Rattle.cd_tree.specs.Domains.{Node, numbers_from, root_of}
use Rattle.cd_tree.specs.Laws.{CountsAreAtMostOneMoreThanEntries}
use Rattle.cd_tree.specs.Reading.{Counts, no_begins, Told, NodeEnd, read_node}
use Rattle.cd_tree.specs.Record.{case_of, reading, cause_of}
use Rattle.cd_reading.specs.Steps.{quiet}
use Rattle.cd_reading.specs.Through.{begins_in, cause_in}
use Rattle.cd_reading.specs.Walk.{the_node, listed, AreCounts}
use Rattle.cd_reading.proofs.Walking.{root_is}

abbrev pub root_id : NodeId
root_id = record { 0 = 0 }

pub listed_none : (counts : List ℕ) → All (λ (n : ℕ). n ≡ 0) counts → listed counts ≡ no_begins
listed_none counts none =
    fun_ext (λ n. elim (cases_lt n (length counts)) [
      | inl within ↦ none n 0 within
      | inr past ↦ get_or_past counts n 0 past
    ])

-- the walk from the root on is the reading
pub reading_is : (tree : TreeModel) (faults : List Fault) (counts : List ℕ) → All (λ (n : ℕ). n ≡ 0) counts
    → read_node (case_of tree faults) (the_node tree.domains root_id) (listed counts) ≡ reading tree faults
reading_is tree faults counts none =
    ap (λ (d : Node). read_node (case_of tree faults) d (listed counts)) (root_is tree.domains)
    ∙ ap (λ (c : Counts). read_node (case_of tree faults) (root_of tree.domains) c) (listed_none counts none)

pub all_few : CountsAreAtMostOneMoreThanEntries → (tree : TreeModel) (faults : List Fault) (counts : List ℕ) → IsTree tree → length faults < 2 ^ 32
    → All (λ (n : ℕ). n ≡ 0) counts
    → AreCounts (read_node (case_of tree faults) (the_node tree.domains root_id) (listed counts)).counts
all_few law tree faults counts is few none n =
    let most : (reading tree faults).counts n ≤ 1 + length faults = law tree faults n is in
    let same : (read_node (case_of tree faults) (the_node tree.domains root_id) (listed counts)).counts n ≡ (reading tree faults).counts n =
    ap (λ (t : Told NodeEnd). t.counts n) (reading_is tree faults counts none) in
    omega arith

-- a list is its elements at the numbers of its places
numbered_from : (xs : List ℕ) (at n : ℕ) → at + n ≡ length xs → map (listed xs) (numbers_from at n) ≡ drop at xs
numbered_from xs at zero is =
    let past : length xs ≤ at = omega arith in
    sym (drop_all at xs past)
numbered_from xs at (suc n) is =
    let within : at < length xs = omega arith in
    let next : suc at + n ≡ length xs = omega arith in
    ap (λ (ys : List ℕ). slice_index xs at ∷ ys) (numbered_from xs (suc at) n next)
    ∙ ap (λ (k : ℕ). slice_index xs at ∷ drop k xs) (sym (add-one at))
    ∙ sym (at_drop_more (λ (ys : List ℕ). ys) xs at 0 within)

pub begins_are : (tree : TreeModel) (faults : List Fault) (counts : List ℕ) → (reading tree faults).counts ≡ listed counts
    → length counts ≡ length tree.domains → counts ≡ begins_in tree faults
begins_are tree faults counts read size =
    sym (numbered_from counts 0 (length counts) (zero-add (length counts)))
    ∙ ap (λ (n : ℕ). map (listed counts) (numbers_from 0 n)) size
    ∙ sym (ap (λ (c : Counts). map c (numbers_from 0 (length tree.domains))) read)

pub begins_few : CountsAreAtMostOneMoreThanEntries → (tree : TreeModel) (faults : List Fault) (counts : List ℕ) → IsTree tree
    → (reading tree faults).counts ≡ listed counts → All (λ (n : ℕ). n ≤ 1 + length faults) counts
begins_few law tree faults counts is read k d within =
    let most : (reading tree faults).counts k ≤ 1 + length faults = law tree faults k is in
    let same : (reading tree faults).counts k ≡ slice_index counts k = ap (λ (c : Counts). c k) read in
    let here : get_or counts k d ≡ slice_index counts k = get_or_default counts k d 0 within in
    omega arith

pub cause_is : (tree : TreeModel) (faults : List Fault) (end : NodeEnd) (cause : Option Cause) → (reading tree faults).answer ≡ end
    → cause ≡ cause_of tree.domains end → cause ≡ cause_in tree faults
cause_is tree faults end cause read is = is ∙ sym (ap (cause_of tree.domains) read)

-- what the walk gave, as the reading's counts and answer
pub walk_counts : (tree : TreeModel) (faults : List Fault) (before after : List ℕ) (end : NodeEnd) → All (λ (n : ℕ). n ≡ 0) before
    → quiet (read_node (case_of tree faults) (the_node tree.domains root_id) (listed before)) ≡ (listed after, end)
    → (reading tree faults).counts ≡ listed after
walk_counts tree faults before after end none walked =
    sym (ap (λ (t : Told NodeEnd). t.counts) (reading_is tree faults before none)) ∙ ap (λ (p : Counts × NodeEnd). p.0) walked

pub walk_answer : (tree : TreeModel) (faults : List Fault) (before after : List ℕ) (end : NodeEnd) → All (λ (n : ℕ). n ≡ 0) before
    → quiet (read_node (case_of tree faults) (the_node tree.domains root_id) (listed before)) ≡ (listed after, end)
    → (reading tree faults).answer ≡ end
walk_answer tree faults before after end none walked =
    sym (ap (λ (t : Told NodeEnd). t.answer) (reading_is tree faults before none)) ∙ ap (λ (p : Counts × NodeEnd). p.1) walked

-- a slice that is written back into the list that lent it
pub written_back : (xs ys : List ℕ) (n : ℕ) → n ≡ length xs → take n (xs ++ ys) ≡ xs
written_back xs ys n is = take-append-le n xs ys (omega arith) ∙ take_all n xs (omega arith)

-- the walk read this program under this script, from no begin on
pub record HasRead (tree : TreeModel) (faults : List Fault) (after : List ℕ) (end : NodeEnd) : Type 0 where
  pub counts : (reading tree faults).counts ≡ listed after
  pub answer : (reading tree faults).answer ≡ end

pub has_read : (tree same : TreeModel) (faults script : List Fault) (before after : List ℕ) (end : NodeEnd) → same ≡ tree → script ≡ faults
    → All (λ (n : ℕ). n ≡ 0) before
    → quiet (read_node (case_of same script) (the_node same.domains root_id) (listed before)) ≡ (listed after, end)
    → HasRead tree faults after end
has_read tree same faults script before after end tree_is faults_are none walked =
    subst (λ (t : TreeModel). HasRead t faults after end) tree_is
    (subst (λ (fs : List Fault). HasRead same fs after end) faults_are
    (record {
      counts = walk_counts same script before after end none walked;
      answer = walk_answer same script before after end none walked;
    }))
