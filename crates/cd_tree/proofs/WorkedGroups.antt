-- Worked cases of a group of two members, and of fronts of its reading.
use Rattle.std.proofs.Common.{◌≡◌, ℕ, List, [], ◌∷◌, ◌++◌, Option, None, Some, refl}
use Rattle.std.specs.Option.{option_map}
use Rattle.cd_base.specs.Words.{Words}
use Rattle.cd_base.specs.declared.pattern.Pattern.TheVariants.{Const, Iota}
use Rattle.cd_tree.specs.declared.document.Fault.{Fault}
use Rattle.cd_tree.specs.declared.document.Region.{Region}
use Rattle.cd_tree.specs.declared.event.Event.{Event}
use Rattle.cd_tree.specs.Domains.{Members, node_of, node_numbers, node_depth, numbers_from, root_of, members_by}
use Rattle.cd_tree.specs.Meaning.{initial, node_meaning, node_need}
use Rattle.cd_tree.specs.Scripts.{path_of}
use Rattle.cd_tree.specs.Reading.{Told, Done, SomeEscalated, blame, no_begins, counted, read_node, read_members}
use Rattle.cd_tree.specs.Fronts.{Front, front_of_node}
use Rattle.cd_tree.proofs.WorkedForms.{number, pair, strike, case_with, read_all, counts_of, words_of, begin, saved, refilled, reached, complete, escalate, judged, leaf, outcome}

abbrev regions : List Region
regions = record { name = []; length = 4; pattern = Const 0 } ∷ record { name = []; length = 4; pattern = Iota 10 1 } ∷ []

-- the first member is struck at its first begin
abbrev faults : List Fault
faults = strike 1 1 1 0 2 1 ∷ []

-- a walk meets the domains in the order of their numbers
pair_preorder : node_numbers (root_of pair) ≡ numbers_from 0 3
pair_preorder = refl

pair_depth : node_depth (root_of pair) ≡ 2
pair_depth = refl

pair_path : path_of pair (number 2) ≡ number 0 ∷ number 2 ∷ []
pair_path = refl

abbrev members : Members
members = members_by (node_of pair) (number 1 ∷ number 2 ∷ [])

-- the group at the root's first try: the first member escalates, the second runs to its end all the same
group_outcome : outcome 3 (read_members (case_with 0 faults) members (counted 0 no_begins))
    ≡ (leaf 1 1 1 (escalate 1) ++ leaf 2 1 0 (complete 2), SomeEscalated (blame (number 1) 1) 0, 1 ∷ 1 ∷ 1 ∷ [])
unfolding read_members
group_outcome = refl

-- the root's first try up to the end of its group, and its second
abbrev first_group : List Event
first_group = begin 0 1 ∷ saved 0 0 ∷ saved 0 1 ∷ reached 0 0 ∷ leaf 1 1 1 (escalate 1) ++ leaf 2 1 0 (complete 2)

abbrev second_group : List Event
second_group = begin 0 2 ∷ refilled 0 0 ∷ refilled 0 1 ∷ reached 0 0 ∷ leaf 1 2 0 (complete 1) ++ leaf 2 2 0 (complete 2)

-- each domain begins twice, and the program completes
pair_outcome : outcome 3 (read_all 0 faults pair)
    ≡ (first_group ++ second_group ++ judged 0 1 0 ++ complete 0 ∷ [], Done 0, 2 ∷ 2 ∷ 2 ∷ [])
unfolding read_node
pair_outcome = refl

-- what the program means: the words after it, from those that the regions begin with
abbrev both : Words → List (List ℕ)
both w = words_of w 0 4 ∷ words_of w 1 4 ∷ []

pair_begins_with : both (initial regions) ≡ (0 ∷ 0 ∷ 0 ∷ 0 ∷ []) ∷ (10 ∷ 11 ∷ 12 ∷ 13 ∷ []) ∷ []
pair_begins_with = refl

pair_meaning : both (node_meaning (root_of pair) (initial regions)) ≡ (7 ∷ 7 ∷ 7 ∷ 7 ∷ []) ∷ (9 ∷ 9 ∷ 9 ∷ 9 ∷ []) ∷ []
pair_meaning = refl

-- two blocks for the root, one for each member
pair_need : node_need (root_of pair) ≡ 4
pair_need = refl

-- the front of the root's reading up to its group, in its t-th try
abbrev front_at : ℕ → ℕ → Option (Told Front)
front_at t point = front_of_node (case_with 0 faults) (root_of pair) no_begins t point

-- what a front tells: the events so far, the notes, the counts, repeats and strikes
abbrev front_tells : ℕ → ℕ → Option (List Event × ℕ × List ℕ × ℕ × ℕ)
front_tells t point =
    option_map (λ (f : Told Front). (f.past.events, f.answer.stand.notes, counts_of f.counts 3, f.past.repeats, f.past.strikes)) (front_at t point)

first_try : front_tells 1 0 ≡ Some (begin 0 1 ∷ saved 0 0 ∷ saved 0 1 ∷ reached 0 0 ∷ [], 0, 1 ∷ 0 ∷ 0 ∷ [], 0, 0)
unfolding read_node
first_try = refl

-- the second try comes after the whole first one, which is one repeat and one strike
second_try : front_tells 2 0
    ≡ Some (first_group ++ begin 0 2 ∷ refilled 0 0 ∷ refilled 0 1 ∷ reached 0 0 ∷ [], 0, 2 ∷ 1 ∷ 1 ∷ [], 1, 1)
unfolding read_node
second_try = refl

-- after the group the second try comes to its last point, with no notes
second_try_after : front_tells 2 1 ≡ Some (first_group ++ second_group ++ reached 0 1 ∷ [], 0, 2 ∷ 2 ∷ 2 ∷ [], 1, 1)
unfolding read_node
second_try_after = refl

-- the first try never comes to the point after its group; there is no third try, since the second passes; no point is after the last
nowhere_else : front_at 1 1 ∷ front_at 3 0 ∷ front_at 2 2 ∷ [] ≡ None ∷ None ∷ None ∷ []
unfolding read_node
nowhere_else = refl

-- tries count from 1
no_try_zero : front_at 0 0 ≡ None
no_try_zero = refl
