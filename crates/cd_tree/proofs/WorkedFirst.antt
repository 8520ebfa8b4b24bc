-- Worked cases of first items: a body of an operation, a group of two members and an operation, and the words between them.
use Rattle.std.proofs.Common.{◌≡◌, ℕ, List, [], ◌∷◌, unwrap_or, refl}
use Rattle.cd_base.specs.declared.place.Range.{Range}
use Rattle.cd_base.specs.declared.pattern.Pattern.TheVariants.{Const, Iota}
use Rattle.cd_base.specs.Words.{Words}
use Rattle.cd_tree.specs.declared.domain.Item.TheVariants.{Run, Group}
use Rattle.cd_tree.specs.declared.domain.Domain.{Domain}
use Rattle.cd_tree.specs.declared.document.Region.{Region}
use Rattle.cd_tree.specs.declared.operation.Op.TheVariants.{Fill, Copy, Add, Scan}
use Rattle.cd_tree.specs.Operations.{op_meaning}
use Rattle.cd_tree.specs.Domains.{Body, Members, stop, run, group, members_by, node_of, root_of, body_of, body_behind}
use Rattle.cd_tree.specs.Meaning.{initial, node_meaning}
use Rattle.cd_tree.specs.FirstItems.{first_items, meaning_of_first, body_length, waiting_words, resumed_words}
use Rattle.cd_tree.specs.Absorbing.{absorbed}
use Rattle.cd_tree.proofs.WorkedForms.{number, root, inner, part, copied, y, z, words_of}

-- a third region beside y and z
abbrev x : Range
x = part 2 0 4

abbrev regions : List Region
regions =
    record { name = []; length = 4; pattern = Iota 1 1 } ∷ record { name = []; length = 4; pattern = Const 0 }
    ∷ record { name = []; length = 4; pattern = Const 1 } ∷ []

-- a root that fills x with 2, has a member that adds x to y and one that sums x up in z, and adds z to y
abbrev three : List Domain
three =
    root 2 8 (copied x ∷ copied y ∷ copied z ∷ []) (Run (Fill x 2) ∷ Group (number 1 ∷ number 2 ∷ []) ∷ Run (Add y y z) ∷ [])
    ∷ inner 0 1 1 (copied x ∷ copied y ∷ []) (Run (Add y x y) ∷ [])
    ∷ inner 0 1 1 (copied x ∷ copied z ∷ []) (Run (Scan z x) ∷ [])
    ∷ []

abbrev whole : Body
whole = body_of (root_of three)

abbrev members : Members
members = members_by (node_of three) (number 1 ∷ number 2 ∷ [])

-- the words of x, y and z
abbrev all_words : Words → List (List ℕ)
all_words w = words_of w 2 4 ∷ words_of w 0 4 ∷ words_of w 1 4 ∷ []

-- the same after the first k items
abbrev after_first : ℕ → List (List ℕ)
after_first k = all_words (meaning_of_first k whole (initial regions))

three_items : body_length whole ≡ 3
three_items = refl

after_none : after_first 0 ≡ (1 ∷ 1 ∷ 1 ∷ 1 ∷ []) ∷ (1 ∷ 2 ∷ 3 ∷ 4 ∷ []) ∷ (0 ∷ 0 ∷ 0 ∷ 0 ∷ []) ∷ []
after_none = refl

after_the_fill : after_first 1 ≡ (2 ∷ 2 ∷ 2 ∷ 2 ∷ []) ∷ (1 ∷ 2 ∷ 3 ∷ 4 ∷ []) ∷ (0 ∷ 0 ∷ 0 ∷ 0 ∷ []) ∷ []
after_the_fill = refl

after_the_group : after_first 2 ≡ (2 ∷ 2 ∷ 2 ∷ 2 ∷ []) ∷ (3 ∷ 4 ∷ 5 ∷ 6 ∷ []) ∷ (2 ∷ 4 ∷ 6 ∷ 8 ∷ []) ∷ []
after_the_group = refl

after_three : after_first 3 ≡ (2 ∷ 2 ∷ 2 ∷ 2 ∷ []) ∷ (5 ∷ 8 ∷ 11 ∷ 14 ∷ []) ∷ (2 ∷ 4 ∷ 6 ∷ 8 ∷ []) ∷ []
after_three = refl

-- all three are the whole, and a fourth there is not
all_of_them : all_words (node_meaning (root_of three) (initial regions)) ≡ after_first 3
all_of_them = refl

no_fourth : after_first 4 ≡ after_first 3
no_fourth = refl

-- behind the first item stands the group, and behind the first two the last operation
group_is_behind : body_behind 1 whole ≡ group members (run (Add y y z) stop)
group_is_behind = refl

last_is_behind : body_behind 2 whole ≡ run (Add y y z) stop
last_is_behind = refl

nothing_is_behind : body_behind 5 whole ≡ stop
nothing_is_behind = refl

first_is_the_fill : first_items 1 whole ≡ run (Fill x 2) stop
first_is_the_fill = refl

-- the root waits for its group with these words, and each member gives all the words that it ends with
abbrev waits : Words
waits = waiting_words (root_of three) 1 (initial regions)

abbrev gives : ℕ → Words
gives n = node_meaning (unwrap_or (node_of three (number n)) (root_of three)) waits

-- what each wrote is taken into the words, and the root goes on with these
abbrev taken : Words
taken = absorbed members (gives 1 ∷ gives 2 ∷ []) waits

taken_words : all_words taken ≡ all_words (resumed_words (root_of three) 1 (initial regions))
taken_words = refl

-- the second member does not see what the first has written, nor is it overwritten: in the other order it is the same
abbrev turned : Words
turned = absorbed (members_by (node_of three) (number 2 ∷ number 1 ∷ [])) (gives 2 ∷ gives 1 ∷ []) waits

turned_words : all_words turned ≡ all_words taken
turned_words = refl

-- a source that is too short is read past its end: words that agree on it may give others, so the shape has to be right
abbrev beyond : Words → List ℕ
beyond w = words_of (op_meaning (Copy y (part 1 0 1)) w) 0 4

short_source : beyond (initial regions) ≡ 0 ∷ 0 ∷ 0 ∷ 0 ∷ []
short_source = refl

other_behind_source : beyond (op_meaning (Fill (part 1 1 4) 9) (initial regions)) ≡ 0 ∷ 9 ∷ 9 ∷ 9 ∷ []
other_behind_source = refl
