-- Worked cases of the checks on a program: siblings that clash and siblings that are apart, a body that its entries leave
-- partly out, and the kinds that are declared down a path.
use Rattle.std.proofs.Common.{◌≡◌, ◌≢◌, ℕ, zero, suc, Bool, true, false, ◌&&◌, ◌||◌, ◌==◌, List, [], ◌∷◌, unwrap_or, map, refl, arith}
use Rattle.std.proofs.lemmas.Bool.Decides.{nat_tests}
use Rattle.cd_base.specs.declared.place.Place.{Place}
use Rattle.cd_base.specs.declared.place.Range.{Range}
use Rattle.cd_base.specs.Words.{in_range}
use Rattle.cd_tree.specs.declared.domain.Item.TheVariants.{Run, Group}
use Rattle.cd_tree.specs.declared.domain.Entry.{Entry}
use Rattle.cd_tree.specs.declared.domain.Domain.{Domain}
use Rattle.cd_tree.specs.declared.operation.Op.{Op}
use Rattle.cd_tree.specs.declared.operation.Op.TheVariants.{Fill, Copy}
use Rattle.cd_tree.specs.KindSets.{has_kind}
use Rattle.cd_tree.specs.Domains.{Node, node_of, root_of, numbers_from}
use Rattle.cd_tree.specs.Meaning.{node_writes, node_reach, clash, DoNotClash, IsDisjoint, IsCovered, uncovered}
use Rattle.cd_tree.specs.Scripts.{path_of, declared_for}
use Rattle.cd_tree.proofs.WorkedForms.{number, root, inner, part, copied}

abbrev place : ℕ → ℕ → Place
place region index = record { region = region; index = index }

-- regions a, b and c, of four words each
abbrev a : Range
a = part 0 0 4

abbrev b : Range
b = part 1 0 4

abbrev c : Range
c = part 2 0 4

-- a root over two siblings, each with its entries and one operation
abbrev two : List Entry → Op → List Entry → Op → List Domain
two entries op others other =
    root 1 0 (copied a ∷ copied b ∷ copied c ∷ []) (Group (number 1 ∷ number 2 ∷ []) ∷ [])
    ∷ inner 0 1 0 entries (Run op ∷ [])
    ∷ inner 0 1 0 others (Run other ∷ [])
    ∷ []

-- the domain of this number, or the root where there is none
abbrev node_at : List Domain → ℕ → Node
node_at domains n = unwrap_or (node_of domains (number n)) (root_of domains)

-- whether the two siblings clash at the first n places of a region
abbrev clashes : List Domain → ℕ → ℕ → List Bool
clashes domains region n = map (λ i. clash (node_at domains 1) (node_at domains 2) (place region i)) (numbers_from 0 n)

-- one fills a; the other copies the last word of a into b
abbrev clashing : List Domain
clashing = two (copied a ∷ []) (Fill a 7) (copied (part 0 3 4) ∷ copied b ∷ []) (Copy (part 1 0 1) (part 0 3 4))

one_word : clashes clashing 0 5 ≡ false ∷ false ∷ false ∷ true ∷ false ∷ []
one_word = refl

no_other_region : clashes clashing 1 4 ≡ false ∷ false ∷ false ∷ false ∷ []
no_other_region = refl

-- the other way round it is the same place
one_word_turned : clash (node_at clashing 2) (node_at clashing 1) (place 0 3) ≡ true
one_word_turned = refl

-- so the program is not disjoint
not_disjoint : IsDisjoint (root_of clashing) → ⊥
not_disjoint (((apart, rest), groups), below) =
    let here : clash (node_at clashing 1) (node_at clashing 2) (place 0 3) ≡ false = apart.0 (place 0 3) in
    absurd (cc)

-- an entry alone reaches its places: the other preserves a and writes only b
abbrev preserving : List Domain
preserving = two (copied a ∷ []) (Fill (part 0 1 2) 7) (copied a ∷ copied b ∷ []) (Fill b 9)

at_an_entry : clashes preserving 0 4 ≡ false ∷ true ∷ false ∷ false ∷ []
at_an_entry = refl

-- both write the same word
abbrev writing : List Domain
writing = two (copied a ∷ []) (Fill (part 0 0 2) 7) (copied a ∷ []) (Fill (part 0 1 3) 9)

at_each_write : clashes writing 0 4 ≡ true ∷ true ∷ true ∷ false ∷ []
at_each_write = refl

-- both read a; one writes b, the other c
abbrev sharing : List Domain
sharing = two (copied a ∷ copied b ∷ []) (Copy b a) (copied a ∷ copied c ∷ []) (Copy c a)

first_writes : (x y z w : Bool) → y ≡ false → z ≡ false → ((x && y) || (z && w)) ≡ false
first_writes true true z w p q = absurd (cc)
first_writes true false true w p q = absurd (cc)
first_writes true false false w p q = refl
first_writes false y true w p q = absurd (cc)
first_writes false y false w p q = refl

second_writes : (x y z w : Bool) → x ≡ false → w ≡ false → ((x && y) || (z && w)) ≡ false
second_writes true y z w p q = absurd (cc)
second_writes false y true true p q = absurd (cc)
second_writes false y true false p q = refl
second_writes false y false w p q = refl

-- a range of another region has no place of this one
elsewhere : (r region low high index : ℕ) → r ≢ region → in_range (part r low high) (place region index) ≡ false
elsewhere r region low high index other =
    let differ : (r == region) ≡ false = grind (arith, nat_tests) in
    rw differ

apart_at : (region index : ℕ) → clash (node_at sharing 1) (node_at sharing 2) (place region index) ≡ false
apart_at zero index = refl
apart_at (suc zero) index =
    first_writes (node_writes (node_at sharing 1) (place 1 index)) (node_reach (node_at sharing 2) (place 1 index))
    (node_writes (node_at sharing 2) (place 1 index)) (node_reach (node_at sharing 1) (place 1 index)) refl refl
apart_at (suc (suc zero)) index =
    second_writes (node_writes (node_at sharing 1) (place 2 index)) (node_reach (node_at sharing 2) (place 2 index))
    (node_writes (node_at sharing 2) (place 2 index)) (node_reach (node_at sharing 1) (place 2 index)) refl refl
apart_at (suc (suc (suc region))) index =
    rw (elsewhere 1 (suc (suc (suc region))) 0 4 index (omega arith), elsewhere 2 (suc (suc (suc region))) 0 4 index (omega arith))

-- what both only read keeps them apart, and the program is disjoint
sharing_apart : DoNotClash (node_at sharing 1) (node_at sharing 2)
sharing_apart p = apart_at p.region p.index

sharing_disjoint : IsDisjoint (root_of sharing)
sharing_disjoint = ((((sharing_apart, tt), (tt, tt)), tt), (((tt, tt), ((tt, tt), tt)), tt))

-- what a domain's entries leave out of the first n places of a region
abbrev left_out : Node → ℕ → ℕ → List Bool
left_out d region n = map (λ i. uncovered d (place region i)) (numbers_from 0 n)

-- an entry of three words for an operation on four
abbrev small : List Domain
small = root 1 0 (copied (part 0 0 3) ∷ []) (Run (Fill a 7) ∷ []) ∷ []

last_left_out : left_out (root_of small) 0 5 ≡ false ∷ false ∷ false ∷ true ∷ false ∷ []
last_left_out = refl

small_not_covered : IsCovered (root_of small) → ⊥
small_not_covered (within, rest) =
    let here : false ≡ true = within (place 0 3) refl in
    absurd (cc)

-- what a member preserves its parent has to cover, also where no operation touches it
abbrev above_small : List Domain
above_small =
    root 1 0 (copied (part 0 0 2) ∷ []) (Group (number 1 ∷ []) ∷ [])
    ∷ inner 0 1 0 (copied a ∷ []) (Run (Fill (part 0 0 1) 7) ∷ [])
    ∷ []

member_left_out : left_out (root_of above_small) 0 5 ≡ false ∷ false ∷ true ∷ true ∷ false ∷ []
member_left_out = refl

member_leaves_nothing_out : left_out (node_at above_small 1) 0 5 ≡ false ∷ false ∷ false ∷ false ∷ false ∷ []
member_leaves_nothing_out = refl

-- a path of three domains that find kinds 3, 0 and 2, and a sibling of the second that finds kind 1
abbrev three : List Domain
three =
    root 1 8 [] (Group (number 1 ∷ number 3 ∷ []) ∷ [])
    ∷ inner 0 1 1 [] (Group (number 2 ∷ []) ∷ [])
    ∷ inner 1 1 4 [] []
    ∷ inner 0 1 2 [] []
    ∷ []

path_of_three : path_of three (number 2) ≡ number 0 ∷ number 1 ∷ number 2 ∷ []
path_of_three = refl

-- each domain: what is declared for its parent, and its own; nothing where there is no such domain
declared_down_the_path : map (λ n. declared_for three (number n)) (numbers_from 0 5) ≡ 8 ∷ 9 ∷ 13 ∷ 10 ∷ 0 ∷ []
declared_down_the_path = refl

-- the last of the path has the kinds of all three, and not the sibling's
kinds_of_three : map (λ k. has_kind (declared_for three (number 2)) (record { 0 = k })) (numbers_from 0 5)
    ≡ true ∷ false ∷ true ∷ true ∷ false ∷ []
kinds_of_three = refl
