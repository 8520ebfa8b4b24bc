-- The first elements of a list differ: what a test that goes down a list knows so far.
use Rattle.std.proofs.Common.{◌≡◌, ℕ, ◌+◌, ◌<◌, ◌≤◌, List, Some, length, take, get_or, slice_get, All, sym, ap, subst, ◌∙◌, arith, inl, inr}
use Rattle.std.proofs.lemmas.Bool.{cases_eq}
use Rattle.std.proofs.lemmas.List.{get_or-take, length-take-le}
use Rattle.std.proofs.lemmas.Option.{slice_get_within, get_or_from_slice_get, slice_get-get_or, same_Some}

-- no two elements are the same
abbrev pub Differ : {X : Type 0} → (X → X → Type 0) → List X → Type 0
Differ {X} Same xs =
    (i j : ℕ) (one other : X) → slice_get xs i ≡ Some one → slice_get xs j ≡ Some other → Same one other → i ≡ j

-- of the first n elements no two are the same
abbrev pub DifferBelow : {X : Type 0} → (X → X → Type 0) → List X → ℕ → Type 0
DifferBelow {X} Same xs n =
    (i j : ℕ) (one other : X) → i < n → j < n → slice_get xs i ≡ Some one → slice_get xs j ≡ Some other → Same one other → i ≡ j

-- an element among the first n
front_read : {X : Type 0} (P : X → Type 0) (xs : List X) (n i : ℕ) (x : X) → n ≤ length xs → i < n → slice_get xs i ≡ Some x
    → All P (take n xs) → P x
front_read P xs n i x within before there each =
    let long : length (take n xs) ≡ n = length-take-le n xs within in
    let is : get_or (take n xs) i x ≡ x = get_or-take n xs i x before ∙ get_or_from_slice_get xs i x x there in
    subst P is (each i x (omega arith))

-- one element more
pub differ_more : {X : Type 0} (Same : X → X → Type 0) → ((x y : X) → Same x y → Same y x) → (xs : List X) (n : ℕ) (x : X)
    → slice_get xs n ≡ Some x → All (λ y. Same y x → ⊥) (take n xs) → DifferBelow Same xs n → DifferBelow Same xs (n + 1)
differ_more Same turned xs n x here new below i j one other first second there elsewhere same =
    let within : n < length xs = slice_get_within xs n x here in
    elim (cases_eq i n) [
      | inl i_last ↦ elim (cases_eq j n) [
        | inl j_last ↦ i_last ∙ sym j_last
        | inr j_before ↦
            let is : one ≡ x = same_Some one x (sym there ∙ ap (slice_get xs) i_last ∙ here) in
            absurd (front_read (λ y. Same y x → ⊥) xs n j other (omega arith) (omega arith) elsewhere new
            (subst (Same other) is (turned one other same)))
      ]
      | inr i_before ↦ elim (cases_eq j n) [
        | inl j_last ↦
            let is : other ≡ x = same_Some other x (sym elsewhere ∙ ap (slice_get xs) j_last ∙ here) in
            absurd (front_read (λ y. Same y x → ⊥) xs n i one (omega arith) (omega arith) there new
            (subst (Same one) is same))
        | inr j_before ↦ below i j one other (omega arith) (omega arith) there elsewhere same
      ]
    ]

-- where all differ, an element differs from those before it
pub differ_before : {X : Type 0} (Same : X → X → Type 0) (xs : List X) (n : ℕ) (x : X) → slice_get xs n ≡ Some x
    → Differ Same xs → All (λ y. Same y x → ⊥) (take n xs)
differ_before Same xs n x here differ k d before same =
    let within : n < length xs = slice_get_within xs n x here in
    let long : length (take n xs) ≡ n = length-take-le n xs (omega arith) in
    let is : get_or (take n xs) k d ≡ get_or xs k d = get_or-take n xs k d (omega arith) in
    let there : slice_get xs k ≡ Some (get_or xs k d) = slice_get-get_or xs k d (omega arith) in
    let one : k ≡ n = differ k n (get_or xs k d) x there here (subst (λ y. Same y x) is same) in
    absurd (omega arith)

pub differ_all : {X : Type 0} (Same : X → X → Type 0) (xs : List X) (n : ℕ) → length xs ≤ n → DifferBelow Same xs n → Differ Same xs
differ_all Same xs n past below i j one other there elsewhere same =
    let first : i < length xs = slice_get_within xs i one there in
    let second : j < length xs = slice_get_within xs j other elsewhere in
    below i j one other (omega arith) (omega arith) there elsewhere same
