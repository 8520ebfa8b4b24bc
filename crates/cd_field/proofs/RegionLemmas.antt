-- Parts of parts of a list, and what stands in it already laid over it.
use Rattle.std.proofs.Common.{◌≡◌, ℕ, ◌+◌, ◌-◌, ◌≤◌, List, ◌++◌, length, take, drop, arith, ap, ap₂, sym, ◌∙◌}
use Rattle.std.specs.List.{splice}
use Rattle.std.proofs.lemmas.List.{take_all, take-take, drop-drop, drop-take, take-append-drop, length-take, length-drop}

pub whole_part : {X : Type 0} (xs : List X) (n : ℕ) → length xs ≤ n → take n (drop 0 xs) ≡ xs
whole_part {X} xs n long = take_all n xs long

pub part_of_part : {X : Type 0} (xs : List X) (a n f c : ℕ) → f + c ≤ n → take c (drop (a + f) xs) ≡ take c (drop f (take n (drop a xs)))
part_of_part {X} xs a n f c within =
    let ys : List X = drop a xs in
    let whole : f + (n - f) ≡ n = omega arith in
    ap (take c) (sym (drop-drop f a xs))
    ∙ sym (take-take c (n - f) (drop f ys) (omega arith))
    ∙ ap (take c) (sym (drop-take f (n - f) ys))
    ∙ ap (λ (m : ℕ). take c (drop f (take m ys))) whole

-- words that stand there already, laid over the list
pub laid_same : {X : Type 0} (xs run : List X) (a : ℕ) → take (length run) (drop a xs) ≡ run → xs ≡ splice xs a (a + length run) run
laid_same {X} xs run a same =
    let n : ℕ = length run in
    sym (take-append-drop a xs)
    ∙ ap (λ (v : List X). take a xs ++ v) (sym (take-append-drop n (drop a xs)))
    ∙ ap₂ (λ (v w : List X). take a xs ++ (v ++ w)) same (drop-drop n a xs)

pub part_long : {X : Type 0} (xs : List X) (a n : ℕ) → a + n ≤ length xs → length (take n (drop a xs)) ≡ n
part_long {X} xs a n within = omega (arith, length-take n (drop a xs), length-drop a xs)
