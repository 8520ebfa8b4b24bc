-- What stands before a last `/` and a name.
use Rattle.std.proofs.Common.{◌≡◌, ◌≢◌, ℕ, ◌+◌, ◌-◌, Bool, true, false, nat_eq, List, [], ◌∷◌, ◌++◌, Option, None, Some, MatchOption, IsTrue, length, take, drop, refl, ap, sym, ◌∙◌, append_assoc, arith}
use Rattle.std.specs.Cmp.Lexicographic.{pointwise, same_text, other_text, told_text}
use Rattle.std.proofs.lemmas.List.{take-append-drop, append_cancel_right, length-append}
use Rattle.std.proofs.Math.Seq.{drop-append_seam}

-- whether a list ends with another, as a test says
abbrev pub EndsAs : Bool → List ℕ → List ℕ → Type 0
EndsAs answer path end = pointwise nat_eq (drop (length path - length end) path) end ≡ answer

ends : (path end : List ℕ) → EndsAs true path end → take (length path - length end) path ++ end ≡ path
ends path end is =
    let same : drop (length path - length end) path ≡ end = same_text (drop (length path - length end) path) end (sym is) in
    ap (λ (rest : List ℕ). take (length path - length end) path ++ rest) (sym same) ∙ take-append-drop (length path - length end) path

ends_not : (path end front : List ℕ) → EndsAs false path end → front ++ end ≢ path
ends_not path end front is same =
    let size : length path - length end ≡ length front = omega (arith, length-append front end, ap length same) in
    let rest : drop (length path - length end) path ≡ end =
    ap (λ n. drop n path) size ∙ ap (drop (length front)) (sym same) ∙ drop-append_seam front end in
    other_text (drop (length path - length end) path) end (sym is) rest

-- the name is not at the end
pub no_name : (path name : List ℕ) → EndsAs false path name → (rest : List ℕ) → rest ++ 47 ∷ name ≢ path
no_name path name is rest same =
    ends_not path name (rest ++ 47 ∷ []) is (append_assoc rest (47 ∷ []) name ∙ same)

-- the name is at the end: what is before it ends with `/`, or not
pub before_slash : {X : Type 0} (view : X → List ℕ) (path name above : List ℕ) (found : Option X)
    → EndsAs true path name → above ≡ take (length path - length name) path
    → MatchOption found (EndsAs false above (47 ∷ []))
    (λ x. EndsAs true above (47 ∷ []) × (view x ≡ take (length above - 1) above) × (length (view x) + 1 ≡ length above))
    → MatchOption found ((rest : List ℕ) → rest ++ 47 ∷ name ≢ path) (λ x. view x ++ 47 ∷ name ≡ path)
before_slash view path name above None named is missing = λ rest same.
    let whole : above ++ name ≡ path = ap (λ (front : List ℕ). front ++ name) is ∙ ends path name named in
    let front : (rest ++ 47 ∷ []) ++ name ≡ above ++ name = append_assoc rest (47 ∷ []) name ∙ same ∙ sym whole in
    ends_not above (47 ∷ []) rest missing (append_cancel_right (rest ++ 47 ∷ []) above name front)
before_slash view path name above (Some x) named is (slash, front, size) =
    let whole : above ++ name ≡ path = ap (λ (front : List ℕ). front ++ name) is ∙ ends path name named in
    let parts : view x ++ 47 ∷ [] ≡ above = ap (λ (f : List ℕ). f ++ 47 ∷ []) front ∙ ends above (47 ∷ []) slash in
    sym (append_assoc (view x) (47 ∷ []) name) ∙ ap (λ (f : List ℕ). f ++ name) parts ∙ whole

-- a test of two texts, one of which is a path
pub same_test : (b : Bool) (path name wanted : List ℕ) → b ≡ pointwise nat_eq path name → wanted ≡ name
    → (IsTrue b → wanted ≡ path) × (wanted ≡ path → IsTrue b)
same_test true path name wanted is named =
    let same : path ≡ name = told_text path name true is in
    (λ yes. named ∙ sym same, λ same. refl)
same_test false path name wanted is named =
    let other : path ≢ name = told_text path name false is in
    (λ yes. absurd (cc), λ same. absurd (other (sym same ∙ named)))

-- a path that does not end with the name is not this domain's
pub not_named : (path name named above wanted : List ℕ) → wanted ≡ above ++ 47 ∷ named → name ≡ named
    → ((rest : List ℕ) → rest ++ 47 ∷ name ≢ path) → (IsTrue false → wanted ≡ path) × (wanted ≡ path → IsTrue false)
not_named path name named above wanted is same missing =
    (λ yes. absurd (cc), λ whole. absurd (missing above (ap (λ (n : List ℕ). above ++ 47 ∷ n) same ∙ sym is ∙ whole)))

-- a path that ends with the name is this domain's where the rest is its parent's
pub named_below : (b : Bool) (path name named above wanted rest : List ℕ) → wanted ≡ above ++ 47 ∷ named → name ≡ named
    → rest ++ 47 ∷ name ≡ path → (IsTrue b → above ≡ rest) × (above ≡ rest → IsTrue b)
    → (IsTrue b → wanted ≡ path) × (wanted ≡ path → IsTrue b)
named_below b path name named above wanted rest is same whole (to, from) =
    let whole_named : rest ++ 47 ∷ named ≡ path = ap (λ (n : List ℕ). rest ++ 47 ∷ n) (sym same) ∙ whole in (
      λ yes. is ∙ ap (λ (front : List ℕ). front ++ 47 ∷ named) (to yes) ∙ whole_named,
      λ same_path. from (append_cancel_right above rest (47 ∷ named) (sym is ∙ same_path ∙ sym whole_named)),
    )
