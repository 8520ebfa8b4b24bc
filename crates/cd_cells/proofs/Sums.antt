-- Sums over the views of all passes, and functions that are changed at one number or at some.
use Rattle.std.proofs.Common.{◌≡◌, ◌≢◌, ℕ, zero, suc, ◌+◌, ◌<◌, ◌≤◌, cond, ◌==◌, List, [], ◌∷◌, ◌++◌, set, sym, refl, ap, subst, arith, ⊎_elim, eq-eqb, ne_eqb}
use Rattle.std.proofs.lemmas.Bool.{cases_eq, cond-true, cond-false}
use mathlib.Core.Option.{some, some-injective, some-ne-none}
use lib.ListN.{get_elem?}
use Rattle.cd_cells.specs.Listing.{often, total}

module _ {A : Type 0} (f : A → ℕ) where
  pub total_set : (l : List A) (i : ℕ) (v w : A) → get_elem? l i ≡ some v → total f (set l i w) + f v ≡ total f l + f w
  total_set [] i v w e = absurd (some-ne-none v (sym e))
  total_set (x ∷ xs) zero v w e = let is : f x ≡ f v = ap f (some-injective x v e) in omega arith
  total_set (x ∷ xs) (suc i) v w e = let r = total_set xs i v w e in omega arith

  pub total_at : (l : List A) (i : ℕ) (v : A) → get_elem? l i ≡ some v → f v ≤ total f l
  total_at [] i v e = absurd (some-ne-none v (sym e))
  total_at (x ∷ xs) zero v e = let is : f x ≡ f v = ap f (some-injective x v e) in omega arith
  total_at (x ∷ xs) (suc i) v e = let r = total_at xs i v e in omega arith

  pub total_last : (l : List A) (v : A) → total f (l ++ v ∷ []) ≡ total f l + f v
  total_last [] v = omega arith
  total_last (x ∷ xs) v = let r = total_last xs v in omega arith

-- ---- a function that is changed at one number

abbrev pub put : {A : Type 0} → (ℕ → A) → ℕ → A → ℕ → A
put f d x e = cond (e == d) x (f e)

module _ {A : Type 0} (f : ℕ → A) (d : ℕ) (x : A) where
  pub put_here : put f d x d ≡ x
  put_here = cond-true (d == d) x (f d) (eq-eqb d d refl)

  pub put_else : (e : ℕ) → e ≢ d → put f d x e ≡ f e
  put_else e ne = cond-false (e == d) x (f e) (ne_eqb e d ne)

  pub put_each : (P : ℕ → A → Type 0) → P d x → ((e : ℕ) → e ≢ d → P e (f e)) → (e : ℕ) → P e (put f d x e)
  put_each P here other e = ⊎_elim
      (λ (q : e ≡ d). subst (λ (y : ℕ). P y (put f d x y)) (sym q) (subst (P d) (sym put_here) here))
      (λ ne. subst (P e) (sym (put_else e ne)) (other e ne))
      (cases_eq e d)

-- ---- and at the numbers of a list

abbrev pub choose : {A : Type 0} → ℕ → A → A → A
choose zero x y = y
choose (suc n) x y = x

abbrev pub spread : {A : Type 0} → (ℕ → A) → List ℕ → (ℕ → A) → ℕ → A
spread f g h e = choose (often e g) (h e) (f e)

chosen : {A : Type 0} (n : ℕ) (x y : A) → 0 < n → choose n x y ≡ x
chosen zero x y h = absurd (omega arith)
chosen (suc n) x y h = refl

unchosen : {A : Type 0} (n : ℕ) (x y : A) → n ≡ 0 → choose n x y ≡ y
unchosen zero x y h = refl
unchosen (suc n) x y h = absurd (omega arith)

module _ {A : Type 0} (f : ℕ → A) (g : List ℕ) (h : ℕ → A) where
  pub spread_in : (e : ℕ) → 0 < often e g → spread f g h e ≡ h e
  spread_in e k = chosen (often e g) (h e) (f e) k

  pub spread_out : (e : ℕ) → often e g ≡ 0 → spread f g h e ≡ f e
  spread_out e k = unchosen (often e g) (h e) (f e) k

pub some_or_none : {P : Type 0} (n : ℕ) → (n ≡ 0 → P) → (0 < n → P) → P
some_or_none zero none more = none refl
some_or_none (suc n) none more = more (omega arith)

-- at the numbers of a list, and at one more
abbrev pub fan : {A : Type 0} → (ℕ → A) → List ℕ → A → ℕ → A → ℕ → A
fan f g x p y = put (spread f g (λ _. x)) p y

module _ {A : Type 0} (f : ℕ → A) (g : List ℕ) (x : A) (p : ℕ) (y : A) where
  pub fan_here : fan f g x p y p ≡ y
  fan_here = put_here (spread f g (λ _. x)) p y

  pub fan_each : (P : ℕ → A → Type 0) → P p y → ((e : ℕ) → e ≢ p → 0 < often e g → P e x) → ((e : ℕ) → e ≢ p → often e g ≡ 0 → P e (f e)) → (e : ℕ) → P e (fan f g x p y e)
  fan_each P here member other = put_each (spread f g (λ _. x)) p y P here (λ e ne. some_or_none (often e g)
      (λ z. subst (P e) (sym (spread_out f g (λ _. x) e z)) (other e ne z))
      (λ l. subst (P e) (sym (spread_in f g (λ _. x) e l)) (member e ne l)))
