-- Sums over the views of all passes.
use Rattle.std.proofs.Common.{◌≡◌, ◌≢◌, ℕ, zero, suc, ◌+◌, ◌≤◌, List, [], ◌∷◌, ◌++◌, set, sym, refl, ap, arith}
use mathlib.Core.Option.{some, some-injective, some-ne-none}
use lib.ListN.{get_elem?}
use Rattle.cd_lease.specs.declared.view.View.{View}
use Rattle.cd_lease.specs.Views.{total}

pub total_set : (f : View → ℕ) (l : List View) (i : ℕ) (v w : View) → get_elem? l i ≡ some v → total f (set l i w) + f v ≡ total f l + f w
total_set f [] i v w e = absurd (some-ne-none v (sym e))
total_set f (x ∷ xs) zero v w e = let is : f x ≡ f v = ap f (some-injective x v e) in omega arith
total_set f (x ∷ xs) (suc i) v w e = let r = total_set f xs i v w e in omega arith

pub total_at : (f : View → ℕ) (l : List View) (i : ℕ) (v : View) → get_elem? l i ≡ some v → f v ≤ total f l
total_at f [] i v e = absurd (some-ne-none v (sym e))
total_at f (x ∷ xs) zero v e = let is : f x ≡ f v = ap f (some-injective x v e) in omega arith
total_at f (x ∷ xs) (suc i) v e = let r = total_at f xs i v e in omega arith

pub total_two : (f : View → ℕ) (l : List View) (i j : ℕ) (v u : View) → i ≢ j → get_elem? l i ≡ some v → get_elem? l j ≡ some u → f v + f u ≤ total f l
total_two f [] i j v u n e d = absurd (some-ne-none v (sym e))
total_two f (x ∷ xs) zero zero v u n e d = absurd (n refl)
total_two f (x ∷ xs) zero (suc j) v u n e d = let is : f x ≡ f v = ap f (some-injective x v e) in let r = total_at f xs j u d in omega arith
total_two f (x ∷ xs) (suc i) zero v u n e d = let is : f x ≡ f u = ap f (some-injective x u d) in let r = total_at f xs i v e in omega arith
total_two f (x ∷ xs) (suc i) (suc j) v u n e d = let r = total_two f xs i j v u (λ h. n (ap suc h)) e d in omega arith

pub total_last : (f : View → ℕ) (l : List View) (v : View) → total f (l ++ v ∷ []) ≡ total f l + f v
total_last f [] v = omega arith
total_last f (x ∷ xs) v = let r = total_last f xs v in omega arith

pub total_most : (f g : View → ℕ) (l : List View) → ((k : ℕ) (v : View) → get_elem? l k ≡ some v → f v ≤ g v) → total f l ≤ total g l
total_most f g [] h = omega arith
total_most f g (x ∷ xs) h = let a : f x ≤ g x = h zero x refl in let r = total_most f g xs (λ k v e. h (suc k) v e) in omega arith
