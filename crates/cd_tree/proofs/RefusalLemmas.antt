-- Questions in an order: where each has an answer, so have all, and where each has one answer, so have all.
use Rattle.std.proofs.Common.{◌≡◌, List, [], ◌∷◌, Option, None, Some, refl, sym, ◌∙◌, inl, inr}
use Rattle.cd_tree.specs.declared.refusal.Refusal.{Refusal}
use Rattle.cd_tree.specs.Refusals.{Then, FirstOf}

-- a question has an answer
abbrev pub HasAnswer : (Option Refusal → Type 0) → Type 0
HasAnswer Says = (answer : Option Refusal) × Says answer

pub then_there : (First Second : Option Refusal → Type 0) → HasAnswer First → HasAnswer Second → HasAnswer (Then First Second)
then_there First Second (None, first) (None, second) = (None, (first, second))
then_there First Second (None, first) (Some r, second) = (Some r, inr (first, second))
then_there First Second (Some r, first) other = (Some r, inl first)

pub first_there : {A : Type 0} (Says : A → Option Refusal → Type 0) → ((x : A) → HasAnswer (Says x)) → (xs : List A) → HasAnswer (FirstOf Says xs)
first_there Says each [] = (None, refl)
first_there Says each (x ∷ xs) = then_there (Says x) (FirstOf Says xs) (each x) (first_there Says each xs)

-- a question has one answer
abbrev pub HasOne : (Option Refusal → Type 0) → Type 0
HasOne Says = (one other : Option Refusal) → Says one → Says other → one ≡ other

pub some_is_none : (r : Refusal) → Some r ≡ None → ⊥
some_is_none r e = cc

pub then_is_one : (First Second : Option Refusal → Type 0) → HasOne First → HasOne Second → HasOne (Then First Second)
then_is_one First Second one two None None p q = refl
then_is_one First Second one two None (Some r) p (inl q) = one None (Some r) p.0 q
then_is_one First Second one two None (Some r) p (inr q) = two None (Some r) p.1 q.1
then_is_one First Second one two (Some r) None (inl p) q = one (Some r) None p q.0
then_is_one First Second one two (Some r) None (inr p) q = two (Some r) None p.1 q.1
then_is_one First Second one two (Some r) (Some s) (inl p) (inl q) = one (Some r) (Some s) p q
then_is_one First Second one two (Some r) (Some s) (inl p) (inr q) = absurd (some_is_none r (one (Some r) None p q.0))
then_is_one First Second one two (Some r) (Some s) (inr p) (inl q) = absurd (some_is_none s (one (Some s) None q p.0))
then_is_one First Second one two (Some r) (Some s) (inr p) (inr q) = two (Some r) (Some s) p.1 q.1

pub first_is_one : {A : Type 0} (Says : A → Option Refusal → Type 0) → ((x : A) → HasOne (Says x)) → (xs : List A) → HasOne (FirstOf Says xs)
first_is_one Says each [] = λ one other p q. p ∙ sym q
first_is_one Says each (x ∷ xs) = then_is_one (Says x) (FirstOf Says xs) (each x) (first_is_one Says each xs)
