-- Worked cases of a first refusal: of two questions, and of one question asked down a list.
use Rattle.std.proofs.Common.{◌≡◌, ◌==◌, ℕ, [], ◌∷◌, Option, None, Some, Ok, Err, if◌then◌else◌, refl, inl, inr}
use Rattle.cd_tree.specs.declared.refusal.Refusal.{Refusal}
use Rattle.cd_tree.specs.declared.refusal.Refusal.TheVariants.{TooLong, Line}
use Rattle.cd_tree.specs.Refusals.{refusal_in, Then, FirstOf, numbered}

-- whether line 2 has a statement's form: it has none
abbrev HasForm : ℕ → Option Refusal → Type 0
HasForm line answer = answer ≡ (if line == 2 then Some (Line line) else None)

-- the first line without a form decides
second_decides : FirstOf HasForm (1 ∷ 2 ∷ 2 ∷ 3 ∷ []) (Some (Line 2))
second_decides = inr (refl, inl refl)

none_decides : FirstOf HasForm (1 ∷ 3 ∷ []) None
none_decides = (refl, (refl, refl))

-- what is asked later has no say, and nothing is overlooked
not_overlooked : FirstOf HasForm (1 ∷ 2 ∷ []) None → ⊥
not_overlooked (first, (second, rest)) = absurd (cc)

not_another : FirstOf HasForm (2 ∷ []) (Some (Line 3)) → ⊥
not_another (inl same) = absurd (cc)
not_another (inr (none, rest)) = absurd (cc)

-- two questions: the first decides where it has a refusal
first_of_two : Then (λ answer. answer ≡ Some TooLong) (HasForm 2) (Some TooLong)
first_of_two = inl refl

not_the_second : Then (λ answer. answer ≡ Some TooLong) (HasForm 2) (Some (Line 2)) → ⊥
not_the_second (inl same) = absurd (cc)
not_the_second (inr (none, second)) = absurd (cc)

things_numbered : numbered {A = ℕ} 5 (7 ∷ 8 ∷ []) ≡ (5, 7) ∷ (6, 8) ∷ []
things_numbered = refl

in_a_result : refusal_in {T = ℕ} (Ok 3) ≡ None
in_a_result = refl

in_a_refusal : refusal_in {T = ℕ} (Err TooLong) ≡ Some TooLong
in_a_refusal = refl
