-- How the first refusal is found: questions are asked in an order, and the first that has a refusal decides.
use Rattle.std.specs.Prelude.{◌≡◌, ◌⊎◌, ℕ, suc, List, [], ◌∷◌, Option, None, Some, Result, Ok, Err}
use Rattle.cd_tree.specs.declared.refusal.Refusal.{Refusal}

-- what stands in place of a result
abbrev pub refusal_in : {T : Type 0} → Result T Refusal → Option Refusal
refusal_in (Ok _) = None
refusal_in (Err refusal) = Some refusal

-- first one question, and where it has no refusal the other; each says which answer it has
abbrev pub Then : (Option Refusal → Type 0) → (Option Refusal → Type 0) → Option Refusal → Type 0
Then First Second None = First None × Second None
Then First Second (Some refusal) = First (Some refusal) ⊎ (First None × Second (Some refusal))

-- a question asked of each thing in a list, in order
abbrev pub FirstOf : {A : Type 0} → (A → Option Refusal → Type 0) → List A → Option Refusal → Type 0
FirstOf Says [] answer = answer ≡ None
FirstOf Says (x ∷ xs) answer = Then (Says x) (FirstOf Says xs) answer

-- things with their numbers, from `at` on
abbrev pub numbered : {A : Type 0} → ℕ → List A → List (ℕ × A)
numbered at [] = []
numbered at (x ∷ xs) = (at, x) ∷ numbered (suc at) xs
