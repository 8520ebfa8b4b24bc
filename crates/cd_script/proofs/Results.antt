-- A result whose error was changed on the way: where it is right it was right before.
use Rattle.std.proofs.Common.{◌≡◌, Result, Ok, Err, subst}
use Rattle.std.specs.Result.{MatchResult, OnOk}
use Rattle.cd_tree.specs.declared.refusal.Refuse.{Refuse}

-- what holds of a result holds of the value that it handed on
pub handed_on : {T E : Type 0} (P : Result T E → Type 0) (told : Result T E) (value : T)
    → MatchResult told (λ x. ◌≡◌ {A = Result T Refuse} (Ok value) (Ok x)) (λ e. ⊥) → P told → P (Ok value)
handed_on {T} P (Ok x) value same holds =
    let is : x ≡ value = cc in
    subst (λ (y : T). P (Ok y)) is holds
handed_on P (Err e) value never holds = absurd never

-- what holds on success holds where the result was handed on
pub went_well : {T E : Type 0} (P : Type 0) (told : Result T E) (value : T)
    → MatchResult told (λ x. ◌≡◌ {A = Result T Refuse} (Ok value) (Ok x)) (λ e. ⊥) → OnOk told P → P
went_well P (Ok x) value same holds = holds
went_well P (Err e) value never holds = absurd never
