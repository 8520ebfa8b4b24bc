-- Stages by cases: a stage that passes a test is one of those that pass it.
use Rattle.std.proofs.Common.{◌≡◌, Bool, true, false, List, ◌∷◌}
use Rattle.cd_tree.specs.declared.domain.Domain.{Domain}
use Rattle.cd_parse.specs.declared.draft.Stage.{Stage}
use Rattle.cd_parse.specs.declared.draft.Stage.TheVariants.{Start, Kinds, Regions, Root, Closed, Strikes}
use Rattle.cd_parse.specs.declared.draft.Level.{Level}
use Rattle.cd_parse.specs.Sound.{IsStaged}

-- what holds of each stage that passes the test holds of this one
pub of_stage : (test : Stage → Bool) (P : Stage → Type 0) → (test Start ≡ true → P Start) → (test Kinds ≡ true → P Kinds) → (test Regions ≡ true → P Regions)
    → (test Root ≡ true → P Root) → (test Closed ≡ true → P Closed) → (test Strikes ≡ true → P Strikes) → (stage : Stage) → test stage ≡ true → P stage
of_stage test P start kinds regions root closed strikes Start is = start is
of_stage test P start kinds regions root closed strikes Kinds is = kinds is
of_stage test P start kinds regions root closed strikes Regions is = regions is
of_stage test P start kinds regions root closed strikes Root is = root is
of_stage test P start kinds regions root closed strikes Closed is = closed is
of_stage test P start kinds regions root closed strikes Strikes is = strikes is

-- a stage that does not pass
pub never : {A : Type 0} → false ≡ true → A
never is = absurd (cc)

-- a domain is open in the root alone
pub in_root : (P : Stage → Type 0) → P Root → (stage : Stage) (domains : List Domain) (level : Level) (outer : List Level)
    → IsStaged stage domains (level ∷ outer) → P stage
in_root P root Start domains level outer (none, closed) = absurd (cc)
in_root P root Kinds domains level outer (none, closed) = absurd (cc)
in_root P root Regions domains level outer (none, closed) = absurd (cc)
in_root P root Root domains level outer (some, inside) = root
in_root P root Closed domains level outer (some, closed) = absurd (cc)
in_root P root Strikes domains level outer (some, closed) = absurd (cc)
