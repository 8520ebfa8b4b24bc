-- What an engine counts: how often the domains of what it ran began.
use Rattle.std.specs.Prelude.{ℕ, ◌+◌, ◌-◌, ◌^◌, min, sum}
use Rattle.cd_core.specs.declared.state.Outcome.{Outcome}
use Rattle.cd_core.specs.declared.state.Outcome.TheVariants.{Committed, Exhausted}

-- a count that rose by so many, or stands at its last value
abbrev pub counted : ℕ → ℕ → ℕ
counted count more = min (count + more) (2 ^ 64 - 1)

-- how often the domains of an outcome began, in all
abbrev pub begins_of : {F : Type 0} → Outcome F → ℕ
begins_of (Committed field begins) = sum begins
begins_of (Exhausted field begins cause) = sum begins
