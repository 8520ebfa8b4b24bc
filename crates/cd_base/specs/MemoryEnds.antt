-- What one call does to the counts of an end in memory, which fails at calls that were chosen beforehand.
use Rattle.std.specs.Prelude.{ℕ, ◌+◌, ◌-◌, ◌^◌, ◌==◌, Bool, min, if◌then◌else◌}
use Rattle.std.specs.List.{list_any}
use Rattle.cd_base.specs.declared.calls.Calls.{Calls}

-- a count with one more; at the end of its type it stays
abbrev pub one_more : ℕ → ℕ
one_more count = min (count + 1) (2 ^ 64 - 1)

-- whether the next call fails: its number, from 1, is one of those that were chosen
abbrev pub fails_next : Calls → Bool
fails_next calls = list_any (λ number. number == one_more calls.count) calls.fails.items

-- the counts with the next call
abbrev pub with_call : Calls → Calls
with_call calls = record calls {
  count = one_more calls.count;
  faults = if fails_next calls then one_more calls.faults else calls.faults;
}
