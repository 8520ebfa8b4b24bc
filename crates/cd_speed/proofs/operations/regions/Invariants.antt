use Rattle.std.proofs.Common.{◌≡◌, ◌<◌, ℕ, IsSome, length}
use Rattle.std.specs.Prelude.{slice_get}
use Rattle.cd_tree.specs.Meaning.{initial_word}
use Rattle.cd_speed.proofs.operations.regions.Given as goal

abbrev pub invariant-loop-pattern : goal.invariant-loop-pattern
invariant-loop-pattern l = record {
  count : length l.regions ≡ l.pattern-index;
  known : (j x : ℕ) → j < length l.regions → x < 330002 → IsSome (initial_word (slice_get l.regions j) x);
}
