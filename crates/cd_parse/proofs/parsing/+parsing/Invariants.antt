use Rattle.std.proofs.Common.{◌≡◌, ◌≤◌, ◌+◌, ◌*◌, ◌-◌, length}
use Rattle.cd_parse.specs.Parsing.{turns}
use Rattle.cd_parse.specs.Sound.{IsSound}
use Rattle.cd_parse.specs.Turns.{read_from}
use Rattle.cd_parse.proofs.parsing.+parsing.Given as goal

abbrev pub decreases-block : goal.decreases-block
decreases-block l = 4 * (length l.lines.now - l.from) + 4

abbrev pub decreases-repeat : goal.decreases-repeat
decreases-repeat l = 4 * (length l.lines.now - l.at) + 3

abbrev pub decreases-all_turns : goal.decreases-all_turns
decreases-all_turns l = 4 * (length l.lines.now - l.from) + 6

abbrev pub decreases-turn : goal.decreases-turn
decreases-turn l = 4 * (length l.lines.now - l.from) + 5

abbrev pub invariant-block-loop-at : goal.invariant-block-loop-at
invariant-block-loop-at l = record {
  within : l.at ≤ length l.lines;
  later : l.fn.from ≤ l.at;
  left : read_from l.lines l.at l.variables.items l.draft ≡ read_from l.lines l.fn.from l.fn.variables.items l.fn.draft;
  same : l.variables.items ≡ l.fn.variables.items;
  sound : IsSound l.draft;
}

abbrev pub decreases-block-loop-at : goal.decreases-block-loop-at
decreases-block-loop-at l = length l.lines - l.at

abbrev pub invariant-all_turns-loop-value : goal.invariant-all_turns-loop-value
invariant-all_turns-loop-value l = record {
  left : turns (read_from l.lines l.from) l.variables.items l.name l.value (l.value-end - l.value) l.draft
      ≡ turns (read_from l.lines l.from) l.fn.variables.items l.initial.name l.initial.value (l.initial.value-end - l.initial.value) l.fn.draft;
  same : l.variables.items ≡ l.fn.variables.items;
  name : l.name ≡ l.initial.name;
  sound : IsSound l.draft;
}
