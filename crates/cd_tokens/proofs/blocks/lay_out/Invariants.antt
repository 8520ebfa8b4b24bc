use Rattle.std.proofs.Common.{◌≡◌, ◌≤◌, ◌+◌, length, map}
use Rattle.cd_tokens.specs.Lines.{lines, tokens}
use Rattle.cd_tokens.specs.Blocks.{marked, no_marks}
use Rattle.cd_tokens.proofs.blocks.lay_out.Given as goal

abbrev pub invariant-loop-rest : goal.invariant-loop-rest
invariant-loop-rest l = record {
  few : l.number + length l.rest ≤ 1048577;
  left : marked l.number l.marking (map tokens (lines l.rest)) ≡ marked 1 no_marks (map tokens (lines l.bytes));
  count : l.number + length (lines l.rest) ≡ length (lines l.bytes) + 1;
  grown : length l.marking.lines + 1 ≤ l.number;
}

abbrev pub decreases-loop-rest : goal.decreases-loop-rest
decreases-loop-rest l = length l.rest
