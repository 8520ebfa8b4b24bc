use Rattle.std.proofs.Common.{◌≡◌, ◌<◌, drop}
use Rattle.cd_parse.specs.Marks.{mark_of, mark_behind}
use Rattle.cd_parse.proofs.marked.mark_of.Given as goal

abbrev pub invariant-loop-byte : goal.invariant-loop-byte
invariant-loop-byte l = record {
  below : l.mark < 16384;
  left : mark_behind l.mark (drop l.byte-index l.name) ≡ mark_of l.fn.parent l.name;
}
