use Rattle.std.proofs.Common.{◌≡◌, ◌++◌, drop, string_bytes}
use Rattle.cd_report.specs.Texts.{begins_lines}
use Rattle.cd_report.proofs.begins.add_begins.Given as goal

abbrev pub invariant-loop-k : goal.invariant-loop-k
invariant-loop-k l =
    string_bytes l.text ++ begins_lines l.tree.domains l.k (drop l.k l.begins)
    ≡ string_bytes l.fn.text ++ begins_lines l.tree.domains 0 l.begins
