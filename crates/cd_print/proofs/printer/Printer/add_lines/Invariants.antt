use Rattle.std.proofs.Common.{◌≡◌, ◌++◌, drop, map, string_bytes}
use Rattle.cd_print.specs.Canonical.{lines}
use Rattle.cd_print.proofs.printer.Printer.add_lines.Given as goal

-- what is written and what is still to come are the whole
abbrev pub invariant-loop-one : goal.invariant-loop-one
invariant-loop-one g l =
    string_bytes l.text ++ lines (map (g.T.Stated.statement l.self.document.now) (drop l.one-index l.list))
    ≡ string_bytes l.fn.text ++ lines (map (g.T.Stated.statement l.self.document.now) l.list)
