use Rattle.std.proofs.Common.{◌≡◌, ◌++◌, drop, map, string_bytes}
use Rattle.cd_print.specs.Canonical.{line_end, operand_token}
use Rattle.cd_print.proofs.printer.Printer.add_each.Given as goal

-- what is written and what is still to come are the whole
abbrev pub invariant-loop-operand : goal.invariant-loop-operand
invariant-loop-operand l =
    string_bytes l.text ++ line_end (map (operand_token l.self.document.now.regions) (drop l.operand-index l.operands))
    ≡ string_bytes l.fn.text ++ line_end (map (operand_token l.self.document.now.regions) l.operands)
