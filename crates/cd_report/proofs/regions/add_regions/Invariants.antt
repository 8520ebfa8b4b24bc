use Rattle.std.proofs.Common.{◌≡◌, ◌++◌, drop, string_bytes}
use Rattle.cd_report.specs.Texts.{region_lines}
use Rattle.cd_report.proofs.regions.add_regions.Given as goal

abbrev pub invariant-loop-number : goal.invariant-loop-number
invariant-loop-number g l =
    string_bytes l.text ++ region_lines (g.F.Field.model l.machine).words l.number (drop l.number l.regions)
    ≡ string_bytes l.fn.text ++ region_lines (g.F.Field.model l.machine).words 0 l.regions
