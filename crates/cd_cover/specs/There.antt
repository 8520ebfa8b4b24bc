-- The law that a program has a first flaw, or none.
use Rattle.std.specs.Prelude.{List, Option}
use Rattle.cd_tree.specs.declared.domain.Domain.{Domain}
use Rattle.cd_tree.specs.declared.refusal.Refusal.{Refusal}
use Rattle.cd_cover.specs.Checks.{FirstFlaw}

-- each program has a first flaw, or none
abbrev pub FirstFlawIsThere : Type 0
FirstFlawIsThere = (domains : List Domain) → (answer : Option Refusal) × FirstFlaw domains answer
