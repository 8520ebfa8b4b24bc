use Rattle.cd_state_tests.proofs.BoardLemmas.{part_kept}
use Rattle.cd_state_tests.proofs.tests.keeps.keep_part.Goals as goal

pub returns-clause-part : goal.returns-clause-part
returns-clause-part g c =
    part_kept c.args.entry 1 c.args.link.now c.in_ok-preserve_entry.field-0 (g.F.Field.model c.args.field.now) (g.F.Field.model c.preserve_entry.new.field)
    (g.P.Pass.model c.args.pass.now) (g.P.Pass.model c.preserve_entry.new.pass) c.requires.on c.requires.link c.in_ok-preserve_entry.ensures
