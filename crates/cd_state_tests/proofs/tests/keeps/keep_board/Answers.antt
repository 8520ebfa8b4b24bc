use Rattle.cd_state_tests.proofs.BoardLemmas.{link_kept}
use Rattle.cd_state_tests.proofs.tests.keeps.keep_board.Goals as goal

pub returns : goal.returns
returns g c =
    link_kept (g.F.Field.model c.args.field.now).words c.in_ok-copy_range.field-0 (g.P.Pass.model c.args.pass.now)
    (g.P.Pass.model c.copy_range.new.pass) c.requires.nothing c.requires.room c.in_ok-copy_range.ensures
