use Rattle.cd_state_tests.specs.Board.{HasBoard}
use Rattle.cd_state_tests.proofs.BoardLemmas.{board_refilled, part_present}
use Rattle.cd_state_tests.proofs.tests.keeps.puts_back.Goals as goal

pub first_other-requires-then-spoilt-clause-present : goal.first_other-requires-then-spoilt-clause-present
first_other-requires-then-spoilt-clause-present g c = λ _ _.
    let has : HasBoard (g.F.Field.model c.refill_all.new.field) =
    board_refilled c.args.entry c.as_slice.result.now c.args.keeps.now (g.F.Field.model c.spoil.new.field) (g.F.Field.model c.refill_all.new.field)
    (g.P.Pass.model c.args.pass.now) c.spoil.ensures c.requires.kept c.as_slice.ensures c.in_ok-refill_all.ensures.field in
    part_present (g.F.Field.model c.refill_all.new.field) c.args.entry.range has c.requires.on
