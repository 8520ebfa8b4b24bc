use Rattle.std.proofs.Common.{arith, refl, sym, ◌∙◌}
use Rattle.cd_tries.specs.Fitting.{CanTry}
use Rattle.cd_tries.specs.Running.{Means, means}
use Rattle.cd_state_tests.proofs.SampleLemmas.{sample_can_still, sample_present, here_after, here_again}
use Rattle.cd_state_tests.proofs.tests.tries.tries.Goals as goal

pub try_again-requires-clause-tries : goal.try_again-requires-clause-tries
try_again-requires-clause-tries g c =
    λ _ _.
    sample_can_still c.args.attempt.now.node c.args.attempt.now.domain.now c.args.attempt.now.halts c.args.attempt.now.keeps.now
    (g.F.Field.model c.args.field.now) (g.F.Field.model c.lose_words.new.field) (g.P.Pass.model c.args.pass.now) c.requires.domain c.requires.words c.requires.strikes
    c.in_ok-lose_words.ensures.words c.in_ok-lose_words.ensures.script c.requires.keeps

pub returns-in_ok-try_again : goal.returns-in_ok-try_again
returns-in_ok-try_again g c =
    let with : Means = means c.args.attempt.now.node c.args.attempt.now.domain.now c.args.attempt.now.halts (g.P.Pass.model c.args.pass.now).known c.args.attempt.now.keeps.now in
    let can : CanTry with (g.F.Field.model c.lose_words.new.field) (g.P.Pass.model c.args.pass.now) =
    sample_can_still c.args.attempt.now.node c.args.attempt.now.domain.now c.args.attempt.now.halts c.args.attempt.now.keeps.now
    (g.F.Field.model c.args.field.now) (g.F.Field.model c.lose_words.new.field) (g.P.Pass.model c.args.pass.now) c.requires.domain c.requires.words c.requires.strikes
    c.in_ok-lose_words.ensures.words c.in_ok-lose_words.ensures.script c.requires.keeps in
    here_again with 1 2 (g.F.Field.model c.lose_words.new.field) (g.F.Field.model c.try_again.new.field) (g.P.Pass.model c.args.pass.now)
    c.in_ok-try_again.field-0 can c.requires.domain c.in_ok-try_again.ensures.course

pub go_on-requires-clause-present : goal.go_on-requires-clause-present
go_on-requires-clause-present g c =
    λ _ _. sample_present c.args.attempt.now.domain.now (g.F.Field.model c.args.field.now) c.requires.domain c.requires.words

pub go_on-requires-clause-tries : goal.go_on-requires-clause-tries
go_on-requires-clause-tries g c =
    λ _ _.
    sample_can_still c.args.attempt.now.node c.args.attempt.now.domain.now c.args.attempt.now.halts c.args.attempt.now.keeps.now
    (g.F.Field.model c.args.field.now) (g.F.Field.model c.args.field.now) (g.P.Pass.model c.args.pass.now) c.requires.domain c.requires.words c.requires.strikes
    refl refl c.requires.keeps

pub returns-in_ok-go_on : goal.returns-in_ok-go_on
returns-in_ok-go_on g c =
    let with : Means = means c.args.attempt.now.node c.args.attempt.now.domain.now c.args.attempt.now.halts (g.P.Pass.model c.args.pass.now).known c.args.attempt.now.keeps.now in
    let can : CanTry with (g.F.Field.model c.args.field.now) (g.P.Pass.model c.args.pass.now) =
    sample_can_still c.args.attempt.now.node c.args.attempt.now.domain.now c.args.attempt.now.halts c.args.attempt.now.keeps.now
    (g.F.Field.model c.args.field.now) (g.F.Field.model c.args.field.now) (g.P.Pass.model c.args.pass.now) c.requires.domain c.requires.words c.requires.strikes
    refl refl c.requires.keeps in
    here_after with 1 1 0 (g.F.Field.model c.args.field.now) (g.F.Field.model c.go_on.new.field) (g.P.Pass.model c.args.pass.now)
    c.in_ok-go_on.field-0 can (c.requires.here ∙ sym c.requires.node) c.requires.domain c.requires.words (omega arith) c.in_ok-go_on.ensures.course
