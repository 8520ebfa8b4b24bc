use Rattle.cd_core.specs.StateModel.{state_model}
use Rattle.cd_core.specs.Steps.{step_model}
use Rattle.cd_core.proofs.Moving.{exactly}
use Rattle.cd_core.proofs.state.NodeState.advance.Goals as goal

pub returns-in-Ok-clause-fits : goal.returns-in-Ok-clause-fits
returns-in-Ok-clause-fits g c =
    c.advancing_fits.ensures c.args.plan.now (state_model g.F.Field.model g.P.Pass.model c.args.self.now) (state_model g.F.Field.model g.P.Pass.model c.move_on.new.self)
    (step_model g.F.Field.model g.P.Pass.model c.in-Ok.step) c.in-Ok.ensures.plan c.requires.fits c.requires.moves
    (exactly c.args.plan.now (state_model g.F.Field.model g.P.Pass.model c.args.self.now) (state_model g.F.Field.model g.P.Pass.model c.move_on.new.self)
    (step_model g.F.Field.model g.P.Pass.model c.in-Ok.step) c.in-Ok.ensures.exact)

pub returns-in-Ok-clause-stands : goal.returns-in-Ok-clause-stands
returns-in-Ok-clause-stands g c t stands =
    c.advancing_stands.ensures c.args.plan.now t (state_model g.F.Field.model g.P.Pass.model c.args.self.now) (state_model g.F.Field.model g.P.Pass.model c.move_on.new.self)
    (step_model g.F.Field.model g.P.Pass.model c.in-Ok.step) c.in-Ok.ensures.plan c.requires.moves
    (exactly c.args.plan.now (state_model g.F.Field.model g.P.Pass.model c.args.self.now) (state_model g.F.Field.model g.P.Pass.model c.move_on.new.self)
    (step_model g.F.Field.model g.P.Pass.model c.in-Ok.step) c.in-Ok.ensures.exact)
    stands

pub returns-in-Ok-clause-stays : goal.returns-in-Ok-clause-stays
returns-in-Ok-clause-stays g c =
    c.advancing_stays.ensures c.args.plan.now (state_model g.F.Field.model g.P.Pass.model c.args.self.now) (state_model g.F.Field.model g.P.Pass.model c.move_on.new.self)
    (step_model g.F.Field.model g.P.Pass.model c.in-Ok.step) c.in-Ok.ensures.plan c.requires.fits
    (exactly c.args.plan.now (state_model g.F.Field.model g.P.Pass.model c.args.self.now) (state_model g.F.Field.model g.P.Pass.model c.move_on.new.self)
    (step_model g.F.Field.model g.P.Pass.model c.in-Ok.step) c.in-Ok.ensures.exact)

pub returns-in-Ok-clause-onward : goal.returns-in-Ok-clause-onward
returns-in-Ok-clause-onward g c =
    c.advancing_goes_on.ensures c.args.plan.now (state_model g.F.Field.model g.P.Pass.model c.args.self.now) (state_model g.F.Field.model g.P.Pass.model c.move_on.new.self)
    (step_model g.F.Field.model g.P.Pass.model c.in-Ok.step) c.in-Ok.ensures.plan c.requires.fits
    (exactly c.args.plan.now (state_model g.F.Field.model g.P.Pass.model c.args.self.now) (state_model g.F.Field.model g.P.Pass.model c.move_on.new.self)
    (step_model g.F.Field.model g.P.Pass.model c.in-Ok.step) c.in-Ok.ensures.exact)

pub returns-in-Ok-clause-outside : goal.returns-in-Ok-clause-outside
returns-in-Ok-clause-outside g c =
    c.advancing_stays_inside.ensures c.args.plan.now (state_model g.F.Field.model g.P.Pass.model c.args.self.now) (state_model g.F.Field.model g.P.Pass.model c.move_on.new.self)
    (step_model g.F.Field.model g.P.Pass.model c.in-Ok.step) c.in-Ok.ensures.plan c.requires.fits
    (exactly c.args.plan.now (state_model g.F.Field.model g.P.Pass.model c.args.self.now) (state_model g.F.Field.model g.P.Pass.model c.move_on.new.self)
    (step_model g.F.Field.model g.P.Pass.model c.in-Ok.step) c.in-Ok.ensures.exact)

pub returns-in-Ok-clause-lapses : goal.returns-in-Ok-clause-lapses
returns-in-Ok-clause-lapses g c =
    c.advancing_answers_lapses.ensures c.args.plan.now (state_model g.F.Field.model g.P.Pass.model c.args.self.now) (state_model g.F.Field.model g.P.Pass.model c.move_on.new.self)
    (step_model g.F.Field.model g.P.Pass.model c.in-Ok.step) c.in-Ok.ensures.plan c.requires.fits
    (exactly c.args.plan.now (state_model g.F.Field.model g.P.Pass.model c.args.self.now) (state_model g.F.Field.model g.P.Pass.model c.move_on.new.self)
    (step_model g.F.Field.model g.P.Pass.model c.in-Ok.step) c.in-Ok.ensures.exact)
