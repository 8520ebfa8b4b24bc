use Rattle.cd_tries.proofs.Saving.{fell_present, fell_copied}
use Rattle.cd_tries.proofs.preserving.save_pattern.Goals as goal

pub save_copy-requires-clause-present : goal.save_copy-requires-clause-present
save_copy-requires-clause-present g c = λ _ _.
    fell_present (g.F.Field.model c.args.field.now) (g.F.Field.model c.fell.new.self) c.args.at c.in-Some.place c.at.result c.in-Some.field-0-1
    c.args.range c.args.pattern c.in-Some.ensures c.in_ok-fell-in-Some.ensures c.requires.present

pub returns-in_ok-pieces-in-Some : goal.returns-in_ok-pieces-in-Some
returns-in_ok-pieces-in-Some g c = λ link.
    fell_copied (g.F.Field.model c.args.field.now) (g.F.Field.model c.fell.new.self) (g.F.Field.model c.save_copy.new.field)
    (g.P.Pass.model c.args.pass.now) (g.P.Pass.model c.save_copy.new.pass) c.args.at c.in-Some.place c.at.result c.in-Some.field-0-1
    c.args.range c.args.pattern c.in_ok-pieces-in-Some.pieces link c.in-Some.ensures c.at.ensures c.in_ok-fell-in-Some.ensures
    c.in_ok-pieces-in-Some.ensures.copy c.in_ok-pieces-in-Some.ensures.told
