use Rattle.std.proofs.Common.{◌+◌, ◌-◌, ◌≤◌, ℕ, List, length, arith, ap, ◌∙◌}
use Rattle.std.specs.Prelude.{slice_range}
use Rattle.cd_field.specs.FieldModel.{FieldModel, refilled_run}
use Rattle.cd_keep.specs.PassModel.{words_of}
use Rattle.cd_tries.proofs.Putting.{run_put}
use Rattle.cd_tries.proofs.refilling.refill_from.Goals as goal

pub returns-clause-field : goal.returns-clause-field
returns-clause-field g c =
    let m : FieldModel = g.F.Field.model c.args.field.now in
    let words : List ℕ = words_of (g.P.Pass.model c.args.pass.now) c.args.id in
    let high : c.args.range.high ≤ c.args.start + length words = omega (arith, c.requires.high, c.requires.count) in
    c.refill_run.ensures
    ∙ ap (λ (ws : List ℕ). refilled_run m c.args.range (slice_range ws (c.args.range.low - c.args.start) (c.args.range.high - c.args.start)))
    c.fetch.ensures.words
    ∙ run_put m c.args.range c.args.start words c.requires.low c.requires.order high
