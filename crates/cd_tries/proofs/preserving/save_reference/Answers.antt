use Rattle.std.proofs.Common.{ap, ◌∙◌}
use Rattle.cd_tries.specs.declared.keep.Pieces.{Pieces}
use Rattle.cd_tries.proofs.Cutting.{cover_enough}
use Rattle.cd_tries.proofs.Saving.{met_known, lapsed_copied}
use Rattle.cd_tries.proofs.preserving.save_reference.Goals as goal

pub pieces_met-requires-clause-enough : goal.pieces_met-requires-clause-enough
pieces_met-requires-clause-enough g c =
    cover_enough (g.P.Pass.model c.args.pass.now).known c.args.link.now c.args.range c.requires.covers

pub share_all-requires-clause-known : goal.share_all-requires-clause-known
share_all-requires-clause-known g c = λ _ _.
    met_known (g.P.Pass.model c.args.pass.now).known c.args.link.now c.args.range c.items.result.now
    (c.items.ensures.value ∙ ap (λ (v : Pieces). v.ids) c.in_ok-pieces.ensures) c.requires.covers.cut

pub returns-in_ok-pieces-in-Err : goal.returns-in_ok-pieces-in-Err
returns-in_ok-pieces-in-Err g c =
    lapsed_copied (g.F.Field.model c.args.field.now) (g.F.Field.model c.tell_lapse.new.field) (g.F.Field.model c.save_copy.new.field)
    (g.P.Pass.model c.args.pass.now) (g.P.Pass.model c.share_all.new.pass) (g.P.Pass.model c.save_copy.new.pass) c.args.at c.args.range
    c.args.link.now c.in_ok-pieces-in-Err.pieces c.items.result.now c.in-Err.note
    (c.items.ensures.value ∙ ap (λ (v : Pieces). v.ids) c.in_ok-pieces.ensures) c.in-Err.ensures
    c.tell_lapse.ensures.differ c.in_ok-tell_lapse-in-Err.ensures.told c.in_ok-pieces-in-Err.ensures.copy c.in_ok-pieces-in-Err.ensures.told
