use Rattle.std.proofs.Common.{ℕ, List, Option, length, sym, ap, ◌∙◌}
use Rattle.cd_keep.specs.declared.keep_id.KeepId.{KeepId}
use Rattle.cd_keep.specs.LayerModel.{LayerModel}
use Rattle.cd_keep.specs.Layers.{layers_of}
use Rattle.cd_keep.specs.PassModel.{known_with}
use Rattle.cd_keep.proofs.KnownLemmas.{known_in-pushed, length-values, new_id}
use Rattle.cd_keep.proofs.kept.Kept.keep.Goals as goal

pub returns-clause-new : goal.returns-clause-new
returns-clause-new c =
    let layers = layers_of c.take_one_more.new.self.layers in
    let id : KeepId = record { block = c.in_ok-block.block; serial = length c.list.result.now } in
    ap (λ (known : KeepId → Option (List ℕ)). known id) (sym c.in_ok-take_one_more.ensures.same)
    ∙ new_id layers c.take_one_more.new.self.latest id (length-values c.list.result.now ∙ ap (length {A = LayerModel}) c.list.ensures)
    c.in_ok-block.ensures.block

pub returns-clause-known : goal.returns-clause-known
returns-clause-known c =
    let layers = layers_of c.take_one_more.new.self.layers in
    let id : KeepId = record { block = c.in_ok-block.block; serial = length c.list.result.now } in
    known_in-pushed layers c.take_one_more.new.self.latest c.push.new.self c.args.piece.now id
    (length-values c.list.result.now ∙ ap (length {A = LayerModel}) c.list.ensures) c.in_ok-block.ensures.block c.in_ok-block.ensures.sound
    c.in_ok-block.ensures.layer
    ∙ ap (λ (known : KeepId → Option (List ℕ)). known_with known id c.args.piece.now) c.in_ok-take_one_more.ensures.same
