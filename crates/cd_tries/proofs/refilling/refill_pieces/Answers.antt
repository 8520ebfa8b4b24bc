use Rattle.std.proofs.Common.{◌≡◌, ◌<◌, ◌≤◌, length, get_or, arith, refl, ap, ◌∙◌}
use Rattle.cd_base.specs.declared.place.Range.{Range}
use Rattle.cd_field.specs.FieldModel.{FieldModel}
use Rattle.cd_keep.specs.PassModel.{PassModel}
use Rattle.cd_tries.specs.declared.keep.Pieces.{Pieces}
use Rattle.cd_tries.specs.Keeping.{Known, piece_words}
use Rattle.cd_tries.specs.Refilling.{put_words, part_of_piece}
use Rattle.cd_tries.proofs.PieceWords.{IsNth, nth_of, blank_id, id_at, pieces_end}
use Rattle.cd_tries.proofs.Steps.{piece_put, pieces_put, part_known}
use Rattle.cd_tries.proofs.refilling.refill_pieces.Goals as goal

pub loop-k-preserved : goal.loop-k-preserved
loop-k-preserved g c =
    let known : Known = (g.P.Pass.model c.args.pass.now).known in
    let pieces : Pieces = c.args.pieces.now in
    let r : Range = c.args.range in
    let m : FieldModel = g.F.Field.model c.loop-k.field in
    let later : FieldModel = g.F.Field.model c.refill_piece.new.field in
    let inside : c.loop-k.k < length pieces.ids = omega (arith, c.loop-k-test.true, ap length c.items.ensures.value) in
    let nth : IsNth known pieces r c.loop-k.k (get_or pieces.ids c.loop-k.k blank_id) =
    nth_of known pieces r c.loop-k.k (get_or pieces.ids c.loop-k.k blank_id) c.requires.full c.requires.covers c.requires.meets
    (id_at pieces.ids pieces.ids c.loop-k.k refl inside) in
    let next : later ≡ put_words (piece_words known pieces) (part_of_piece pieces r c.loop-k.k) m =
    c.refill_piece.ensures.field
    ∙ ap (λ (p : PassModel). put_words (piece_words p.known pieces) (part_of_piece pieces r c.loop-k.k) m) c.loop-k.invariant.same in
    record {
      words = part_known known pieces r c.loop-k.k m later c.requires.covers next c.loop-k.invariant.words;
      same = c.refill_piece.ensures.pass ∙ c.loop-k.invariant.same;
      left = piece_put (piece_words known pieces) pieces r c.loop-k.k m later _ nth.order next c.loop-k.invariant.left;
    }

pub returns-clause-field : goal.returns-clause-field
returns-clause-field g c =
    let known : Known = (g.P.Pass.model c.args.pass.now).known in
    let pieces : Pieces = c.args.pieces.now in
    let all : length pieces.ids ≤ c.loop-k.k = omega (arith, c.loop-k-test.false, ap length c.items.ensures.value) in
    pieces_put (piece_words known pieces) pieces c.args.range c.loop-k.k (g.F.Field.model c.loop-k.field) _
    (pieces_end known pieces c.args.range c.loop-k.k c.requires.covers all) c.loop-k.invariant.left
