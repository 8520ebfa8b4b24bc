use Rattle.std.proofs.Common.{◌≡◌, ◌+◌, ◌*◌, ◌<◌, ℕ, min, get_or, arith, refl, ap, ap₂, sym, ◌∙◌}
use Rattle.cd_base.specs.declared.place.Range.{Range}
use Rattle.cd_field.specs.FieldModel.{FieldModel}
use Rattle.cd_keep.specs.declared.keep_id.KeepId.{KeepId}
use Rattle.cd_keep.specs.PassModel.{words_of}
use Rattle.cd_tries.specs.declared.keep.Pieces.{Pieces}
use Rattle.cd_tries.specs.Keeping.{Known, piece_words}
use Rattle.cd_tries.specs.Refilling.{put_words, part_of_piece, words_at}
use Rattle.cd_tries.proofs.PieceWords.{IsNth, nth_of, is_counted, blank_id, id_at}
use Rattle.cd_tries.proofs.Putting.{put_same}
use Rattle.cd_tries.proofs.refilling.refill_piece.Goals as goal

pub overflow_add-start-2 : goal.overflow_add-start-2
overflow_add-start-2 g c =
    let pieces : Pieces = c.args.pieces.now in
    let nth : IsNth (g.P.Pass.model c.args.pass.now).known pieces c.args.range c.args.k (get_or pieces.ids c.args.k blank_id) =
    nth_of (g.P.Pass.model c.args.pass.now).known pieces c.args.range c.args.k (get_or pieces.ids c.args.k blank_id)
    c.requires.full c.requires.covers c.requires.meets (id_at pieces.ids pieces.ids c.args.k refl c.requires.inside) in
    let start : pieces.begin + 64 * c.args.k < pieces.end = nth.start in
    omega (arith, start, c.min-count.ensures)

pub refill_from-requires-clause-held : goal.refill_from-requires-clause-held
refill_from-requires-clause-held g c =
    λ _ _. c.requires.holds (get_or c.items.result.now c.args.k blank_id)
    (is_counted c.args.pieces.now.ids c.args.k (get_or c.items.result.now c.args.k blank_id)
    (id_at c.args.pieces.now.ids c.items.result.now c.args.k c.items.ensures.value c.requires.inside))

pub refill_from-requires-clause-count : goal.refill_from-requires-clause-count
refill_from-requires-clause-count g c =
    let id : KeepId = get_or c.items.result.now c.args.k blank_id in
    let nth : IsNth (g.P.Pass.model c.args.pass.now).known c.args.pieces.now c.args.range c.args.k id =
    nth_of (g.P.Pass.model c.args.pass.now).known c.args.pieces.now c.args.range c.args.k id c.requires.full c.requires.covers c.requires.meets
    (id_at c.args.pieces.now.ids c.items.result.now c.args.k c.items.ensures.value c.requires.inside) in
    λ _ _. nth.size ∙ sym c.min-count.ensures

pub returns-clause-field : goal.returns-clause-field
returns-clause-field g c =
    let m : FieldModel = g.F.Field.model c.args.field.now in
    let known : Known = (g.P.Pass.model c.args.pass.now).known in
    let pieces : Pieces = c.args.pieces.now in
    let r : Range = c.args.range in
    let start : ℕ = pieces.begin + 64 * c.args.k in
    let id : KeepId = get_or c.items.result.now c.args.k blank_id in
    let nth : IsNth known pieces r c.args.k id =
    nth_of known pieces r c.args.k id c.requires.full c.requires.covers c.requires.meets
    (id_at pieces.ids c.items.result.now c.args.k c.items.ensures.value c.requires.inside) in
    let high : c.min.result ≡ min r.high (start + 64) =
    c.min.ensures ∙ ap (λ (n : ℕ). min r.high (start + n)) c.min-count.ensures ∙ sym nth.high in
    c.refill_from.ensures.field
    ∙ ap₂ (λ (low high : ℕ). put_words (words_at start (words_of (g.P.Pass.model c.args.pass.now) id)) (record { region = r.region; low = low; high = high }) m)
    c.max.ensures high
    ∙ put_same (words_at start (words_of (g.P.Pass.model c.args.pass.now) id)) (piece_words known pieces) (part_of_piece pieces r c.args.k) m nth.words
