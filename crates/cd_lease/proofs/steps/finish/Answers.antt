use Rattle.std.proofs.Common.{◌≡◌, ℕ, ◌+◌, ◌*◌, List, [], ◌∷◌, ◌++◌, length, get_or, take, ◌∙◌, ap, sym, arith, length-take-le}
use Rattle.std.proofs.lemmas.List.{take_more, take_all}
use Rattle.cd_lease.specs.Steps.{with_view, holding, piece_of}
use Rattle.cd_lease.proofs.Filling.{ends_at}
use Rattle.cd_lease.proofs.steps.finish.Goals as goal

pub store-requires : goal.store-requires
store-requires c =
    let len : length (take c.args.i c.args.words.now) ≡ c.args.i = length-take-le c.args.i c.args.words.now (let w = c.requires.last in omega arith) in (
      c.requires.at.same,
      (let l = c.requires.at.long in let b = c.requires.block in let w = c.requires.last in let s = c.requires.short in omega arith),
      ends_at c.args.table.now.key c.args.table.now.table_id.slots c.args.seat.now.id c.args.seat.now.me
          (piece_of c.args.id (take c.args.i c.args.words.now)) c.args.i len c.requires.filling (get_or c.args.words.now c.args.i 0),
    )

pub returns-clause-at : goal.returns-clause-at
returns-clause-at c = record { same = c.store.ensures.0 ∙ c.requires.at.same; long = c.requires.at.long }

pub returns-clause-me : goal.returns-clause-me
returns-clause-me c =
    let len : length (take c.args.i c.args.words.now) ≡ c.args.i = length-take-le c.args.i c.args.words.now (let w = c.requires.last in omega arith) in
    let more : take (c.args.i + 1) c.args.words.now ≡ take c.args.i c.args.words.now ++ get_or c.args.words.now c.args.i 0 ∷ [] =
    take_more c.args.words.now c.args.i 0 (let w = c.requires.last in omega arith) in
    let all : take (c.args.i + 1) c.args.words.now ≡ c.args.words.now = take_all (c.args.i + 1) c.args.words.now (let w = c.requires.last in omega arith) in
    c.store.ensures.2 (piece_of c.args.id (take c.args.i c.args.words.now)) c.requires.filling (ap (λ (x : ℕ). 65 * c.args.id.block + 1 + x) (sym len))
    ∙ ap (λ (xs : List ℕ). with_view c.args.seat.now.me (holding c.args.seat.now.me.0 (piece_of c.args.id xs))) (sym more ∙ all)
