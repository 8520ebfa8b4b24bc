use Rattle.std.proofs.Common.{◌≡◌, ℕ, ◌+◌, ◌*◌, List, [], ◌∷◌, ◌++◌, length, get_or, take, ◌∙◌, ap, sym, arith, length-take-le}
use Rattle.std.proofs.lemmas.List.{take_more}
use Rattle.cd_lease.specs.Steps.{with_view, growing, piece_of}
use Rattle.cd_lease.proofs.Filling.{writes_at}
use Rattle.cd_lease.proofs.steps.write.Goals as goal

pub store-requires : goal.store-requires
store-requires c =
    let len : length (take c.args.i c.args.words.now) ≡ c.args.i = length-take-le c.args.i c.args.words.now (let w = c.requires.within in omega arith) in (
      c.requires.at.same,
      (let l = c.requires.at.long in let b = c.requires.block in let w = c.requires.within in let s = c.requires.short in omega arith),
      writes_at c.args.table.now.key c.args.table.now.table_id.slots c.args.seat.now.id c.args.seat.now.me
          (piece_of c.args.id (take c.args.i c.args.words.now)) c.args.i len c.requires.filling
          (let w = c.requires.within in let s = c.requires.short in omega arith) (get_or c.args.words.now c.args.i 0),
    )

pub returns-clause-at : goal.returns-clause-at
returns-clause-at c = record { same = c.store.ensures.0 ∙ c.requires.at.same; long = c.requires.at.long }

pub returns-clause-me : goal.returns-clause-me
returns-clause-me c =
    let len : length (take c.args.i c.args.words.now) ≡ c.args.i = length-take-le c.args.i c.args.words.now (let w = c.requires.within in omega arith) in
    let more : take (c.args.i + 1) c.args.words.now ≡ take c.args.i c.args.words.now ++ get_or c.args.words.now c.args.i 0 ∷ [] =
    take_more c.args.words.now c.args.i 0 (let w = c.requires.within in omega arith) in
    c.store.ensures.2 (piece_of c.args.id (take c.args.i c.args.words.now)) c.requires.filling (ap (λ (x : ℕ). 65 * c.args.id.block + 1 + x) (sym len))
    ∙ ap (λ (xs : List ℕ). with_view c.args.seat.now.me (growing c.args.seat.now.me.0 (piece_of c.args.id xs))) (sym more)
