use Rattle.std.proofs.Common.{◌≡◌, Some, None, sym, arith}
use Rattle.std.proofs.lemmas.Grind.{common_steps}
use Rattle.cd_field.specs.Maps.{words_of}
use Rattle.cd_field.proofs.PlaceLemmas.{taken}
use Rattle.cd_field.proofs.words.take_word.Goals as goal

pub returns-in_ok-insert : goal.returns-in_ok-insert
returns-in_ok-insert c =
    taken (words_of c.args.others.now) (words_of c.args.words.now) (words_of c.insert.new.self) c.args.place (Some c.in-Some.word.now)
    (sym c.in-Some.ensures.value) c.in_ok-insert.ensures.updates.0

pub returns-in_default : goal.returns-in_default
returns-in_default c =
    let none : words_of c.args.others.now c.args.place ≡ None = grind (arith, common_steps) in
    taken (words_of c.args.others.now) (words_of c.args.words.now) (words_of c.remove.new.self) c.args.place None none
    c.remove.ensures.updates.0
