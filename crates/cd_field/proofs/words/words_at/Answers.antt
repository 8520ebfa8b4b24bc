use Rattle.std.proofs.Common.{◌≡◌, ◌∙◌, ap, sym, None, Option, ℕ, arith, if◌then◌else◌}
use Rattle.std.proofs.lemmas.Grind.{common_steps}
use Rattle.cd_base.specs.Words.{in_ranges}
use Rattle.cd_field.specs.Maps.{words_of}
use Rattle.cd_field.proofs.PlaceLemmas.{choice_or}
use Rattle.cd_field.proofs.words.words_at.Goals as goal

pub returns : goal.returns
returns c q =
    let word : Option ℕ = words_of c.args.words.now q in
    let none : words_of c.new-part.result q ≡ None = grind (arith, common_steps) in
    c.in_ok-take_words-2.ensures q
    ∙ ap (λ (x : Option ℕ). if in_ranges c.args.writes.now q then word else x)
    (c.in_ok-take_words.ensures q ∙ ap (λ (x : Option ℕ). if in_ranges c.args.reads.now q then word else x) none)
    ∙ sym (choice_or (in_ranges c.args.reads.now q) (in_ranges c.args.writes.now q) word None)
