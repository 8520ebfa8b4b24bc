use Rattle.std.proofs.Common.{◌≡◌, ◌<◌, ◌∙◌, ℕ, List, length, ap, subst, sym, get_or}
use Rattle.cd_tree.specs.Operations.{length_of, nth_word}
use Rattle.cd_field.specs.Hulls.{HullModel, hull_at, HasRun, run_in, words_by}
use Rattle.cd_field.proofs.RunLemmas.{read_all}
use Rattle.cd_field.proofs.HullLemmas.{run_known, run_words, run_long}
use Rattle.cd_field.proofs.flat_words.FlatWords.run.Goals as goal

pub run_of-requires-clause-run : goal.run_of-requires-clause-run
run_of-requires-clause-run c =
    let P : List HullModel → Type 0 = λ v. HasRun (hull_at v c.args.range.region) c.args.range.low c.args.range.high in
    subst P (sym c.deref.ensures.value)
    (run_known c.args.self.now.ranges.items c.args.self.now.hulls.items c.args.range c.args.self.now.covered c.requires c.if-range.true)

pub returns-then-range-clause-long : goal.returns-then-range-clause-long
returns-then-range-clause-long c =
    let hulls : List HullModel = c.args.self.now.hulls.items in
    let r = c.args.range in
    ap (λ (v : List ℕ). length v) (c.run_of.ensures ∙ ap (λ (v : List HullModel). run_in (hull_at v r.region) r.low r.high) c.deref.ensures.value)
    ∙ run_long (hull_at hulls r.region) r.low r.high
    (run_known c.args.self.now.ranges.items hulls r c.args.self.now.covered c.requires c.if-range.true)

pub returns-then-range-clause-words : goal.returns-then-range-clause-words
returns-then-range-clause-words c =
    let hulls : List HullModel = c.args.self.now.hulls.items in
    let ranges = c.args.self.now.ranges.items in
    let r = c.args.range in
    let is : c.run_of.result.now ≡ run_in (hull_at hulls r.region) r.low r.high =
    c.run_of.ensures ∙ ap (λ (v : List HullModel). run_in (hull_at v r.region) r.low r.high) c.deref.ensures.value in
    let P : List ℕ → Type 0 = λ v. (j : ℕ) → j < length_of r → get_or v j 0 ≡ nth_word (words_by ranges hulls) r j in
    read_all (words_by ranges hulls) r c.run_of.result.now (returns-then-range-clause-long c)
    (subst P (sym is) (λ j short. run_words ranges hulls r j c.args.self.now.covered c.requires c.if-range.true short))
