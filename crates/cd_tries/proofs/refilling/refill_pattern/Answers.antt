use Rattle.std.proofs.Common.{ℕ, Some, IsSome, arith, ap, subst, sym}
use Rattle.cd_base.specs.declared.place.Place.{Place}
use Rattle.cd_tree.specs.declared.domain.How.TheVariants.{Regen}
use Rattle.cd_field.specs.FieldModel.{FieldModel}
use Rattle.cd_tries.specs.Keeping.{pattern_words}
use Rattle.cd_tries.proofs.Steps.{refilled_known, word_put, words_put}
use Rattle.cd_tries.proofs.refilling.refill_pattern.Goals as goal

pub loop-index-preserved : goal.loop-index-preserved
loop-index-preserved g c =
    let m : FieldModel = g.F.Field.model c.loop-index.field in
    let place : Place = record { region = c.args.range.region; index = c.loop-index.index } in
    record {
      above = omega (arith, c.loop-index.invariant.above);
      within = omega (arith, c.loop-index-test.true);
      known = λ p h.
          let Q : FieldModel → Type 0 = λ v. IsSome (v.words p) in
          subst Q (sym c.refill.ensures) (refilled_known m place c.at.result p (c.loop-index.invariant.known p h));
      left = word_put (pattern_words (Regen c.args.pattern)) c.args.range c.loop-index.index c.at.result m (g.F.Field.model c.refill.new.self) _
          c.loop-index-test.true (ap (λ (n : ℕ). Some n) (sym c.at.ensures)) c.refill.ensures c.loop-index.invariant.left;
    }

pub returns : goal.returns
returns g c =
    words_put (pattern_words (Regen c.args.pattern)) c.args.range c.loop-index.index (g.F.Field.model c.loop-index.field) _
    c.loop-index-test.false c.loop-index.invariant.left
