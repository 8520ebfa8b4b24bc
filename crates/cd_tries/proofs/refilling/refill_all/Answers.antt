use Rattle.std.proofs.Common.{◌≡◌, ◌+◌, ◌<◌, ◌∷◌, drop, length, arith, refl, ap, subst, sym, ◌∙◌}
use Rattle.std.proofs.lemmas.List.{drop_more}
use Rattle.cd_tree.specs.declared.domain.Entry.{Entry}
use Rattle.cd_tree.specs.declared.event.Event.TheVariants.{Refilled}
use Rattle.cd_field.specs.FieldModel.{FieldModel, told}
use Rattle.cd_keep.specs.declared.keep_id.KeepId.{KeepId}
use Rattle.cd_keep.specs.PassModel.{PassModel}
use Rattle.cd_tries.specs.declared.keep.Keep.{Keep}
use Rattle.cd_tries.specs.Keeping.{Known, KeepFits, KeepsFit, keep_ids, times_in}
use Rattle.cd_tries.specs.Refilling.{put_back}
use Rattle.cd_tries.proofs.Steps.{blank, nth_entry, in_entry, enough_keeps, keeps_left, entry_refilled, entry_known, keep_held}
use Rattle.cd_tries.proofs.refilling.refill_all.Goals as goal

pub loop-number-init : goal.loop-number-init
loop-number-init g c = record {
  within = omega arith;
  enough = enough_keeps (g.P.Pass.model c.args.pass.now).known c.args.entries.now c.args.keeps.now c.requires.keeps;
  fits = c.requires.keeps;
  words = c.requires.words;
  same = refl;
  left = refl;
}

pub refill_and_tell-requires-clause-words : goal.refill_and_tell-requires-clause-words
refill_and_tell-requires-clause-words g c =
    λ _ _ p h. c.loop-number.invariant.words p (in_entry c.args.entries.now c.loop-number.number blank p c.loop-number-test.true h)

pub refill_and_tell-requires-clause-holds : goal.refill_and_tell-requires-clause-holds
refill_and_tell-requires-clause-holds g c =
    let some : c.loop-number.number < length c.args.keeps.now = omega (arith, c.loop-number.invariant.enough, c.loop-number-test.true) in
    let P : PassModel → Type 0 = λ p. (id : KeepId) → 0 < times_in id (keep_ids c.index-keeps-number.result) → 0 < p.holds id in
    λ _ _. subst P (sym c.loop-number.invariant.same)
    (keep_held (g.P.Pass.model c.args.pass.now) c.args.keeps.now c.loop-number.number c.index-keeps-number.result c.requires.holds some
    c.index-keeps-number.is)

pub loop-number-preserved : goal.loop-number-preserved
loop-number-preserved g c =
    let known : Known = (g.P.Pass.model c.args.pass.now).known in
    let m : FieldModel = g.F.Field.model c.loop-number.field in
    let some : c.loop-number.number < length c.args.keeps.now = omega (arith, c.loop-number.invariant.enough, c.loop-number-test.true) in
    let entry : Entry = nth_entry c.args.entries.now c.loop-number.number in
    let keep : Keep = c.index-keeps-number.result in
    let entries : drop c.loop-number.number c.args.entries.now ≡ entry ∷ drop (c.loop-number.number + 1) c.args.entries.now =
    drop_more c.args.entries.now c.loop-number.number blank c.loop-number-test.true in
    let keeps : drop c.loop-number.number c.args.keeps.now ≡ keep ∷ drop (c.loop-number.number + 1) c.args.keeps.now =
    drop_more c.args.keeps.now c.loop-number.number keep some
    ∙ ap (λ (v : Keep). v ∷ drop (c.loop-number.number + 1) c.args.keeps.now) (sym c.index-keeps-number.is) in
    let fits : KeepFits known entry keep × KeepsFit known (drop (c.loop-number.number + 1) c.args.entries.now) (drop (c.loop-number.number + 1) c.args.keeps.now) =
    keeps_left known c.loop-number.number c.args.entries.now c.args.keeps.now entry keep entries keeps c.loop-number.invariant.fits in
    let later : FieldModel = g.F.Field.model c.refill_and_tell.new.field in
    let next : later ≡ told (put_back known entry keep m) (Refilled m.node c.loop-number.number) =
    c.in_ok-refill_and_tell.ensures.field
    ∙ ap (λ (p : PassModel). told (put_back p.known entry keep m) (Refilled m.node c.loop-number.number)) c.loop-number.invariant.same in
    record {
      within = omega (arith, c.loop-number-test.true);
      enough = c.loop-number.invariant.enough;
      fits = fits.1;
      words = λ p h. entry_known known entry keep m later c.loop-number.number p fits.0 next (c.loop-number.invariant.words p h);
      same = c.in_ok-refill_and_tell.ensures.pass ∙ c.loop-number.invariant.same;
      left = entry_refilled known m later _ c.loop-number.number c.args.entries.now c.args.keeps.now entry keep entries keeps next
          c.loop-number.invariant.left;
    }
