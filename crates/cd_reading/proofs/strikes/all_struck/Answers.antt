use Rattle.std.proofs.Common.{◌+◌, ◌∙◌, ◌∷◌, [], List, length, sym, ap, subst, length-append}
use Rattle.cd_reading.specs.declared.strikes.Struck.{Struck}
use Rattle.cd_reading.specs.Strikes.{AreStruck, AreAllStruck}
use Rattle.cd_reading.proofs.StruckLemmas.{table_more}
use Rattle.cd_reading.proofs.strikes.all_struck.Goals as goal

pub loop-id-preserved : goal.loop-id-preserved
loop-id-preserved c =
    let grown = c.in_ok-push.ensures.items in (
      ap length grown ∙ length-append c.loop-id.domains.items (c.in_ok-struck_where.field-0 ∷ []) ∙ ap (λ n. n + 1) c.loop-id.invariant.0,
      subst (AreAllStruck c.args.script.now) (sym {A = List (List Struck)} grown)
          (table_more c.args.script.now c.loop-id.domains.items c.loop-id.id c.in_ok-struck_where.field-0 c.loop-id.invariant.0
          (subst (λ faults. AreStruck faults c.loop-id.id c.in_ok-struck_where.field-0) c.items-faults.ensures.value c.in_ok-struck_where.ensures)
          c.loop-id.invariant.1),
    )
