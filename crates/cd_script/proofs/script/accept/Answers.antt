use Rattle.std.proofs.Common.{◌≡◌, ◌++◌, ◌∷◌, [], ◌+◌, ◌<◌, ◌≤◌, List, length, get_or, refl, ap, sym, subst, ◌∙◌}
use Rattle.cd_tree.specs.declared.document.RawFault.{RawFault}
use Rattle.cd_script.specs.Acceptance.{FaultAnswers}
use Rattle.cd_script.proofs.Results.{handed_on, went_well}
use Rattle.cd_script.proofs.Progress.{AreAccepted, one_more, all_accepted}
use Rattle.cd_script.proofs.script.accept.Goals as goal

pub loop-k-preserved : goal.loop-k-preserved
loop-k-preserved c =
    let below : c.loop-k.k < length c.args.faults.now =
    subst (λ (raws : List RawFault). c.loop-k.k < length raws) c.items-raw-items.ensures.value c.loop-k-test.true in
    let pushed : c.push.new.self ≡ c.loop-k.script ++ c.in_ok-fault.fault ∷ [] =
    went_well (c.push.new.self ≡ c.loop-k.script ++ c.in_ok-fault.fault ∷ []) c.push.result c.in_ok-map_err.field-0 c.in_ok-map_err.ensures.cases c.push.ensures.ok in
    subst (AreAccepted c.args.tree.now c.args.faults.now (c.loop-k.k + 1)) (sym pushed)
    (one_more c.args.tree.now c.args.faults.now c.loop-k.k (c.loop-k.k + 1) c.loop-k.script c.raw-item.result c.in_ok-fault.fault
    c.loop-k.invariant below refl
    (c.raw-item.is ∙ ap (λ (raws : List RawFault). get_or raws c.loop-k.k c.raw-item.result) c.items-raw-items.ensures.value)
    (handed_on (FaultAnswers c.args.tree.now.domains (c.loop-k.k + 1) c.raw-item.result) c.found.result c.in_ok-fault.fault c.in_ok-fault.ensures.cases c.found.ensures))

pub returns : goal.returns
returns c =
    all_accepted c.kinds_are_declared_on_the_path.ensures c.args.tree.now c.count.ensures.sound c.args.faults.now c.loop-k.k c.loop-k.script
    c.loop-k.invariant
    (subst (λ (raws : List RawFault). length raws ≤ c.loop-k.k) c.items-raw-items.ensures.value c.loop-k-test.false)
    c.items-raw-items.ensures.few
