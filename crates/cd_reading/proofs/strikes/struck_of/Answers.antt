use Rattle.std.proofs.Common.{◌≡◌, ◌+◌, ◌∙◌, All, get_or, sym, subst}
use Rattle.std.proofs.lemmas.Bool.{false≢true}
use Rattle.cd_reading.proofs.KindLemmas.{no_fault}
use Rattle.cd_reading.proofs.StruckLemmas.{StruckSo, so_same, so_more}
use Rattle.cd_reading.proofs.strikes.struck_of.Goals as goal
use Rattle.cd_reading.proofs.strikes.struck_of.Goals.{then-fault-node+then-is_new+in_ok-one_struck+in_ok-push, else-fault-node, else-fault-node-via-then-fault-node+else-is_new, else-fault-node-via-else-fault-node}

pub loop-fault-preserved : goal.loop-fault-preserved
loop-fault-preserved c =
    let faults = c.args.faults.now in
    let i = c.loop-fault.fault-index in
    let node = c.args.node.0 in
    elim c.if-fault-node.branch [
      | then-fault-node+then-is_new+in_ok-one_struck+in_ok-push w ↦
          subst (λ begins. StruckSo faults node (i + 1) begins) (sym (w.begins-is ∙ w.in_ok-push.ensures.ok))
          (so_more faults node i c.loop-fault.begins no_fault w.in_ok-one_struck.field-0 c.loop-fault-test.true
          w.in_ok-one_struck.ensures.begin w.in_ok-one_struck.ensures.faults c.loop-fault.invariant)
      | else-fault-node w ↦
          subst (λ begins. StruckSo faults node (i + 1) begins) (sym w.begins-is)
          (so_same faults node i c.loop-fault.begins no_fault c.loop-fault-test.true
          (elim w.else-fault-node.branch [
            | else-fault-node-via-then-fault-node+else-is_new v ↦
                λ here all.
                false≢true (sym v.if-is_new.false ∙ v.is_new.ensures.1
                (subst (λ begins. All (λ struck. struck.begin ≡ (get_or faults i no_fault).begin → ⊥) begins) (sym v.items.ensures.value) all))
            | else-fault-node-via-else-fault-node v ↦ λ here all. v.if-fault-node.false here
          ])
          c.loop-fault.invariant)
    ]
