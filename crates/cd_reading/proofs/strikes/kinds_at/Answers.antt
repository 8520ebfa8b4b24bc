use Rattle.std.proofs.Common.{◌==◌, ◌+◌, ◌∙◌, ℕ, bit_or, drop, filter, ap}
use Rattle.std.proofs.lemmas.Bool.{eq-eqb}
use Rattle.cd_tree.specs.Scripts.{kinds_of}
use Rattle.cd_tree.specs.declared.document.Fault.{Fault}
use Rattle.cd_reading.proofs.KindLemmas.{no_fault, neq-eqb, kinds_more, kinds_same, kinds_all}
use Rattle.cd_reading.proofs.strikes.kinds_at.Goals as goal
use Rattle.cd_reading.proofs.strikes.kinds_at.Goals.{then-fault-point, else-fault-point}

pub loop-fault-preserved : goal.loop-fault-preserved
loop-fault-preserved c =
    let faults = c.args.faults.now in
    let i = c.loop-fault.fault-index in
    elim c.if-fault-point.branch [
      | then-fault-point w ↦
          ap (λ (n : ℕ). bit_or n (kinds_of (filter (λ (fault : Fault). fault.item == c.args.point) (drop (i + 1) faults)))) (w.kinds-is ∙ w.with-kinds.ensures)
          ∙ kinds_more c.loop-fault.kinds faults c.args.point i no_fault c.loop-fault-test.true
          (eq-eqb _ _ w.if-fault-point.true) c.loop-fault.invariant
      | else-fault-point w ↦
          ap (λ (n : ℕ). bit_or n (kinds_of (filter (λ (fault : Fault). fault.item == c.args.point) (drop (i + 1) faults)))) w.kinds-is
          ∙ kinds_same c.loop-fault.kinds faults c.args.point i no_fault c.loop-fault-test.true
          (neq-eqb _ _ w.if-fault-point.false) c.loop-fault.invariant
    ]

pub returns : goal.returns
returns c = kinds_all c.loop-fault.kinds c.args.faults.now c.args.point c.loop-fault.fault-index c.loop-fault-test.false c.loop-fault.invariant
