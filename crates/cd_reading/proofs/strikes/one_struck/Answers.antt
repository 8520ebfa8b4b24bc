use Rattle.std.proofs.Common.{◌≡◌, ◌+◌, ◌∙◌, ◌∷◌, ◌++◌, [], length, get_or, sym, ap, arith, length-append}
use Rattle.cd_reading.specs.Strikes.{strikes_in}
use Rattle.cd_reading.proofs.KindLemmas.{no_fault}
use Rattle.cd_reading.proofs.StruckLemmas.{own_more, own_same, own_all}
use Rattle.cd_reading.proofs.strikes.one_struck.Goals as goal
use Rattle.cd_reading.proofs.strikes.one_struck.Goals.{then-strikes_in+in_ok-push, else-strikes_in}

pub loop-fault-preserved : goal.loop-fault-preserved
loop-fault-preserved c =
    let faults = c.args.faults.now in
    let i = c.loop-fault.fault-index in
    let test = strikes_in c.args.node.0 c.args.begin in
    elim c.if-strikes_in.branch [
      | then-strikes_in+in_ok-push w ↦ (
        own_more test faults c.loop-fault.own c.if-strikes_in.own i no_fault c.loop-fault-test.true
            (sym c.strikes_in.ensures ∙ w.if-strikes_in.true) c.loop-fault.invariant.0 (w.own-is ∙ w.in_ok-push.ensures.ok),
        (let sum : length (c.loop-fault.own ++ get_or faults i no_fault ∷ []) ≡ length c.loop-fault.own + 1 = length-append c.loop-fault.own (get_or faults i no_fault ∷ []) in
            let all : length c.if-strikes_in.own ≡ length (c.loop-fault.own ++ get_or faults i no_fault ∷ []) = ap length (w.own-is ∙ w.in_ok-push.ensures.ok) in
            omega (arith, c.loop-fault.invariant.1)),
      )
      | else-strikes_in w ↦ (
        own_same test faults c.if-strikes_in.own i no_fault c.loop-fault-test.true
            (sym c.strikes_in.ensures ∙ w.if-strikes_in.false) (w.own-is ∙ c.loop-fault.invariant.0),
        (let same : length c.if-strikes_in.own ≡ length c.loop-fault.own = ap length w.own-is in omega (arith, c.loop-fault.invariant.1)),
      )
    ]

pub returns-clause-faults : goal.returns-clause-faults
returns-clause-faults c =
    own_all (strikes_in c.args.node.0 c.args.begin) c.args.faults.now c.loop-fault.own c.loop-fault.fault-index c.loop-fault-test.false c.loop-fault.invariant.0
