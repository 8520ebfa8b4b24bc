use Rattle.std.proofs.Common.{◌+◌, ◌∙◌, ap, ℕ, List, bit_or, drop, BTreeMap}
use Rattle.cd_base.specs.declared.place.Place.{Place}
use Rattle.cd_tree.specs.declared.document.Fault.{Fault}
use Rattle.cd_tree.specs.Scripts.{struck, kinds_of, words_struck}
use Rattle.cd_field.specs.Maps.{words_of}
use Rattle.cd_field.proofs.StrikeLemmas.{struck_miss, words_hit, kinds_hit, kinds_none}
use Rattle.cd_field.proofs.words.strike.Goals as goal
use Rattle.cd_field.proofs.words.strike.Goals.{then-strikes+in_ok-change, else-strikes}

abbrev no_fault : Fault
no_fault = record { node = record { 0 = 0 }; begin = 0; item = 0; kind = record { 0 = 0 }; place = record { region = 0; index = 0 }; mask = 0 }

pub loop-fault-preserved : goal.loop-fault-preserved
loop-fault-preserved c =
    let faults = c.args.script.now in
    let i = c.loop-fault.fault-index in
    let rest = struck (drop (i + 1) faults) c.args.node c.args.begin c.args.point in
    elim c.if-strikes.branch [
      | then-strikes+in_ok-change w ↦ (
        ap (λ (m : BTreeMap Place ℕ). words_struck rest (words_of m)) w.words-is
            ∙ words_hit faults i no_fault c.args.node c.args.begin c.args.point c.strikes.result c.loop-fault-test.true c.strikes.ensures
            w.if-strikes.true (words_of c.loop-fault.words) (words_of w.change.new.words) w.in_ok-change.ensures
            ∙ c.loop-fault.invariant.0,
        ap (λ (n : ℕ). bit_or n (kinds_of rest)) w.kinds-is
            ∙ kinds_hit faults i no_fault c.args.node c.args.begin c.args.point c.strikes.result c.loop-fault-test.true c.strikes.ensures
            w.if-strikes.true c.loop-fault.kinds w.with-kinds.result w.with-kinds.ensures
            ∙ c.loop-fault.invariant.1,
      )
      | else-strikes w ↦
          let same = struck_miss faults i no_fault c.args.node c.args.begin c.args.point c.strikes.result c.loop-fault-test.true c.strikes.ensures
          w.if-strikes.false in (
            ap (λ (m : BTreeMap Place ℕ). words_struck rest (words_of m)) w.words-is
                ∙ ap (λ (fs : List Fault). words_struck fs (words_of c.loop-fault.words)) same ∙ c.loop-fault.invariant.0,
            ap (λ (n : ℕ). bit_or n (kinds_of rest)) w.kinds-is
                ∙ ap (λ (fs : List Fault). bit_or c.loop-fault.kinds (kinds_of fs)) same ∙ c.loop-fault.invariant.1,
          )
    ]

pub returns-clause-kinds : goal.returns-clause-kinds
returns-clause-kinds c =
    kinds_none c.args.script.now c.loop-fault.fault-index c.args.node c.args.begin c.args.point c.loop-fault.kinds c.loop-fault-test.false
    ∙ c.loop-fault.invariant.1
