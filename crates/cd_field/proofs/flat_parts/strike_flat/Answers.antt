use Rattle.std.proofs.Common.{◌∙◌, ℕ, List, IsSome}
use Rattle.std.proofs.lemmas.List.Elements.{All-get_or}
use Rattle.cd_base.specs.Words.{Words}
use Rattle.cd_tree.specs.declared.document.Fault.{Fault}
use Rattle.cd_field.specs.Flat.{flat_words}
use Rattle.cd_field.proofs.StrikeLemmas.{no_fault, words_one, kinds_one, kinds_all}
use Rattle.cd_field.proofs.PartLemmas.{struck_known}
use Rattle.cd_field.proofs.flat_parts.strike_flat.Goals as goal

pub change_flat-requires : goal.change_flat-requires
change_flat-requires c =
    let w : Words = flat_words c.args.words.now in
    c.loop-fault.invariant.known _ (All-get_or (λ fault. IsSome (w fault.place)) c.args.hits.now c.loop-fault.fault-index no_fault c.loop-fault-test.true c.requires)

pub loop-fault-preserved : goal.loop-fault-preserved
loop-fault-preserved c =
    let hits : List Fault = c.args.hits.now in
    let i : ℕ = c.loop-fault.fault-index in
    let before : Words = flat_words c.loop-fault.words in
    let after : Words = flat_words c.change_flat.new.words in
    record {
      words = words_one hits i no_fault before after c.loop-fault-test.true c.change_flat.ensures.words ∙ c.loop-fault.invariant.words;
      kinds = kinds_one hits i no_fault c.loop-fault.kinds c.with-kinds.result c.loop-fault-test.true c.with-kinds.ensures ∙ c.loop-fault.invariant.kinds;
      known = λ q some. struck_known before after _ _ q c.change_flat.ensures.words (c.loop-fault.invariant.known q some);
      lost = λ q. c.change_flat.ensures.lost q ∙ c.loop-fault.invariant.lost q;
    }

pub returns-clause-kinds : goal.returns-clause-kinds
returns-clause-kinds c = kinds_all c.args.hits.now c.loop-fault.fault-index c.loop-fault.kinds c.loop-fault-test.false ∙ c.loop-fault.invariant.kinds
