use Rattle.std.proofs.Common.{◌≤◌, ℕ, refl, subst, sym}
use Rattle.cd_tree.specs.Limits.{faults_limit}
use Rattle.cd_app.specs.Deeds.{Accepted, one_document}
use Rattle.cd_app.specs.Calls.{call_of}
use Rattle.cd_app.specs.Parts.{deed_for, text_for}
use Rattle.cd_app.proofs.CallLemmas.{takes_by}
use Rattle.cd_app.proofs.RunLemmas.{found_length}
use Rattle.cd_app.proofs.ToldLemmas.{said_told}
use Rattle.cd_app.proofs.actions.act.Goals as goal

pub write_text-wrote-requires-clause-few : goal.write_text-wrote-requires-clause-few
write_text-wrote-requires-clause-few g c =
    let well = c.a_document_is_well_read.ensures c.in-Ok.ensures.bytes c.in-Ok.document c.in-Ok.ensures.read in
    subst (λ (n : ℕ). n ≤ faults_limit)
    (sym (found_length c.in-Ok.document.tree.domains c.in-Ok.document.faults c.in-Ok-passes.script c.in-Ok-passes.ensures.passes.found)) well.few_faults

pub returns-in-Ok-passes : goal.returns-in-Ok-passes
returns-in-Ok-passes g c =
    λ words m count asked.
    said_told (call_of words (g.S.Source.model c.args.source.now) (g.S.Source.model c.receive.new.source) m m count count)
    (g.K.Sink.model c.args.sink.now) (g.K.Sink.model c.write_text-wrote.new.sink)
    (λ (input : Accepted). text_for c.args.action input.document input.script)
    c.in-Ok.document c.in-Ok-passes.script (text_for c.args.action c.in-Ok.document c.in-Ok-passes.script) c.settled.result c.write_text-wrote.result
    asked c.in-Ok.ensures c.in-Ok-passes.ensures.passes (refl, refl) refl c.settled.ensures c.write_text-wrote.ensures

pub returns-in-Err-passes : goal.returns-in-Err-passes
returns-in-Err-passes g c =
    λ words m count asked.
    c.tell_of.ensures (call_of words (g.S.Source.model c.args.source.now) (g.S.Source.model c.receive.new.source) m m count count)
    (takes_by words (deed_for c.args.action) one_document asked refl) (refl, refl) c.in-Ok.ensures c.in-Err-passes.ensures

pub returns-in-Err : goal.returns-in-Err
returns-in-Err g c =
    λ words m count asked.
    c.tell.ensures (call_of words (g.S.Source.model c.args.source.now) (g.S.Source.model c.receive.new.source) m m count count)
    (takes_by words (deed_for c.args.action) one_document asked refl) (refl, refl) c.in-Err.ensures
