use Rattle.std.proofs.Common.{Some, refl}
use Rattle.cd_app.proofs.CallLemmas.{no_memory_for}
use Rattle.cd_app.proofs.ToldLemmas.{document_told}
use Rattle.cd_app.proofs.tell.tell_of.Goals as goal

pub returns-in-Refused : goal.returns-in-Refused
returns-in-Refused g c =
    λ call takes now read refuses.
    document_told call (g.K.Sink.model c.args.sink.now) (g.K.Sink.model c.write_refusal-wrote.new.sink) c.args.document.now c.args.refuse
    c.in-Refused.refusal (Some c.args.document.now) c.settled.result c.write_refusal-wrote.result c.in-Refused.is refl c.settled.ensures
    c.write_refusal-wrote.ensures takes now read refuses

pub returns-in-NoMemory : goal.returns-in-NoMemory
returns-in-NoMemory g c = λ call takes now read refuses. no_memory_for call (g.K.Sink.model c.args.sink.now) c.args.document.now takes now read
