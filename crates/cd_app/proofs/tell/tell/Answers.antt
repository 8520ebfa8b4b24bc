use Rattle.std.proofs.Common.{None, refl}
use Rattle.cd_app.proofs.ToldLemmas.{refused_told, fault_told, memory_told}
use Rattle.cd_app.proofs.tell.tell.Goals as goal

pub returns-in-Refused : goal.returns-in-Refused
returns-in-Refused g c =
    λ call takes now none.
    refused_told call (g.K.Sink.model c.args.sink.now) (g.K.Sink.model c.write_refusal-wrote.new.sink) c.args.stop c.in-Refused.refusal None
    c.settled.result c.write_refusal-wrote.result c.in-Refused.is refl c.settled.ensures c.write_refusal-wrote.ensures takes now none

pub returns-in-ReadFault : goal.returns-in-ReadFault
returns-in-ReadFault g c =
    λ call takes now none.
    fault_told call (g.K.Sink.model c.args.sink.now) (g.K.Sink.model c.write_read_fault.new.sink) c.args.stop
    c.settled-in-ReadFault.result c.write_read_fault.result c.in-ReadFault.is c.settled-in-ReadFault.ensures c.write_read_fault.ensures takes now none

pub returns-in-NoMemory : goal.returns-in-NoMemory
returns-in-NoMemory g c = λ call takes now none. memory_told call (g.K.Sink.model c.args.sink.now) c.args.stop c.in-NoMemory.is takes now none
