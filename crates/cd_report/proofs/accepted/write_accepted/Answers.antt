use Rattle.std.proofs.Common.{ℕ, List, ◌∙◌, subst}
use Rattle.cd_base.specs.Ends.{WriteAll}
use Rattle.cd_report.proofs.accepted.write_accepted.Goals as goal

pub returns-in-Ok : goal.returns-in-Ok
returns-in-Ok g c =
    subst (λ (bytes : List ℕ). WriteAll (g.K.Sink.model c.args.sink.now) (g.K.Sink.model c.write_all.new.sink) bytes c.write_all.result)
    (c.as_bytes.ensures.value ∙ c.in-Ok.ensures) c.write_all.ensures
