use Rattle.std.proofs.Common.{List, ℕ, subst}
use Rattle.cd_app.specs.Parts.{ReadsBytes}
use Rattle.cd_app.proofs.CallLemmas.{received}
use Rattle.cd_app.proofs.receive.receive.Goals as goal

pub returns-in-Ok : goal.returns-in-Ok
returns-in-Ok g c =
    received (g.S.Source.model c.args.source.now) (g.S.Source.model c.read_all.new.source) c.in-Ok.bytes c.read_bytes.result c.in-Ok.ensures
    (subst (λ (bytes : List ℕ). ReadsBytes bytes c.read_bytes.result) c.as_slice.ensures c.read_bytes.ensures)
