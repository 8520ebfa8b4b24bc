use Rattle.std.proofs.Common.{◌≡◌, sym, ◌∙◌}
use Rattle.std.proofs.lemmas.Bool.{ltb-false}
use Rattle.std.specs.Int.Bits.{or_zero_r}
use Rattle.cd_tree.specs.Limits.{kinds_limit}
use Rattle.cd_tree.specs.KindSets.{only_kind}
use Rattle.cd_tree.proofs.KindLemmas.{no_such_kind}
use Rattle.cd_tree.proofs.kinds.Kinds.with.Goals as goal

pub returns-else-is_kind : goal.returns-else-is_kind
returns-else-is_kind c =
    let none : only_kind c.args.kind ≡ 0 =
    no_such_kind c.args.kind (ltb-false c.args.kind.0 kinds_limit (sym c.is_kind.ensures ∙ c.if-is_kind.false)) in
    rw (none, or_zero_r) c.self.view_is
