use Rattle.std.proofs.Common.{sym, ◌∙◌}
use Rattle.std.proofs.lemmas.Bool.{ltb-false}
use Rattle.cd_tree.specs.Limits.{kinds_limit}
use Rattle.cd_tree.proofs.KindLemmas.{with_none}
use Rattle.cd_tree.proofs.kinds.Kinds.with_number.Goals as goal

pub returns-else-is_kind : goal.returns-else-is_kind
returns-else-is_kind c =
    with_none c.args.self (record { 0 = c.args.number }) (ltb-false c.args.number kinds_limit (sym c.is_kind.ensures ∙ c.if-is_kind.false))
