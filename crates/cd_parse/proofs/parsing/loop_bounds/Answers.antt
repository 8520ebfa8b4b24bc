use Rattle.std.proofs.Common.{◌+◌, ◌&&◌, not, nat_lt, length, sym, ◌∙◌}
use Rattle.std.specs.Prelude.{codes}
use Rattle.std.specs.Str.{bytes_eq}
use Rattle.cd_tree.specs.Limits.{nesting_limit}
use Rattle.cd_tree.specs.declared.refusal.Which.TheVariants.{Nesting}
use Rattle.cd_tokens.specs.declared.wrong.Wrong.TheVariants.{Form, Taken, Limit}
use Rattle.cd_tokens.specs.Sums.{is_base, bounds}
use Rattle.cd_parse.specs.Parsing.{is_variable}
use Rattle.cd_parse.proofs.ParseLemmas.{bounds_alone}
use Rattle.cd_parse.proofs.parsing.loop_bounds.Goals as goal

pub returns-then-may_open : goal.returns-then-may_open
returns-then-may_open c =
    c.bounds.ensures
    ∙ bounds_alone (is_base c.args.variable.now && bytes_eq c.args.among.now (codes "in")) (not (is_variable c.args.variables.now c.args.variable.now))
    (nat_lt (length c.args.variables.now) nesting_limit) (bounds c.args.variables.now c.args.numbers.now) Form Taken (Limit Nesting (nesting_limit + 1))
    (sym c.may_open.ensures ∙ c.if-may_open.true)
