use Rattle.std.proofs.Common.{refl}
use Rattle.cd_parse.proofs.parsing.weighed_bounds.Goals as goal

pub returns : goal.returns
returns c =
    rw (c.bounds_part.ensures, c.both.ensures, c.both-values.ensures, c.loop_limits.ensures, c.bounds.ensures, c.guard-form.ensures, c.has_form.ensures) refl
