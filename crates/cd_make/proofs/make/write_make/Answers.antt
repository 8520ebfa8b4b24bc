use Rattle.std.proofs.Common.{rules}
use Rattle.cd_make.proofs.MakeLemmas.{some_text}
use Rattle.cd_make.proofs.make.write_make.Goals as goal

pub returns-in-Err : goal.returns-in-Err
returns-in-Err g c = search (rules, some_text c.args.size)
