use Rattle.std.proofs.Common.{rules}
use Rattle.std.specs.Str.{IsUtf8}
use Rattle.std.proofs.lemmas.Str.{IsUtf8-from_ascii}
use Rattle.cd_tokens.proofs.NameLemmas.{base_ascii}
use Rattle.cd_tokens.proofs.names.numbered.Goals as goal

pub unwrap-base-requires : goal.unwrap-base-requires
unwrap-base-requires c =
    let text : IsUtf8 c.args.base.now = IsUtf8-from_ascii c.args.base.now (base_ascii c.args.base.now c.requires) in search rules
