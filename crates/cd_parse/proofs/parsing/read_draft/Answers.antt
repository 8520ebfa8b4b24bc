use Rattle.std.proofs.Common.{subst, sym, rules}
use Rattle.cd_parse.specs.Sound.{IsSound}
use Rattle.cd_parse.proofs.SoundChanges.{no_draft_is_sound}
use Rattle.cd_parse.proofs.parsing.read_draft.Goals as goal

pub block-requires : goal.block-requires
block-requires c =
    let sound : IsSound c.in-Ok-new.draft = subst IsSound (sym c.in-Ok-new.ensures) no_draft_is_sound in
    search (rules, sound)
