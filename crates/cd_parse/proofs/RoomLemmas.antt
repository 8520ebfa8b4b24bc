-- The room that a statement has where its tests hold, and that parsing keeps a draft sound.
use Rattle.std.proofs.Common.{◌≡◌, ℕ, zero, suc, ◌<◌, List, [], ◌∷◌, ◌++◌, Some, Ok, Result, slice_get, sym, ◌∙◌}
use Rattle.cd_tree.specs.declared.refusal.Refusal.{Refusal}
use Rattle.cd_tree.specs.declared.refusal.Which.{Which}
use Rattle.cd_tokens.specs.declared.lines.Line.{Line}
use Rattle.cd_tokens.specs.declared.sums.Variable.{Variable}
use Rattle.cd_tokens.specs.declared.wrong.Wrong.{Wrong}
use Rattle.cd_tokens.specs.Wrongs.{room, all_hold}
use Rattle.cd_parse.specs.Draft.{DraftModel}
use Rattle.cd_parse.specs.Parsing.{counted, taken, looped, variable_of}
use Rattle.cd_parse.specs.Turns.{read_from, turn_from}
use Rattle.cd_parse.specs.Sound.{IsSound}
use Rattle.cd_parse.proofs.SoundGuards.{Bound, bound, room_ok, hold_ok}
use Rattle.cd_parse.proofs.SoundKeeps.{counted_keeps, taken_keeps, looped_keeps, read_keeps}
use Rattle.cd_parse.proofs.SoundParsing.{sound_is_kept}

-- ---- tests that hold

-- the test at place k
pub holds_at : (k : ℕ) (tests : List (Result (Unit {0}) Wrong)) (test : Result (Unit {0}) Wrong) → slice_get tests k ≡ Some test
    → all_hold tests ≡ Ok tt → test ≡ Ok tt
holds_at k [] test there all = absurd (cc)
holds_at zero (first ∷ tests) test there all = let same : first ≡ test = cc in sym same ∙ (hold_ok first tests tt all).0
holds_at (suc k) (first ∷ tests) test there all = holds_at k tests test there (hold_ok first tests tt all).1

-- a test of room
pub room_held : (k : ℕ) (tests : List (Result (Unit {0}) Wrong)) (test : Result (Unit {0}) Wrong) (limit : Which) (most count : ℕ)
    → slice_get tests k ≡ Some test → test ≡ room limit most count → all_hold tests ≡ Ok tt → count < most
room_held k tests test limit most count there is all = room_ok limit most count tt (sym is ∙ holds_at k tests test there all)

-- ---- parsing

-- what a statement, a loop and a turn leave is sound
pub taken_sound : (variables : List Variable) (line : Line) (draft next : DraftModel) → IsSound draft → taken variables line draft ≡ Ok next → IsSound next
taken_sound variables line draft next sound is = taken_keeps IsSound sound_is_kept variables line draft next sound is

pub looped_sound : (lines : List Line) (from : ℕ) (variables : List Variable) (line : Line) (draft next : DraftModel) → IsSound draft
    → looped (read_from lines from) variables line draft ≡ Ok next → IsSound next
looped_sound lines from variables line draft next sound is =
    looped_keeps IsSound sound_is_kept (read_from lines from) (read_keeps IsSound sound_is_kept _) variables line draft next sound is

pub turn_sound : (lines : List Line) (from : ℕ) (variables : List Variable) (name : List ℕ) (value : ℕ) (draft next : DraftModel) → IsSound draft
    → turn_from lines from variables name value draft ≡ Ok next → IsSound next
turn_sound lines from variables name value draft next sound is =
    let body : DraftModel → Result DraftModel Refusal = read_from lines from (variables ++ variable_of name value ∷ []) in
    let first : Bound DraftModel DraftModel Refusal (counted draft) body next = bound DraftModel DraftModel Refusal (counted draft) body next is in
    read_keeps IsSound sound_is_kept _ (variables ++ variable_of name value ∷ []) first.value next
    (counted_keeps IsSound sound_is_kept draft first.value sound first.is) first.next
