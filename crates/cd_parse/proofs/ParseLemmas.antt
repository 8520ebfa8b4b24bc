-- From what a text has said at its end to the document that it is.
use Rattle.std.proofs.Common.{◌≡◌, ℕ, ◌&&◌, Bool, true, false, List, Result, Ok, Err, refl}
use Rattle.cd_tree.specs.declared.refusal.Refuse.{Refuse}
use Rattle.cd_tree.specs.declared.refusal.Refuse.TheVariants as refuse
use Rattle.cd_tokens.specs.declared.wrong.Wrong.{Wrong}
use Rattle.cd_tokens.specs.Steps.{Refuses}
use Rattle.cd_tokens.specs.Wrongs.{both, guard}
use Rattle.cd_parse.specs.Draft.{DraftModel, document_of}
use Rattle.cd_parse.specs.Parsing.{bounds_part, draft_of, parse}

pub parse_made : (bytes : List ℕ) (draft : DraftModel) → draft_of bytes ≡ Ok draft → parse bytes ≡ Ok (document_of draft)
unfolding parse
parse_made bytes draft is = rw is refl

pub parse_refused : (bytes : List ℕ) (refuse : Refuse) → Refuses refuse (draft_of bytes) → Refuses refuse (parse bytes)
unfolding parse
parse_refused bytes (refuse.Refused refusal) is = rw is refl
parse_refused bytes refuse.NoMemory is = tt

-- where all else holds of a loop's line, it has its bounds, or what is wrong with them
pub bounds_alone : (form free few : Bool) (bounds : Result (ℕ × ℕ) Wrong) (one other third : Wrong) → (form && (free && few)) ≡ true
    → bounds ≡ bounds_part (both (guard form one) (both bounds (both (guard free other) (guard few third))))
bounds_alone true true true (Ok b) one other third holds = refl
bounds_alone true true true (Err w) one other third holds = refl
bounds_alone true true false bounds one other third holds = absurd (cc)
bounds_alone true false few bounds one other third holds = absurd (cc)
bounds_alone false free few bounds one other third holds = absurd (cc)
