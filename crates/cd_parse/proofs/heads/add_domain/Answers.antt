use Rattle.std.proofs.Common.{List, [], ◌∷◌, Result, length, refl, sym, ap, ◌∙◌, arith}
use Rattle.cd_tree.specs.declared.refusal.Which.TheVariants as which
use Rattle.cd_tokens.specs.declared.wrong.Wrong.{Wrong}
use Rattle.cd_parse.specs.Draft.{DraftModel}
use Rattle.cd_parse.proofs.RoomLemmas.{holds_at, room_held}
use Rattle.cd_parse.proofs.heads.add_domain.Goals as goal

pub put_domain-requires-clause-count : goal.put_domain-requires-clause-count
put_domain-requires-clause-count c =
    let tests : List (Result (Unit {0}) Wrong) =
    c.guard-free.result ∷ c.name_fits.result ∷ c.room-count.result ∷ c.room-depth.result ∷ c.room_for_domain-place.result ∷ c.retry_fits.result ∷ [] in
    let few = room_held 2 tests c.room-count.result which.Domains 2048 c.len.result refl c.room-count.ensures (sym c.in_ok-all_hold.ensures) in
    omega (arith, few, c.len.ensures, ap (λ (draft : DraftModel). length draft.domains) c.draft.view_is)

pub put_domain-requires-clause-place : goal.put_domain-requires-clause-place
put_domain-requires-clause-place c =
    let tests : List (Result (Unit {0}) Wrong) =
    c.guard-free.result ∷ c.name_fits.result ∷ c.room-count.result ∷ c.room-depth.result ∷ c.room_for_domain-place.result ∷ c.retry_fits.result ∷ [] in
    sym c.room_for_domain-place.ensures ∙ holds_at 4 tests c.room_for_domain-place.result refl (sym c.in_ok-all_hold.ensures)
