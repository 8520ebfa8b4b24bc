-- The board of the tests: what is loaded, and which ranges lie on it.
use Rattle.std.proofs.Common.{◌≡◌, ◌<◌, ◌≤◌, true, List, [], ◌∷◌, All, IsSome, arith, refl, sym, subst, ◌∙◌}
use Rattle.std.proofs.lemmas.List.Elements.{All-head, All-tail}
use Rattle.cd_base.specs.declared.place.Place.{Place}
use Rattle.cd_base.specs.declared.place.Range.{Range}
use Rattle.cd_base.specs.Words.{in_range}
use Rattle.cd_tree.specs.declared.document.Fault.{Fault}
use Rattle.cd_tree.specs.declared.document.Region.{Region}
use Rattle.cd_tree.specs.Meaning.{initial}
use Rattle.cd_field.specs.FieldModel.{FieldModel, ArePresent, loaded}
use Rattle.cd_parts_tests.specs.OneRegion.{board, HasBoard, IsOnBoard}
use Rattle.cd_base.proofs.PlaceLemmas.{Inside, inside_from, inside_to}
use Rattle.cd_base.proofs.BoolLemmas.{by_test}

-- a place of a range on the board is on the board
in_board : (r : Range) (p : Place) → IsOnBoard r → in_range r p ≡ true → in_range board p ≡ true
in_board r p on h =
    let i : Inside r p = inside_from r p h in
    let region : r.region ≡ 0 = on.region in
    let high : r.high ≤ 64 = on.high in
    let short : p.index < r.high = i.high in
    inside_to board p (record { region = sym region ∙ i.region; low = omega arith; high = omega arith })

pub on_board : (m : FieldModel) (ranges : List Range) → HasBoard m → All IsOnBoard ranges → ArePresent m ranges
on_board m [] has on p h = absurd (cc)
on_board m (r ∷ ranges) has on p h =
    by_test (in_range r p)
    (λ t. has.each p (in_board r p (All-head IsOnBoard r ranges on) t))
    (λ f. on_board m ranges has (All-tail IsOnBoard r ranges on) p (rw f at h))

pub board_loaded : (m : FieldModel) (regions : List Region) (script : List Fault)
    → ((p : Place) → in_range board p ≡ true → IsSome (initial regions p)) → m ≡ loaded regions script → HasBoard m
board_loaded m regions script known is =
    let P : FieldModel → Type 0 = λ v. HasBoard v in
    subst P (sym is) (record { each = λ p h. record { known = known p h; here = refl } })
