-- The machine of the trials stays ready for the next call.
use Rattle.std.proofs.Common.{◌≡◌, ℕ, ◌+◌, ◌<◌, ◌≤◌, true, false, ◌&&◌, ◌||◌, nat_lt, nat_le, ◌==◌, List, [], ◌∷◌, All, IsSome, arith, refl, ap, sym, subst, ◌∙◌}
use Rattle.std.proofs.lemmas.Bool.{or_left, or_right}
use Rattle.std.proofs.lemmas.Bool.Decides.{nat_tests}
use Rattle.std.proofs.lemmas.List.Elements.{All-nil, All-cons, All-head, All-tail}
use Rattle.cd_base.specs.declared.place.Place.{Place}
use Rattle.cd_base.specs.declared.place.Range.{Range}
use Rattle.cd_base.specs.Words.{Words, PlaceSet, same_place, struck_word, in_ranges}
use Rattle.cd_tree.specs.declared.domain.NodeId.{NodeId}
use Rattle.cd_tree.specs.declared.document.Fault.{Fault}
use Rattle.cd_tree.specs.declared.event.Event.{Event}
use Rattle.cd_tree.specs.Scripts.{strikes_at, struck, words_struck}
use Rattle.cd_field.specs.FieldModel.{FieldModel, ArePresent, IsPresent, begun, hits_at, part_of, reached_point, told, without, wrote}
use Rattle.cd_parts_tests.specs.Trials.{board, one_word, IsAimed, IsReady, IsSame, HasLent, MayComeBack}
use Rattle.cd_base.proofs.BoolLemmas.{by_test, or-none}

-- the faults that strike at a point are of the script
present_struck : (m : FieldModel) (faults : List Fault) (id : NodeId) (begin point : ℕ)
    → ((p : Place) → in_ranges board p ≡ true → IsPresent m p) → All IsAimed faults
    → All (λ (f : Fault). IsPresent m f.place) (struck faults id begin point)
present_struck m [] id begin point each aimed = All-nil (λ (f : Fault). IsPresent m f.place)
present_struck m (fault ∷ faults) id begin point each aimed =
    let P : Fault → Type 0 = λ f. IsPresent m f.place in
    let rest : All P (struck faults id begin point) =
    present_struck m faults id begin point each (All-tail IsAimed fault faults aimed) in
    by_test (strikes_at id begin point fault)
    (λ t. rw t (All-cons P fault (struck faults id begin point) (each fault.place (All-head IsAimed fault faults aimed)) rest))
    (λ f. rw f rest)

pub hits_present : (m : FieldModel) (point : ℕ) → IsReady m → All (λ (f : Fault). IsPresent m f.place) (hits_at m point)
hits_present m point ready = present_struck m m.script m.node m.begin point ready.each ready.aimed

-- a strike leaves a word where there was one
some_struck : (faults : List Fault) (w : Words) (p : Place) → IsSome (w p) → IsSome (words_struck faults w p)
some_struck [] w p some = some
some_struck (fault ∷ faults) w p some =
    some_struck faults (struck_word w fault.place fault.mask) p
    (by_test (same_place fault.place p) (λ t. rw t refl) (λ f. rw f some))

-- a machine with a word wherever there was one, and the same places away and the same script
ready_as : (m v later : FieldModel) → later ≡ v → ((p : Place) → IsSome (m.words p) → IsSome (v.words p)) → v.lost ≡ m.lost → v.script ≡ m.script
    → IsReady m → IsReady later
ready_as m v later is words lost script ready =
    let P : FieldModel → Type 0 = λ u. IsReady u in
    subst P (sym is) (record {
      each = λ p h. record {
        known = words p (ready.each p h).known;
        here = ap (λ (l : PlaceSet). l p) lost ∙ (ready.each p h).here;
      };
      aimed = let Q : List Fault → Type 0 = λ faults. All IsAimed faults in subst Q (sym script) ready.aimed;
    })

pub ready_reached : (m later : FieldModel) (point : ℕ) → later ≡ reached_point m point → IsReady m → IsReady later
ready_reached m later point is = ready_as m (reached_point m point) later is (some_struck (hits_at m point) m.words) refl refl

pub ready_told : (m later : FieldModel) (event : Event) → later ≡ told m event → IsReady m → IsReady later
ready_told m later event is = ready_as m (told m event) later is (λ p some. some) refl refl

pub ready_begun : (m later : FieldModel) (id : NodeId) (number : ℕ) → later ≡ begun m id number → IsReady m → IsReady later
ready_begun m later id number is = ready_as m (begun m id number) later is (λ p some. some) refl refl

pub ready_wrote : (m later : FieldModel) (at : Place) (word : ℕ) → later ≡ wrote m at word → IsReady m → IsReady later
ready_wrote m later at word is =
    ready_as m (wrote m at word) later is (λ p some. by_test (same_place at p) (λ t. rw t refl) (λ f. rw f some)) refl refl

-- a part has what it writes
in_board : (low high r i : ℕ) → high ≤ 100 → ((0 == r) && (nat_le low i && nat_lt i high)) ≡ true
    → ((0 == r) && (nat_le 0 i && nat_lt i 100)) ≡ true
in_board low high r i few h = grind (arith, nat_tests)

pub part_there : (m part : FieldModel) (reads writes : List Range)
    → ((q : Place) → in_ranges writes q ≡ in_ranges (record { region = 0; low = 2; high = 4 } ∷ []) q)
    → part ≡ part_of m reads writes → IsReady m → ArePresent part (record { region = 0; low = 2; high = 4 } ∷ [])
part_there m part reads writes same is ready =
    let P : FieldModel → Type 0 = λ v. ArePresent v (record { region = 0; low = 2; high = 4 } ∷ []) in
    subst P (sym is) (λ p h.
    let on_board : in_ranges board p ≡ true = or_left _ _ (in_board 2 4 p.region p.index (omega arith) (sym (or-none _) ∙ h)) in
    let t : (in_ranges reads p || in_ranges writes p) ≡ true = or_right (in_ranges reads p) (in_ranges writes p) (same p ∙ h) in
    record { known = rw t (ready.each p on_board).known; here = refl })

-- a part that reads the whole board has it, and where nothing is carved to be written the machine has it still
pub whole_present : (m : FieldModel) (reads : List Range) → ((q : Place) → in_ranges reads q ≡ in_ranges board q) → IsReady m → ArePresent m reads
whole_present m reads same ready p h = ready.each p (sym (same p) ∙ h)

pub none_present : (m : FieldModel) (writes : List Range) → writes ≡ [] → ArePresent m writes
none_present m writes is p h = let P : List Range → Type 0 = λ v. in_ranges v p ≡ true in let fail : P [] = subst P is h in absurd (cc)

pub part_ready : (m part : FieldModel) (reads writes : List Range) → ((q : Place) → in_ranges reads q ≡ in_ranges board q)
    → part ≡ part_of m reads writes → IsReady m → IsReady part
part_ready m part reads writes same is ready =
    let P : FieldModel → Type 0 = λ v. IsReady v in
    subst P (sym is) (record {
      each = λ p h.
          let t : (in_ranges reads p || in_ranges writes p) ≡ true = or_left (in_ranges reads p) (in_ranges writes p) (same p ∙ h) in
          record { known = rw t (ready.each p h).known; here = refl };
      aimed = ready.aimed;
    })

pub rest_ready : (m later : FieldModel) (writes : List Range) → writes ≡ [] → later ≡ without m writes → IsReady m → IsReady later
rest_ready m later writes none is =
    ready_as m (without m []) later (is ∙ ap (without m) none) (λ p some. some) refl refl

-- ---- a part with one word to write goes out and comes back

one_on_board : (index : ℕ) (p : Place) → index < 4 → in_ranges (one_word index) p ≡ true → in_ranges board p ≡ true
one_on_board index p few h =
    or_left _ _ (in_board index (index + 1) p.region p.index (omega (arith, few)) (sym (or-none _) ∙ h))

pub one_present : (m : FieldModel) (writes : List Range) (index : ℕ) → index < 4
    → ((q : Place) → in_ranges writes q ≡ in_ranges (one_word index) q) → IsReady m → ArePresent m writes
one_present m writes index few same ready p h = ready.each p (one_on_board index p few (sym (same p) ∙ h))

pub may_come_back : (m later part : FieldModel) (reads writes : List Range) (index : ℕ)
    → ((q : Place) → in_ranges writes q ≡ in_ranges (one_word index) q) → part ≡ part_of m reads writes → later ≡ without m writes
    → MayComeBack later part index
may_come_back m later part reads writes index same is rest = record {
  script = ap (λ (v : FieldModel). v.script) is ∙ sym (ap (λ (v : FieldModel). v.script) rest);
  carved = λ p. ap (λ (v : FieldModel). in_ranges v.carved p) is ∙ same p;
}

pub has_lent : (m later : FieldModel) (writes : List Range) (index : ℕ) → ((q : Place) → in_ranges writes q ≡ in_ranges (one_word index) q)
    → later ≡ without m writes → IsReady m → HasLent later index
has_lent m later writes index same rest ready =
    let P : FieldModel → Type 0 = λ v. HasLent v index in
    subst P (sym rest) (record {
      known = λ p h. (ready.each p h).known;
      here = λ p h off. let no : in_ranges writes p ≡ false = same p ∙ off in rw no (ready.each p h).here;
      away = λ p h. let yes : in_ranges writes p ≡ true = same p ∙ h in rw yes refl;
      aimed = ready.aimed;
    })

-- the same script and the same places to write, where the rest is another
pub same_as : (m v later : FieldModel) → later ≡ v → v.script ≡ m.script → v.carved ≡ m.carved → IsSame m later
same_as m v later is script carved = record {
  script = ap (λ (u : FieldModel). u.script) is ∙ script;
  carved = ap (λ (u : FieldModel). u.carved) is ∙ carved;
}
