-- What the tries of a domain come to, whatever they tell: a group of the domain where they wait, no more to spare than there were,
-- and a machine on which all entries are present.
use Rattle.std.proofs.Common.{◌≡◌, ℕ, zero, suc, ◌+◌, ◌≤◌, Bool, true, false, ◌==◌, bit_and, List, [], ◌∷◌, Some, drop, length, slice_get, refl, ap, subst, sym, ◌∙◌, arith}
use Rattle.cd_base.specs.declared.place.Place.{Place}
use Rattle.cd_tree.specs.declared.domain.NodeId.{NodeId}
use Rattle.cd_tree.specs.declared.domain.Item.{Item}
use Rattle.cd_tree.specs.declared.domain.Item.TheVariants as item
use Rattle.cd_tree.specs.declared.domain.Domain.{Domain}
use Rattle.cd_tree.specs.declared.document.Fault.{Fault}
use Rattle.cd_tree.specs.KindSets.{no_kinds, kinds_without}
use Rattle.cd_tree.specs.Meaning.{in_entries}
use Rattle.cd_field.specs.FieldModel.{FieldModel, begun, reached_point}
use Rattle.cd_keep.specs.PassModel.{PassModel}
use Rattle.cd_kernel.specs.Computing.{computed}
use Rattle.cd_tries.specs.declared.points.Arrival.{Arrival}
use Rattle.cd_tries.specs.declared.points.Arrival.TheVariants as at
use Rattle.cd_tries.specs.declared.tries.Course.{Course}
use Rattle.cd_tries.specs.declared.tries.Stop.{Stop}
use Rattle.cd_tries.specs.declared.tries.Stop.TheVariants.{Group, Passed, Failed, Broken}
use Rattle.cd_tries.specs.Fitting.{ArePresentIn, CanRun, CanTry, HasWords, StrikesWithin}
use Rattle.cd_tries.specs.Keeping.{KeepsFit}
use Rattle.cd_tries.specs.Refilling.{refilled_all}
use Rattle.cd_tries.specs.Running.{Run as Ran, Trial, Tried, Means, by_found, comes_to, halted, is_quiet, judged_at, next_begin, run_ends, run_to, tried_again, tried_from, tries_from, unless_failed, where_quiet}
use Rattle.cd_tries.specs.TryLaws.{PointsKeep, Stays, TriesKeep, TryingAgainKeeps}

-- ---- where they stop

-- the item of this number is a group
pub record IsGroup (items : List Item) (point : ℕ) : Type 0 where
  pub ids : List NodeId
  pub group : slice_get items point ≡ Some (item.Group ids)

-- a domain that stops at a group stops at one of these items
abbrev pub StopsIn : List Item → Stop → Type 0
StopsIn items (Group point) = IsGroup items point
StopsIn items (Passed leak) = Unit {0}
StopsIn items (Failed kinds) = Unit {0}
StopsIn items (Broken kinds over) = Unit {0}

abbrev ArrivesIn : List Item → Arrival → Type 0
ArrivesIn items (at.Group point) = IsGroup items point
ArrivesIn items at.Halt = Unit {0}
ArrivesIn items at.End = Unit {0}

-- these items stand among all from a point on
abbrev StandFrom : List Item → ℕ → List Item → Type 0
StandFrom all point items = (k : ℕ) (one : Item) → slice_get items k ≡ Some one → slice_get all (point + k) ≡ Some one

dropped_stand : (all : List Item) (point : ℕ) → StandFrom all point (drop point all)
dropped_stand [] zero k one e = absurd (cc)
dropped_stand [] (suc point) k one e = absurd (cc)
dropped_stand (first ∷ rest) zero k one e =
    let same : 0 + k ≡ k = omega arith in
    ap (λ (n : ℕ). slice_get (first ∷ rest) n) same ∙ e
dropped_stand (first ∷ rest) (suc point) k one e =
    let same : suc point + k ≡ suc (point + k) = omega arith in
    ap (λ (n : ℕ). slice_get (first ∷ rest) n) same ∙ dropped_stand rest point k one e

next_stand : (all : List Item) (point : ℕ) (first : Item) (items : List Item) → StandFrom all point (first ∷ items) → StandFrom all (suc point) items
next_stand all point first items stand k one e =
    let same : suc point + k ≡ point + suc k = omega arith in
    ap (λ (n : ℕ). slice_get all n) same ∙ stand (suc k) one e

first_stands : (all : List Item) (point : ℕ) (first : Item) (items : List Item) → StandFrom all point (first ∷ items) → slice_get all point ≡ Some first
first_stands all point first items stand =
    let same : point ≡ point + 0 = omega arith in
    ap (λ (n : ℕ). slice_get all n) same ∙ stand 0 first refl

quiet_arrives : (all : List Item) (b : Bool) (m : FieldModel) (next : FieldModel → Ran) → ArrivesIn all (next m).arrival
    → ArrivesIn all (where_quiet b m next).arrival
quiet_arrives all true m next h = h
quiet_arrives all false m next h = tt

run_arrives : (halts : ℕ) (m : FieldModel) (point : ℕ) (all items : List Item) → StandFrom all point items
    → ArrivesIn all (run_to halts m point items).arrival
run_arrives halts m point all [] stand =
    quiet_arrives all (is_quiet halts (reached_point m point)) (reached_point m point) (λ now. run_ends now at.End) tt
run_arrives halts m point all (item.Run op ∷ items) stand =
    quiet_arrives all (is_quiet halts (reached_point m point)) (reached_point m point) (λ now. run_to halts (computed now op) (suc point) items)
    (run_arrives halts (computed (reached_point m point) op) (suc point) all items (next_stand all point (item.Run op) items stand))
run_arrives halts m point all (item.Group ids ∷ items) stand =
    quiet_arrives all (is_quiet halts (reached_point m point)) (reached_point m point) (λ now. run_ends now (at.Group point))
    (record { ids = ids; group = first_stands all point (item.Group ids) items stand })

found_stops : (items : List Item) (notes found : ℕ) (b : Bool) → StopsIn items (by_found notes found b)
found_stops items notes found true = tt
found_stops items notes found false = tt

halted_stops : (items : List Item) (detects : ℕ) (m : FieldModel) (halts : ℕ) (b : Bool) → StopsIn items (halted detects m halts b).stop
halted_stops items detects m halts true = tt
halted_stops items detects m halts false = tt

judged_stops : (items : List Item) (halts detects : ℕ) (m : FieldModel) (arrival : Arrival) → ArrivesIn items arrival
    → StopsIn items (judged_at halts detects m arrival).stop
judged_stops items halts detects m (at.Group point) h = h
judged_stops items halts detects m at.Halt h =
    halted_stops items detects m (bit_and m.notes halts) (kinds_without (bit_and m.notes halts) detects == no_kinds)
judged_stops items halts detects m at.End h =
    found_stops items m.notes (bit_and m.notes detects) (bit_and m.notes detects == no_kinds)

-- a try stops in its domain
pub try_stops : (halts : ℕ) (domain : Domain) (m : FieldModel) (point : ℕ) → StopsIn domain.items (tried_from halts domain m point).stop
try_stops halts domain m point =
    let run : Ran = run_to halts m point (drop point domain.items) in
    judged_stops domain.items halts domain.detects run.field run.arrival
    (run_arrives halts m point domain.items (drop point domain.items) (dropped_stand domain.items point))

-- how tries end: with no more to spare than there were, and in their domain
pub record EndsIn (items : List Item) (spare : ℕ) (course : Course) : Type 0 where
  pub few : course.spare ≤ spare
  pub stop : StopsIn items course.stop

again_ends : (items : List Item) (spare : ℕ) (stop : Stop) (here : Tried) (next : ℕ → Tried) → EndsIn items spare here.course
    → ((kinds : ℕ) → EndsIn items spare (next kinds).course) → EndsIn items spare (unless_failed stop here next).course
again_ends items spare (Group point) here next now later = now
again_ends items spare (Passed leak) here next now later = now
again_ends items spare (Failed kinds) here next now later = later kinds
again_ends items spare (Broken kinds over) here next now later = now

pub tries_end_in : (with : Means) (spare begin : ℕ) (t : Trial) → StopsIn with.domain.items t.stop
    → EndsIn with.domain.items spare (tries_from with spare begin t).course
tries_end_in with zero begin t stops = record { few = omega arith; stop = stops }
tries_end_in with (suc spare) begin t stops =
    again_ends with.domain.items (suc spare) t.stop (comes_to (suc spare) begin t)
    (λ kinds. tries_from with spare (next_begin begin) (tried_again with (next_begin begin) t.field)) (record { few = omega arith; stop = stops })
    (λ kinds.
    (let later : EndsIn with.domain.items spare (tries_from with spare (next_begin begin) (tried_again with (next_begin begin) t.field)).course =
    tries_end_in with spare (next_begin begin) (tried_again with (next_begin begin) t.field)
    (try_stops with.halts with.domain (refilled_all with.known with.domain.entries with.keeps (begun t.field with.node (next_begin begin))) 0) in
    record { few = omega (arith, later.few); stop = later.stop }))

-- ---- their machine

-- a machine after tries: whose it is, its script, what it was carved for, that its entries have words, and that all else is as it was
pub record StillOf (id : NodeId) (domain : Domain) (m n : FieldModel) : Type 0 where
  pub node : n.node ≡ id
  pub script : n.script ≡ m.script
  pub carved : n.carved ≡ m.carved
  pub words : HasWords domain.entries n
  pub outside : (p : Place) → in_entries domain.entries p ≡ false → (n.words p ≡ m.words p) × (n.lost p ≡ m.lost p)

-- and all entries are present
pub record Left (id : NodeId) (domain : Domain) (m n : FieldModel) : Type 0 where
  pub still : StillOf id domain m n
  pub present : ArePresentIn domain.entries n

left_later : (id : NodeId) (domain : Domain) (m n o : FieldModel) → Stays id domain m n → Stays id domain n o → Left id domain m o
left_later id domain m n o first later = record {
  still = record {
    node = later.node;
    script = later.script ∙ first.script;
    carved = later.carved ∙ first.carved;
    words = later.words;
    outside = λ p none. ((later.outside p none).0 ∙ (first.outside p none).0, (later.outside p none).1 ∙ (first.outside p none).1);
  };
  present = later.present;
}

-- from a point of a try on, and then the tries that follow
pub points_left : PointsKeep → TriesKeep → (with : Means) (spare begin point : ℕ) (m : FieldModel) → CanRun with.node with.domain m
    → point ≤ length with.domain.items → KeepsFit with.known with.domain.entries with.keeps
    → Left with.node with.domain m (tries_from with spare begin (tried_from with.halts with.domain m point)).field
points_left points tries with spare begin point m can within fit =
    let t : Trial = tried_from with.halts with.domain m point in
    let s : Stays with.node with.domain m t.field = points with.node with.domain with.halts point m can within in
    let S : List Fault → Type 0 = λ fs. StrikesWithin with.node with.domain.entries fs in
    let run_on : CanRun with.node with.domain t.field =
    record { sound = can.sound; here = s.node; present = s.present; strikes = subst S (sym s.script) can.strikes } in
    left_later with.node with.domain m t.field (tries_from with spare begin t).field s (tries with spare begin t run_on fit)

-- from a later try on
pub again_left : TryingAgainKeeps → TriesKeep → (with : Means) (spare begin : ℕ) (m : FieldModel) (p : PassModel) → CanTry with m p
    → Left with.node with.domain m (tries_from with spare begin (tried_again with begin m)).field
again_left again tries with spare begin m p can =
    let t : Trial = tried_again with begin m in
    let s : Stays with.node with.domain m t.field = again with begin m can.sound can.words can.strikes can.keeps in
    let S : List Fault → Type 0 = λ fs. StrikesWithin with.node with.domain.entries fs in
    let run_on : CanRun with.node with.domain t.field =
    record { sound = can.sound; here = s.node; present = s.present; strikes = subst S (sym s.script) can.strikes } in
    left_later with.node with.domain m t.field (tries_from with spare begin t).field s (tries with spare begin t run_on can.keeps)
