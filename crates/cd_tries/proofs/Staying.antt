-- What the tries of a domain keep of a machine: its domain, script and carved ranges, the words and presence of its entries,
-- and all that lies outside of them.
use Rattle.std.proofs.Common.{◌≡◌, ℕ, zero, suc, ◌-◌, ◌<◌, Bool, true, false, ◌==◌, bit_and, List, [], ◌∷◌, drop, Some, All, arith, refl, ap, subst, sym, ◌∙◌}
use Rattle.std.proofs.lemmas.Bool.{cond-false, false_from_ne_true, or_left}
use Rattle.cd_base.specs.declared.place.Place.{Place}
use Rattle.cd_base.specs.Words.{Words, in_range, in_ranges, same_place, struck_word}
use Rattle.cd_tree.specs.declared.domain.NodeId.{NodeId}
use Rattle.cd_tree.specs.declared.domain.Entry.{Entry}
use Rattle.cd_tree.specs.declared.domain.Item.{Item}
use Rattle.cd_tree.specs.declared.domain.Item.TheVariants as item
use Rattle.cd_tree.specs.declared.domain.Domain.{Domain}
use Rattle.cd_tree.specs.declared.document.Fault.{Fault}
use Rattle.cd_tree.specs.declared.event.Event.{Event}
use Rattle.cd_tree.specs.declared.event.Event.TheVariants.{Halted, Found}
use Rattle.cd_tree.specs.declared.operation.Op.{Op}
use Rattle.cd_tree.specs.KindSets.{no_kinds, kinds_without}
use Rattle.cd_tree.specs.Meaning.{in_entries, LieIn}
use Rattle.cd_tree.specs.Operations.{op_writes, op_reads, op_meaning, column}
use Rattle.cd_tree.specs.Scripts.{words_struck}
use Rattle.cd_field.specs.FieldModel.{FieldModel, IsPresent, hits_at, reached_point, told, begun}
use Rattle.cd_kernel.specs.Computing.{computed}
use Rattle.cd_tries.specs.declared.points.Arrival.{Arrival}
use Rattle.cd_tries.specs.declared.points.Arrival.TheVariants as at
use Rattle.cd_tries.specs.declared.tries.Stop.{Stop}
use Rattle.cd_tries.specs.declared.tries.Stop.TheVariants.{Group, Passed, Failed, Broken}
use Rattle.cd_tries.specs.Fitting.{CanRun, HasWords, IsSound, ItemStays, StrikesWithin}
use Rattle.cd_tries.specs.Keeping.{KeepsFit}
use Rattle.cd_tries.specs.Refilling.{refilled_all}
use Rattle.cd_tries.specs.Running.{Run, Trial, Means, Tried, is_quiet, where_quiet, run_to, run_ends, halted, judged_at, tried_again, tries_from, comes_to, unless_failed, next_begin}
use Rattle.cd_tries.specs.TryLaws.{PutBack, Stays, PointsKeep, TriesKeep, TryingAgainKeeps}
use Rattle.cd_base.proofs.PlaceLemmas.{same_from, place-same}
use Rattle.cd_tries.proofs.Pointing.{hits_within, struck-known, meant-known}
use Rattle.cd_tries.proofs.Refilled.{putting_back}

-- a machine that can run keeps all that while nothing happens
pub stays_same : (id : NodeId) (domain : Domain) (m : FieldModel) → CanRun id domain m → Stays id domain m m
stays_same id domain m runs = record {
  node = runs.here;
  script = refl;
  carved = refl;
  words = λ p h. (runs.present p h).known;
  outside = λ p out. (refl, refl);
  present = runs.present;
}

pub stays_on : (id : NodeId) (domain : Domain) (m n o : FieldModel) → Stays id domain m n → Stays id domain n o → Stays id domain m o
stays_on id domain m n o first rest = record {
  node = rest.node;
  script = rest.script ∙ first.script;
  carved = rest.carved ∙ first.carved;
  words = rest.words;
  outside = λ p out.
      let one : (n.words p ≡ m.words p) × (n.lost p ≡ m.lost p) = first.outside p out in
      let more : (o.words p ≡ n.words p) × (o.lost p ≡ n.lost p) = rest.outside p out in
      (more.0 ∙ one.0, more.1 ∙ one.1);
  present = rest.present;
}

-- and still can run then
pub runs_still : (id : NodeId) (domain : Domain) (m n : FieldModel) → IsSound domain → StrikesWithin id domain.entries m.script
    → Stays id domain m n → CanRun id domain n
runs_still id domain m n sound strikes stays =
    let P : List Fault → Type 0 = λ script. StrikesWithin id domain.entries script in
    record {
      sound = sound;
      here = stays.node;
      present = stays.present;
      strikes = subst P (sym stays.script) strikes;
    }

-- one event more
stays_told : (id : NodeId) (domain : Domain) (m n : FieldModel) (event : Event) → Stays id domain m n → Stays id domain m (told n event)
stays_told id domain m n event stays = record {
  node = stays.node;
  script = stays.script;
  carved = stays.carved;
  words = stays.words;
  outside = stays.outside;
  present = λ p h. (let there : IsPresent n p = stays.present p h in record { known = there.known; here = there.here });
}

-- ---- points

-- a place that is struck by none of these faults keeps its word
pub struck-outside : (entries : List Entry) (faults : List Fault) (w : Words) (p : Place) → in_entries entries p ≡ false
    → All (λ (fault : Fault). (in_entries entries fault.place ≡ true) × (fault.kind.0 < 16)) faults
    → words_struck faults w p ≡ w p
struck-outside entries [] w p out within = refl
struck-outside entries (fault ∷ faults) w p out within =
    struck-outside entries faults (struck_word w fault.place fault.mask) p out
    (λ k d short. within (suc k) d (omega (arith, short)))
    ∙ cond-false (same_place fault.place p) _ (w p) (false_from_ne_true _ (λ t.
    let same : (fault.place.region ≡ p.region) × (fault.place.index ≡ p.index) = same_from fault.place p t in
    let inside : in_entries entries fault.place ≡ true = (within 0 fault (omega arith)).0 in
    let one : fault.place ≡ p = place-same fault.place p same.0 same.1 in
    let there : in_entries entries p ≡ true = subst (λ (q : Place). in_entries entries q ≡ true) one inside in
    cc))

-- an operation that stays within the entries leaves the words outside
pub meant-outside : (entries : List Entry) (op : Op) (w : Words) (p : Place) → in_entries entries p ≡ false
    → LieIn (in_ranges (op_writes op ∷ op_reads op)) (in_entries entries) → op_meaning op w p ≡ w p
meant-outside entries op w p out lies =
    cond-false (in_range (op_writes op) p) (Some (column op w (p.index - (op_writes op).low))) (w p) (false_from_ne_true _ (λ t.
    let there : in_entries entries p ≡ true = lies p (or_left (in_range (op_writes op) p) (in_ranges (op_reads op) p) t) in cc))

stays_reached : (id : NodeId) (domain : Domain) (m : FieldModel) (point : ℕ) → CanRun id domain m → Stays id domain m (reached_point m point)
stays_reached id domain m point runs = record {
  node = runs.here;
  script = refl;
  carved = refl;
  words = λ p h. struck-known (hits_at m point) m.words p (runs.present p h).known;
  outside = λ p out.
      (struck-outside domain.entries (hits_at m point) m.words p out (hits_within id domain.entries m point runs.here runs.strikes), refl);
  present = λ p h.
      let before : IsPresent m p = runs.present p h in
      record { known = struck-known (hits_at m point) m.words p before.known; here = before.here };
}

stays_computed : (id : NodeId) (domain : Domain) (m : FieldModel) (op : Op) → CanRun id domain m → ItemStays domain.entries (item.Run op)
    → Stays id domain m (computed m op)
stays_computed id domain m op runs within = record {
  node = runs.here;
  script = refl;
  carved = refl;
  words = λ p h. meant-known op m.words p (runs.present p h).known;
  outside = λ p out. (meant-outside domain.entries op m.words p out within.2, refl);
  present = λ p h.
      let before : IsPresent m p = runs.present p h in
      record { known = meant-known op m.words p before.known; here = before.here };
}

-- whether a kind halts or not
stays_quiet : (id : NodeId) (domain : Domain) (m now : FieldModel) (quiet : Bool) (next : FieldModel → Run) → Stays id domain m now
    → Stays id domain m (next now).field → Stays id domain m (where_quiet quiet now next).field
stays_quiet id domain m now true next here onward = onward
stays_quiet id domain m now false next here onward = here

pub stays_run : (id : NodeId) (domain : Domain) (halts point : ℕ) (items : List Item) (m : FieldModel) → CanRun id domain m
    → All (ItemStays domain.entries) items → Stays id domain m (run_to halts m point items).field
stays_run id domain halts point [] m runs within =
    let now : FieldModel = reached_point m point in
    let here : Stays id domain m now = stays_reached id domain m point runs in
    stays_quiet id domain m now (is_quiet halts now) (λ v. run_ends v at.End) here here
stays_run id domain halts point (item.Run op ∷ items) m runs within =
    let now : FieldModel = reached_point m point in
    let here : Stays id domain m now = stays_reached id domain m point runs in
    let can : CanRun id domain now = runs_still id domain m now runs.sound runs.strikes here in
    let ran : Stays id domain now (computed now op) = stays_computed id domain now op can (within 0 (item.Run op) (omega arith)) in
    let rest : Stays id domain (computed now op) (run_to halts (computed now op) (suc point) items).field =
    stays_run id domain halts (suc point) items (computed now op) (runs_still id domain now (computed now op) can.sound can.strikes ran)
    (λ k d short. within (suc k) d (omega (arith, short))) in
    stays_quiet id domain m now (is_quiet halts now) (λ v. run_to halts (computed v op) (suc point) items) here
    (stays_on id domain m now _ here (stays_on id domain now (computed now op) _ ran rest))
stays_run id domain halts point (item.Group ids ∷ items) m runs within =
    let now : FieldModel = reached_point m point in
    let here : Stays id domain m now = stays_reached id domain m point runs in
    stays_quiet id domain m now (is_quiet halts now) (λ v. run_ends v (at.Group point)) here here

-- ---- judging

stays_halted : (id : NodeId) (domain : Domain) (m n : FieldModel) (detects halts : ℕ) (declared : Bool) → Stays id domain m n
    → Stays id domain m (halted detects n halts declared).field
stays_halted id domain m n detects halts true stays =
    stays_told id domain m (told n (Halted n.node halts)) (Found n.node (bit_and n.notes detects)) (stays_told id domain m n (Halted n.node halts) stays)
stays_halted id domain m n detects halts false stays = stays_told id domain m n (Halted n.node halts) stays

stays_judged : (id : NodeId) (domain : Domain) (m n : FieldModel) (halts detects : ℕ) (arrival : Arrival) → Stays id domain m n
    → Stays id domain m (judged_at halts detects n arrival).field
stays_judged id domain m n halts detects (at.Group point) stays = stays
stays_judged id domain m n halts detects at.Halt stays =
    stays_halted id domain m n detects (bit_and n.notes halts) (kinds_without (bit_and n.notes halts) detects == no_kinds) stays
stays_judged id domain m n halts detects at.End stays = stays_told id domain m n (Found n.node (bit_and n.notes detects)) stays

all_dropped : {A : Type 0} (P : A → Type 0) (n : ℕ) (xs : List A) → All P xs → All P (drop n xs)
all_dropped {A} P zero xs all = all
all_dropped {A} P (suc n) [] all = all
all_dropped {A} P (suc n) (x ∷ xs) all = all_dropped P n xs (λ k d short. all (suc k) d (omega (arith, short)))

pub points_keep : PointsKeep
points_keep id domain halts point m runs within =
    let run : Run = run_to halts m point (drop point domain.items) in
    stays_judged id domain m run.field halts domain.detects run.arrival
    (stays_run id domain halts point (drop point domain.items) m runs
    (all_dropped (ItemStays domain.entries) point domain.items runs.sound.stays))

-- ---- tries

-- a domain that begins again and is put back can run
pub stays_refilled : (with : Means) (begin : ℕ) (m : FieldModel) → HasWords with.domain.entries m
    → KeepsFit with.known with.domain.entries with.keeps
    → Stays with.node with.domain m (refilled_all with.known with.domain.entries with.keeps (begun m with.node begin))
stays_refilled with begin m words fits =
    let n : FieldModel = begun m with.node begin in
    let o : FieldModel = refilled_all with.known with.domain.entries with.keeps n in
    let back : PutBack with.known with.domain.entries with.keeps n o = putting_back with.known with.domain.entries with.keeps n words fits in
    record {
      node = ap (λ (v : FieldModel). v.node) back.same;
      script = ap (λ (v : FieldModel). v.script) back.same;
      carved = ap (λ (v : FieldModel). v.carved) back.same;
      words = λ p h. (back.present p h).known;
      outside = back.outside;
      present = back.present;
    }

pub trying_again_keeps : TryingAgainKeeps
trying_again_keeps with begin m sound words strikes fits =
    let o : FieldModel = refilled_all with.known with.domain.entries with.keeps (begun m with.node begin) in
    let back : Stays with.node with.domain m o = stays_refilled with begin m words fits in
    stays_on with.node with.domain m o (tried_again with begin m).field back
    (points_keep with.node with.domain with.halts 0 o (runs_still with.node with.domain m o sound strikes back) (omega arith))

-- whatever stops a try, where the next keeps all that
stays_unless : (id : NodeId) (domain : Domain) (m : FieldModel) (stop : Stop) (here : Tried) (next : ℕ → Tried)
    → Stays id domain m here.field → ((kinds : ℕ) → Stays id domain m (next kinds).field)
    → Stays id domain m (unless_failed stop here next).field
stays_unless id domain m (Group point) here next stay onward = stay
stays_unless id domain m (Passed leak) here next stay onward = stay
stays_unless id domain m (Failed kinds) here next stay onward = onward kinds
stays_unless id domain m (Broken kinds over) here next stay onward = stay

pub tries_keep : TriesKeep
tries_keep with zero begin t runs fits = stays_same with.node with.domain t.field runs
tries_keep with (suc spare) begin t runs fits =
    let here : Stays with.node with.domain t.field t.field = stays_same with.node with.domain t.field runs in
    let again : Trial = tried_again with (next_begin begin) t.field in
    let one : Stays with.node with.domain t.field again.field =
    trying_again_keeps with (next_begin begin) t.field runs.sound here.words runs.strikes fits in
    stays_unless with.node with.domain t.field t.stop (comes_to (suc spare) begin t)
    (λ kinds. tries_from with spare (next_begin begin) again) here
    (λ kinds. stays_on with.node with.domain t.field again.field _ one
    (tries_keep with spare (next_begin begin) again (runs_still with.node with.domain t.field again.field runs.sound runs.strikes one) fits))
