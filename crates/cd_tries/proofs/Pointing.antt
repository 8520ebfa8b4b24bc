-- From point to point: what a machine that can run asks for, and what it keeps.
use Rattle.std.proofs.Common.{◌≡◌, ℕ, suc, ◌+◌, ◌-◌, ◌<◌, Bool, true, false, ◌&&◌, ◌==◌, List, [], ◌∷◌, get_or, Option, Some, IsSome, All, refl, ap, subst, sym, ◌∙◌, add-one, bit_xor, length}
use Rattle.std.proofs.lemmas.List.Elements.{All-filter, filter_passes}
use Rattle.std.proofs.lemmas.Bool.{and_parts, cond-false, cond-true, eqb-true}
use Rattle.cd_base.specs.declared.place.Place.{Place}
use Rattle.cd_base.specs.Words.{Words, in_range, word_at, same_place, struck_word}
use Rattle.cd_tree.specs.declared.domain.NodeId.{NodeId}
use Rattle.cd_tree.specs.declared.domain.Entry.{Entry}
use Rattle.cd_tree.specs.declared.domain.Item.{Item}
use Rattle.cd_tree.specs.declared.domain.Item.TheVariants as item
use Rattle.cd_tree.specs.declared.domain.Domain.{Domain}
use Rattle.cd_tree.specs.declared.document.Fault.{Fault}
use Rattle.cd_tree.specs.declared.operation.Op.{Op}
use Rattle.cd_tree.specs.Meaning.{in_entries}
use Rattle.cd_tree.specs.Operations.{op_writes, op_reads, op_meaning, column}
use Rattle.cd_tree.specs.Scripts.{strikes_at, words_struck}
use Rattle.cd_field.specs.FieldModel.{FieldModel, IsPresent, ArePresent, hits_at, reached_point}
use Rattle.cd_kernel.specs.Computing.{computed}
use Rattle.cd_tries.specs.declared.points.Arrival.TheVariants as at
use Rattle.cd_tries.specs.Fitting.{CanRun, ItemStays, StrikesWithin}
use Rattle.cd_tries.specs.Running.{is_quiet, where_quiet, run_to, run_ends}
use Rattle.cd_base.proofs.BoolLemmas.{by_test}

-- a strike leaves no place without a word
pub struck-known : (faults : List Fault) (w : Words) (p : Place) → IsSome (w p) → IsSome (words_struck faults w p)
struck-known [] w p known = known
struck-known (fault ∷ faults) w p known =
    struck-known faults (struck_word w fault.place fault.mask) p
    (let Q : Option ℕ → Type 0 = λ o. IsSome o in
    by_test (same_place fault.place p)
    (λ t. subst Q (sym (cond-true (same_place fault.place p) (Some (bit_xor (word_at w fault.place) fault.mask)) (w p) t)) refl)
    (λ f. subst Q (sym (cond-false (same_place fault.place p) (Some (bit_xor (word_at w fault.place) fault.mask)) (w p) f)) known))

-- nor does an operation
pub meant-known : (op : Op) (w : Words) (p : Place) → IsSome (w p) → IsSome (op_meaning op w p)
meant-known op w p known =
    let Q : Option ℕ → Type 0 = λ o. IsSome o in
    by_test (in_range (op_writes op) p)
    (λ t. subst Q (sym (cond-true (in_range (op_writes op) p) (Some (column op w (p.index - (op_writes op).low))) (w p) t)) refl)
    (λ f. subst Q (sym (cond-false (in_range (op_writes op) p) (Some (column op w (p.index - (op_writes op).low))) (w p) f)) known)

-- the faults that strike at a point strike in the entries, and have kinds
pub hits_within : (id : NodeId) (entries : List Entry) (m : FieldModel) (point : ℕ) → m.node ≡ id → StrikesWithin id entries m.script
    → All (λ (fault : Fault). (in_entries entries fault.place ≡ true) × (fault.kind.0 < 16)) (hits_at m point)
hits_within id entries m point here strikes k d short =
    let fault : Fault = get_or (hits_at m point) k d in
    let passes : strikes_at m.node m.begin point fault ≡ true =
    filter_passes (strikes_at m.node m.begin point) m.script k d short in
    let parts : (((fault.node.0 == m.node.0) && (fault.begin == m.begin)) ≡ true) × ((fault.item == point) ≡ true) = and_parts _ _ passes in
    let both : ((fault.node.0 == m.node.0) ≡ true) × ((fault.begin == m.begin) ≡ true) = and_parts _ _ parts.0 in
    All-filter (strikes_at m.node m.begin point)
    (λ (f : Fault). f.node.0 ≡ id.0 → (in_entries entries f.place ≡ true) × (f.kind.0 < 16)) m.script strikes k d short
    (eqb-true _ _ both.0 ∙ ap (λ (n : NodeId). n.0) here)

pub hits_present : (id : NodeId) (domain : Domain) (m : FieldModel) (point : ℕ) → CanRun id domain m
    → All (λ (fault : Fault). IsPresent m fault.place) (hits_at m point)
hits_present id domain m point runs k d short =
    runs.present _ (hits_within id domain.entries m point runs.here runs.strikes k d short).0

-- a machine that can run still can where node, script and what is away stay, and no word goes
runs_kept : (id : NodeId) (domain : Domain) (m n : FieldModel) → CanRun id domain m → n.node ≡ m.node → n.script ≡ m.script
    → ((p : Place) → n.lost p ≡ m.lost p) → ((p : Place) → IsSome (m.words p) → IsSome (n.words p)) → CanRun id domain n
runs_kept id domain m n runs node script lost known =
    let S : List Fault → Type 0 = λ faults. StrikesWithin id domain.entries faults in
    record {
      sound = runs.sound;
      here = node ∙ runs.here;
      present = λ p h. (let before : IsPresent m p = runs.present p h in record { known = known p before.known; here = lost p ∙ before.here });
      strikes = subst S (sym script) runs.strikes;
    }

pub runs_reached : (id : NodeId) (domain : Domain) (m : FieldModel) (point : ℕ) → CanRun id domain m → CanRun id domain (reached_point m point)
runs_reached id domain m point runs =
    runs_kept id domain m (reached_point m point) runs refl refl (λ p. refl) (λ p known. struck-known (hits_at m point) m.words p known)

pub runs_computed : (id : NodeId) (domain : Domain) (m : FieldModel) (op : Op) → CanRun id domain m → CanRun id domain (computed m op)
runs_computed id domain m op runs =
    runs_kept id domain m (computed m op) runs refl refl (λ p. refl) (λ p known. meant-known op m.words p known)

-- an operation of the domain finds all its places present
pub op_present : (id : NodeId) (domain : Domain) (m : FieldModel) (op : Op) → CanRun id domain m → ItemStays domain.entries (item.Run op)
    → ArePresent m (op_writes op ∷ op_reads op)
op_present id domain m op runs stays p h = runs.present p (stays.2 p h)

-- what the item at an index is, the domain's items are
pub item_stays : (entries : List Entry) (items list : List Item) (k : ℕ) (found one : Item) → All (ItemStays entries) items
    → k < length items → list ≡ items → found ≡ get_or list k found → found ≡ one → ItemStays entries one
item_stays entries items list k found one within short same at is =
    let P : Item → Type 0 = λ i. ItemStays entries i in
    subst P (ap (λ (is : List Item). get_or is k found) (sym same) ∙ sym at ∙ is) (within k found short)

-- ---- one point

-- where a noted kind halts, the try stops
pub stops_halted : (halts : ℕ) (m : FieldModel) (point : ℕ) (items : List Item) → is_quiet halts (reached_point m point) ≡ false
    → run_to halts m point items ≡ run_ends (reached_point m point) at.Halt
stops_halted halts m point [] e =
    ap (λ (b : Bool). where_quiet b (reached_point m point) (λ now. run_ends now at.End)) e
stops_halted halts m point (item.Run op ∷ items) e =
    ap (λ (b : Bool). where_quiet b (reached_point m point) (λ now. run_to halts (computed now op) (suc point) items)) e
stops_halted halts m point (item.Group ids ∷ items) e =
    ap (λ (b : Bool). where_quiet b (reached_point m point) (λ now. run_ends now (at.Group point))) e

-- after the last point it is at its end
pub stops_ended : (halts : ℕ) (m : FieldModel) (point : ℕ) → is_quiet halts (reached_point m point) ≡ true
    → run_to halts m point [] ≡ run_ends (reached_point m point) at.End
stops_ended halts m point e =
    ap (λ (b : Bool). where_quiet b (reached_point m point) (λ now. run_ends now at.End)) e

-- at a group it stops
pub stops_grouped : (halts : ℕ) (m : FieldModel) (point : ℕ) (ids : List NodeId) (items : List Item)
    → is_quiet halts (reached_point m point) ≡ true
    → run_to halts m point (item.Group ids ∷ items) ≡ run_ends (reached_point m point) (at.Group point)
stops_grouped halts m point ids items e =
    ap (λ (b : Bool). where_quiet b (reached_point m point) (λ now. run_ends now (at.Group point))) e

-- with an operation it goes on
pub goes_on : (halts : ℕ) (m : FieldModel) (point : ℕ) (op : Op) (items : List Item)
    → is_quiet halts (reached_point m point) ≡ true
    → run_to halts m point (item.Run op ∷ items) ≡ run_to halts (computed (reached_point m point) op) (point + 1) items
goes_on halts m point op items e =
    ap (λ (b : Bool). where_quiet b (reached_point m point) (λ now. run_to halts (computed now op) (suc point) items)) e
    ∙ ap (λ (n : ℕ). run_to halts (computed (reached_point m point) op) n items) (sym (add-one point))
