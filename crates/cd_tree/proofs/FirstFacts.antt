-- The first items of a body, those behind them, and the words between.
use Rattle.std.proofs.Common.{◌≡◌, ℕ, zero, suc, ◌-◌, ◌≤◌, min, false, List, [], ◌∷◌, length, take, drop, Option, Some, IsSome, slice_get, refl, ap, sym, subst, ◌∙◌, arith, inl, inr}
use Rattle.std.proofs.lemmas.Bool.{or_left, or_right, or_cases}
use Rattle.cd_base.specs.declared.place.Place.{Place}
use Rattle.cd_base.specs.Words.{Words, PlaceSet, in_range, in_ranges}
use Rattle.cd_tree.specs.declared.domain.NodeId.{NodeId}
use Rattle.cd_tree.specs.declared.domain.Item.{Item}
use Rattle.cd_tree.specs.declared.domain.Item.TheVariants.{Run, Group}
use Rattle.cd_tree.specs.declared.operation.Op.{Op}
use Rattle.cd_tree.specs.Operations.{op_reads, op_writes, op_meaning}
use Rattle.cd_tree.specs.Domains.{Node, Body, Members, node, stop, run, group, domain_of, body_of, body_by, members_by, body_behind}
use Rattle.cd_tree.specs.Meaning.{in_entries, node_reads, body_reads, body_writes, body_meaning, member_reads, member_writes, members_meaning, LieIn, IsCovered}
use Rattle.cd_tree.specs.Locality.{SameWords, in_either, AllShapesFit, BodyShapesFit}
use Rattle.cd_tree.specs.FirstItems.{first_items, meaning_of_first, item_meaning, body_length, waiting_words, resumed_words, PartOf}
use Rattle.cd_tree.specs.Absorbing.{GiveMeanings, absorbed}
use Rattle.cd_tree.proofs.Reach.{body_keeps_words}
use Rattle.cd_tree.proofs.SameColumns.{operation_keeps_agreement}
use Rattle.cd_tree.proofs.SeesReads.{body_keeps, body_leaves, members_keep, entries_hold_reads}
use Rattle.cd_tree.proofs.Absorbs.{absorbing_is_meaning}

pub first_then_rest : (k : ℕ) (body : Body) (w : Words) → body_meaning (body_behind k body) (meaning_of_first k body w) ≡ body_meaning body w
first_then_rest zero body w = refl
first_then_rest (suc k) stop w = refl
first_then_rest (suc k) (run op rest) w = first_then_rest k rest (op_meaning op w)
first_then_rest (suc k) (group members rest) w = first_then_rest k rest (members_meaning members w w)

pub enough_are_all : (k : ℕ) (body : Body) (w : Words) → body_length body ≤ k → meaning_of_first k body w ≡ body_meaning body w
enough_are_all zero stop w few = refl
enough_are_all zero (run op rest) w few = absurd (omega arith)
enough_are_all zero (group members rest) w few = absurd (omega arith)
enough_are_all (suc k) stop w few = refl
enough_are_all (suc k) (run op rest) w few = enough_are_all k rest (op_meaning op w) (omega arith)
enough_are_all (suc k) (group members rest) w few = enough_are_all k rest (members_meaning members w w) (omega arith)

pub one_item_more : (k : ℕ) (body : Body) (w : Words)
    → meaning_of_first (suc k) body w ≡ item_meaning (body_behind k body) (meaning_of_first k body w)
one_item_more zero stop w = refl
one_item_more zero (run op rest) w = refl
one_item_more zero (group members rest) w = refl
one_item_more (suc k) stop w = refl
one_item_more (suc k) (run op rest) w = one_item_more k rest (op_meaning op w)
one_item_more (suc k) (group members rest) w = one_item_more k rest (members_meaning members w w)

pub run_comes_next : (k : ℕ) (body : Body) (op : Op) (rest : Body) (w : Words) → body_behind k body ≡ run op rest
    → op_meaning op (meaning_of_first k body w) ≡ meaning_of_first (suc k) body w
run_comes_next k body op rest w is =
    ap (λ (left : Body). item_meaning left (meaning_of_first k body w)) (sym is) ∙ sym (one_item_more k body w)

pub group_comes_next : (k : ℕ) (body : Body) (members : Members) (rest : Body) (w : Words) → body_behind k body ≡ group members rest
    → members_meaning members (meaning_of_first k body w) (meaning_of_first k body w) ≡ meaning_of_first (suc k) body w
group_comes_next k body members rest w is =
    ap (λ (left : Body). item_meaning left (meaning_of_first k body w)) (sym is) ∙ sym (one_item_more k body w)

pub one_item_less : (k : ℕ) (body : Body) → body_behind (suc k) body ≡ body_behind 1 (body_behind k body)
one_item_less zero body = refl
one_item_less (suc k) stop = refl
one_item_less (suc k) (run op rest) = one_item_less k rest
one_item_less (suc k) (group members rest) = one_item_less k rest

pub items_behind : (k : ℕ) (find : NodeId → Option Node) (items : List Item) → body_behind k (body_by find items) ≡ body_by find (drop k items)
items_behind zero find items = refl
items_behind (suc k) find [] = refl
items_behind (suc k) find (Run op ∷ items) = items_behind k find items
items_behind (suc k) find (Group ids ∷ items) = items_behind k find items

pub items_before : (k : ℕ) (find : NodeId → Option Node) (items : List Item) → first_items k (body_by find items) ≡ body_by find (take k items)
items_before zero find items = refl
items_before (suc k) find [] = refl
items_before (suc k) find (Run op ∷ items) = ap (run op) (items_before k find items)
items_before (suc k) find (Group ids ∷ items) = ap (group (members_by find ids)) (items_before k find items)

pub behind_is_run : (k : ℕ) (find : NodeId → Option Node) (items : List Item) (op : Op) → slice_get items k ≡ Some (Run op)
    → body_behind k (body_by find items) ≡ run op (body_behind (suc k) (body_by find items))
behind_is_run k find [] op is = absurd (cc)
behind_is_run zero find (item ∷ items) op is =
    let same : item ≡ Run op = cc in
    let P : Item → Type 0 = λ i. body_by find (i ∷ items) ≡ run op (body_behind 1 (body_by find (i ∷ items))) in
    subst P (sym same) refl
behind_is_run (suc k) find (Run other ∷ items) op is = behind_is_run k find items op is
behind_is_run (suc k) find (Group ids ∷ items) op is = behind_is_run k find items op is

pub behind_is_group : (k : ℕ) (find : NodeId → Option Node) (items : List Item) (ids : List NodeId) → slice_get items k ≡ Some (Group ids)
    → body_behind k (body_by find items) ≡ group (members_by find ids) (body_behind (suc k) (body_by find items))
behind_is_group k find [] ids is = absurd (cc)
behind_is_group zero find (item ∷ items) ids is =
    let same : item ≡ Group ids = cc in
    let P : Item → Type 0 = λ i. body_by find (i ∷ items) ≡ group (members_by find ids) (body_behind 1 (body_by find (i ∷ items))) in
    subst P (sym same) refl
behind_is_group (suc k) find (Run op ∷ items) ids is = behind_is_group k find items ids is
behind_is_group (suc k) find (Group others ∷ items) ids is = behind_is_group k find items ids is

pub behind_is_nothing : (k : ℕ) (find : NodeId → Option Node) (items : List Item) → length items ≤ k → body_behind k (body_by find items) ≡ stop
behind_is_nothing zero find [] few = refl
behind_is_nothing zero find (item ∷ items) few = absurd (omega arith)
behind_is_nothing (suc k) find [] few = refl
behind_is_nothing (suc k) find (Run op ∷ items) few = behind_is_nothing k find items (omega arith)
behind_is_nothing (suc k) find (Group ids ∷ items) few = behind_is_nothing k find items (omega arith)

pub length_of_items : (find : NodeId → Option Node) (items : List Item) → body_length (body_by find items) ≡ length items
length_of_items find [] = refl
length_of_items find (Run op ∷ items) = ap suc (length_of_items find items)
length_of_items find (Group ids ∷ items) = ap suc (length_of_items find items)

pub length_behind : (k : ℕ) (body : Body) → body_length (body_behind k body) ≡ body_length body - k
length_behind zero body = omega arith
length_behind (suc k) stop = omega arith
length_behind (suc k) (run op rest) = omega (arith, length_behind k rest)
length_behind (suc k) (group members rest) = omega (arith, length_behind k rest)

pub length_of_first : (k : ℕ) (body : Body) → body_length (first_items k body) ≡ min k (body_length body)
length_of_first zero body = omega arith
length_of_first (suc k) stop = omega arith
length_of_first (suc k) (run op rest) = omega (arith, length_of_first k rest)
length_of_first (suc k) (group members rest) = omega (arith, length_of_first k rest)

-- what lies in a part lies in the whole: the part comes second, or the parts come second behind the same first
in_second : (first part whole : PlaceSet) → LieIn part whole → LieIn part (in_either first whole)
in_second first part whole lies p h = or_right (first p) (whole p) (lies p h)

both_seconds : (first part whole : PlaceSet) → LieIn part whole → LieIn (in_either first part) (in_either first whole)
both_seconds first part whole lies p h =
    elim (or_cases (first p) (part p) h) [
      | inl here ↦ or_left (first p) (whole p) here
      | inr later ↦ or_right (first p) (whole p) (lies p later)
    ]

nothing_is_part : (whole : Body) → PartOf stop whole
nothing_is_part whole =
    record {
      reads = λ p h. absurd (cc);
      writes = λ p h. absurd (cc);
      shapes = λ fits. (tt, tt);
      covered = λ entries covered. tt;
      apart = λ apart. tt;
    }

whole_is_part : (whole : Body) → PartOf whole whole
whole_is_part whole =
    record {
      reads = λ p h. h;
      writes = λ p h. h;
      shapes = λ fits. fits;
      covered = λ entries covered. covered;
      apart = λ apart. apart;
    }

pub behind_are_part : (k : ℕ) (body : Body) → PartOf (body_behind k body) body
behind_are_part zero body = whole_is_part body
behind_are_part (suc k) stop = whole_is_part stop
behind_are_part (suc k) (run op rest) =
    let later : PartOf (body_behind k rest) rest = behind_are_part k rest in
    record {
      reads = in_second (in_ranges (op_reads op)) (body_reads (body_behind k rest)) (body_reads rest) later.reads;
      writes = in_second (in_range (op_writes op)) (body_writes (body_behind k rest)) (body_writes rest) later.writes;
      shapes = λ fits. later.shapes (fits.0.1, fits.1);
      covered = λ entries covered. later.covered entries covered.1;
      apart = later.apart;
    }
behind_are_part (suc k) (group members rest) =
    let later : PartOf (body_behind k rest) rest = behind_are_part k rest in
    record {
      reads = in_second (member_reads members) (body_reads (body_behind k rest)) (body_reads rest) later.reads;
      writes = in_second (member_writes members) (body_writes (body_behind k rest)) (body_writes rest) later.writes;
      shapes = λ fits. later.shapes (fits.0, fits.1.1);
      covered = λ entries covered. later.covered entries covered.1;
      apart = λ apart. later.apart apart.1;
    }

pub first_are_part : (k : ℕ) (body : Body) → PartOf (first_items k body) body
first_are_part zero body = nothing_is_part body
first_are_part (suc k) stop = whole_is_part stop
first_are_part (suc k) (run op rest) =
    let later : PartOf (first_items k rest) rest = first_are_part k rest in
    record {
      reads = both_seconds (in_ranges (op_reads op)) (body_reads (first_items k rest)) (body_reads rest) later.reads;
      writes = both_seconds (in_range (op_writes op)) (body_writes (first_items k rest)) (body_writes rest) later.writes;
      shapes = λ fits. (let more : BodyShapesFit (first_items k rest) = later.shapes (fits.0.1, fits.1) in ((fits.0.0, more.0), more.1));
      covered = λ entries covered. (covered.0, later.covered entries covered.1);
      apart = later.apart;
    }
first_are_part (suc k) (group members rest) =
    let later : PartOf (first_items k rest) rest = first_are_part k rest in
    record {
      reads = both_seconds (member_reads members) (body_reads (first_items k rest)) (body_reads rest) later.reads;
      writes = both_seconds (member_writes members) (body_writes (first_items k rest)) (body_writes rest) later.writes;
      shapes = λ fits. (let more : BodyShapesFit (first_items k rest) = later.shapes (fits.0, fits.1.1) in (more.0, (fits.1.0, more.1)));
      covered = λ entries covered. (covered.0, later.covered entries covered.1);
      apart = λ apart. (apart.0, later.apart apart.1);
    }

pub first_leave_others : (k : ℕ) (body : Body) (w : Words) (p : Place) → body_writes (first_items k body) p ≡ false
    → meaning_of_first k body w p ≡ w p
first_leave_others k body w p outside = body_leaves (first_items k body) w p outside

pub first_keep_words : (k : ℕ) (body : Body) (w : Words) (p : Place) → IsSome (w p) → IsSome (meaning_of_first k body w p)
first_keep_words k body w p some = body_keeps_words (first_items k body) w p some

pub first_keep_agreement : (k : ℕ) (body : Body) (places : PlaceSet) (v w : Words) → BodyShapesFit body
    → LieIn (body_reads (first_items k body)) places → SameWords places v w
    → SameWords (in_either places (body_writes (first_items k body))) (meaning_of_first k body v) (meaning_of_first k body w)
first_keep_agreement k body places v w fits reads same =
    let part : BodyShapesFit (first_items k body) = (first_are_part k body).shapes fits in
    body_keeps (first_items k body) places v w part.0 part.1 reads same

-- the body of a domain whose reads lie in some places
body_within : (d : Node) (places : PlaceSet) → LieIn (node_reads d) places → LieIn (body_reads (body_of d)) places
body_within (node id domain body) places reads p h = reads p (or_right (in_entries domain.entries p) (body_reads body p) h)

body_fits : (d : Node) → AllShapesFit d → BodyShapesFit (body_of d)
body_fits (node id domain body) fits = fits

pub first_agree_in_entries : (k : ℕ) (d : Node) (v w : Words) → AllShapesFit d → IsCovered d → SameWords (in_entries (domain_of d).entries) v w
    → SameWords (in_entries (domain_of d).entries) (meaning_of_first k (body_of d) v) (meaning_of_first k (body_of d) w)
first_agree_in_entries k d v w fits covered same p h =
    let entries : PlaceSet = in_entries (domain_of d).entries in
    first_keep_agreement k (body_of d) entries v w (body_fits d fits)
    (λ q r. body_within d entries (entries_hold_reads d covered) q ((first_are_part k (body_of d)).reads q r)) same
    p (or_left (entries p) (body_writes (first_items k (body_of d)) p) h)

-- words that agree in places that hold what a body reads agree there after its next item
item_keeps : (body : Body) (places : PlaceSet) (v w : Words) → BodyShapesFit body → LieIn (body_reads body) places → SameWords places v w
    → SameWords places (item_meaning body v) (item_meaning body w)
item_keeps stop places v w fits reads same p h = same p h
item_keeps (run op rest) places v w ((fits, own), below) reads same p h =
    operation_keeps_agreement op places v w fits (λ q r. reads q (or_left (in_ranges (op_reads op) q) (body_reads rest q) r)) same
    p (or_left (places p) (in_range (op_writes op) p) h)
item_keeps (group members rest) places v w (own, (here, below)) reads same p h =
    members_keep members places places v w v w here (λ q r. reads q (or_left (member_reads members q) (body_reads rest q) r)) same same
    p (or_left (places p) (member_writes members p) h)

pub next_item_agrees : (d : Node) (k : ℕ) (places : PlaceSet) (begun now : Words) → AllShapesFit d → LieIn (node_reads d) places
    → SameWords places now (meaning_of_first k (body_of d) begun)
    → SameWords places (item_meaning (body_behind k (body_of d)) now) (meaning_of_first (suc k) (body_of d) begun)
next_item_agrees d k places begun now fits reads same p h =
    let left : Body = body_behind k (body_of d) in
    let part : PartOf left (body_of d) = behind_are_part k (body_of d) in
    item_keeps left places now (meaning_of_first k (body_of d) begun) (part.shapes (body_fits d fits))
    (λ q r. body_within d places reads q (part.reads q r)) same p h
    ∙ sym (ap (λ (w : Words). w p) (one_item_more k (body_of d) begun))

pub members_resume : (d : Node) (k : ℕ) (members : Members) (rest : Body) (begun : Words) (given : List Words)
    → body_behind k (body_of d) ≡ group members rest → GiveMeanings members (waiting_words d k begun) given
    → absorbed members given (waiting_words d k begun) ≡ resumed_words d k begun
members_resume d k members rest begun given is give =
    absorbing_is_meaning members (waiting_words d k begun) (waiting_words d k begun) given give
    ∙ group_comes_next k (body_of d) members rest begun is

pub members_resume_in : (d : Node) (k : ℕ) (members : Members) (rest : Body) (places : PlaceSet) (begun now : Words) (given : List Words)
    → AllShapesFit d → LieIn (node_reads d) places → body_behind k (body_of d) ≡ group members rest
    → SameWords places now (waiting_words d k begun) → GiveMeanings members now given
    → SameWords places (absorbed members given now) (resumed_words d k begun)
members_resume_in d k members rest places begun now given fits reads is same give p h =
    ap (λ (w : Words). w p) (absorbing_is_meaning members now now given give)
    ∙ ap (λ (left : Body). item_meaning left now p) (sym is)
    ∙ next_item_agrees d k places begun now fits reads same p h
