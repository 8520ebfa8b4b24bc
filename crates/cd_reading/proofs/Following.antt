-- What each step of the walk needs and gives, as its answers cite it.
use Rattle.std.proofs.Common.{◌≡◌, ℕ, zero, suc, ◌+◌, ◌-◌, ◌<◌, ◌≤◌, ◌^◌, Bool, true, false, cond, List, [], ◌∷◌, Option, Some, length, drop, get_or, set, slice_get, slice_index, refl, sym, ap, ◌∙◌, subst, arith}
use Rattle.std.proofs.lemmas.Bool.{eq-eqb}
use Rattle.std.proofs.lemmas.List.{at_drop_more, drop_all}
use Rattle.cd_base.proofs.ListLemmas.{drop-read}
use Rattle.cd_tree.specs.KindSets.{no_kinds}
use Rattle.cd_tree.specs.declared.domain.NodeId.{NodeId}
use Rattle.cd_tree.specs.declared.domain.Domain.{Domain}
use Rattle.cd_tree.specs.declared.domain.Item.{Item}
use Rattle.cd_tree.specs.declared.domain.Item.TheVariants.{Run, Group}
use Rattle.cd_tree.specs.TreeModel.{TreeModel, IsTree, FitsItems, NamesChildren}
use Rattle.cd_tree.specs.Domains.{Node, Body, members_by, body_by, node_of}
use Rattle.cd_tree.specs.Laws.{NestedViewFollows}
use Rattle.cd_tree.specs.Reading.{Case, Counts, counted, Told, TryEnd, NodeEnd, GroupEnd, Try, tries, read_node, read_points, read_members, read_try}
use Rattle.cd_reading.specs.Steps.{quiet}
use Rattle.cd_reading.specs.Walk.{the_node, listed, AreCounts, item_counts}
use Rattle.cd_reading.proofs.Quiet.{TriesLeft, tries_all}
use Rattle.cd_reading.proofs.Rises.{Rises, rises_on, counted_rises, tries_rise, try_rises}
use Rattle.cd_reading.proofs.Walking.{PointsLeft, MembersLeft, view_is, counts_same, counts_below, count_set}

-- ---- items

pub group_named : (domains : List Domain) (at : ℕ) (item : Item) (ids own : List NodeId) → item ≡ Group ids → own ≡ ids
    → FitsItems domains at (item ∷ []) → NamesChildren domains at own
group_named domains at item ids own is same fits =
    subst (NamesChildren domains at) (sym same) (subst (λ (i : Item). FitsItems domains at (i ∷ [])) is fits).2

pub group_few : (w : Case) (find : NodeId → Option Node) (item : Item) (ids own : List NodeId) (counts : Counts) → item ≡ Group ids → own ≡ ids
    → AreCounts (item_counts w find item counts) → AreCounts (read_members w (members_by find own) counts).counts
group_few w find item ids own counts is same few =
    subst (λ (is : List NodeId). AreCounts (read_members w (members_by find is) counts).counts) (sym same)
    (subst (λ (i : Item). AreCounts (item_counts w find i counts)) is few)

one_fits : (domains : List Domain) (at : ℕ) (item : Item) (items : List Item) → FitsItems domains at (item ∷ items) → FitsItems domains at (item ∷ [])
one_fits domains at (Run op) items fits = (fits.0, fits.1, tt)
one_fits domains at (Group ids) items fits = (fits.0, fits.1, fits.2, tt)

rest_fits : (domains : List Domain) (at : ℕ) (item : Item) (items : List Item) → FitsItems domains at (item ∷ items) → FitsItems domains at items
rest_fits domains at (Run op) items fits = fits.2
rest_fits domains at (Group ids) items fits = fits.3

pub item_fits : (domains : List Domain) (at : ℕ) (items : List Item) (i : ℕ) (item : Item) → i < length items → item ≡ get_or items i item
    → FitsItems domains at items → FitsItems domains at (item ∷ [])
item_fits domains at [] i item within is fits = absurd (omega arith)
item_fits domains at (x ∷ xs) zero item within is fits =
    subst (λ (y : Item). FitsItems domains at (y ∷ [])) (sym is) (one_fits domains at x xs fits)
item_fits domains at (x ∷ xs) (suc i) item within is fits = item_fits domains at xs i item (omega arith) is (rest_fits domains at x xs fits)

-- ---- the next of a list

pub points_next : (w : Case) (find : NodeId → Option Node) (h : Try) (notes : ℕ) (counts : Counts) (items : List Item) (i : ℕ) (item : Item)
    (whole : Told TryEnd) → i < length items → item ≡ get_or items i item → PointsLeft w find h i notes counts (drop i items) whole
    → PointsLeft w find h i notes counts (item ∷ drop (i + 1) items) whole
points_next w find h notes counts items i item whole within is left =
    subst (λ (xs : List Item). PointsLeft w find h i notes counts xs whole) (drop-read items i item within is) left

pub points_none : (w : Case) (find : NodeId → Option Node) (h : Try) (notes : ℕ) (counts : Counts) (items : List Item) (i : ℕ)
    (whole : Told TryEnd) → length items ≤ i → i ≤ length items → PointsLeft w find h i notes counts (drop i items) whole
    → PointsLeft w find h (length items) notes counts [] whole
points_none w find h notes counts items i whole past within left =
    subst (λ (n : ℕ). PointsLeft w find h n notes counts [] whole) (let same : i ≡ length items = omega arith in same)
    (subst (λ (xs : List Item). PointsLeft w find h i notes counts xs whole) (drop_all i items past) left)

abbrev pub no_id : NodeId
no_id = record { 0 = 0 }

pub members_next : (w : Case) (domains : List Domain) (at : ℕ) (so : GroupEnd) (counts : Counts) (ids : List NodeId) (i : ℕ) (whole : Told GroupEnd)
    → i < length ids → MembersLeft w domains at so counts (drop i ids) whole
    → MembersLeft w domains at so counts (get_or ids i no_id ∷ drop (i + 1) ids) whole
members_next w domains at so counts ids i whole within left =
    subst (λ (xs : List NodeId). MembersLeft w domains at so counts xs whole) (at_drop_more (λ (xs : List NodeId). xs) ids i no_id within) left

pub members_none : (w : Case) (domains : List Domain) (at : ℕ) (so : GroupEnd) (counts : Counts) (ids : List NodeId) (i : ℕ) (whole : Told GroupEnd)
    → length ids ≤ i → MembersLeft w domains at so counts (drop i ids) whole → MembersLeft w domains at so counts [] whole
members_none w domains at so counts ids i whole past left =
    subst (λ (xs : List NodeId). MembersLeft w domains at so counts xs whole) (drop_all i ids past) left

-- ---- tries

pub tries_begin : (w : Case) (tree : TreeModel) → IsTree tree → NestedViewFollows → (id : NodeId) (domain : Domain) (now : Counts)
    → slice_get tree.domains id.0 ≡ Some domain
    → TriesLeft w id domain (body_by (node_of tree.domains) domain.items) (domain.retry - 1) now (read_node w (the_node tree.domains id) now)
tries_begin w tree is views id domain now there =
    subst (λ (d : Node). TriesLeft w id domain (body_by (node_of tree.domains) domain.items) (domain.retry - 1) now (read_node w d now))
    (sym (view_is tree is views id domain there))
    (tries_all w id domain (body_by (node_of tree.domains) domain.items) now)

-- the counts behind a try fit, since those of the whole do
pub try_few : (w : Case) (id : NodeId) (domain : Domain) (body : Body) (spare : ℕ) (now : Counts) (whole : Told NodeEnd) → AreCounts whole.counts
    → TriesLeft w id domain body spare now whole → AreCounts (read_try w id domain body true now).counts
try_few w id domain body spare now whole few left =
    let again : Counts → Told TryEnd = λ m. read_try w id domain body false m in
    let t : Told TryEnd = read_try w id domain body true now in
    let all : Counts = (tries spare id domain again t).counts in
    counts_below t.counts all
    (tries_rise spare id domain again t
    (λ m. rises_on m (counted id.0 m) (again m).counts (counted_rises id.0 m) (try_rises w id domain body false m)))
    (counts_same all whole.counts (ap (λ (p : Counts × NodeEnd). p.0) left.same) few)

-- ---- a begin

pub own_counted : (n : ℕ) (counts : Counts) → counted n counts n ≡ counts n + 1
own_counted n counts = ap (λ (b : Bool). cond b (counts n + 1) (counts n)) (eq-eqb n n refl)

pub begin_few : (w : Case) (id : NodeId) (domain : Domain) (body : Body) (counts : List ℕ)
    → AreCounts (read_try w id domain body true (listed counts)).counts → slice_index counts id.0 + 1 < 2 ^ 64
begin_few w id domain body counts few =
    let rises : Rises (counted id.0 (listed counts)) (read_try w id domain body true (listed counts)).counts = try_rises w id domain body true (listed counts) in
    let less : counted id.0 (listed counts) id.0 ≤ (read_try w id domain body true (listed counts)).counts id.0 = rises.each id.0 in
    let most : (read_try w id domain body true (listed counts)).counts id.0 < 2 ^ 64 = few id.0 in
    let own : counted id.0 (listed counts) id.0 ≡ slice_index counts id.0 + 1 = own_counted id.0 (listed counts) in
    omega arith

-- a try is its points, with the begin counted
pub try_read : (w : Case) (find : NodeId → Option Node) (id : NodeId) (domain : Domain) (items : List Item) (counts now : List ℕ) (begin : ℕ)
    → id.0 < length counts → begin ≡ slice_index counts id.0 + 1 → now ≡ set counts id.0 begin → items ≡ domain.items
    → quiet (read_try w id domain (body_by find domain.items) true (listed counts))
    ≡ quiet (read_points w (body_by find items) (record { node = id; detects = domain.detects; begin = begin }) 0 no_kinds (listed now))
try_read w find id domain items counts now begin within is now_is items_are =
    let read : List Item → ℕ → Counts → Counts × TryEnd =
    λ xs b m. quiet (read_points w (body_by find xs) (record { node = id; detects = domain.detects; begin = b }) 0 no_kinds m) in
    let at : listed now ≡ counted id.0 (listed counts) = ap listed now_is ∙ count_set counts id.0 begin within is in
    sym (ap (λ (m : Counts). read domain.items (slice_index counts id.0 + 1) m) at)
    ∙ sym (ap (λ (b : ℕ). read domain.items b (listed now)) is)
    ∙ sym (ap (λ (xs : List Item). read xs begin (listed now)) items_are)

pub try_counts : (a b : Told TryEnd) → quiet a ≡ quiet b → AreCounts a.counts → AreCounts b.counts
try_counts a b same few = counts_same b.counts a.counts (ap (λ (p : Counts × TryEnd). p.0) (sym same)) few
