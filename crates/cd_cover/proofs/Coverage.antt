-- What a domain's entries leave out, by the sets of its footprint.
use Rattle.std.proofs.Common.{◌≡◌, ◌<◌, Bool, true, false, not, ◌&&◌, ◌||◌, List, [], ◌∷◌, Option, None, Some, IsSomeAnd, length, All, map, slice_get, refl, sym, ap, ◌∙◌, subst}
use Rattle.std.proofs.lemmas.List.Elements.{All-nil, All-cons, All-head, All-tail}
use Rattle.cd_base.specs.declared.place.Place.{Place}
use Rattle.cd_base.specs.declared.place.Range.{Range}
use Rattle.cd_base.specs.Words.{in_range, in_ranges}
use Rattle.cd_base.specs.Places.{IsLeast, in_second_alone}
use Rattle.cd_base.proofs.ListLemmas.{some_of, some_and}
use Rattle.cd_base.proofs.LeastLemmas.{IsLeast-of}
use Rattle.cd_tree.specs.declared.domain.NodeId.{NodeId}
use Rattle.cd_tree.specs.declared.domain.Entry.{Entry}
use Rattle.cd_tree.specs.declared.domain.Domain.{Domain}
use Rattle.cd_tree.specs.Operations.{IsFull}
use Rattle.cd_tree.specs.TreeModel.{TreeModel, IsTree}
use Rattle.cd_tree.specs.Domains.{Node, Body, node, number_of, body_by, node_of}
use Rattle.cd_tree.specs.Meaning.{in_entries, body_reads, body_writes, node_reach, uncovered}
use Rattle.cd_tree.specs.Laws.{NestedViewFollows}
use Rattle.cd_tree.specs.declared.refusal.Refusal.TheVariants.{Uncovered}
use Rattle.cd_tree.proofs.View.{domain_here}
use Rattle.cd_foot.specs.declared.footprints.Foot.{Foot}
use Rattle.cd_foot.specs.Feet.{AreFeet}
use Rattle.cd_cover.specs.Checks.{CoverageOf}
use Rattle.cd_cover.proofs.Views.{view_number}

abbrev range_of : Entry → Range
range_of entry = entry.range

in_ranges-map : (entries : List Entry) (q : Place) → in_ranges (map range_of entries) q ≡ in_entries entries q
in_ranges-map [] q = refl
in_ranges-map (entry ∷ entries) q = ap (λ b. in_range entry.range q || b) (in_ranges-map entries q)

abbrev FullEntry : Entry → Type 0
FullEntry entry = IsFull entry.range

abbrev FullRange : Range → Type 0
FullRange range = range.low < range.high

full_map : (entries : List Entry) → All FullEntry entries → All FullRange (map range_of entries)
full_map [] full = All-nil FullRange
full_map (entry ∷ entries) full =
    All-cons FullRange entry.range (map range_of entries) (All-head FullEntry entry entries full)
    (full_map entries (All-tail FullEntry entry entries full))

pub full_ranges : (entries others : List Entry) (ranges : List Range) → others ≡ entries → ranges ≡ map range_of others → All FullEntry entries
    → All FullRange ranges
full_ranges entries others ranges same is full =
    let all : ranges ≡ map range_of entries = is ∙ ap (map range_of) same in
    subst (All FullRange) (sym all) (full_map entries full)

left_out : (e r w : Bool) → (((e || r) || w) && not e) ≡ ((r || w) && not e)
left_out true r w = both_false (r || w)
  where
    both_false : (b : Bool) → false ≡ (b && false)
    both_false true = refl
    both_false false = refl
left_out false r w = refl

pub least_uncovered : (tree : TreeModel) → IsTree tree → NestedViewFollows → (feet : List Foot) → AreFeet tree.domains feet
    → (id : NodeId) (domain : Domain) → slice_get tree.domains id.0 ≡ Some domain
    → (entries : List Entry) → entries ≡ domain.entries → (ranges : List Range) → ranges ≡ map range_of entries
    → (set : List Range) → ((q : Place) → in_ranges set q ≡ in_ranges ranges q)
    → (reach : List Range) → IsSomeAnd (slice_get feet id.0) (λ foot. reach ≡ foot.reach)
    → (found : Option Place) → IsLeast (in_second_alone set reach) found
    → IsSomeAnd (node_of tree.domains id) (λ d. IsLeast (uncovered d) found)
least_uncovered tree is views feet are id domain there entries same ranges rs set ss reach foot found least =
    let body : Body = body_by (node_of tree.domains) domain.items in
    let view : Node = node id domain body in
    let print = some_of (slice_get feet id.0) (λ foot. reach ≡ foot.reach) foot in
    let inside : (q : Place) → in_ranges set q ≡ in_entries domain.entries q =
    λ q.
    ss q ∙ ap (λ (xs : List Range). in_ranges xs q) (rs ∙ ap (map range_of) same) ∙ in_ranges-map domain.entries q in
    let reached : (q : Place) → in_ranges reach q ≡ node_reach view q =
    λ q.
    ap (λ (xs : List Range). in_ranges xs q) print.2
    ∙ (are.each id view print.0 (views tree is id domain there) print.1).reach q in
    some_and (node_of tree.domains id) (λ d. IsLeast (uncovered d) found) view (views tree is id domain there)
    (IsLeast-of (in_second_alone set reach) (uncovered view) found
    (λ q.
    ap (λ b. b && not (in_ranges set q)) (reached q)
    ∙ ap (λ b. node_reach view q && not b) (inside q)
    ∙ left_out (in_entries domain.entries q) (body_reads body q) (body_writes body q))
    least)

uncovered_place : (o : Option Node) (id : NodeId) (place : Place) → IsSomeAnd o (λ d. number_of d ≡ id.0)
    → IsSomeAnd o (λ d. IsLeast (uncovered d) (Some place)) → IsSomeAnd o (λ d. CoverageOf d (Some (Uncovered id place)))
uncovered_place None id place number least = least
uncovered_place (Some d) id place number least = (sym number, least)

-- the refusal of a domain whose entries leave a place out
pub uncovered_at : (domains : List Domain) (id : NodeId) (place : Place) → id.0 < length domains
    → IsSomeAnd (node_of domains id) (λ d. IsLeast (uncovered d) (Some place))
    → IsSomeAnd (node_of domains id) (λ d. CoverageOf d (Some (Uncovered id place)))
uncovered_at domains id place within least =
    let here = domain_here domains id.0 within in
    uncovered_place (node_of domains id) id place (view_number domains id here.0 here.1) least
