-- The ranges of all entries of a subtree are read by the domain at its top.
use Rattle.std.proofs.Common.{◌≡◌, inl, inr, ℕ, zero, suc, true, List, [], ◌∷◌, Option, None, Some, slice_get, refl, sym, ap, ◌∙◌, subst}
use Rattle.std.specs.Option.{option_and_then}
use Rattle.std.specs.List.{Contains}
use Rattle.std.proofs.lemmas.Bool.{or_left, or_right}
use Rattle.std.proofs.lemmas.Option.{same_Some}
use Rattle.cd_base.specs.declared.place.Place.{Place}
use Rattle.cd_base.specs.Words.{in_range, in_ranges}
use Rattle.cd_tree.specs.declared.domain.NodeId.{NodeId}
use Rattle.cd_tree.specs.declared.domain.Item.{Item}
use Rattle.cd_tree.specs.declared.domain.Item.TheVariants.{Run, Group}
use Rattle.cd_tree.specs.declared.domain.Entry.{Entry}
use Rattle.cd_tree.specs.declared.domain.Domain.{Domain}
use Rattle.cd_tree.specs.Operations.{op_reads}
use Rattle.cd_tree.specs.TreeModel.{FitsItems, NamesChildren}
use Rattle.cd_tree.specs.Domains.{Node, Members, put_first, members_by, body_by, node_of, node_numbers}
use Rattle.cd_tree.specs.Meaning.{in_entries, node_reads, body_reads, member_reads}
use Rattle.cd_cover.specs.OuterLaws.{EntriesAreRead}
use Rattle.cd_cover.proofs.Downward.{Known, known_of, view_in, domain_behind, Child, child_of_group, downward, contains_first, contains_cases, contains_none, IsNamed, numbers_cases}

in_own : (entries : List Entry) (k : ℕ) (entry : Entry) (p : Place) → slice_get entries k ≡ Some entry → in_range entry.range p ≡ true
    → in_entries entries p ≡ true
in_own [] k entry p is inside = absurd (cc)
in_own (first ∷ entries) zero entry p is inside =
    let same : first ≡ entry = cc in
    or_left (in_range first.range p) (in_entries entries p) (ap (λ (e : Entry). in_range e.range p) same ∙ inside)
in_own (first ∷ entries) (suc k) entry p is inside = or_right (in_range first.range p) (in_entries entries p) (in_own entries k entry p is inside)

group_reads : (domains : List Domain) → Known domains → (at : ℕ) (ids : List NodeId) → NamesChildren domains at ids
    → (id : NodeId) (domain : Domain) → slice_get domains id.0 ≡ Some domain → Contains ids id → (p : Place)
    → node_reads (view_in domains id domain) p ≡ true → member_reads (members_by (node_of domains) ids) p ≡ true
group_reads domains all at [] named id domain there among p reads = absurd (contains_none id among)
group_reads domains all at (first ∷ ids) named id domain there among p reads =
    let child : Child domains at first = child_of_group domains at (first ∷ ids) named first (contains_first first ids) in
    let view : Node = view_in domains first child.domain in
    let rest : Members = members_by (node_of domains) ids in
    ap (λ (o : Option Node). member_reads (put_first o rest) p) (all.view first child.domain child.there)
    ∙ elim (contains_cases first ids id among) [
      | inl same ↦
          let seen : Some view ≡ Some (view_in domains id domain) =
          sym (all.view first child.domain child.there) ∙ ap (node_of domains) same ∙ all.view id domain there in
          or_left (node_reads view p) (member_reads rest p)
          (ap (λ (d : Node). node_reads d p) (same_Some view (view_in domains id domain) seen) ∙ reads)
      | inr later ↦ or_right (node_reads view p) (member_reads rest p) (group_reads domains all at ids named.2 id domain there later p reads)
    ]

items_read : (domains : List Domain) → Known domains → (at : ℕ) (items : List Item) → FitsItems domains at items
    → (id : NodeId) (domain : Domain) → slice_get domains id.0 ≡ Some domain → IsNamed id items → (p : Place)
    → node_reads (view_in domains id domain) p ≡ true → body_reads (body_by (node_of domains) items) p ≡ true
items_read domains all at [] fits id domain there named p reads = absurd named
items_read domains all at (Run op ∷ items) fits id domain there named p reads =
    or_right (in_ranges (op_reads op) p) (body_reads (body_by (node_of domains) items) p)
    (items_read domains all at items fits.2 id domain there named p reads)
items_read domains all at (Group ids ∷ items) fits id domain there (inl here) p reads =
    or_left (member_reads (members_by (node_of domains) ids) p) (body_reads (body_by (node_of domains) items) p)
    (group_reads domains all at ids fits.2 id domain there here p reads)
items_read domains all at (Group ids ∷ items) fits id domain there (inr later) p reads =
    or_right (member_reads (members_by (node_of domains) ids) p) (body_reads (body_by (node_of domains) items) p)
    (items_read domains all at items fits.3 id domain there later p reads)

reads_below : (domains : List Domain) → Known domains → (id : NodeId) (domain : Domain) → slice_get domains id.0 ≡ Some domain
    → (below : NodeId) (last : Domain) → slice_get domains below.0 ≡ Some last → Contains (node_numbers (view_in domains id domain)) below.0
    → (k : ℕ) (entry : Entry) → slice_get last.entries k ≡ Some entry → (p : Place) → in_range entry.range p ≡ true
    → node_reads (view_in domains id domain) p ≡ true
reads_below domains all =
    downward domains
    (λ id domain.
    (below : NodeId) (last : Domain) → slice_get domains below.0 ≡ Some last → Contains (node_numbers (view_in domains id domain)) below.0
    → (k : ℕ) (entry : Entry) → slice_get last.entries k ≡ Some entry → (p : Place) → in_range entry.range p ≡ true
    → node_reads (view_in domains id domain) p ≡ true)
    (λ id domain there rest below last here among k entry is p inside.
    elim (numbers_cases domains all id domain there below.0 among) [
      | inl same ↦
          let found : Some domain ≡ Some last = sym there ∙ ap (slice_get domains) same ∙ here in
          or_left (in_entries domain.entries p) (body_reads (body_by (node_of domains) domain.items) p)
          (in_own domain.entries k entry p (ap (λ (d : Domain). slice_get d.entries k) (same_Some domain last found) ∙ is) inside)
      | inr child ↦
          or_right (in_entries domain.entries p) (body_reads (body_by (node_of domains) domain.items) p)
          (items_read domains all id.0 domain.items (all.fits id domain there) child.id child.child.domain child.child.there child.named p
          (rest child.id child.child.domain child.child.later child.child.there below last here child.among k entry is p inside))
    ])

pub entries_are_read : EntriesAreRead
entries_are_read tree is id below d at entry found among here p inside =
    let all : Known tree.domains = known_of tree is in
    let top = domain_behind tree.domains id d found in
    let last = entry_in (slice_get tree.domains below.0) here in
    ap (λ (v : Node). node_reads v p) (top.2 all)
    ∙ reads_below tree.domains all id top.0 top.1 below last.0 last.1 (subst (λ (v : Node). Contains (node_numbers v) below.0) (top.2 all) among) at
    entry last.2 p inside
  where
    entry_in : (o : Option Domain) → option_and_then (λ (domain : Domain). slice_get domain.entries at) o ≡ Some entry
        → (domain : Domain) × (o ≡ Some domain) × (slice_get domain.entries at ≡ Some entry)
    entry_in None is_there = absurd (cc)
    entry_in (Some domain) is_there = (domain, refl, is_there)
