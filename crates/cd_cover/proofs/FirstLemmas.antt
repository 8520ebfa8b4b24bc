-- The first refusal, found one question at a time.
use Rattle.std.proofs.Common.{◌≡◌, ℕ, suc, ◌+◌, ◌<◌, ◌≤◌, true, false, List, [], ◌∷◌, Option, None, Some, is_some, IsSomeAnd, length, get_or, drop, slice_get, refl, sym, subst, inl, inr, add-one}
use Rattle.std.proofs.lemmas.List.{drop_more, drop_all}
use Rattle.cd_base.proofs.ListLemmas.{some_of, some_and, drop-found}
use Rattle.cd_tree.specs.declared.domain.NodeId.{NodeId}
use Rattle.cd_tree.specs.declared.domain.Entry.{Entry}
use Rattle.cd_tree.specs.declared.domain.Domain.{Domain}
use Rattle.cd_tree.specs.declared.refusal.Refusal.{Refusal}
use Rattle.cd_tree.specs.TreeModel.{TreeModel, IsTree}
use Rattle.cd_tree.specs.Domains.{Node, node, body_by, node_of}
use Rattle.cd_tree.specs.Laws.{NestedViewFollows}
use Rattle.cd_tree.specs.Refusals.{Then, FirstOf, numbered}
use Rattle.cd_cover.specs.Links.{Frame, frames_of}
use Rattle.cd_cover.specs.Checks.{CoverageOf, EntryOf, NumberedEntryOf, DomainOf}

pub then_hit : (First Second : Option Refusal → Type 0) (answer : Option Refusal) → is_some answer ≡ true → First answer → Then First Second answer
then_hit First Second None some h = absurd (cc)
then_hit First Second (Some r) some h = inl h

pub then_miss : (First Second : Option Refusal → Type 0) (answer : Option Refusal) → First None → Second answer → Then First Second answer
then_miss First Second None h k = (h, k)
then_miss First Second (Some r) h k = inr (h, k)

pub is_none : (answer : Option Refusal) → is_some answer ≡ false → answer ≡ None
is_none None none = refl
is_none (Some r) none = absurd (cc)

-- ---- entries

-- the first refusal among the entries from a number on is the first of all
pub record EntriesLeft (id : NodeId) (frames : List Frame) (at : ℕ) (left all : List Entry) : Type 0 where
  pub first : (answer : Option Refusal) → FirstOf (NumberedEntryOf id frames) (numbered at left) answer
      → FirstOf (NumberedEntryOf id frames) (numbered 0 all) answer

pub entries_all : (id : NodeId) (frames : List Frame) (all : List Entry) → EntriesLeft id frames 0 all all
entries_all id frames all = record { first = λ answer h. h }

entries_at : (id : NodeId) (frames : List Frame) (i : ℕ) (all : List Entry) (d : Entry) → i < length all
    → EntriesLeft id frames i (drop i all) all → EntriesLeft id frames i (get_or all i d ∷ drop (i + 1) all) all
entries_at id frames i all d within left = subst (λ (es : List Entry). EntriesLeft id frames i es all) (drop_more all i d within) left

pub entry_hit : (id : NodeId) (frames : List Frame) (i : ℕ) (all : List Entry) (d : Entry) (answer : Option Refusal) → i < length all
    → EntriesLeft id frames i (drop i all) all → EntryOf id frames i (get_or all i d).range (get_or all i d).how answer
    → is_some answer ≡ true → FirstOf (NumberedEntryOf id frames) (numbered 0 all) answer
entry_hit id frames i all d answer within left here some =
    let next = entries_at id frames i all d within left in
    next.first answer
    (then_hit (NumberedEntryOf id frames (i, get_or all i d)) (FirstOf (NumberedEntryOf id frames) (numbered (suc i) (drop (i + 1) all))) answer some here)

pub entry_miss : (id : NodeId) (frames : List Frame) (i : ℕ) (all : List Entry) (d : Entry) (flaw : Option Refusal) → i < length all
    → EntriesLeft id frames i (drop i all) all → EntryOf id frames i (get_or all i d).range (get_or all i d).how flaw
    → is_some flaw ≡ false → EntriesLeft id frames (i + 1) (drop (i + 1) all) all
entry_miss id frames i all d flaw within left here none =
    let next = entries_at id frames i all d within left in
    let clear : EntryOf id frames i (get_or all i d).range (get_or all i d).how None =
    subst (EntryOf id frames i (get_or all i d).range (get_or all i d).how) (is_none flaw none) here in
    subst (λ n. EntriesLeft id frames n (drop (i + 1) all) all) (sym (add-one i))
    (record {
      first = λ answer h.
          next.first answer
          (then_miss (NumberedEntryOf id frames (i, get_or all i d)) (FirstOf (NumberedEntryOf id frames) (numbered (suc i) (drop (i + 1) all))) answer clear h);
    })

pub entries_end : (id : NodeId) (frames : List Frame) (i : ℕ) (all : List Entry) → length all ≤ i
    → EntriesLeft id frames i (drop i all) all → FirstOf (NumberedEntryOf id frames) (numbered 0 all) None
entries_end id frames i all past left =
    let none : EntriesLeft id frames i [] all = subst (λ (es : List Entry). EntriesLeft id frames i es all) (drop_all i all past) left in
    none.first None refl

-- ---- domains

pub record DomainsLeft (domains : List Domain) (left all : List Node) : Type 0 where
  pub first : (answer : Option Refusal) → FirstOf (DomainOf domains) left answer → FirstOf (DomainOf domains) all answer

pub domains_all : (domains : List Domain) (all : List Node) → DomainsLeft domains all all
domains_all domains all = record { first = λ answer h. h }

pub domain_hit : (domains : List Domain) (i : ℕ) (all : List Node) (answer : Option Refusal)
    → IsSomeAnd (slice_get all i) (λ d. DomainOf domains d answer) → DomainsLeft domains (drop i all) all
    → is_some answer ≡ true → FirstOf (DomainOf domains) all answer
domain_hit domains i all answer here left some =
    let view = some_of (slice_get all i) (λ d. DomainOf domains d answer) here in
    let next : DomainsLeft domains (view.0 ∷ drop (i + 1) all) all =
    subst (λ (ds : List Node). DomainsLeft domains ds all) (drop-found all i view.0 view.1) left in
    next.first answer (then_hit (DomainOf domains view.0) (FirstOf (DomainOf domains) (drop (i + 1) all)) answer some view.2)

pub domain_miss : (domains : List Domain) (i : ℕ) (all : List Node) (flaw : Option Refusal)
    → IsSomeAnd (slice_get all i) (λ d. DomainOf domains d flaw) → DomainsLeft domains (drop i all) all
    → is_some flaw ≡ false → DomainsLeft domains (drop (i + 1) all) all
domain_miss domains i all flaw here left none =
    let view = some_of (slice_get all i) (λ d. DomainOf domains d flaw) here in
    let next : DomainsLeft domains (view.0 ∷ drop (i + 1) all) all =
    subst (λ (ds : List Node). DomainsLeft domains ds all) (drop-found all i view.0 view.1) left in
    let clear : DomainOf domains view.0 None = subst (DomainOf domains view.0) (is_none flaw none) view.2 in
    record {
      first = λ answer h.
          next.first answer (then_miss (DomainOf domains view.0) (FirstOf (DomainOf domains) (drop (i + 1) all)) answer clear h);
    }

pub domains_end : (domains : List Domain) (i : ℕ) (all : List Node) → length all ≤ i
    → DomainsLeft domains (drop i all) all → FirstOf (DomainOf domains) all None
domains_end domains i all past left =
    let none : DomainsLeft domains [] all = subst (λ (ds : List Node). DomainsLeft domains ds all) (drop_all i all past) left in
    none.first None refl

-- a domain whose entries leave nothing out
pub domain_clear : (tree : TreeModel) → IsTree tree → NestedViewFollows → (id : NodeId) (domain : Domain)
    → slice_get tree.domains id.0 ≡ Some domain → (entries : List Entry) → entries ≡ domain.entries
    → IsSomeAnd (node_of tree.domains id) (λ d. CoverageOf d None) → (answer : Option Refusal)
    → FirstOf (NumberedEntryOf id (frames_of tree.domains id)) (numbered 0 entries) answer
    → IsSomeAnd (node_of tree.domains id) (λ d. DomainOf tree.domains d answer)
domain_clear tree is views id domain there entries same covered answer first =
    let view : Node = node id domain (body_by (node_of tree.domains) domain.items) in
    let here : node_of tree.domains id ≡ Some view = views tree is id domain there in
    let clear : CoverageOf view None = subst (λ o. IsSomeAnd o (λ d. CoverageOf d None)) here covered in
    let Entries : List Entry → Type 0 = λ es. FirstOf (NumberedEntryOf id (frames_of tree.domains id)) (numbered 0 es) answer in
    some_and (node_of tree.domains id) (λ d. DomainOf tree.domains d answer) view here
    (then_miss (CoverageOf view) (FirstOf (NumberedEntryOf id (frames_of tree.domains id)) (numbered 0 domain.entries)) answer clear
    (subst Entries same first))
