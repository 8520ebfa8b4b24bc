-- What a program weighs: the sum over its domains, so that its limits bound it; and from there how long its records are.
use Rattle.std.proofs.Common.{◌≡◌, ℕ, suc, ◌+◌, ◌*◌, ◌^◌, ◌<◌, ◌≤◌, List, [], ◌∷◌, ◌++◌, Some, length, slice_get, sum_by, refl, sym, ap, ◌∙◌, subst, arith, mul-le-mul}
use Rattle.std.specs.Option.{option_map_or}
use Rattle.std.proofs.lemmas.List.Sums.{sum_by-cons}
use Rattle.cd_tree.specs.declared.domain.NodeId.{NodeId}
use Rattle.cd_tree.specs.declared.domain.Domain.{Domain}
use Rattle.cd_tree.specs.Domains.{Node, Body, Members, node, stop, run, group, no_more, member, body_by, node_of, root_of, number_of, node_numbers, body_numbers, member_numbers, numbers_from, Throughout, ThroughoutBody, ThroughoutMembers}
use Rattle.cd_tree.specs.TreeModel.{TreeModel, IsTree}
use Rattle.cd_tree.specs.FirstItems.{body_length}
use Rattle.cd_tree.specs.Reading.{Told, NodeEnd, no_begins}
use Rattle.cd_tree.specs.Record.{case_of, reading, record_of}
use Rattle.cd_tree.specs.RecordLengths.{node_weight, body_weight, members_weight, weight_limit, WeightsAreSmall, RecordsGrowByEntries, RecordsAreShort}
use Rattle.cd_tree.proofs.EachDomain.{Behind, behind_view, from_each}
use Rattle.cd_tree.proofs.FirstFacts.{length_of_items}
use Rattle.cd_tree.proofs.RepeatsReading.{repeats-le-entries}
use Rattle.cd_tree.proofs.ShortReading.{events-le-weight}

-- what a domain weighs without those below it, by its lists and by its view
abbrev own_weight : Domain → ℕ
own_weight domain = 5 + 2 * length domain.entries + 3 * length domain.items

abbrev view_weight : Node → ℕ
view_weight (node id domain body) = 5 + 2 * length domain.entries + 3 * body_length body

-- the sum of f over some numbers
abbrev total : (ℕ → ℕ) → List ℕ → ℕ
total f [] = 0
total f (n ∷ ns) = f n + total f ns

total-append : (f : ℕ → ℕ) (ms ns : List ℕ) → total f (ms ++ ns) ≡ total f ms + total f ns
total-append f [] ns = omega arith
total-append f (m ∷ ms) ns = omega (arith, total-append f ms ns)

-- f says of each number what its domain weighs
abbrev Weighs : (ℕ → ℕ) → Node → Type 0
Weighs f d = view_weight d ≡ f (number_of d)

mutual
  -- a domain weighs what it and all below it weigh each
  node_total : (f : ℕ → ℕ) (d : Node) → Throughout (Weighs f) d → node_weight d ≡ total f (node_numbers d)
  node_total f (node id domain body) (here, below) = omega (arith, body_total f body below, here)

  body_total : (f : ℕ → ℕ) (body : Body) → ThroughoutBody (Weighs f) body
      → body_weight body ≡ 3 + 3 * body_length body + total f (body_numbers body)
  body_total f stop below = refl
  body_total f (run op rest) below = omega (arith, body_total f rest below)
  body_total f (group members rest) (here, below) =
      omega (arith, members_total f members here, body_total f rest below, total-append f (member_numbers members) (body_numbers rest))

  members_total : (f : ℕ → ℕ) (members : Members) → ThroughoutMembers (Weighs f) members
      → members_weight members ≡ total f (member_numbers members)
  members_total f no_more below = refl
  members_total f (member first rest) (here, below) =
      omega (arith, node_total f first here, members_total f rest below, total-append f (node_numbers first) (member_numbers rest))

abbrev items_in : List Domain → ℕ
items_in domains = sum_by (λ (domain : Domain). length domain.items) domains

abbrev entries_in : List Domain → ℕ
entries_in domains = sum_by (λ (domain : Domain). length domain.entries) domains

-- the domains of a list weigh what their numbers, their items and their entries come to
list_total : (f : ℕ → ℕ) (at : ℕ) (domains : List Domain)
    → ((k : ℕ) (domain : Domain) → slice_get domains k ≡ Some domain → f (at + k) ≡ own_weight domain)
    → total f (numbers_from at (length domains)) ≡ 5 * length domains + 3 * items_in domains + 2 * entries_in domains
list_total f at [] each = refl
list_total f at (domain ∷ domains) each =
    let here : f at ≡ own_weight domain = ap f (omega arith) ∙ each 0 domain refl in
    let later : (k : ℕ) (other : Domain) → slice_get domains k ≡ Some other → f (suc at + k) ≡ own_weight other =
    λ k other found. ap f (omega arith) ∙ each (suc k) other found in
    omega (
      arith,
      here,
      list_total f (suc at) domains later,
      sum_by-cons (λ (d : Domain). length d.items) domain domains,
      sum_by-cons (λ (d : Domain). length d.entries) domain domains,
    )

abbrev weight_at : List Domain → ℕ → ℕ
weight_at domains n = option_map_or own_weight (slice_get domains n) 0

-- the view of a domain weighs what the domain's lists say
weighs_own : (tree : TreeModel) → IsTree tree → (id : NodeId) (d : Node) → node_of tree.domains id ≡ Some d
    → Weighs (weight_at tree.domains) d
weighs_own tree is id d found =
    let b : Behind tree.domains id d = behind_view tree is id d found in
    let view : Node = node id b.domain (body_by (node_of tree.domains) b.domain.items) in
    let long : body_length (body_by (node_of tree.domains) b.domain.items) ≡ length b.domain.items =
    length_of_items (node_of tree.domains) b.domain.items in
    let there : weight_at tree.domains id.0 ≡ own_weight b.domain = ap (λ o. option_map_or own_weight o 0) b.there in
    subst (Weighs (weight_at tree.domains)) (sym b.view) (omega (arith, long, there))

pub weights_are_small : WeightsAreSmall
weights_are_small tree is =
    let f : ℕ → ℕ = weight_at tree.domains in
    let whole : node_weight (root_of tree.domains) ≡ total f (node_numbers (root_of tree.domains)) =
    node_total f (root_of tree.domains) (from_each tree is (Weighs f) (weighs_own tree is)) in
    let numbers : total f (node_numbers (root_of tree.domains)) ≡ total f (numbers_from 0 (length tree.domains)) =
    ap (total f) is.preorder in
    let each : (k : ℕ) (domain : Domain) → slice_get tree.domains k ≡ Some domain → f (0 + k) ≡ own_weight domain =
    λ k domain found.
    let same : f (0 + k) ≡ f k = ap f (omega arith) in
    same ∙ ap (λ o. option_map_or own_weight o 0) found in
    let sums : total f (numbers_from 0 (length tree.domains))
    ≡ 5 * length tree.domains + 3 * items_in tree.domains + 2 * entries_in tree.domains =
    list_total f 0 tree.domains each in
    omega (arith, whole, numbers, sums, is.few, is.items, is.preserves)

pub records_grow_by_entries : RecordsGrowByEntries
records_grow_by_entries tree faults is =
    let t : Told NodeEnd = reading tree faults in
    let most : length (record_of tree faults) ≤ node_weight (root_of tree.domains) * (1 + t.past.repeats) =
    events-le-weight (case_of tree faults) (root_of tree.domains) no_begins in
    let repeats : t.past.repeats ≤ length faults = repeats-le-entries tree faults in
    let product : node_weight (root_of tree.domains) * (1 + t.past.repeats) ≤ weight_limit * (1 + length faults) =
    mul-le-mul (weights_are_small tree is) (omega arith) in
    omega arith

pub records_are_short : RecordsAreShort
records_are_short tree faults is accepted =
    let few : length faults < 2 ^ 32 = accepted.few in
    let most : length (record_of tree faults) ≤ weight_limit * (1 + length faults) = records_grow_by_entries tree faults is in
    omega arith
