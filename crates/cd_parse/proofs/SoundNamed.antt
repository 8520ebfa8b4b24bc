-- All that a draft names is there: the changes of a draft keep it so.
use Rattle.std.proofs.Common.{◌≡◌, ℕ, zero, suc, ◌+◌, ◌<◌, true, List, [], ◌∷◌, ◌++◌, Option, None, Some, length, slice_index_or, refl, sym, subst, arith, All}
use Rattle.std.proofs.lemmas.List.Elements.{All-head, All-tail, All-cons, All-nil, All-append}
use Rattle.cd_tree.specs.declared.document.Region.{Region}
use Rattle.cd_tree.specs.declared.document.RawFault.{RawFault}
use Rattle.cd_tree.specs.declared.domain.NodeId.{NodeId}
use Rattle.cd_tree.specs.declared.domain.Entry.{Entry}
use Rattle.cd_tree.specs.declared.domain.Item.{Item}
use Rattle.cd_tree.specs.declared.domain.Item.TheVariants.{Run, Group}
use Rattle.cd_tree.specs.declared.domain.Domain.{Domain}
use Rattle.cd_tree.specs.declared.kinds.KindName.{KindName}
use Rattle.cd_tree.specs.declared.operation.Op.{Op}
use Rattle.cd_tree.specs.Operations.{op_reads, op_writes}
use Rattle.cd_parse.specs.declared.draft.Stage.{Stage}
use Rattle.cd_parse.specs.declared.draft.Stage.TheVariants.{Kinds, Regions, Root, Strikes}
use Rattle.cd_parse.specs.declared.draft.Level.{Level}
use Rattle.cd_parse.specs.Draft.{DraftModel, no_draft, is_start, takes_strikes, parent_of, level_of, kind_name, four_kinds, changed, with_item, with_entry, add_item, add_entry, add_domain, named, named_in, open_group, close_group, close_domain, stage_behind}
use Rattle.cd_parse.specs.Heads.{region_of, domain_named, entry_of}
use Rattle.cd_parse.specs.Sound.{IsRangeOf, IsItemOf, IsDomainOf, IsFaultOf}
use Rattle.cd_parse.proofs.Stages.{of_stage, never}
use Rattle.cd_parse.proofs.SoundLists.{push_length}
use Rattle.cd_parse.proofs.SoundPlaces.{range_of_more, place_of_more}
use Rattle.cd_parse.proofs.SoundChanges.{in_domain}
use Rattle.cd_parse.proofs.Found.{KeptByChanges}

-- all that a draft names is there; before the first statement there is no strike
pub record Named (draft : DraftModel) : Type 0 where
  pub in_domains : All (IsDomainOf draft.regions) draft.domains
  pub in_faults : All (IsFaultOf draft.kinds draft.regions) draft.faults
  pub quiet : is_start draft.stage ≡ true → draft.faults ≡ []

pub all_weaker : {X : Type 0} (P Q : X → Type 0) (xs : List X) → ((x : X) → P x → Q x) → All P xs → All Q xs
all_weaker P Q xs gives all = λ k d within. gives (slice_index_or xs k d) (all k d within)

pub all_pushed : {X : Type 0} (P : X → Type 0) (xs : List X) (x : X) → All P xs → P x → All P (xs ++ x ∷ [])
all_pushed P xs x all one = All-append P xs (x ∷ []) all (All-cons P x [] one (All-nil P))

pub all_changed : (P : Domain → Type 0) (at : ℕ) (change : Domain → Domain) (domains : List Domain) → ((domain : Domain) → P domain → P (change domain))
    → All P domains → All P (changed at change domains)
all_changed P at change [] gives all = all
all_changed P zero change (first ∷ domains) gives all =
    All-cons P (change first) domains (gives first (All-head P first domains all)) (All-tail P first domains all)
all_changed P (suc at) change (first ∷ domains) gives all =
    All-cons P first (changed at change domains) (All-head P first domains all)
    (all_changed P at change domains gives (All-tail P first domains all))

pub no_draft_is_named : Named no_draft
no_draft_is_named =
    record { in_domains = All-nil (IsDomainOf []); in_faults = All-nil (IsFaultOf [] []); quiet = λ start. refl }

-- ---- domains

item_of : (regions : List Region) (item : Item) (domain : Domain) → IsItemOf regions item → IsDomainOf regions domain
    → IsDomainOf regions (with_item item domain)
item_of regions item domain one is =
    record { entries = is.entries; items = all_pushed (IsItemOf regions) domain.items item is.items one }

entry_of_domain : (regions : List Region) (entry : Entry) (domain : Domain) → IsRangeOf regions entry.range → IsDomainOf regions domain
    → IsDomainOf regions (with_entry entry domain)
entry_of_domain regions entry domain one is =
    record { entries = all_pushed (λ (e : Entry). IsRangeOf regions e.range) domain.entries entry is.entries one; items = is.items }

-- the domains of a draft change, and its stage
pub domains_named : (draft : DraftModel) (stage : Stage) (domains : List Domain) (levels : List Level) (items preserves : ℕ) → Named draft
    → (is_start stage ≡ true → is_start draft.stage ≡ true) → All (IsDomainOf draft.regions) domains
    → Named (record draft { stage = stage; domains = domains; levels = levels; items = items; preserves = preserves })
domains_named draft stage domains levels items preserves is start all =
    record { in_domains = all; in_faults = is.in_faults; quiet = λ starts. is.quiet (start starts) }

pub op_named : (draft : DraftModel) (at : ℕ) (op : Op) → Named draft → All (IsRangeOf draft.regions) (op_writes op ∷ op_reads op)
    → Named (add_item at (Run op) draft)
op_named draft at op is known =
    domains_named draft draft.stage (changed at (with_item (Run op)) draft.domains) draft.levels (draft.items + 1) draft.preserves is (λ s. s)
    (all_changed (IsDomainOf draft.regions) at (with_item (Run op)) draft.domains (λ domain. item_of draft.regions (Run op) domain known) is.in_domains)

pub entry_named : (draft : DraftModel) (at : ℕ) (entry : Entry) → Named draft → IsRangeOf draft.regions entry.range → Named (add_entry at entry draft)
entry_named draft at entry is known =
    domains_named draft draft.stage (changed at (with_entry entry) draft.domains) draft.levels draft.items (draft.preserves + 1) is (λ s. s)
    (all_changed (IsDomainOf draft.regions) at (with_entry entry) draft.domains (λ domain. entry_of_domain draft.regions entry domain known) is.in_domains)

pub group_named : (draft : DraftModel) (levels : List Level) → Named draft → Named (open_group levels draft)
group_named draft [] is = is
group_named draft (level ∷ outer) is =
    domains_named draft draft.stage draft.domains (record { domain = level.domain; group = Some [] } ∷ outer) (draft.items + 1) draft.preserves is (λ s. s) is.in_domains

grouped : (draft : DraftModel) (at : ℕ) (members : List NodeId) → Named draft
    → All (IsDomainOf draft.regions) (changed at (with_item (Group members)) draft.domains)
grouped draft at members is =
    all_changed (IsDomainOf draft.regions) at (with_item (Group members)) draft.domains (λ domain. item_of draft.regions (Group members) domain tt) is.in_domains

pub closed_group_named : (draft : DraftModel) (at : ℕ) (members : List NodeId) (outer : List Level) → Named draft → Named (close_group at members outer draft)
closed_group_named draft at members outer is =
    domains_named draft draft.stage (changed at (with_item (Group members)) draft.domains) (record { domain = at; group = None } ∷ outer) draft.items draft.preserves is
    (λ s. s) (grouped draft at members is)

no_start_behind : (outer : List Level) (P : Type 0) → is_start (stage_behind outer) ≡ true → P
no_start_behind [] P start = absurd (cc)
no_start_behind (level ∷ outer) P start = absurd (cc)

pub closed_domain_named : (draft : DraftModel) (outer : List Level) → Named draft → Named (close_domain outer draft)
closed_domain_named draft outer is =
    domains_named draft (stage_behind outer) draft.domains outer draft.items draft.preserves is (no_start_behind outer (is_start draft.stage ≡ true)) is.in_domains

named_in_parent : (draft : DraftModel) (group : Option (List NodeId)) (parent : ℕ) (outer : List Level) (id : NodeId) → Named draft
    → Named (named_in group parent outer id draft)
named_in_parent draft None parent outer id is =
    domains_named draft draft.stage (changed parent (with_item (Group (id ∷ []))) draft.domains) draft.levels (draft.items + 1) draft.preserves is (λ s. s)
    (grouped draft parent (id ∷ []) is)
named_in_parent draft (Some members) parent outer id is =
    domains_named draft draft.stage draft.domains (record { domain = parent; group = Some (members ++ id ∷ []) } ∷ outer) draft.items draft.preserves is (λ s. s)
    is.in_domains

named_by_parent : (draft : DraftModel) (levels : List Level) (id : NodeId) → Named draft → Named (named levels id draft)
named_by_parent draft [] id is = is
named_by_parent draft (level ∷ outer) id is = named_in_parent draft level.group level.domain outer id is

begun_named : (draft : DraftModel) (at : ℕ) (name : List ℕ) (parent : Option NodeId) (tries kinds : ℕ) → Named draft
    → Named (record draft { stage = Root; domains = draft.domains ++ domain_named name parent tries kinds ∷ []; levels = record { domain = at; group = None } ∷ draft.levels })
begun_named draft at name parent tries kinds is =
    let new : Domain = domain_named name parent tries kinds in
    let fresh : IsDomainOf draft.regions new =
    record { entries = All-nil (λ (e : Entry). IsRangeOf draft.regions e.range); items = All-nil (IsItemOf draft.regions) } in
    domains_named draft Root (draft.domains ++ new ∷ []) (record { domain = at; group = None } ∷ draft.levels) draft.items draft.preserves is (λ s. absurd (cc))
    (all_pushed (IsDomainOf draft.regions) draft.domains new is.in_domains fresh)

pub domain_named_is_named : (draft : DraftModel) (name : List ℕ) (parent : Option NodeId) (tries kinds : ℕ) → Named draft
    → Named (add_domain (domain_named name parent tries kinds) draft)
domain_named_is_named draft name parent tries kinds is =
    begun_named (named draft.levels (record { 0 = length draft.domains }) draft) (length draft.domains) name parent tries kinds
    (named_by_parent draft draft.levels (record { 0 = length draft.domains }) is)

-- ---- heads

fault_of_more_kinds : (kinds : List KindName) (new : KindName) (regions : List Region) (fault : RawFault) → IsFaultOf kinds regions fault
    → IsFaultOf (kinds ++ new ∷ []) regions fault
fault_of_more_kinds kinds new regions fault is =
    let known : fault.kind.0 < length kinds = is.kind in
    let size : length (kinds ++ new ∷ []) ≡ suc (length kinds) = push_length kinds new in
    record { kind = omega arith; place = is.place }

pub kind_named_is_named : (draft : DraftModel) (new : KindName) → Named draft → Named (record draft { kinds = draft.kinds ++ new ∷ [] })
kind_named_is_named draft new is =
    record {
      in_domains = is.in_domains;
      in_faults = all_weaker (IsFaultOf draft.kinds draft.regions) (IsFaultOf (draft.kinds ++ new ∷ []) draft.regions) draft.faults
          (fault_of_more_kinds draft.kinds new draft.regions) is.in_faults;
      quiet = is.quiet;
    }

pub started_named : (draft : DraftModel) (stage : Stage) (version : ℕ) (kinds : List KindName) → Named draft → is_start draft.stage ≡ true
    → Named (record draft { stage = stage; version = version; kinds = kinds })
started_named draft stage version kinds is start =
    let none : draft.faults ≡ [] = is.quiet start in
    record {
      in_domains = is.in_domains;
      in_faults = subst (λ (faults : List RawFault). All (IsFaultOf kinds draft.regions) faults) (sym none) (All-nil (IsFaultOf kinds draft.regions));
      quiet = λ _. none;
    }

domain_of_more : (regions : List Region) (new : Region) (domain : Domain) → IsDomainOf regions domain → IsDomainOf (regions ++ new ∷ []) domain
domain_of_more regions new domain is =
    record {
      entries = all_weaker (λ (e : Entry). IsRangeOf regions e.range) (λ (e : Entry). IsRangeOf (regions ++ new ∷ []) e.range) domain.entries
          (λ e. range_of_more regions new e.range) is.entries;
      items = all_weaker (IsItemOf regions) (IsItemOf (regions ++ new ∷ [])) domain.items (item_of_more regions new) is.items;
    }
  where
    item_of_more : (regions : List Region) (new : Region) (item : Item) → IsItemOf regions item → IsItemOf (regions ++ new ∷ []) item
    item_of_more regions new (Run op) is =
        all_weaker (IsRangeOf regions) (IsRangeOf (regions ++ new ∷ [])) (op_writes op ∷ op_reads op) (range_of_more regions new) is
    item_of_more regions new (Group ids) is = tt

fault_of_more_regions : (kinds : List KindName) (regions : List Region) (new : Region) (fault : RawFault) → IsFaultOf kinds regions fault
    → IsFaultOf kinds (regions ++ new ∷ []) fault
fault_of_more_regions kinds regions new fault is = record { kind = is.kind; place = place_of_more regions new fault.place is.place }

pub region_named_is_named : (draft : DraftModel) (new : Region) (words : ℕ) → Named draft
    → Named (record draft { stage = Regions; regions = draft.regions ++ new ∷ []; words = words })
region_named_is_named draft new words is =
    let more : List Region = draft.regions ++ new ∷ [] in
    record {
      in_domains = all_weaker (IsDomainOf draft.regions) (IsDomainOf more) draft.domains (domain_of_more draft.regions new) is.in_domains;
      in_faults = all_weaker (IsFaultOf draft.kinds draft.regions) (IsFaultOf draft.kinds more) draft.faults
          (fault_of_more_regions draft.kinds draft.regions new) is.in_faults;
      quiet = λ start. absurd (cc);
    }

-- ---- strikes

pub faults_named : (draft : DraftModel) → Named draft → Named (record draft { stage = Strikes })
faults_named draft is = record { in_domains = is.in_domains; in_faults = is.in_faults; quiet = λ start. absurd (cc) }

no_start : (stage : Stage) (P : Type 0) → takes_strikes stage ≡ true → is_start stage ≡ true → P
no_start stage P =
    of_stage takes_strikes (λ s. is_start s ≡ true → P) never never never never never (λ _. never) stage

pub fault_named : (draft : DraftModel) (fault : RawFault) → Named draft → takes_strikes draft.stage ≡ true → IsFaultOf draft.kinds draft.regions fault
    → Named (record draft { faults = draft.faults ++ fault ∷ [] })
fault_named draft fault is takes one =
    record {
      in_domains = is.in_domains;
      in_faults = all_pushed (IsFaultOf draft.kinds draft.regions) draft.faults fault is.in_faults one;
      quiet = λ start. no_start draft.stage (draft.faults ++ fault ∷ [] ≡ []) takes start;
    }

-- ---- every change

pub named_changes : KeptByChanges Named
named_changes =
    record {
      first = λ draft _ is start. started_named draft Regions 1 four_kinds is start;
      second = λ draft _ is start. started_named draft Kinds 2 draft.kinds is start;
      kind = λ draft name halts _ is found. kind_named_is_named draft (kind_name name halts) is;
      region = λ draft name size pattern _ is found. region_named_is_named draft (region_of name size pattern) (draft.words + size) is;
      domain = λ draft name tries set _ is found. domain_named_is_named draft name (parent_of draft.levels) tries set is;
      entry = λ draft at outer range how _ is found. entry_named (in_domain draft at None outer) at (entry_of range how) is found.there;
      op = λ draft at outer op _ is found. op_named (in_domain draft at None outer) at op is found.there;
      group = λ draft at outer _ is few. group_named (in_domain draft at None outer) (level_of at None ∷ outer) is;
      group_end = λ draft at first members outer _ is.
          closed_group_named (in_domain draft at (Some (first ∷ members)) outer) at (first ∷ members) outer is;
      domain_end = λ draft at outer _ is. closed_domain_named (in_domain draft at None outer) outer is;
      faults = λ draft _ is closed. faults_named draft is;
      fault = λ draft fault _ is found. fault_named draft fault is found.stage found.there;
    }
