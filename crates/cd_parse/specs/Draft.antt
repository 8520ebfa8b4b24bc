-- The draft of a document: what the statements so far have said, and the changes that a statement makes.
use Rattle.std.specs.Prelude.{ℕ, zero, suc, ◌+◌, Bool, true, false, ◌&&◌, not, ◌==◌, List, [], ◌∷◌, ◌++◌, length, slice_get, Option, None, Some, codes}
use Rattle.std.specs.List.{list_any}
use Rattle.std.specs.Str.{bytes_eq}
use Rattle.cd_tree.specs.declared.document.Region.{Region}
use Rattle.cd_tree.specs.declared.document.RawFault.{RawFault}
use Rattle.cd_tree.specs.declared.document.Document.{Document}
use Rattle.cd_tree.specs.declared.domain.NodeId.{NodeId}
use Rattle.cd_tree.specs.declared.domain.Entry.{Entry}
use Rattle.cd_tree.specs.declared.domain.Item.{Item}
use Rattle.cd_tree.specs.declared.domain.Item.TheVariants.{Group}
use Rattle.cd_tree.specs.declared.domain.Domain.{Domain}
use Rattle.cd_tree.specs.declared.kinds.KindName.{KindName}
use Rattle.cd_parse.specs.declared.draft.Stage.{Stage}
use Rattle.cd_parse.specs.declared.draft.Stage.TheVariants.{Start, Kinds, Regions, Root, Closed, Strikes}
use Rattle.cd_parse.specs.declared.draft.Level.{Level}

-- what the statements so far have said; the domains stand in preorder, with all groups that are closed, and the levels
-- are the domains that are open, the innermost first; beside them the sums that limits are about
pub record DraftModel : Type 0 where
  -- statements and turns of loops
  pub lines : ℕ
  pub stage : Stage
  pub version : ℕ
  pub kinds : List KindName
  pub regions : List Region
  -- the lengths of all regions
  pub words : ℕ
  pub domains : List Domain
  pub levels : List Level
  -- the items of all domains, with the groups that are open
  pub items : ℕ
  -- the entries of all domains
  pub preserves : ℕ
  pub faults : List RawFault

-- before the first statement
abbrev pub no_draft : DraftModel
no_draft =
    record { lines = 0; stage = Start; version = 1; kinds = []; regions = []; words = 0; domains = []; levels = []; items = 0; preserves = 0; faults = [] }

-- ---- where a statement may stand

-- what may stand at a stage: `cd`; a kind; a region or the root; `faults`; a strike; the end of the text
pub record Takes : Type 0 where
  pub start : Bool
  pub kinds : Bool
  pub regions : Bool
  pub faults : Bool
  pub strikes : Bool
  pub end : Bool

abbrev nothing : Takes
nothing = record { start = false; kinds = false; regions = false; faults = false; strikes = false; end = false }

abbrev pub takes : Stage → Takes
takes Start = record nothing { start = true }
takes Kinds = record nothing { kinds = true; regions = true }
takes Regions = record nothing { regions = true }
takes Root = nothing
takes Closed = record nothing { faults = true; end = true }
takes Strikes = record nothing { strikes = true; end = true }

abbrev pub is_start : Stage → Bool
is_start stage = (takes stage).start

abbrev pub takes_kinds : Stage → Bool
takes_kinds stage = (takes stage).kinds

abbrev pub takes_regions : Stage → Bool
takes_regions stage = (takes stage).regions

abbrev pub is_closed : Stage → Bool
is_closed stage = (takes stage).faults

abbrev pub takes_strikes : Stage → Bool
takes_strikes stage = (takes stage).strikes

abbrev pub may_end : Stage → Bool
may_end stage = (takes stage).end

abbrev pub is_open : Option (List NodeId) → Bool
is_open None = false
is_open (Some members) = true

-- in a domain, and not in a group of it
abbrev pub takes_items : List Level → Bool
takes_items [] = false
takes_items (level ∷ outer) = not (is_open level.group)

abbrev pub is_empty_body : Option Domain → Bool
is_empty_body None = false
is_empty_body (Some domain) = length domain.items == 0

-- in a domain, before its first item
abbrev pub takes_entries : DraftModel → List Level → Bool
takes_entries draft [] = false
takes_entries draft (level ∷ outer) =
    not (is_open level.group) && is_empty_body (slice_get draft.domains level.domain)

-- in a domain or a group, or where the root may stand
abbrev pub takes_domains : DraftModel → List Level → Bool
takes_domains draft [] = takes_regions draft.stage
takes_domains draft (level ∷ outer) = true

-- ---- changes of a domain that is open

abbrev pub changed : ℕ → (Domain → Domain) → List Domain → List Domain
changed at change [] = []
changed zero change (domain ∷ domains) = change domain ∷ domains
changed (suc at) change (domain ∷ domains) = domain ∷ changed at change domains

abbrev pub with_item : Item → Domain → Domain
with_item item domain = record domain { items = domain.items ++ item ∷ [] }

abbrev pub with_entry : Entry → Domain → Domain
with_entry entry domain = record domain { entries = domain.entries ++ entry ∷ [] }

-- one item more in domain `at`
abbrev pub add_item : ℕ → Item → DraftModel → DraftModel
add_item at item draft = record draft { domains = changed at (with_item item) draft.domains; items = draft.items + 1 }

-- one entry more in domain `at`
abbrev pub add_entry : ℕ → Entry → DraftModel → DraftModel
add_entry at entry draft = record draft { domains = changed at (with_entry entry) draft.domains; preserves = draft.preserves + 1 }

-- ---- domains and groups that open and close

-- the domain that is open innermost; 0 where none is
abbrev pub innermost : List Level → ℕ
innermost [] = 0
innermost (level ∷ outer) = level.domain

abbrev pub parent_of : List Level → Option NodeId
parent_of [] = None
parent_of (level ∷ outer) = Some (record { 0 = level.domain })

abbrev pub level_of : ℕ → Option (List NodeId) → Level
level_of at group = record { domain = at; group = group }

-- the domain with this number is a group of its own in its parent, or one more member of the group that is open there
abbrev pub named_in : Option (List NodeId) → ℕ → List Level → NodeId → DraftModel → DraftModel
named_in None parent outer id draft = add_item parent (Group (id ∷ [])) draft
named_in (Some members) parent outer id draft =
    record draft { levels = level_of parent (Some (members ++ id ∷ [])) ∷ outer }

-- nothing names the root
abbrev pub named : List Level → NodeId → DraftModel → DraftModel
named [] id draft = draft
named (level ∷ outer) id draft = named_in level.group level.domain outer id draft

-- a domain that its parent names is the last in preorder, and is open
abbrev pub entered : ℕ → Domain → DraftModel → DraftModel
entered at domain draft =
    record draft { stage = Root; domains = draft.domains ++ domain ∷ []; levels = level_of at None ∷ draft.levels }

-- one domain more, which is open
abbrev pub add_domain : Domain → DraftModel → DraftModel
add_domain domain draft =
    entered (length draft.domains) domain (named draft.levels (record { 0 = length draft.domains }) draft)

-- a group opens in the innermost domain, and counts as an item of it
abbrev pub open_group : List Level → DraftModel → DraftModel
open_group [] draft = draft
open_group (level ∷ outer) draft =
    record draft { levels = level_of level.domain (Some []) ∷ outer; items = draft.items + 1 }

-- a group closes, and is an item of its domain
abbrev pub close_group : ℕ → List NodeId → List Level → DraftModel → DraftModel
close_group at members outer draft =
    record draft { domains = changed at (with_item (Group members)) draft.domains; levels = level_of at None ∷ outer }

-- after the end of the root the program is closed
abbrev pub stage_behind : List Level → Stage
stage_behind [] = Closed
stage_behind (level ∷ outer) = Root

abbrev pub close_domain : List Level → DraftModel → DraftModel
close_domain outer draft = record draft { stage = stage_behind outer; levels = outer }

-- ---- names that are taken

abbrev pub has_kind_named : List KindName → List ℕ → Bool
has_kind_named kinds name = list_any (λ kind. bytes_eq kind.name name) kinds

abbrev pub has_region_named : List Region → List ℕ → Bool
has_region_named regions name = list_any (λ region. bytes_eq region.name name) regions

abbrev pub is_parent : Option NodeId → Option NodeId → Bool
is_parent None None = true
is_parent (Some one) (Some other) = one.0 == other.0
is_parent _ _ = false

-- a child of this parent has the name
abbrev pub has_child_named : List Domain → Option NodeId → List ℕ → Bool
has_child_named domains parent name =
    list_any (λ domain. is_parent domain.parent parent && bytes_eq domain.name name) domains

-- ---- the document

abbrev pub kind_name : List ℕ → Bool → KindName
kind_name name halts = record { name = name; halts = halts }

-- the kinds of version 1
abbrev pub four_kinds : List KindName
four_kinds =
    kind_name (codes "flip") false ∷ kind_name (codes "lost") false ∷ kind_name (codes "link") false
    ∷ kind_name (codes "node") false ∷ []

abbrev pub document_of : DraftModel → Document
document_of draft =
    record { version = draft.version; regions = draft.regions; tree = record { kinds = draft.kinds; domains = draft.domains }; faults = draft.faults }
