-- What the calls need of a machine and a pass.
use Rattle.std.specs.Prelude.{◌≡◌, ℕ, suc, ◌<◌, ◌≤◌, true, List, [], ◌∷◌, All, IsSome, IsSomeAnd, sum_by, Option}
use Rattle.cd_base.specs.declared.place.Place.{Place}
use Rattle.cd_base.specs.Words.{in_ranges}
use Rattle.cd_tree.specs.declared.domain.NodeId.{NodeId}
use Rattle.cd_tree.specs.declared.domain.How.TheVariants.{Refer}
use Rattle.cd_tree.specs.declared.domain.Entry.{Entry}
use Rattle.cd_tree.specs.declared.domain.Item.{Item}
use Rattle.cd_tree.specs.declared.domain.Item.TheVariants.{Run, Group}
use Rattle.cd_tree.specs.declared.domain.Domain.{Domain}
use Rattle.cd_tree.specs.declared.document.Fault.{Fault}
use Rattle.cd_tree.specs.Meaning.{in_entries, LieIn, entry_need}
use Rattle.cd_tree.specs.Operations.{op_reads, op_writes, FitsShape, IsFull}
use Rattle.cd_field.specs.FieldModel.{FieldModel, IsPresent}
use Rattle.cd_keep.specs.PassModel.{PassModel}
use Rattle.cd_tries.specs.declared.keep.Pieces.{Pieces}
use Rattle.cd_tries.specs.Keeping.{Known, Cover, KeepsFit, HoldsThese, all_ids}
use Rattle.cd_tries.specs.Running.{Means}

-- an operation has its shape, and touches places of the entries alone; of groups nothing is said
abbrev pub ItemStays : List Entry → Item → Type 0
ItemStays entries (Run op) =
    All IsFull (op_writes op ∷ op_reads op) × FitsShape op × LieIn (in_ranges (op_writes op ∷ op_reads op)) (in_entries entries)
ItemStays entries (Group ids) = Unit {0}

-- a domain whose operations stay within its entries
pub record IsSound (domain : Domain) : Type 0 where
  pub full : All (λ (entry : Entry). IsFull entry.range) domain.entries
  pub stays : All (ItemStays domain.entries) domain.items

-- its entries have words
abbrev pub HasWords : List Entry → FieldModel → Type 0
HasWords entries m = (p : Place) → in_entries entries p ≡ true → IsSome (m.words p)

-- its entries are present
abbrev pub ArePresentIn : List Entry → FieldModel → Type 0
ArePresentIn entries m = (p : Place) → in_entries entries p ≡ true → IsPresent m p

-- the faults of a domain strike in its entries, with kinds
abbrev pub StrikesWithin : NodeId → List Entry → List Fault → Type 0
StrikesWithin id entries faults =
    All (λ (fault : Fault). fault.node.0 ≡ id.0 → (in_entries entries fault.place ≡ true) × (fault.kind.0 < 16)) faults

-- a machine on which the points of a domain can run
pub record CanRun (id : NodeId) (domain : Domain) (m : FieldModel) : Type 0 where
  pub sound : IsSound domain
  pub here : m.node ≡ id
  pub present : ArePresentIn domain.entries m
  pub strikes : StrikesWithin id domain.entries m.script

-- a machine and a pass on which a domain can be tried again
pub record CanTry (with : Means) (m : FieldModel) (p : PassModel) : Type 0 where
  pub sound : IsSound with.domain
  pub words : HasWords with.domain.entries m
  pub strikes : StrikesWithin with.node with.domain.entries m.script
  pub known : p.known ≡ with.known
  pub keeps : KeepsFit with.known with.domain.entries with.keeps
  pub holds : HoldsThese p (all_ids with.keeps)

-- the pieces of the link of each reference, numbered from `at` on, have the words of its range
abbrev pub LinksCover : Known → (ℕ → Option Pieces) → ℕ → List Entry → Type 0
LinksCover known links at [] = Unit {0}
LinksCover known links at (entry ∷ entries) =
    (entry.how ≡ Refer → IsSomeAnd (links at) (λ pieces. Cover known pieces entry.range)) × LinksCover known links (suc at) entries

-- a machine and a pass on which a domain's entries can be preserved
pub record CanPreserve (domain : Domain) (links : ℕ → Option Pieces) (m : FieldModel) (p : PassModel) : Type 0 where
  pub sound : IsSound domain
  pub present : ArePresentIn domain.entries m
  pub covered : LinksCover p.known links 0 domain.entries
  pub room : sum_by entry_need domain.entries ≤ p.room
