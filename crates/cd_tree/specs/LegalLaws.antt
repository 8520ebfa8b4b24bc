-- Laws of legal records: they go together piece by piece, and a legal front of a record goes on to a legal whole.
use Rattle.std.specs.Prelude.{◌≡◌, ◌≢◌, ◌↔◌, ℕ, true, List, [], ◌∷◌, ◌++◌, Some, All, IsSome, IsSomeAnd}
use Rattle.cd_base.specs.declared.place.Place.{Place}
use Rattle.cd_base.specs.declared.pattern.Pattern.{Pattern}
use Rattle.cd_base.specs.Words.{Words, in_range}
use Rattle.cd_tree.specs.declared.domain.How.TheVariants.{Regen}
use Rattle.cd_tree.specs.declared.domain.Entry.{Entry}
use Rattle.cd_tree.specs.declared.document.Fault.{Fault}
use Rattle.cd_tree.specs.declared.domain.NodeId.{NodeId}
use Rattle.cd_tree.specs.declared.event.Kept.TheVariants as kept
use Rattle.cd_tree.specs.declared.event.Event.{Event}
use Rattle.cd_tree.specs.declared.event.Event.TheVariants.{Begin, Saved, Fell, Lapsed, Refilled, Reached, Halted, Found, Complete, Escalate}
use Rattle.cd_tree.specs.TreeModel.{TreeModel, IsTree}
use Rattle.cd_tree.specs.Reading.{Case, Counts, how_kept, read_node}
use Rattle.cd_tree.specs.Record.{record_of}
use Rattle.cd_tree.specs.Legal.{entry_at, MayStand, MayFall, Legal}
use Rattle.cd_tree.specs.Laws.{OfEach}

-- two legal records, one behind the other
abbrev pub LegalPieces : Type 0
LegalPieces =
    (tree : TreeModel) (loaded : Words) (actual expected more rest : List Event)
    → Legal tree loaded actual expected → Legal tree loaded more rest → Legal tree loaded (actual ++ more) (expected ++ rest)

-- an entry that is saved is one of the program's, and kept as it is declared
abbrev pub SavesAsDeclared : TreeModel → Event → Type 0
SavesAsDeclared tree (Begin id number) = Unit {0}
SavesAsDeclared tree (Saved id entry how) = IsSomeAnd (entry_at tree.domains id entry) (λ e. how ≡ how_kept e.how)
SavesAsDeclared tree (Fell id entry place wanted found) = Unit {0}
SavesAsDeclared tree (Lapsed id entry seen found) = Unit {0}
SavesAsDeclared tree (Refilled id entry) = Unit {0}
SavesAsDeclared tree (Reached id point) = Unit {0}
SavesAsDeclared tree (Halted id kinds) = Unit {0}
SavesAsDeclared tree (Found id kinds) = Unit {0}
SavesAsDeclared tree (Complete id) = Unit {0}
SavesAsDeclared tree (Escalate id) = Unit {0}

-- the reading of each domain of a program saves entries as they are declared, and so does its record
abbrev pub ReadingsSaveAsDeclared : Type 0
ReadingsSaveAsDeclared =
    (tree : TreeModel) → IsTree tree
    → OfEach tree (λ d. (w : Case) (counts : Counts) → All (SavesAsDeclared tree) (read_node w d counts).past.events)

abbrev pub RecordsSaveAsDeclared : Type 0
RecordsSaveAsDeclared = (tree : TreeModel) (faults : List Fault) → IsTree tree → All (SavesAsDeclared tree) (record_of tree faults)

-- a word at each place of an entry of the root that a pattern gives anew
abbrev pub HasPatternWords : TreeModel → Words → Type 0
HasPatternWords tree loaded =
    (entry : ℕ) (e : Entry) (pattern : Pattern) (p : Place)
    → entry_at tree.domains (record { 0 = 0 }) entry ≡ Some e → e.how ≡ Regen pattern → in_range e.range p ≡ true → IsSome (loaded p)

-- a record that is legal for a front goes on to one that is legal for the whole
abbrev pub LegalFrontsGoOn : Type 0
LegalFrontsGoOn =
    (tree : TreeModel) (loaded : Words) → HasPatternWords tree loaded
    → (actual front rest : List Event) → All (SavesAsDeclared tree) rest → Legal tree loaded actual front
    → (more : List Event) × Legal tree loaded (actual ++ more) (front ++ rest)

-- the same of a program's record under a script
abbrev pub LegalFrontsOfRecords : Type 0
LegalFrontsOfRecords =
    (tree : TreeModel) (faults : List Fault) (loaded : Words) → IsTree tree → HasPatternWords tree loaded
    → (actual front rest : List Event) → front ++ rest ≡ record_of tree faults → Legal tree loaded actual front
    → (more : List Event) × Legal tree loaded (actual ++ more) (record_of tree faults)

-- what a record may begin with, first, for the reading's, second; it may stop between a fall and the copy that follows
pub data LegalFront (tree : TreeModel) (loaded : Words) : List Event → List Event → Type 0 where
  nothing_yet : (expected : List Event) → LegalFront tree loaded [] expected
  same_so_far : (event : Event) (actual expected : List Event) (stands : MayStand tree loaded event)
      (rest : LegalFront tree loaded actual expected) → LegalFront tree loaded (event ∷ actual) (event ∷ expected)
  fell_so_far : (id : NodeId) (entry : ℕ) (place : Place) (wanted found : ℕ) (actual expected : List Event)
      (falls : MayFall tree loaded id entry place wanted found) (rest : LegalFront tree loaded actual expected)
      → LegalFront tree loaded (Fell id entry place wanted found ∷ Saved id entry kept.Copy ∷ actual) (Saved id entry kept.Regen ∷ expected)
  falling : (id : NodeId) (entry : ℕ) (place : Place) (wanted found : ℕ) (expected : List Event)
      (falls : MayFall tree loaded id entry place wanted found)
      → LegalFront tree loaded (Fell id entry place wanted found ∷ []) (Saved id entry kept.Regen ∷ expected)
  lapsed_so_far : (id : NodeId) (entry seen found : ℕ) (actual expected : List Event)
      (gone : seen ≢ found) (rest : LegalFront tree loaded actual expected)
      → LegalFront tree loaded (Lapsed id entry seen found ∷ Saved id entry kept.Copy ∷ actual) (Saved id entry kept.Refer ∷ expected)
  lapsing : (id : NodeId) (entry seen found : ℕ) (expected : List Event)
      (gone : seen ≢ found)
      → LegalFront tree loaded (Lapsed id entry seen found ∷ []) (Saved id entry kept.Refer ∷ expected)

-- a legal front is exactly what goes on to a legal whole
abbrev pub LegalFrontsAreFronts : Type 0
LegalFrontsAreFronts =
    (tree : TreeModel) (loaded : Words) → HasPatternWords tree loaded
    → (actual expected : List Event) → All (SavesAsDeclared tree) expected
    → LegalFront tree loaded actual expected ↔ ((more : List Event) × Legal tree loaded (actual ++ more) expected)
