-- What a meaning sees and what it changes: it sees the words that are read, and changes those that are written.
use Rattle.std.specs.Prelude.{◌≡◌, ℕ, suc, ◌+◌, ◌<◌, ◌||◌, true, false}
use Rattle.cd_base.specs.declared.place.Place.{Place}
use Rattle.cd_base.specs.declared.place.Range.{Range}
use Rattle.cd_base.specs.Words.{Words, PlaceSet, in_range, in_ranges}
use Rattle.cd_tree.specs.declared.operation.Op.{Op}
use Rattle.cd_tree.specs.declared.operation.Op.TheVariants.{Fill, Copy, Add, Sub, Mul, Axpy, Scan, Sum, Dot, Max, Stencil, Spmv}
use Rattle.cd_tree.specs.Operations.{op_reads, op_writes, op_meaning, column, length_of, nth_word, FitsShape}
use Rattle.cd_tree.specs.Domains.{Node, Body, stop, run, group, domain_of, body_of, root_of, Throughout, ThroughoutBody}
use Rattle.cd_tree.specs.Meaning.{in_entries, node_reads, node_writes, node_meaning, body_reads, body_writes, body_meaning, IsCovered, IsDisjoint, LieIn}
use Rattle.cd_tree.specs.TreeModel.{TreeModel, IsTree}
use Rattle.cd_tree.specs.Laws.{OfEach}

-- words that agree in these places
abbrev pub SameWords : PlaceSet → Words → Words → Type 0
SameWords places v w = (p : Place) → places p ≡ true → v p ≡ w p

-- the places of either set
abbrev pub in_either : PlaceSet → PlaceSet → PlaceSet
in_either first second p = first p || second p

-- What sees what it reads alone, leaves others and keeps agreement: said once of anything that fits, that reads and writes
-- places, and that means other words for words; then of operations, domains and bodies.

-- what it writes comes from what it reads alone
abbrev pub SeesItsReads : {A : Type 0} → (A → Type 0) → (A → PlaceSet) → (A → PlaceSet) → (A → Words → Words) → Type 0
SeesItsReads {A} Fits reads writes meaning = (x : A) (v w : Words) → Fits x → SameWords (reads x) v w → SameWords (writes x) (meaning x v) (meaning x w)

-- it changes no word but those that it writes
abbrev pub LeavesOthers : {A : Type 0} → (A → PlaceSet) → (A → Words → Words) → Type 0
LeavesOthers {A} writes meaning = (x : A) (w : Words) (p : Place) → writes x p ≡ false → meaning x w p ≡ w p

-- words that agree in places that hold what it reads agree, after it, there and where it writes
abbrev pub KeepsAgreement : {A : Type 0} → (A → Type 0) → (A → PlaceSet) → (A → PlaceSet) → (A → Words → Words) → Type 0
KeepsAgreement {A} Fits reads writes meaning =
    (x : A) (places : PlaceSet) (v w : Words) → Fits x → LieIn (reads x) places → SameWords places v w
    → SameWords (in_either places (writes x)) (meaning x v) (meaning x w)

-- all three
pub record ActsLocally {A : Type 0} (Fits : A → Type 0) (reads writes : A → PlaceSet) (meaning : A → Words → Words) : Type 0 where
  pub written : SeesItsReads Fits reads writes meaning
  pub others : LeavesOthers writes meaning
  pub agreement : KeepsAgreement Fits reads writes meaning

-- ---- operations

-- the i-th word of a range is the same
abbrev pub SameNth : Range → Words → Words → ℕ → Type 0
SameNth r v w i = nth_word v r i ≡ nth_word w r i

-- the first n words of a range are the same
abbrev pub SameFirst : Range → ℕ → Words → Words → Type 0
SameFirst r n v w = (j : ℕ) → j < n → SameNth r v w j

-- the words from which an operation computes word i of its destination are the same
abbrev pub SameSources : Op → Words → Words → ℕ → Type 0
SameSources (Fill d k) v w i = Unit {0}
SameSources (Copy d x) v w i = SameNth x v w i
SameSources (Add d x z) v w i = SameNth x v w i × SameNth z v w i
SameSources (Sub d x z) v w i = SameNth x v w i × SameNth z v w i
SameSources (Mul d x z) v w i = SameNth x v w i × SameNth z v w i
SameSources (Axpy d k x) v w i = SameNth d v w i × SameNth x v w i
SameSources (Scan d x) v w i = SameFirst x (suc i) v w
SameSources (Sum d x) v w i = SameFirst x (length_of x) v w
SameSources (Dot d x z) v w i = SameFirst x (length_of x) v w × SameFirst z (length_of x) v w
SameSources (Max d x) v w i = SameFirst x (length_of x) v w
SameSources (Stencil d a b c x) v w i = SameNth x v w i × SameNth x v w (i + 1) × SameNth x v w (i + 2)
SameSources (Spmv d s c values x) v w i =
    SameNth s v w i × SameNth s v w (i + 1)
    × SameFirst c (length_of values) v w × SameFirst values (length_of values) v w × SameFirst x (length_of x) v w

-- word i of the destination comes from these words alone
abbrev pub ColumnIsLocal : Type 0
ColumnIsLocal = (op : Op) (v w : Words) (i : ℕ) → SameSources op v w i → column op v i ≡ column op w i

-- an operation of the right shape; one of a wrong shape may read past the ends of its sources
abbrev pub OperationsActLocally : Type 0
OperationsActLocally = ActsLocally FitsShape (λ op. in_ranges (op_reads op)) (λ op. in_range (op_writes op)) op_meaning

-- ---- domains and bodies

-- the operations of a body itself have the right shape
abbrev pub ShapesFit : Body → Type 0
ShapesFit stop = Unit {0}
ShapesFit (run op rest) = FitsShape op × ShapesFit rest
ShapesFit (group members rest) = ShapesFit rest

abbrev pub OwnShapesFit : Node → Type 0
OwnShapesFit d = ShapesFit (body_of d)

-- the operations of a domain and of all domains below it have the right shape
abbrev pub AllShapesFit : Node → Type 0
AllShapesFit d = Throughout OwnShapesFit d

-- the same of a body: its own operations and those of the domains below
abbrev pub BodyShapesFit : Body → Type 0
BodyShapesFit body = ShapesFit body × ThroughoutBody OwnShapesFit body

-- in a program all shapes are right
abbrev pub ShapesFitInPrograms : Type 0
ShapesFitInPrograms = (tree : TreeModel) → IsTree tree → OfEach tree AllShapesFit

-- what is covered or disjoint as a whole is so in each domain
abbrev pub CoveredInPrograms : Type 0
CoveredInPrograms = (tree : TreeModel) → IsTree tree → IsCovered (root_of tree.domains) → OfEach tree IsCovered

abbrev pub DisjointInPrograms : Type 0
DisjointInPrograms = (tree : TreeModel) → IsTree tree → IsDisjoint (root_of tree.domains) → OfEach tree IsDisjoint

abbrev pub DomainsActLocally : Type 0
DomainsActLocally = ActsLocally AllShapesFit node_reads node_writes node_meaning

-- a body has no entries of its own
abbrev pub BodiesActLocally : Type 0
BodiesActLocally = ActsLocally BodyShapesFit body_reads body_writes body_meaning

abbrev pub BodyLeavesOthers : Type 0
BodyLeavesOthers = LeavesOthers body_writes body_meaning

-- words that agree in the entries of a covered domain agree there after it
abbrev pub AgreementInEntries : Type 0
AgreementInEntries =
    (d : Node) (v w : Words) → AllShapesFit d → IsCovered d → SameWords (in_entries (domain_of d).entries) v w
    → SameWords (in_entries (domain_of d).entries) (node_meaning d v) (node_meaning d w)
