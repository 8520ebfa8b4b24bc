-- What is counted in the views of passes.
use Rattle.std.specs.Prelude.{ℕ, ◌+◌, Bool, true, false, ◌==◌, List, [], ◌∷◌, length, Option, None, Some, if◌then◌else◌}
use Rattle.cd_keep.specs.declared.keep_id.KeepId.{KeepId}
use Rattle.cd_keep.specs.PassModel.{same_id}
use Rattle.cd_lease.specs.declared.view.Piece.{Piece}
use Rattle.cd_lease.specs.declared.view.View.{View}

-- how often an id is among these
abbrev pub times : List KeepId → KeepId → ℕ
times [] id = 0
times (p ∷ ps) id = if same_id p id then times ps id + 1 else times ps id

-- these without the first that is the id
abbrev pub one_out : KeepId → List KeepId → List KeepId
one_out id [] = []
one_out id (p ∷ ps) = if same_id p id then ps else p ∷ one_out id ps

-- the words under an id, the latest first
abbrev pub words_under : List Piece → KeepId → Option (List ℕ)
words_under [] id = None
words_under (p ∷ ps) id = if same_id p.id id then Some p.words else words_under ps id

abbrev pub one_if : Bool → ℕ
one_if true = 1
one_if false = 0

abbrev pub one_there : {A : Type 0} → Option A → ℕ
one_there None = 0
one_there (Some x) = 1

-- how many of these are of a block
abbrev pub ids_of : ℕ → List KeepId → ℕ
ids_of b [] = 0
ids_of b (p ∷ ps) = one_if (p.block == b) + ids_of b ps

abbrev pub fills_of : ℕ → Option Piece → ℕ
fills_of b None = 0
fills_of b (Some p) = one_if (p.id.block == b)

abbrev pub tries_of : ℕ → Option ℕ → ℕ
tries_of b None = 0
tries_of b (Some c) = one_if (c == b)

-- how often a pass holds, fills and uses a block; a try is a use too
abbrev pub holds_in : ℕ → View → ℕ
holds_in b v = ids_of b v.holds

abbrev pub fills_in : ℕ → View → ℕ
fills_in b v = fills_of b v.filling

abbrev pub uses_in : ℕ → View → ℕ
uses_in b v = holds_in b v + fills_in b v + tries_of b v.trying

-- what a pass holds and fills, and its room, together
abbrev pub spent_by : View → ℕ
spent_by v = length v.holds + one_there v.filling + v.room

abbrev pub total : (View → ℕ) → List View → ℕ
total f [] = 0
total f (v ∷ vs) = f v + total f vs
