-- What a search for a free block meets, block after block, and what becomes of it.
use Rattle.std.specs.Prelude.{◌≡◌, ◌≢◌, ℕ, suc, ◌+◌, ◌-◌, List, [], ◌∷◌, ◌++◌, ◌⊎◌, None}
use Rattle.cd_keep.specs.declared.keep_id.KeepId.{KeepId}
use Rattle.cd_lease.specs.declared.view.Look.{Look}
use Rattle.cd_lease.specs.declared.view.View.{View}
use Rattle.cd_lease.specs.Control.{IsOpen, IsShut}
use Rattle.cd_lease.specs.Views.{words_under}
use Rattle.cd_lease.specs.Steps.{Sat, met, look_of, piece_of, taking, next_id}

-- the blocks from low on and below high were met in order, and none was had: the control word of each had a holder or the last
-- serial, or had become another one when it was to be exchanged
pub data PassedBy : ℕ → ℕ → List Look → Type 0 where
  none : {b : ℕ} → PassedBy b b []
  shut : {low high word : ℕ} {ls : List Look} → IsShut word → PassedBy (suc low) high ls → PassedBy low high (look_of low word ∷ ls)
  lost : {low high word other : ℕ} {ls : List Look} → IsOpen word → other ≢ word → PassedBy (suc low) high ls
      → PassedBy low high (look_of low word ∷ look_of low other ∷ ls)

-- every block was met, from one of them on and round
pub record AllPassedBy (blocks : ℕ) (ls : List Look) : Type 0 where
  pub start : ℕ
  pub first : List Look
  pub second : List Look
  pub whole : ls ≡ first ++ second
  pub onward : PassedBy start blocks first
  pub around : PassedBy 0 start second

-- blocks were met up to an open one, of this id with the serial before it
pub record Found (ls : List Look) (low : ℕ) (id : KeepId) : Type 0 where
  pub before : List Look
  pub word : ℕ
  pub whole : ls ≡ before ++ look_of id.block word ∷ []
  pub passed : PassedBy low id.block before
  pub is_open : IsOpen word
  pub next : id ≡ next_id id.block word

pub record FoundAround (blocks : ℕ) (ls : List Look) (id : KeepId) : Type 0 where
  pub start : ℕ
  pub first : List Look
  pub second : List Look
  pub whole : ls ≡ first ++ second
  pub found : ((first ≡ []) × Found second start id) ⊎ (PassedBy start blocks first × Found second 0 id)

-- a pass m that became n: it met the blocks from low on and below high, and has none of them
pub record PassesBy (low high : ℕ) (m n : Sat) : Type 0 where
  pub seen : List Look
  pub now : n ≡ (met m.0 seen, m.1)
  pub passed : PassedBy low high seen

-- a pass m that became n: it met blocks from low on, and fills the last of them under a new id
pub record Finds (low : ℕ) (m n : Sat) (id : KeepId) : Type 0 where
  pub seen : List Look
  pub now : n ≡ (taking (met m.0 seen) id, m.1)
  pub found : Found seen low id
  pub fresh : words_under m.0.known id ≡ None

-- the same of a search round all blocks
pub record PassesAll (blocks : ℕ) (m n : Sat) : Type 0 where
  pub seen : List Look
  pub now : n ≡ (met m.0 seen, m.1)
  pub passed : AllPassedBy blocks seen

pub record FindsAround (blocks : ℕ) (m n : Sat) (id : KeepId) : Type 0 where
  pub seen : List Look
  pub now : n ≡ (taking (met m.0 seen) id, m.1)
  pub found : FoundAround blocks seen id
  pub fresh : words_under m.0.known id ≡ None

-- words kept under a new id, when control words were met
abbrev pub keeping : View → List Look → KeepId → List ℕ → View
keeping v ls id words = record v {
  filling = None;
  holds = id ∷ v.holds;
  known = piece_of id words ∷ v.known;
  room = v.room - 1;
  takes = v.takes + 1;
  looks = v.looks ++ ls;
}

-- what a try comes to: no block was free as it was met, and all else stays
pub record NotKept (blocks : ℕ) (v w : View) : Type 0 where
  pub seen : List Look
  pub now : w ≡ met v seen
  pub passed : AllPassedBy blocks seen

-- or words are kept in the first block that was free, under an id that was not known
pub record KeptAs (blocks : ℕ) (v w : View) (piece : List ℕ) (id : KeepId) : Type 0 where
  pub seen : List Look
  pub now : w ≡ keeping v seen id piece
  pub found : FoundAround blocks seen id
  pub fresh : words_under v.known id ≡ None
