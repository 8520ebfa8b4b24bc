-- The rule of the blocks. It holds between any two steps.
use Rattle.std.specs.Prelude.{◌≡◌, ℕ, ◌*◌, ◌<◌, ◌≤◌, List, [], ◌∷◌, length, Some, IsSome}
use mathlib.Core.Option.{some}
use lib.ListN.{get_elem?}
use Rattle.atomic_table.specs.Table.{State}
use Rattle.cd_keep.specs.declared.keep_id.KeepId.{KeepId}
use Rattle.cd_lease.specs.declared.view.Piece.{Piece}
use Rattle.cd_lease.specs.declared.view.Miss.{Miss}
use Rattle.cd_lease.specs.declared.view.View.{View}
use Rattle.cd_lease.specs.declared.rule.Size.{Size}
use Rattle.cd_lease.specs.Control.{users_in, serial_in, Begins}
use Rattle.cd_lease.specs.Views.{times, words_under, one_there, fills_in, holds_in, uses_in, spent_by, total}

-- how many passes fill a block
abbrev pub fillers : List View → ℕ → ℕ
fillers views = λ b. total (fills_in b) views

-- a hold finds its serial in the control word. Its id is among those known, so the words that it was kept with stand in the block
pub record IsHeld (blocks : ℕ) (ws : List ℕ) (pieces : List Piece) (id : KeepId) : Type 0 where
  pub block : id.block < blocks
  pub serial : serial_in ws id.block ≡ id.serial
  pub there : IsSome (words_under pieces id)

-- the serial of a known id is not past the control word's. Where it is the control word's, nobody fills the block, and it
-- begins with the words of the id
pub record IsKnown (blocks : ℕ) (ws : List ℕ) (fill : ℕ → ℕ) (id : KeepId) (piece : List ℕ) : Type 0 where
  pub block : id.block < blocks
  pub short : length piece ≤ 64
  pub past : id.serial ≤ serial_in ws id.block
  pub alone : id.serial ≡ serial_in ws id.block → fill id.block ≡ 0
  pub begins : id.serial ≡ serial_in ws id.block → Begins ws id.block piece

-- what is being filled has the block's serial, and the block begins with the words so far
pub record IsFilled (blocks : ℕ) (ws : List ℕ) (p : Piece) : Type 0 where
  pub block : p.id.block < blocks
  pub short : length p.words < 64
  pub serial : serial_in ws p.id.block ≡ p.id.serial
  pub begins : Begins ws p.id.block p.words

-- a gone answer found a serial past the one that was asked for, and not past the control word's
pub record IsMissed (blocks : ℕ) (ws : List ℕ) (g : Miss) : Type 0 where
  pub block : g.id.block < blocks
  pub rose : g.id.serial < g.found
  pub past : g.found ≤ serial_in ws g.id.block

abbrev pub AllMissed : ℕ → List ℕ → List Miss → Type 0
AllMissed blocks ws [] = Unit {0}
AllMissed blocks ws (g ∷ gs) = IsMissed blocks ws g × AllMissed blocks ws gs

-- what is so of one pass. It tries no more than its room
pub record Stands (blocks : ℕ) (ws : List ℕ) (fill : ℕ → ℕ) (v : View) : Type 0 where
  pub held : (id : KeepId) → 0 < times v.holds id → IsHeld blocks ws v.known id
  pub seen : (id : KeepId) (piece : List ℕ) → words_under v.known id ≡ Some piece → IsKnown blocks ws fill id piece
  pub filled : (p : Piece) → v.filling ≡ Some p → IsFilled blocks ws p
  pub missed : AllMissed blocks ws v.gone
  pub tried : one_there v.trying ≤ v.room

-- one pass fills the block, and none holds it
pub record IsAlone (b : ℕ) (views : List View) : Type 0 where
  pub one : fillers views b ≡ 1
  pub none : total (holds_in b) views ≡ 0

-- the rule: each control word counts those that use its block; who fills a block is alone with those that try it; rooms,
-- holds and fillings are together within the room at opening
pub record Leased (size : Size) (s : State (Unit {0}) View) : Type 0 where
  pub long : length s.words ≡ 65 * size.blocks
  pub few : size.most ≤ 65536
  pub within : total spent_by s.views ≤ size.most
  pub counted : (b : ℕ) → b < size.blocks → users_in s.words b ≡ total (uses_in b) s.views
  pub alone : (b : ℕ) → 0 < fillers s.views b → IsAlone b s.views
  pub each : (k : ℕ) (v : View) → get_elem? s.views k ≡ some v → Stands size.blocks s.words (fillers s.views) v
