-- The lines of a text laid out for parsing: where each loop ends.
use Rattle.std.specs.Prelude.{◌≡◌, ℕ, ◌+◌, ◌≤◌, Bool, List, length, drop, slice_index, Option, None, Some, Result, Ok, Err}
use Rattle.cd_tree.specs.Limits.{text_limit}
use Rattle.cd_tree.specs.declared.refusal.Refuse.{Refuse}
use Rattle.cd_tree.specs.declared.refusal.Refuse.TheVariants as refuse
use Rattle.cd_tokens.specs.declared.wrong.Wrong.TheVariants.{Form}
use Rattle.cd_tokens.specs.declared.wrong.Stop.{Stop}
use Rattle.cd_tokens.specs.declared.wrong.Stop.TheVariants as stop
use Rattle.cd_tokens.specs.declared.lines.Role.{Role}
use Rattle.cd_tokens.specs.declared.lines.Line.{Line}
use Rattle.cd_tokens.specs.declared.blocks.Layout.{Layout}
use Rattle.cd_tokens.specs.Lines.{lines}
use Rattle.cd_tokens.specs.Blocks.{Mark, mark, marked_lines, blocks, around}
use Rattle.cd_tokens.specs.Steps.{Refuses}

-- the block around line `at` goes on at line `after`
pub record Goes (lines : List Line) (at after : ℕ) : Type 0 where
  pub behind : at ≤ after
  pub within : after ≤ length lines
  pub around : around (blocks (drop at lines)) ≡ blocks (drop after lines)

-- for each line from `at` on, and for the end of the text, where the block around it goes on
pub record IsTable (lines : List Line) (after : List ℕ) (at : ℕ) : Type 0 where
  pub size : length after ≡ length lines + 1
  pub each : (i : ℕ) → at ≤ i → i ≤ length lines → Goes lines i (slice_index after i)

-- the lines that have tokens, where each block goes on, and how many lines the text has
pub record IsLayout (bytes : List ℕ) (layout : Layout) : Type 0 where
  pub found : marked_lines bytes ≡ Ok layout.lines
  pub table : IsTable layout.lines layout.after 0
  pub number : layout.count ≡ length (lines bytes)
  pub few : layout.count ≤ text_limit

abbrev pub LaysOut : List ℕ → Result Layout Refuse → Type 0
LaysOut bytes (Ok layout) = IsLayout bytes layout
LaysOut bytes (Err error) = Refuses error (marked_lines bytes)

abbrev pub LaysOutLines : List Line → ℕ → Result Layout Refuse → Type 0
LaysOutLines found count (Ok layout) = (layout.lines ≡ found) × IsTable found layout.after 0 × (layout.count ≡ count)
LaysOutLines found count (Err error) = error ≡ refuse.NoMemory

-- the role is that of the mark, and the blocks that are open behind the line too; without a mark the line has no form
abbrev pub MarkedAs : Option Mark → List Bool → Result Role Stop → Type 0
MarkedAs mark behind (Ok role) = mark ≡ Some (record { role = role; behind = behind })
MarkedAs mark behind (Err (stop.Wrong wrong)) = (mark ≡ None) × (wrong ≡ Form)
MarkedAs mark behind (Err stop.NoMemory) = Unit {0}

abbrev pub Marked : List Bool → List ℕ → List (List ℕ) → List Bool → Result Role Stop → Type 0
Marked before keyword rest behind result = MarkedAs (mark before keyword rest) behind result
