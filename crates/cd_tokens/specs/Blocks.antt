-- The blocks of a text: which lines a loop repeats.
use Rattle.std.specs.Prelude.{ℕ, ◌+◌, Bool, true, false, ◌||◌, List, [], ◌∷◌, ◌++◌, map, Option, None, Some, Result, Ok, Err, codes, if◌then◌else◌}
use Rattle.std.specs.Str.{bytes_eq}
use Rattle.cd_tokens.specs.declared.lines.Role.{Role}
use Rattle.cd_tokens.specs.declared.lines.Role.TheVariants.{Says, Opens, Closes}
use Rattle.cd_tokens.specs.declared.lines.Line.{Line}
use Rattle.cd_tokens.specs.declared.wrong.Wrong.{Wrong}
use Rattle.cd_tokens.specs.declared.wrong.Wrong.TheVariants.{Form}
use Rattle.cd_tree.specs.declared.refusal.Refusal.{Refusal}
use Rattle.cd_tokens.specs.Wrongs.{at_line, ◌>>=◌}
use Rattle.cd_tokens.specs.Lines.{lines, tokens}

-- ---- the first pass: the role of each line

-- what a line does: its role, and the blocks that are open behind it, the innermost first; true stands for a loop
pub record Mark : Type 0 where
  pub role : Role
  pub behind : List Bool

-- `end` closes the innermost block and stands alone on its line
abbrev pub closed : List Bool → List (List ℕ) → Option Mark
closed (true ∷ behind) [] = Some (record { role = Closes; behind = behind })
closed (false ∷ behind) [] = Some (record { role = Says; behind = behind })
closed _ _ = None

-- `for`, `domain` and `group` open a block; loops alone are blocks that parsing walks through
abbrev pub mark : List Bool → List ℕ → List (List ℕ) → Option Mark
mark before keyword rest =
    if bytes_eq keyword (codes "for") then Some (record { role = Opens; behind = true ∷ before })
    else (if bytes_eq keyword (codes "domain") || bytes_eq keyword (codes "group") then Some (record { role = Says; behind = false ∷ before })
    else (if bytes_eq keyword (codes "end") then closed before rest
    else Some (record { role = Says; behind = before })))

abbrev pub line_of : ℕ → Role → List (List ℕ) → Line
line_of number role tokens = record { number = number; role = role; tokens = tokens }

-- what the lines so far have come to: those that have tokens, and the blocks that are open behind them
pub record Marks : Type 0 where
  pub lines : List Line
  pub before : List Bool

-- before the first line
abbrev pub no_marks : Marks
no_marks = record { lines = []; before = [] }

-- one line more, with its mark; a line without a mark has no form
abbrev pub marked_as : ℕ → List (List ℕ) → Marks → Option Mark → Result Marks Wrong
marked_as number tokens marks None = Err Form
marked_as number tokens marks (Some mark) =
    Ok (record { lines = marks.lines ++ line_of number mark.role tokens ∷ []; before = mark.behind })

-- one line more, with these tokens; a line without tokens is skipped
abbrev pub mark_line : ℕ → List (List ℕ) → Marks → Result Marks Wrong
mark_line number [] marks = Ok marks
mark_line number (keyword ∷ rest) marks = marked_as number (keyword ∷ rest) marks (mark marks.before keyword rest)

-- behind the last line no block is open
abbrev pub closed_lines : List Line → List Bool → Result (List Line) Wrong
closed_lines lines [] = Ok lines
closed_lines lines (loop ∷ before) = Err Form

-- the lines that follow, from line `number` on
abbrev pub marked : ℕ → Marks → List (List (List ℕ)) → Result (List Line) Refusal
marked number marks [] = at_line number (closed_lines marks.lines marks.before)
marked number marks (tokens ∷ rest) =
    at_line number (mark_line number tokens marks) >>= λ next. marked (number + 1) next rest

-- a text's lines that have tokens, or the refusal of the first that closes or opens wrongly
unfoldable pub marked_lines : List ℕ → Result (List Line) Refusal
marked_lines bytes = marked 1 no_marks (map tokens (lines bytes))

-- ---- loops

-- what is to be read: statements and loops one after another
pub data Block : Type 0 where
  stop : Block
  says : (line : Line) (rest : Block) → Block
  repeats : (line : Line) (body : Block) (rest : Block) → Block

-- what goes on here; where nothing is left nothing does
abbrev pub here : List Block → Block
here [] = stop
here (block ∷ around) = block

-- what goes on in the blocks around
abbrev pub around : List Block → List Block
around [] = []
around (block ∷ blocks) = blocks

-- a line before blocks: a statement goes before what goes on here; the end of a loop ends what goes on here, and what
-- stands behind it goes on around; where a loop opens, what goes on here is its body, and what goes on around follows it
abbrev pub put : Role → Line → List Block → List Block
put Says line blocks = says line (here blocks) ∷ around blocks
put Closes line blocks = stop ∷ blocks
put Opens line blocks = repeats line (here blocks) (here (around blocks)) ∷ around (around blocks)

-- what goes on at the first of these lines, in the block around it, and so on
abbrev pub blocks : List Line → List Block
blocks [] = []
blocks (line ∷ lines) = put line.role line (blocks lines)
