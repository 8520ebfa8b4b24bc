-- The laws: what holds of every text. Each is a contract of `laws`.
use Rattle.std.specs.Prelude.{ℕ, ◌+◌, List, length, ◌≡◌, Ok}
use Rattle.cd_tree.specs.declared.document.Document.{Document}
use Rattle.cd_tokens.specs.declared.sums.Variable.{Variable}
use Rattle.cd_tokens.specs.Wrongs.{◌>>=◌}
use Rattle.cd_tokens.specs.Lines.{lines}
use Rattle.cd_tokens.specs.Blocks.{Block}
use Rattle.cd_parse.specs.Draft.{DraftModel}
use Rattle.cd_parse.specs.Parsing.{read, parse}
use Rattle.cd_parse.specs.Unrolled.{steps, in_order, text_steps, document_by}
use Rattle.cd_parse.specs.WellRead.{WellRead}

-- the document that a text is, is a program within the limits, and all that it names is declared, by names that a text can give
abbrev pub ParsedIsWellRead : Type 0
ParsedIsWellRead = (bytes : List ℕ) (document : Document) → parse bytes ≡ Ok document → WellRead document

-- to read a block is to take, in order, the steps that it stands for, up to the first refusal
abbrev pub BlockIsTakingSteps : Type 0
BlockIsTakingSteps = (block : Block) (variables : List Variable) (draft : DraftModel) → read block variables draft ≡ in_order (steps block variables) draft

-- the document that a text is, is what the steps make that the text stands for
abbrev pub ParsingIsTakingSteps : Type 0
ParsingIsTakingSteps = (bytes : List ℕ) → parse bytes ≡ (text_steps bytes >>= document_by (length (lines bytes) + 1))
