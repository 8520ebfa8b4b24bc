-- Lines that are marked one by one, and the table of where blocks go on.
use Rattle.std.proofs.Common.{◌≡◌, ℕ, ◌+◌, ◌≤◌, List, [], ◌∷◌, ◌-◌, true, length, map, refl, sym, ap, ◌∙◌, arith}
use Rattle.std.specs.Prelude.{Result, Ok, Err, ◌==◌}
use Rattle.std.proofs.lemmas.Bool.Decides.{nat_tests}
use Rattle.cd_tree.specs.declared.refusal.Refusal.{Refusal}
use Rattle.cd_tokens.specs.declared.wrong.Wrong.{Wrong}
use Rattle.cd_tree.specs.declared.refusal.Refuse.{Refuse}
use Rattle.cd_tokens.specs.declared.wrong.Stop.{Stop}
use Rattle.cd_tokens.specs.declared.wrong.Stop.TheVariants as stop
use Rattle.cd_tokens.specs.declared.blocks.Layout.{Layout}
use Rattle.cd_tokens.specs.declared.lines.Line.{Line}
use Rattle.cd_tokens.specs.Wrongs.{refusal_at, at_line, ◌>>=◌}
use Rattle.cd_tokens.specs.Lines.{lines, tokens}
use Rattle.cd_tokens.specs.Blocks.{Marks, mark_line, closed_lines, marked, marked_lines}
use Rattle.cd_tokens.specs.Steps.{Stops, stopped_at, Refuses}
use Rattle.cd_tokens.specs.Layouts.{LaysOutLines, LaysOut}

-- ---- lines

step_made : (line : ℕ) (step : Result Marks Wrong) (new : Marks) (go : Marks → Result (List Line) Refusal)
    → step ≡ Ok new → (at_line line step >>= go) ≡ go new
step_made line step new go e = rw e refl

step_refused : (line : ℕ) (step : Result Marks Wrong) (wrong : Wrong) (go : Marks → Result (List Line) Refusal)
    → step ≡ Err wrong → (at_line line step >>= go) ≡ Err (refusal_at line wrong)
step_refused line step wrong go e = rw e refl

-- a line that is marked
pub line_marked : (number : ℕ) (old new : Marks) (text line rest : List ℕ) (whole : Result (List Line) Refusal)
    → lines text ≡ line ∷ lines rest → mark_line number (tokens line) old ≡ Ok new
    → marked number old (map tokens (lines text)) ≡ whole
    → marked (number + 1) new (map tokens (lines rest)) ≡ whole
line_marked number old new text line rest whole cut e f =
    sym (step_made number (mark_line number (tokens line) old) new (λ next. marked (number + 1) next (map tokens (lines rest))) e)
    ∙ sym (ap (λ (ls : List (List ℕ)). marked number old (map tokens ls)) cut) ∙ f

-- a line that has no mark
pub line_refused : (number : ℕ) (old : Marks) (text line rest : List ℕ) (wrong : Wrong) (whole : Result (List Line) Refusal)
    → lines text ≡ line ∷ lines rest → mark_line number (tokens line) old ≡ Err wrong
    → marked number old (map tokens (lines text)) ≡ whole
    → whole ≡ Err (refusal_at number wrong)
line_refused number old text line rest wrong whole cut e f =
    sym f ∙ ap (λ (ls : List (List ℕ)). marked number old (map tokens ls)) cut
    ∙ step_refused number (mark_line number (tokens line) old) wrong (λ next. marked (number + 1) next (map tokens (lines rest))) e

-- behind the last line
pub lines_ended : (number : ℕ) (old : Marks) (text : List ℕ) (found : List Line) (whole : Result (List Line) Refusal)
    → true ≡ (length text == 0) → closed_lines old.lines old.before ≡ Ok found
    → marked number old (map tokens (lines text)) ≡ whole → whole ≡ Ok found
lines_ended number old [] found whole z e f = sym f ∙ ap (at_line number) e
lines_ended number old (b ∷ text) found whole z e f = absurd (grind (arith, nat_tests))

pub lines_open : (number : ℕ) (old : Marks) (text : List ℕ) (wrong : Wrong) (whole : Result (List Line) Refusal)
    → true ≡ (length text == 0) → closed_lines old.lines old.before ≡ Err wrong
    → marked number old (map tokens (lines text)) ≡ whole → whole ≡ Err (refusal_at number wrong)
lines_open number old [] wrong whole z e f = sym f ∙ ap (at_line number) e
lines_open number old (b ∷ text) wrong whole z e f = absurd (grind (arith, nat_tests))

-- what is answered where a line has no mark, or where memory ran out
pub line_stops : (number : ℕ) (old : Marks) (text line rest : List ℕ) (stop : Stop) (whole : Result (List Line) Refusal)
    → lines text ≡ line ∷ lines rest → Stops stop (mark_line number (tokens line) old)
    → marked number old (map tokens (lines text)) ≡ whole
    → Refuses (stopped_at number stop) whole
line_stops number old text line rest (stop.Wrong wrong) whole cut e f = line_refused number old text line rest wrong whole cut e f
line_stops number old text line rest stop.NoMemory whole cut e f = tt

pub end_stops : (number : ℕ) (old : Marks) (text : List ℕ) (stop : Stop) (whole : Result (List Line) Refusal)
    → true ≡ (length text == 0) → Stops stop (closed_lines old.lines old.before)
    → marked number old (map tokens (lines text)) ≡ whole
    → Refuses (stopped_at number stop) whole
end_stops number old text (stop.Wrong wrong) whole z e f = lines_open number old text wrong whole z e f
end_stops number old text stop.NoMemory whole z e f = tt

-- the lines with their table
pub laid : (bytes : List ℕ) (found : List Line) (count : ℕ) (result : Result Layout Refuse) → LaysOutLines found count result
    → marked_lines bytes ≡ Ok found → count ≡ length (lines bytes) → count ≤ 1048576 → LaysOut bytes result
laid bytes found count (Ok layout) e f g h = record {
  found = f ∙ ap Ok (sym e.0);
  table = rw e.0 e.1;
  number = e.2 ∙ g;
  few = rw e.2 h;
}
laid bytes found count (Err error) e f g h = rw e tt

pub all_counted : (number : ℕ) (rest bytes : List ℕ) → true ≡ (length rest == 0) → number + length (lines rest) ≡ length (lines bytes) + 1
    → number - 1 ≡ length (lines bytes)
all_counted number [] bytes z e = omega arith
all_counted number (b ∷ rest) bytes z e = absurd (grind (arith, nat_tests))
