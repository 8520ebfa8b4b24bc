-- A text of statements is read one statement after another.
use Rattle.std.proofs.Common.{◌≡◌, ℕ, ◌+◌, ◌<◌, ◌≤◌, Bool, true, nat_lt, List, [], ◌∷◌, ◌++◌, length, map, Some, sym, ap, ◌∙◌, subst, arith, append_assoc, append-nil}
use Rattle.std.specs.Prelude.{Result, Ok, Err}
use Rattle.std.proofs.lemmas.Bool.Decides.{nat_tests}
use Rattle.cd_tree.specs.declared.refusal.Refusal.{Refusal}
use Rattle.cd_tokens.specs.declared.wrong.Wrong.{Wrong}
use Rattle.cd_tokens.specs.declared.lines.Line.{Line}
use Rattle.cd_tokens.specs.declared.lines.Role.TheVariants.{Says}
use Rattle.cd_tokens.specs.Wrongs.{at_line, ◌>>=◌}
use Rattle.cd_tokens.specs.Lines as text
use Rattle.cd_tokens.specs.Lines.{tokens}
use Rattle.cd_tokens.specs.Blocks.{mark, Marks, no_marks, marked_as, mark_line, marked, marked_lines, line_of, here, blocks}
use Rattle.cd_parse.specs.Draft.{DraftModel, no_draft, may_end, document_of}
use Rattle.cd_parse.specs.Statements.{statement_in}
use Rattle.cd_parse.specs.Parsing.{counted, taken, read, ended, parse}
use Rattle.cd_print.specs.Canonical.{Statement, lines}
use Rattle.cd_print.proofs.Cuts.{chosen}
use Rattle.cd_print.proofs.LinesBack.{AreStatements, lines_back}

-- ---- marks

-- the statement's line closes and opens no loop, and leaves these blocks open
abbrev pub IsMarked : List Bool → Statement → List Bool → Type 0
IsMarked before [] behind = ⊥
IsMarked before (keyword ∷ tokens) behind = mark before keyword tokens ≡ Some (record { role = Says; behind = behind })

abbrev pub AreMarked : List Bool → List Statement → List Bool → Type 0
AreMarked before [] behind = before ≡ behind
AreMarked before (statement ∷ statements) behind =
    (next : List Bool) × IsMarked before statement next × AreMarked next statements behind

pub marked_both : (before middle behind : List Bool) (front back : List Statement) → AreMarked before front middle → AreMarked middle back behind
    → AreMarked before (front ++ back) behind
marked_both before middle behind [] back p q = subst (λ (open_blocks : List Bool). AreMarked open_blocks back behind) (sym p) q
marked_both before middle behind (statement ∷ front) back p q = (p.0, p.1, marked_both p.0 middle behind front back p.2 q)

-- the lines of statements, from a number on
abbrev said_lines : ℕ → List Statement → List Line
said_lines number [] = []
said_lines number (statement ∷ statements) = line_of number Says statement ∷ said_lines (number + 1) statements

one_marked : (number : ℕ) (statement : Statement) (found : List Line) (before behind : List Bool) → IsMarked before statement behind
    → mark_line number statement (record { lines = found; before = before })
    ≡ Ok (record { lines = found ++ line_of number Says statement ∷ []; before = behind })
one_marked number [] found before behind h = absurd h
one_marked number (keyword ∷ tokens) found before behind h = ap (marked_as number (keyword ∷ tokens) (record { lines = found; before = before })) h

all_marked : (statements : List Statement) (number : ℕ) (found : List Line) (before : List Bool) → AreMarked before statements []
    → marked number (record { lines = found; before = before }) statements ≡ Ok (found ++ said_lines number statements)
all_marked [] number found before h =
    ap (λ (open_blocks : List Bool). marked number (record { lines = found; before = open_blocks }) []) h
    ∙ ap (λ (ls : List Line). Ok ls) (sym (append-nil found))
all_marked (statement ∷ statements) number found before h =
    ap (λ (step : Result Marks Wrong). at_line number step >>= λ next. marked (number + 1) next statements) (one_marked number statement found before h.0 h.1)
    ∙ all_marked statements (number + 1) (found ++ line_of number Says statement ∷ []) h.0 h.2
    ∙ ap (λ (ls : List Line). Ok ls) (append_assoc found (line_of number Says statement ∷ []) (said_lines (number + 1) statements))

-- ---- steps

-- a draft with another count of lines
abbrev pub counting : ℕ → DraftModel → DraftModel
counting n draft = record draft { lines = n }

-- what a statement does to a draft, however many lines were before it
abbrev pub Does : DraftModel → Statement → DraftModel → Type 0
Does draft statement next = (n : ℕ) → statement_in [] statement (counting n draft) ≡ Ok (counting n next)

abbrev pub Do : DraftModel → List Statement → DraftModel → Type 0
Do draft [] behind = draft ≡ behind
Do draft (statement ∷ statements) behind = (next : DraftModel) × Does draft statement next × Do next statements behind

pub do_both : (draft middle behind : DraftModel) (front back : List Statement) → Do draft front middle → Do middle back behind → Do draft (front ++ back) behind
do_both draft middle behind [] back p q = subst (λ (d : DraftModel). Do d back behind) (sym p) q
do_both draft middle behind (statement ∷ front) back p q = (p.0, p.1, do_both p.0 middle behind front back p.2 q)

one_counted : (n : ℕ) (draft : DraftModel) → n < 65536 → counted (counting n draft) ≡ Ok (counting (n + 1) draft)
one_counted n draft h =
    chosen (nat_lt n 65536) (Ok (counting (n + 1) draft)) (Err _) (grind (arith, nat_tests))

one_taken : (number n : ℕ) (statement : Statement) (draft next : DraftModel) → n < 65536 → Does draft statement next
    → taken [] (line_of number Says statement) (counting n draft) ≡ Ok (counting (n + 1) next)
unfolding taken
one_taken number n statement draft next h does =
    ap (λ (step : Result DraftModel Refusal). step >>= λ d. at_line number (statement_in [] statement d)) (one_counted n draft h)
    ∙ ap (at_line number) (does (n + 1))

all_read : (statements : List Statement) (number n : ℕ) (draft behind : DraftModel) → n + length statements ≤ 65536 → Do draft statements behind
    → read (here (blocks (said_lines number statements))) [] (counting n draft) ≡ Ok (counting (n + length statements) behind)
unfolding read
all_read [] number n draft behind h does =
    let same : n ≡ n + length {A = Statement} [] = omega arith in
    ap (λ (d : DraftModel). Ok (counting n d)) does ∙ ap (λ (m : ℕ). Ok (counting m behind)) same
all_read (statement ∷ statements) number n draft behind h does =
    let more : n + 1 + length statements ≡ n + length (statement ∷ statements) = omega arith in
    ap (λ (step : Result DraftModel Refusal). step >>= λ d. read (here (blocks (said_lines (number + 1) statements))) [] d)
    (one_taken number n statement draft does.0 (omega arith) does.1)
    ∙ all_read statements (number + 1) (n + 1) does.0 behind (omega arith) does.2
    ∙ ap (λ (m : ℕ). Ok (counting m behind)) more

one_ended : (number : ℕ) (draft : DraftModel) → may_end draft.stage ≡ true → ended number draft ≡ Ok draft
one_ended number draft h = chosen (may_end draft.stage) (Ok draft) (Err _) h

-- a text of statements is the document of the draft that they make one after another
pub text_read : (statements : List Statement) (draft : DraftModel) → AreStatements statements → AreMarked [] statements [] → Do no_draft statements draft
    → length statements ≤ 65536 → may_end draft.stage ≡ true → parse (lines statements) ≡ Ok (document_of draft)
unfolding parse marked_lines
text_read statements draft clean marks does few ends =
    let number : ℕ = length (text.lines (lines statements)) + 1 in
    let layout : marked 1 no_marks (map tokens (text.lines (lines statements))) ≡ Ok (said_lines 1 statements) =
    ap (marked 1 no_marks) (lines_back statements clean) ∙ all_marked statements 1 [] [] marks in
    ap (λ (ls : Result (List Line) Refusal). (ls >>= λ found. read (here (blocks found)) [] no_draft >>= ended number) >>= λ d. Ok (document_of d)) layout
    ∙ ap (λ (step : Result DraftModel Refusal). (step >>= ended number) >>= λ d. Ok (document_of d)) (all_read statements 1 0 no_draft draft (omega (arith, few)) does)
    ∙ ap (λ (step : Result DraftModel Refusal). step >>= λ d. Ok (document_of d)) (one_ended number (counting (0 + length statements) draft) ends)
