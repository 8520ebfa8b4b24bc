-- A text of statements is read as lines of the same tokens.
use Rattle.std.proofs.Common.{◌≡◌, ℕ, ◌<◌, true, false, List, [], ◌∷◌, ◌++◌, length, map, filter, refl, sym, ap, ◌∙◌, arith, append_assoc}
use Rattle.std.specs.List.{slice_split, onto_first, join_with_byte}
use Rattle.std.proofs.lemmas.Bool.Decides.{nat_tests}
use Rattle.cd_tokens.specs.Lines as text
use Rattle.cd_tokens.specs.Lines.{is_feed, is_blank, is_comment, is_token, first_part, said, tokens}
use Rattle.cd_print.specs.Canonical.{Statement, line, lines}
use Rattle.cd_print.proofs.Cuts.{chosen, otherwise, No, cut_at, uncut}

-- ---- tokens and statements

-- bytes that stand in no blank, no comment and no end of a line
abbrev pub Plain : List ℕ → Type 0
Plain [] = Unit {0}
Plain (b ∷ bytes) = (35 < b) × Plain bytes

abbrev pub AreTokens : Statement → Type 0
AreTokens [] = Unit {0}
AreTokens (token ∷ tokens) = (0 < length token) × Plain token × AreTokens tokens

abbrev pub IsStatement : Statement → Type 0
IsStatement [] = ⊥
IsStatement (keyword ∷ tokens) = AreTokens (keyword ∷ tokens)

abbrev pub AreStatements : List Statement → Type 0
AreStatements [] = Unit {0}
AreStatements (statement ∷ statements) = IsStatement statement × AreStatements statements

pub plain_both : (front back : List ℕ) → Plain front → Plain back → Plain (front ++ back)
plain_both [] back p q = q
plain_both (b ∷ front) back p q = (p.0, plain_both front back p.1 q)

pub statements_both : (front back : List Statement) → AreStatements front → AreStatements back → AreStatements (front ++ back)
statements_both [] back p q = q
statements_both (statement ∷ front) back p q = (p.0, statements_both front back p.1 q)

-- ---- bytes

no_feed : (b : ℕ) → 35 < b → is_feed b ≡ false
no_feed b h = grind (arith, nat_tests)

no_blank : (b : ℕ) → 35 < b → is_blank b ≡ false
no_blank b h = grind (arith, nat_tests)

no_comment : (b : ℕ) → 35 < b → is_comment b ≡ false
no_comment b h = grind (arith, nat_tests)

plain_unblank : (token : List ℕ) → Plain token → No is_blank token
plain_unblank [] p = tt
plain_unblank (b ∷ token) p = (no_blank b p.0, plain_unblank token p.1)

-- ---- a line

-- bytes that belong to a line and to no comment
abbrev Spoken : List ℕ → Type 0
Spoken [] = Unit {0}
Spoken (b ∷ bytes) = (is_feed b ≡ false) × (is_comment b ≡ false) × Spoken bytes

plain_spoken : (token rest : List ℕ) → Plain token → Spoken rest → Spoken (token ++ rest)
plain_spoken [] rest p q = q
plain_spoken (b ∷ token) rest p q = (no_feed b p.0, no_comment b p.0, plain_spoken token rest p.1 q)

plain_alone : (token : List ℕ) → Plain token → Spoken token
plain_alone [] p = tt
plain_alone (b ∷ token) p = (no_feed b p.0, no_comment b p.0, plain_alone token p.1)

spoken_uncut : (bytes : List ℕ) → Spoken bytes → No is_comment bytes
spoken_uncut [] h = tt
spoken_uncut (b ∷ bytes) h = (h.1, spoken_uncut bytes h.2)

-- the tokens of a line with a space between each two
abbrev spoken : Statement → List ℕ
spoken statement = join_with_byte 32 statement

tokens_spoken : (statement : Statement) → AreTokens statement → Spoken (spoken statement)
tokens_spoken [] h = tt
tokens_spoken (token ∷ []) h = plain_alone token h.1
tokens_spoken (token ∷ next ∷ tokens) h = plain_spoken token (32 ∷ spoken (next ∷ tokens)) h.1 (refl, refl, tokens_spoken (next ∷ tokens) h.2)

-- a line feed ends a line
line_ends : (line rest : List ℕ) → Spoken line → text.lines (line ++ 10 ∷ rest) ≡ line ∷ text.lines rest
line_ends [] rest h = refl
line_ends (b ∷ line) rest h =
    otherwise (is_feed b) ([] ∷ text.lines (line ++ 10 ∷ rest)) (onto_first b (text.lines (line ++ 10 ∷ rest))) h.0
    ∙ ap (onto_first b) (line_ends line rest h.2)

line_is : (statement : Statement) (rest : List ℕ) → line statement ++ rest ≡ spoken statement ++ 10 ∷ rest
line_is [] rest = refl
line_is (token ∷ []) rest = append_assoc token (10 ∷ []) rest
line_is (token ∷ next ∷ tokens) rest =
    append_assoc token (32 ∷ line (next ∷ tokens)) rest
    ∙ ap (λ (t : List ℕ). token ++ 32 ∷ t) (line_is (next ∷ tokens) rest)
    ∙ sym (append_assoc token (32 ∷ spoken (next ∷ tokens)) (10 ∷ rest))

-- ---- the tokens of a line

said_whole : (line : List ℕ) → Spoken line → said line ≡ line
said_whole line h = ap first_part (uncut is_comment line (spoken_uncut line h))

split_back : (keyword : List ℕ) (tokens : Statement) → AreTokens (keyword ∷ tokens) → slice_split is_blank (spoken (keyword ∷ tokens)) ≡ keyword ∷ tokens
split_back keyword [] h = uncut is_blank keyword (plain_unblank keyword h.1)
split_back keyword (next ∷ tokens) h =
    cut_at is_blank keyword 32 (spoken (next ∷ tokens)) (plain_unblank keyword h.1) refl ∙ ap (λ (ws : Statement). keyword ∷ ws) (split_back next tokens h.2)

none_empty : (token : List ℕ) → 0 < length token → is_token token ≡ true
none_empty token h = grind (arith, nat_tests)

all_kept : (statement : Statement) → AreTokens statement → filter is_token statement ≡ statement
all_kept [] h = refl
all_kept (token ∷ tokens) h =
    chosen (is_token token) (token ∷ filter is_token tokens) (filter is_token tokens) (none_empty token h.0)
    ∙ ap (λ (ws : Statement). token ∷ ws) (all_kept tokens h.2)

pub tokens_back : (statement : Statement) → IsStatement statement → tokens (spoken statement) ≡ statement
tokens_back [] h = absurd h
tokens_back (keyword ∷ rest) h =
    ap (λ (bytes : List ℕ). filter is_token (slice_split is_blank bytes)) (said_whole (spoken (keyword ∷ rest)) (tokens_spoken (keyword ∷ rest) h))
    ∙ ap (filter is_token) (split_back keyword rest h) ∙ all_kept (keyword ∷ rest) h

spoken_tokens : (statement : Statement) → IsStatement statement → Spoken (spoken statement)
spoken_tokens [] h = absurd h
spoken_tokens (keyword ∷ rest) h = tokens_spoken (keyword ∷ rest) h

-- a text of statements has a line for each, of its tokens
pub lines_back : (statements : List Statement) → AreStatements statements → map tokens (text.lines (lines statements)) ≡ statements
lines_back [] h = refl
lines_back (statement ∷ statements) h =
    ap (λ (bytes : List ℕ). map tokens (text.lines bytes)) (line_is statement (lines statements))
    ∙ ap (map tokens) (line_ends (spoken statement) (lines statements) (spoken_tokens statement h.0))
    ∙ ap (λ (first : Statement). first ∷ map tokens (text.lines (lines statements))) (tokens_back statement h.0)
    ∙ ap (λ (rest : List Statement). statement ∷ rest) (lines_back statements h.1)
