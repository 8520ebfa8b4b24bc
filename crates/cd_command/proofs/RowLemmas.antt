-- The rows of the parser, and one more use of a part.
use Rattle.std.proofs.Common.{◌≡◌, ◌∙◌, ◌||◌, Bool, cond, true, false, refl, sym, ap, subst, codes, List, [], ◌∷◌, ◌++◌, Option, Some, None, is_some, true≢false, append-nil, if◌then◌else◌}
use Rattle.std.specs.Prelude.{⊤, option_map}
use Rattle.std.specs.List.{find, list_any}
use Rattle.std.specs.Str.{bytes_eq}
use Rattle.clap.specs.Walk.{Row, Rule, Text, arg_by_long, at_row, has_row, more_values, used, with_values, without}
use Rattle.clap.specs.Simple.{Shape, built, filled, with_index}
use Rattle.clap.specs.Kinds.{Kinds, or_else}
use Rattle.clap.specs.Faults.{use_fault}
use Rattle.clap.specs.declared.error.kind.ErrorKind.TheVariants.{ArgumentConflict}
use Rattle.clap.specs.declared.parser.matches.ValueSource.{ValueSource}
use Rattle.clap.specs.declared.parser.matches.ValueSource.TheVariants.{CommandLine}
use Rattle.clap.specs.declared.builder.value_parser.Reading.{Reading}
use Rattle.clap.specs.declared.builder.value_parser.Reading.TheVariants.{AsWritten}
use Rattle.cd_command.specs.CommandLine.{Bytes, Choice, for_workers, for_size, for_record, choice_of, Part, action, workers, size, with_record, is_same, Seen, put, put_first}
use Rattle.cd_command.specs.Line.{line, workers_rule, size_rule, record_rule, action_rule}
use Rattle.cd_command.proofs.WordLemmas.{by_test}

abbrev pub top : Shape
top = (built line).top

-- the rules of the parts, as they are built
abbrev pub rule : Part → Rule
rule action = with_index 1 (filled action_rule)
rule workers = filled workers_rule
rule size = filled size_rule
rule with_record = filled record_rule

abbrev pub rules : List Rule
rules = rule workers ∷ rule size ∷ rule with_record ∷ rule action ∷ []

rules_are : top.rules ≡ rules
rules_are = refl

abbrev pub id_of : Part → Text
id_of action = codes "action"
id_of workers = codes "workers"
id_of size = codes "size"
id_of with_record = codes "record"

-- what a name stands for, as a rule
abbrev pub rule_named : Option Choice → Option Rule
rule_named (Some for_workers) = Some (rule workers)
rule_named (Some for_size) = Some (rule size)
rule_named (Some for_record) = Some (rule with_record)
rule_named None = None

pub named_rule : (name : Text) → arg_by_long rules name ≡ rule_named (choice_of name)
named_rule name = by_test (bytes_eq (codes "workers") name) (λ e. rw e refl) (λ e.
    by_test (bytes_eq (codes "size") name) (λ f. rw (e, f) refl) (λ f.
    by_test (bytes_eq (codes "record") name) (λ g. rw (e, f, g) refl) (λ g. rw (e, f, g) refl)))

-- ---- faults

abbrev pub IsFault : Kinds → Type 0
IsFault [] = ⊥
IsFault (_ ∷ _) = ⊤

pub fault_left : (a b : Kinds) → IsFault a → IsFault (or_else a b)
fault_left [] b h = absurd h
fault_left (k ∷ ks) b h = tt

pub fault_right : (a b : Kinds) → IsFault b → IsFault (or_else a b)
fault_right [] b h = h
fault_right (k ∷ ks) b h = tt

pub past : (a b : Kinds) → a ≡ [] → or_else a b ≡ b
past a b e = ap (λ x. or_else x b) e

pub or_none : (a : Kinds) → or_else a [] ≡ a
or_none [] = refl
or_none (k ∷ ks) = refl

-- ---- rows

-- what the parser keeps of a part
abbrev pub shown : Part → Text → Text
shown with_record text = codes "true"
shown action text = text
shown workers text = text
shown size text = text

-- the values of a use
abbrev pub values_of : Part → Text → List Text
values_of with_record text = []
values_of action text = text ∷ []
values_of workers text = text ∷ []
values_of size text = text ∷ []

abbrev pub new_row : Text → Reading → ValueSource → List Text → Row
new_row id how source values = record { id = id; values = values; count = None; source = Some source; reading = how }

abbrev pub row : Part → Text → Row
row p text = new_row (id_of p) AsWritten CommandLine (shown p text ∷ [])

abbrev pub has_id : Part → Row → Bool
has_id p r = bytes_eq r.id (id_of p)

-- the rows have what was seen, and nothing else of the parts
abbrev pub Shows : List Row → Seen → Type 0
Shows rows seen = (p : Part) → find (has_id p) rows ≡ option_map (row p) (seen p)

-- a fault, where there is no command; else no fault, and the rows
abbrev pub Agreed : Kinds → List Row → Option Seen → Type 0
Agreed fault rows None = IsFault fault
Agreed fault rows (Some seen) = (fault ≡ []) × Shows rows seen

pub any_found : {X : Type 0} (f : X → Bool) (xs : List X) → list_any f xs ≡ is_some (find f xs)
any_found f [] = refl
any_found f (x ∷ xs) = go (f x) (any_found f xs)
  where
    go : (b : Bool) → list_any f xs ≡ is_some (find f xs) → (b || list_any f xs) ≡ is_some (cond b (Some x) (find f xs))
    go true e = refl
    go false e = e

either_false : (a b : Bool) → (a || b) ≡ false → (a ≡ false) × (b ≡ false)
either_false true b e = absurd (true≢false e)
either_false false b e = (refl, e)

-- where no row has the id, what is missing joins
pub at_row_absent : (id : Text) (change : Row → List Row) (missing rows : List Row) → has_row id rows ≡ false → at_row id change missing rows ≡ rows ++ missing
at_row_absent id change missing [] e = refl
at_row_absent id change missing (r ∷ rs) e =
    let none = either_false (bytes_eq r.id id) (has_row id rs) e in
    rw (none.0) (ap (λ xs. r ∷ xs) (at_row_absent id change missing rs (none.1)))

abbrev pub or_last : {X : Type 0} → Option X → Option X → Option X
or_last None y = y
or_last (Some x) y = Some x

pub find_last : {X : Type 0} (f : X → Bool) (xs : List X) (y : X) → find f (xs ++ y ∷ []) ≡ or_last (find f xs) (cond (f y) (Some y) None)
find_last f [] y = refl
find_last f (x ∷ xs) y = go (f x) (find_last f xs y)
  where
    go : (b : Bool) → find f (xs ++ y ∷ []) ≡ or_last (find f xs) (cond (f y) (Some y) None)
        → cond b (Some x) (find f (xs ++ y ∷ [])) ≡ or_last (cond b (Some x) (find f xs)) (cond (f y) (Some y) None)
    go true e = refl
    go false e = e

pub kept : {X : Type 0} (o : Option X) → or_last o None ≡ o
kept None = refl
kept (Some x) = refl

abbrev seen_with : Part → Text → Seen → Seen
seen_with p text seen = λ q. if is_same p q then Some text else seen q

last_row : (p q : Part) (text : Text) (seen : Seen) → seen p ≡ None
    → or_last (option_map (row q) (seen q)) (cond (has_id q (row p text)) (Some (row p text)) None) ≡ option_map (row q) (seen_with p text seen q)
last_row action action text seen e = rw e refl
last_row action workers text seen e = kept (option_map (row workers) (seen workers))
last_row action size text seen e = kept (option_map (row size) (seen size))
last_row action with_record text seen e = kept (option_map (row with_record) (seen with_record))
last_row workers action text seen e = kept (option_map (row action) (seen action))
last_row workers workers text seen e = rw e refl
last_row workers size text seen e = kept (option_map (row size) (seen size))
last_row workers with_record text seen e = kept (option_map (row with_record) (seen with_record))
last_row size action text seen e = kept (option_map (row action) (seen action))
last_row size workers text seen e = kept (option_map (row workers) (seen workers))
last_row size size text seen e = rw e refl
last_row size with_record text seen e = kept (option_map (row with_record) (seen with_record))
last_row with_record action text seen e = kept (option_map (row action) (seen action))
last_row with_record workers text seen e = kept (option_map (row workers) (seen workers))
last_row with_record size text seen e = kept (option_map (row size) (seen size))
last_row with_record with_record text seen e = rw e refl

shows_more : (p : Part) (text : Text) (rows : List Row) (seen : Seen) → Shows rows seen → seen p ≡ None → Shows (rows ++ row p text ∷ []) (seen_with p text seen)
shows_more p text rows seen shows e = λ q.
    find_last (has_id q) rows (row p text)
    ∙ ap (λ o. or_last o (cond (has_id q (row p text)) (Some (row p text)) None)) (shows q)
    ∙ last_row p q text seen e

-- ---- one use

with_first : (id : Text) (how : Reading) (source : ValueSource) (values : List Text) (rows : List Row) → has_row id rows ≡ false
    → with_values id how source values (without id rows) ≡ rows ++ new_row id how source values ∷ []
with_first id how source values rows e =
    ap (λ rs. with_values id how source values rs) (at_row_absent id (λ _. []) [] rows e ∙ append-nil rows)
    ∙ at_row_absent id (more_values source values) (new_row id how source values ∷ []) rows e

used_first : (p : Part) (text : Text) (rows : List Row) → has_row (id_of p) rows ≡ false → used (rule p) (values_of p text) rows ≡ rows ++ row p text ∷ []
used_first action text rows e = with_first (id_of action) AsWritten CommandLine (text ∷ []) rows e
used_first workers text rows e = with_first (id_of workers) AsWritten CommandLine (text ∷ []) rows e
used_first size text rows e = with_first (id_of size) AsWritten CommandLine (text ∷ []) rows e
used_first with_record text rows e = with_first (id_of with_record) AsWritten CommandLine (codes "true" ∷ []) rows e

fault_first : (p : Part) (text : Text) (rows : List Row) → has_row (id_of p) rows ≡ false → use_fault false (rule p) (values_of p text) rows ≡ []
fault_first action text rows e = rw e refl
fault_first workers text rows e = rw e refl
fault_first size text rows e = rw e refl
fault_first with_record text rows e = rw e refl

fault_second : (p : Part) (text : Text) (rows : List Row) → has_row (id_of p) rows ≡ true → use_fault false (rule p) (values_of p text) rows ≡ ArgumentConflict ∷ []
fault_second action text rows e = rw e refl
fault_second workers text rows e = rw e refl
fault_second size text rows e = rw e refl
fault_second with_record text rows e = rw e refl

pub has_as_seen : (p : Part) (rows : List Row) (seen : Seen) (o : Option Bytes) → Shows rows seen → seen p ≡ o → has_row (id_of p) rows ≡ is_some (option_map (row p) o)
has_as_seen p rows seen o shows e = any_found (has_id p) rows ∙ ap is_some (shows p ∙ ap (option_map (row p)) e)

-- a part is used: a second use is a fault
pub used_once : (p : Part) (text : Text) (rows : List Row) (seen : Seen) → Shows rows seen
    → Agreed (use_fault false (rule p) (values_of p text) rows) (used (rule p) (values_of p text) rows) (put p text seen)
used_once p text rows seen shows = go (seen p) refl
  where
    go : (o : Option Bytes) → seen p ≡ o → Agreed (use_fault false (rule p) (values_of p text) rows) (used (rule p) (values_of p text) rows) (put_first o p text seen)
    go None e =
        let none : has_row (id_of p) rows ≡ false = has_as_seen p rows seen None shows e in
        (fault_first p text rows none, subst (λ rs. Shows rs (seen_with p text seen)) (sym (used_first p text rows none)) (shows_more p text rows seen shows e))
    go (Some t) e =
        let some : has_row (id_of p) rows ≡ true = has_as_seen p rows seen (Some t) shows e in
        subst IsFault (sym (fault_second p text rows some)) tt
