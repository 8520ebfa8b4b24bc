-- What a parse of the words comes to: the fault and the entries, against what the words give.
use Rattle.std.proofs.Common.{◌≡◌, ◌∙◌, cond, true, false, refl, sym, ap, subst, codes, List, [], ◌∷◌, ◌++◌, Option, Some, None, is_some}
use Rattle.std.specs.Prelude.{option_map, option_and_then, slice_get}
use Rattle.std.specs.List.{find, fold}
use Rattle.clap.specs.Values.{bool_text}
use Rattle.clap.specs.Walk.{Held, Row, Rule, Text, finished, first_of, has_row, more_values, nothing_held, one_of, row_text, rows_of, walk_from, with_default, with_values}
use Rattle.clap.specs.Simple.{built, matches_of}
use Rattle.clap.specs.Kinds.{IsAmong, Kinds, or_else}
use Rattle.clap.specs.Faults.{check_fault, default_fault, defaults_fault, fault_of, level_fault, walk_fault}
use Rattle.clap.specs.declared.error.kind.ErrorKind.{ErrorKind}
use Rattle.clap.specs.declared.parser.matches.Found.{Found}
use Rattle.clap.specs.declared.parser.matches.ValueSource.TheVariants.{DefaultValue}
use Rattle.clap.specs.declared.builder.value_parser.Reading.TheVariants.{AsWritten}
use Rattle.clap.proofs.FaultLemmas.{leaf_fault}
use Rattle.clap.proofs.WalkLemmas.{first_value-rows, one_text-rows}
use Rattle.cd_command.specs.CommandLine.{Bytes, Part, action, workers, size, with_record, Seen, nothing_seen, anything, given, given_with}
use Rattle.cd_command.specs.Line.{line}
use Rattle.cd_command.specs.Parses.{AreTexts, Finds, parse_on, parsed_in}
use Rattle.cd_command.proofs.WordLemmas.{by_test}
use Rattle.cd_command.proofs.RowLemmas.{Agreed, IsFault, Shows, at_row_absent, fault_left, find_last, has_as_seen, has_id, id_of, kept, new_row, or_last, past, row, rule, rules, top}
use Rattle.cd_command.proofs.StepLemmas.{Agrees, end_of, rows_at, settle, total}
use Rattle.cd_command.proofs.ReadLemmas.{says}

no_fault : (k : Kinds) → IsFault k → k ≡ [] → ⊥
no_fault k h e = subst IsFault e h

pub among_fault : (k : ErrorKind) (kinds : Kinds) → IsAmong k kinds → IsFault kinds
among_fault k [] h = absurd h
among_fault k (x ∷ xs) h = tt

-- where the walk ends
abbrev end : List Text → Held
end words = end_of (walk_from nothing_held) words

abbrev walk_total : List Text → Kinds
walk_total words = total (walk_from nothing_held) words

outcome : (words : List Bytes) → AreTexts words → Agrees (walk_from nothing_held) words (parse_on words anything nothing_seen)
outcome words are = (says words are).free [] None false (Some nothing_seen) (refl, λ p. refl) refl

-- ---- the steps behind the walk

abbrev behind : List Text → Kinds
behind words = or_else (defaults_fault (rows_at (end words)) rules) (check_fault top (finished rules (end words)) false)

regroup : (a b c : Kinds) → or_else a (or_else b c) ≡ or_else (or_else a b) c
regroup [] b c = refl
regroup (k ∷ ks) b c = refl

fault_parts : (words : List Text) → fault_of line words ≡ or_else (walk_total words) (behind words)
fault_parts words =
    let whole : fault_of line words ≡ level_fault top [] nothing_held words false [] = leaf_fault (built line) nothing_held words refl in
    whole ∙ regroup (walk_fault top [] (walk_from nothing_held) words) (settle (end words)) (behind words)

default_none : (p : Part) (rows : List Row) → default_fault rows (rule p) ≡ []
default_none action rows = by_test (has_row (id_of action) rows) (λ e. rw e refl) (λ e. rw e refl)
default_none workers rows = by_test (has_row (id_of workers) rows) (λ e. rw e refl) (λ e. rw e refl)
default_none size rows = by_test (has_row (id_of size) rows) (λ e. rw e refl) (λ e. rw e refl)
default_none with_record rows = by_test (has_row (id_of with_record) rows) (λ e. rw e refl) (λ e. rw e refl)

one_default : (p : Part) (rows : List Row) (rest : List Rule) → defaults_fault (with_default rows (rule p)) rest ≡ [] → defaults_fault rows (rule p ∷ rest) ≡ []
unfolding defaults_fault
one_default p rows rest h = past (default_fault rows (rule p)) (defaults_fault (with_default rows (rule p)) rest) (default_none p rows) ∙ h

no_defaults : (rows : List Row) → defaults_fault rows [] ≡ []
unfolding defaults_fault
no_defaults rows = refl

defaults_none : (rows : List Row) → defaults_fault rows rules ≡ []
defaults_none rows =
    one_default workers rows (rule size ∷ rule with_record ∷ rule action ∷ [])
    (one_default size (with_default rows (rule workers)) (rule with_record ∷ rule action ∷ [])
    (one_default with_record (with_default (with_default rows (rule workers)) (rule size)) (rule action ∷ [])
    (one_default action (with_default (with_default (with_default rows (rule workers)) (rule size)) (rule with_record)) []
    (no_defaults (with_default (with_default (with_default (with_default rows (rule workers)) (rule size)) (rule with_record)) (rule action))))))

-- ---- the rows at the end

abbrev with_flag : List Row → List Row
with_flag rows = with_default rows (rule with_record)

same_action : (rows : List Row) → with_default rows (rule action) ≡ rows
same_action rows = by_test (has_row (id_of action) rows) (λ e. rw e refl) (λ e. rw e refl)

same_workers : (rows : List Row) → with_default rows (rule workers) ≡ rows
same_workers rows = by_test (has_row (id_of workers) rows) (λ e. rw e refl) (λ e. rw e refl)

same_size : (rows : List Row) → with_default rows (rule size) ≡ rows
same_size rows = by_test (has_row (id_of size) rows) (λ e. rw e refl) (λ e. rw e refl)

finished_is : (rows : List Row) → fold with_default rows rules ≡ with_flag rows
finished_is rows =
    same_action (with_flag (with_default (with_default rows (rule workers)) (rule size)))
    ∙ ap with_flag (same_size (with_default rows (rule workers)) ∙ same_workers rows)

abbrev default_row : Row
default_row = new_row (codes "record") AsWritten DefaultValue (codes "false" ∷ [])

-- the row of a part at the end: the flag has one in any case
abbrev final : Part → Option Bytes → Option Row
final with_record None = Some default_row
final with_record (Some text) = Some (row with_record text)
final action o = option_map (row action) o
final workers o = option_map (row workers) o
final size o = option_map (row size) o

flag_kept : (rows : List Row) → has_row (id_of with_record) rows ≡ true → with_flag rows ≡ rows
flag_kept rows e = rw e refl

flag_added : (rows : List Row) → has_row (id_of with_record) rows ≡ false → with_flag rows ≡ rows ++ default_row ∷ []
flag_added rows e =
    let by_default : with_flag rows ≡ with_values (codes "record") AsWritten DefaultValue (codes "false" ∷ []) rows = rw e refl in
    by_default ∙ at_row_absent (codes "record") (more_values DefaultValue (codes "false" ∷ [])) (default_row ∷ []) rows e

final_kept : (seen : Seen) (text : Bytes) → seen with_record ≡ Some text → (q : Part) → option_map (row q) (seen q) ≡ final q (seen q)
final_kept seen text e action = refl
final_kept seen text e workers = refl
final_kept seen text e size = refl
final_kept seen text e with_record = rw e refl

final_added : (seen : Seen) → seen with_record ≡ None → (q : Part)
    → or_last (option_map (row q) (seen q)) (cond (has_id q default_row) (Some default_row) None) ≡ final q (seen q)
final_added seen e action = kept (option_map (row action) (seen action))
final_added seen e workers = kept (option_map (row workers) (seen workers))
final_added seen e size = kept (option_map (row size) (seen size))
final_added seen e with_record = rw e refl

finals : (rows : List Row) (seen : Seen) → Shows rows seen → (q : Part) → find (has_id q) (with_flag rows) ≡ final q (seen q)
finals rows seen shows q = go (seen with_record) refl
  where
    go : (o : Option Bytes) → seen with_record ≡ o → find (has_id q) (with_flag rows) ≡ final q (seen q)
    go None e =
        ap (find (has_id q)) (flag_added rows (has_as_seen with_record rows seen None shows e))
        ∙ (find_last (has_id q) rows default_row
        ∙ (ap (λ o. or_last o (cond (has_id q default_row) (Some default_row) None)) (shows q) ∙ final_added seen e q))
    go (Some text) e =
        ap (find (has_id q)) (flag_kept rows (has_as_seen with_record rows seen (Some text) shows e))
        ∙ (shows q ∙ final_kept seen text e q)

-- ---- the last check

-- a fault where no positional word was seen, and none else
abbrev Checks : Kinds → Option Bytes → Type 0
Checks fault None = IsFault fault
Checks fault (Some text) = fault ≡ []

checked : (rows : List Row) (o : Option Bytes) → find (has_id action) rows ≡ option_map (row action) o → Checks (check_fault top rows false) o
checked rows None e = rw e tt
checked rows (Some text) e = rw e refl

-- the fault of a parse whose walk has none
last_fault : (words : List Bytes) (seen : Seen) → walk_total words ≡ [] → Shows (rows_at (end words)) seen
    → Checks (fault_of line words) (seen action)
last_fault words seen none shows =
    let same : fault_of line words ≡ check_fault top (with_flag (rows_at (end words))) false =
    fault_parts words
    ∙ (past (walk_total words) (behind words) none
    ∙ (past (defaults_fault (rows_at (end words)) rules) (check_fault top (finished rules (end words)) false) (defaults_none (rows_at (end words)))
    ∙ ap (λ rows. check_fault top rows false) (finished_is (rows_at (end words))))) in
    subst (λ k. Checks k (seen action)) (sym same)
    (checked (with_flag (rows_at (end words))) (seen action) (finals (rows_at (end words)) seen shows action))

-- ---- the entries

action_text : (o : Option Bytes) → option_and_then (λ (r : Row). slice_get r.values 0) (option_map (row action) o) ≡ o
action_text None = refl
action_text (Some text) = refl

workers_text : (o : Option Bytes) → option_and_then (λ (r : Row). slice_get r.values 0) (option_map (row workers) o) ≡ o
workers_text None = refl
workers_text (Some text) = refl

size_text : (o : Option Bytes) → option_and_then (λ (r : Row). slice_get r.values 0) (option_map (row size) o) ≡ o
size_text None = refl
size_text (Some text) = refl

flag_text : (o : Option Bytes) → option_and_then row_text (final with_record o) ≡ Some (bool_text (is_some o))
flag_text None = refl
flag_text (Some text) = refl

finds : (f : Found) (rows : List Row) (seen : Seen) → rows_of f ≡ with_flag rows → Shows rows seen → Finds f seen
finds f rows seen same shows =
    let first = λ (id : Text). first_value-rows f id ∙ ap (first_of id) same in
    let at = finals rows seen shows in
    record {
      word = first (codes "action") ∙ (ap (option_and_then (λ (r : Row). slice_get r.values 0)) (at action) ∙ action_text (seen action));
      of_workers = first (codes "workers") ∙ (ap (option_and_then (λ (r : Row). slice_get r.values 0)) (at workers) ∙ workers_text (seen workers));
      of_size = first (codes "size") ∙ (ap (option_and_then (λ (r : Row). slice_get r.values 0)) (at size) ∙ size_text (seen size));
      of_record = one_text-rows f (codes "record") ∙ (ap (one_of (codes "record")) same ∙ (ap (option_and_then row_text) (at with_record) ∙ flag_text (seen with_record)));
    }

-- ---- both answers

-- a parse with no fault finds what the words give
pub taken : (words : List Bytes) (f : Found) → AreTexts words → fault_of line words ≡ [] → rows_of f ≡ matches_of line words
    → (seen : Seen) × (parsed_in words ≡ given seen) × Finds f seen
taken words f are none same = go (parse_on words anything nothing_seen) refl (outcome words are)
  where
    go : (o : Option Seen) → parse_on words anything nothing_seen ≡ o → Agreed (walk_total words) (rows_at (end words)) o
        → (seen : Seen) × (parsed_in words ≡ given seen) × Finds f seen
    go None e h = absurd (no_fault (fault_of line words) (subst IsFault (sym (fault_parts words)) (fault_left (walk_total words) (behind words) h)) none)
    go (Some seen) e h = (seen, ap (option_and_then given) e, finds f (rows_at (end words)) seen (same ∙ finished_is (rows_at (end words))) h.1)

-- a parse with a fault is of words that give nothing
pub refused : (words : List Bytes) → AreTexts words → IsFault (fault_of line words) → parsed_in words ≡ None
refused words are fault = go (parse_on words anything nothing_seen) refl (outcome words are)
  where
    by_action : (seen : Seen) (o : Option Bytes) → seen action ≡ o → Checks (fault_of line words) o → given seen ≡ None
    by_action seen None e h = ap (λ o. option_map (given_with seen) o) e
    by_action seen (Some text) e h = absurd (no_fault (fault_of line words) fault h)

    go : (o : Option Seen) → parse_on words anything nothing_seen ≡ o → Agreed (walk_total words) (rows_at (end words)) o → parsed_in words ≡ None
    go None e h = ap (option_and_then given) e
    go (Some seen) e h = ap (option_and_then given) e ∙ by_action seen (seen action) refl (last_fault words seen h.0 h.1)
