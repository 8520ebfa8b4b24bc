-- The walk of the parser over the words gives what the words give.
use Rattle.std.proofs.Common.{◌≡◌, ◌∙◌, Bool, true, false, refl, sym, subst, List, [], ◌∷◌, Option, Some, None, is_some, true≢false}
use Rattle.std.specs.Prelude.{option_and_then}
use Rattle.clap.specs.Walk.{Row, Text, Waiting, idle, option, value, Walk, after_step, used, walked}
use Rattle.clap.specs.Kinds.{Kinds, or_else}
use Rattle.clap.specs.Faults.{step_fault, turn_fault, use_fault, walk_fault}
use Rattle.cd_command.specs.CommandLine.{Bytes, Kind, dashes, named, hyphened, plain, kind_of, Choice, for_workers, for_size, for_record, choice_of, Part, action, workers, size, with_record, Seen, put, put_first, anything, value_for, all_positional, by_name, by_kind}
use Rattle.cd_command.specs.Parses.{AreTexts, parse_on, parse_value}
use Rattle.cd_command.proofs.WordLemmas.{IsKind, sort}
use Rattle.cd_command.proofs.RowLemmas.{Agreed, IsFault, Shows, fault_left, id_of, or_none, past, rule, rule_named, rules, top, used_once, values_of}
use Rattle.cd_command.proofs.StepLemmas.{Agrees, Holds, Placed, TakesValue, dashes_turn, dashes_walk, first_turn, first_walk, go_on, held, held_action, held_once, hyphened_turn, name_doomed, name_turn, name_walk, named_turn, named_walk, place, plain_turn, plain_walk, rows_at, second_turn, settle, state, stop_here, trailing_turn, trailing_walk, value_turn, value_walk, wanting, wanting_fault}

abbrev Pending : Type 0
Pending = Option (Text × List Text)

-- what the walk gives from each place where it may stand: where nothing waits, where an option waits for its value, and
-- behind `--`
pub record Says (words : List Bytes) : Type 0 where
  pub free : (rows : List Row) (pending : Pending) (met : Bool) (o : Option Seen) → Holds (held rows pending) o → Placed met o
      → Agrees (state (held rows pending) idle met false) words (option_and_then (λ seen. parse_on words anything seen) o)
  pub waits : (p : Part) (rows : List Row) (met : Bool) (seen : Seen) → TakesValue p → Shows rows seen → Placed met (Some seen)
      → Agrees (state (wanting rows p) (option (id_of p)) met false) words (parse_on words (value_for p) seen)
  pub trails : (rows : List Row) (pending : Pending) (waiting : Waiting) (met : Bool) (o : Option Seen) → Holds (held rows pending) o → Placed met o
      → Agrees (state (held rows pending) waiting met true) words (option_and_then (λ seen. all_positional words seen) o)

-- ---- no word is left

none_free : (rows : List Row) (pending : Pending) (met : Bool) (o : Option Seen) → Holds (held rows pending) o
    → Agrees (state (held rows pending) idle met false) [] (option_and_then (λ seen. parse_on [] anything seen) o)
unfolding walk_fault
none_free rows pending met None h = h
none_free rows pending met (Some seen) h = h

none_trails : (rows : List Row) (pending : Pending) (waiting : Waiting) (met : Bool) (o : Option Seen) → Holds (held rows pending) o
    → Agrees (state (held rows pending) waiting met true) [] (option_and_then (λ seen. all_positional [] seen) o)
unfolding walk_fault
none_trails rows pending waiting met None h = h
none_trails rows pending waiting met (Some seen) h = h

none_waits : (p : Part) (rows : List Row) (met : Bool) (seen : Seen) → TakesValue p
    → Agrees (state (wanting rows p) (option (id_of p)) met false) [] (parse_on [] (value_for p) seen)
unfolding walk_fault
none_waits p rows met seen t = wanting_fault p rows t

-- ---- a positional word

placed_action : (text : Text) (seen : Seen) → Placed true (put action text seen)
placed_action text seen = go (seen action)
  where
    go : (o : Option Bytes) → Placed true (put_first o action text seen)
    go None = refl
    go (Some t) = tt

placed_other : (p : Part) (met : Bool) (text : Text) (seen : Seen) → TakesValue p → Placed met (Some seen) → Placed met (put p text seen)
placed_other workers met text seen t h = go (seen workers)
  where
    go : (o : Option Bytes) → Placed met (put_first o workers text seen)
    go None = h
    go (Some u) = tt
placed_other size met text seen t h = go (seen size)
  where
    go : (o : Option Bytes) → Placed met (put_first o size text seen)
    go None = h
    go (Some u) = tt
placed_other action met text seen t h = absurd t
placed_other with_record met text seen t h = absurd t

placed_flag : (met : Bool) (text : Text) (seen : Seen) → Placed met (Some seen) → Placed met (put with_record text seen)
placed_flag met text seen h = go (seen with_record)
  where
    go : (o : Option Bytes) → Placed met (put_first o with_record text seen)
    go None = h
    go (Some u) = tt

second_none : (text : Text) (seen : Seen) → Placed true (Some seen) → put action text seen ≡ None
second_none text seen h = go (seen action) h
  where
    go : (o : Option Bytes) → true ≡ is_some o → put_first o action text seen ≡ None
    go None e = absurd (true≢false e)
    go (Some t) e = refl

-- what stands behind a positional word
abbrev Goes : (Seen → Option Seen) → List Bytes → Bool → Type 0
Goes next words trailing = (rows : List Row) (pending : Pending) (o : Option Seen) → Holds (held rows pending) o → Placed true o
    → Agrees (state (held rows pending) idle true trailing) words (option_and_then next o)

positional : (next : Seen → Option Seen) (rows : List Row) (pending : Pending) (waiting : Waiting) (met trailing : Bool) (word : Text) (words : List Bytes) (o : Option Seen)
    → Goes next words trailing → Holds (held rows pending) o → Placed met o
    → turn_fault top [] (state (held rows pending) waiting met trailing) word ≡ step_fault top (place met) (held rows pending) value
    → walked rules [] (state (held rows pending) waiting met trailing) word
    ≡ after_step rules word (state (held rows pending) waiting met trailing) (held rows pending) value
    → Agrees (state (held rows pending) waiting met trailing) (word ∷ words) (option_and_then (λ seen. option_and_then next (put action word seen)) o)
positional next rows pending waiting true trailing word words None goes h at turn walk =
    stop_here (state (held rows pending) waiting true trailing) word words (subst IsFault (sym turn) (second_turn (held rows pending)))
positional next rows pending waiting true trailing word words (Some seen) goes h at turn walk =
    subst (λ o. Agrees (state (held rows pending) waiting true trailing) (word ∷ words) (option_and_then next o)) (sym (second_none word seen at))
    (stop_here (state (held rows pending) waiting true trailing) word words (subst IsFault (sym turn) (second_turn (held rows pending))))
positional next rows pending waiting false trailing word words None goes h at turn walk =
    stop_here (state (held rows pending) waiting false trailing) word words (subst IsFault (sym (turn ∙ first_turn rows pending)) h)
positional next rows pending waiting false trailing word words (Some seen) goes h at turn walk =
    go_on (state (held rows pending) waiting false trailing) (state (held (rows_at (held rows pending)) (Some (id_of action, word ∷ []))) idle true trailing) word words
    (option_and_then next (put action word seen)) (walk ∙ first_walk rows pending waiting trailing word) (turn ∙ (first_turn rows pending ∙ h.0))
    (goes (rows_at (held rows pending)) (Some (id_of action, word ∷ [])) (put action word seen) (held_action (rows_at (held rows pending)) word seen h.1) (placed_action word seen))

-- ---- a part is used at once

-- what waits is used, and then the part
then_used : (p : Part) (text : Text) (fault : Kinds) (rows : List Row) (seen : Seen) → fault ≡ [] → Shows rows seen
    → Agreed (or_else (or_else fault (use_fault false (rule p) (values_of p text) rows)) []) (used (rule p) (values_of p text) rows) (put p text seen)
then_used p text fault rows seen e shows =
    subst (λ k. Agreed k (used (rule p) (values_of p text) rows) (put p text seen))
    (sym (or_none (or_else fault (use_fault false (rule p) (values_of p text) rows)) ∙ past fault (use_fault false (rule p) (values_of p text) rows) e))
    (used_once p text rows seen shows)

-- a word that uses a part at once
at_once : (w : Walk) (rows : List Row) (met : Bool) (fault : Kinds) (word : Text) (words : List Bytes) (o : Option Seen) → Says words → Agreed fault rows o → Placed met o
    → turn_fault top [] w word ≡ fault → walked rules [] w word ≡ state (held rows None) idle met false
    → Agrees w (word ∷ words) (option_and_then (λ seen. parse_on words anything seen) o)
at_once w rows met fault word words None rest h at turn walk = stop_here w word words (subst IsFault (sym turn) h)
at_once w rows met fault word words (Some seen) rest h at turn walk =
    go_on w (state (held rows None) idle met false) word words (parse_on words anything seen) walk (turn ∙ h.0)
    (rest.free rows None met (Some seen) (refl, h.1) at)

-- ---- one word, where nothing waits

module _ (word : Text) (words : List Bytes) (rest : Says words) (rows : List Row) (pending : Pending) (met : Bool) where
  abbrev here : Walk
  here = state (held rows pending) idle met false

  -- an option or a flag
  free_name : (n : Option Choice) (v : Option Text) (seen : Seen) → Holds (held rows pending) (Some seen) → Placed met (Some seen)
      → turn_fault top [] here word ≡ name_turn (held rows pending) idle met word (rule_named n) v
      → walked rules [] here word ≡ name_walk (held rows pending) idle met word (rule_named n) v
      → Agrees here (word ∷ words) (by_name n v seen (parse_on words))
  free_name (Some for_workers) None seen h at turn walk =
      go_on here (state (wanting (rows_at (held rows pending)) workers) (option (id_of workers)) met false) word words (parse_on words (value_for workers) seen)
      walk (turn ∙ (or_none (settle (held rows pending)) ∙ h.0)) (rest.waits workers (rows_at (held rows pending)) met seen tt h.1 at)
  free_name (Some for_size) None seen h at turn walk =
      go_on here (state (wanting (rows_at (held rows pending)) size) (option (id_of size)) met false) word words (parse_on words (value_for size) seen)
      walk (turn ∙ (or_none (settle (held rows pending)) ∙ h.0)) (rest.waits size (rows_at (held rows pending)) met seen tt h.1 at)
  free_name (Some for_workers) (Some v) seen h at turn walk =
      at_once here (used (rule workers) (v ∷ []) (rows_at (held rows pending))) met _ word words (put workers v seen) rest
      (then_used workers v (settle (held rows pending)) (rows_at (held rows pending)) seen h.0 h.1) (placed_other workers met v seen tt at) turn walk
  free_name (Some for_size) (Some v) seen h at turn walk =
      at_once here (used (rule size) (v ∷ []) (rows_at (held rows pending))) met _ word words (put size v seen) rest
      (then_used size v (settle (held rows pending)) (rows_at (held rows pending)) seen h.0 h.1) (placed_other size met v seen tt at) turn walk
  free_name (Some for_record) None seen h at turn walk =
      at_once here (used (rule with_record) [] (rows_at (held rows pending))) met _ word words (put with_record [] seen) rest
      (then_used with_record [] (settle (held rows pending)) (rows_at (held rows pending)) seen h.0 h.1) (placed_flag met [] seen at) turn walk
  free_name (Some for_record) (Some v) seen h at turn walk = stop_here here word words (subst IsFault (sym turn) tt)
  free_name None v seen h at turn walk = stop_here here word words (subst IsFault (sym turn) tt)

  free_kind : (k : Kind) → IsKind word k → (o : Option Seen) → Holds (held rows pending) o → Placed met o
      → Agrees here (word ∷ words) (option_and_then (λ seen. by_kind k word seen (parse_on words) (all_positional words)) o)
  free_kind dashes k None h at =
      go_on here (state (held rows pending) idle met true) word words None (dashes_walk (held rows pending) idle met word refl k)
      (dashes_turn (held rows pending) idle met word refl k) (rest.trails rows pending idle met None h at)
  free_kind dashes k (Some seen) h at =
      go_on here (state (held rows pending) idle met true) word words (all_positional words seen) (dashes_walk (held rows pending) idle met word refl k)
      (dashes_turn (held rows pending) idle met word refl k) (rest.trails rows pending idle met (Some seen) h at)
  free_kind (named name v) k None h at =
      stop_here here word words (subst IsFault (sym (named_turn (held rows pending) idle met word name v refl k))
      (fault_left _ _ (name_doomed (choice_of name) v (held rows pending) h)))
  free_kind (named name v) k (Some seen) h at =
      free_name (choice_of name) v seen h at (named_turn (held rows pending) idle met word name v refl k) (named_walk (held rows pending) idle met word name v refl k)
  free_kind hyphened k None h at = stop_here here word words (hyphened_turn rows pending idle met word refl k)
  free_kind hyphened k (Some seen) h at = stop_here here word words (hyphened_turn rows pending idle met word refl k)
  free_kind plain k o h at =
      positional (parse_on words anything) rows pending idle met false word words o (λ rs q p. rest.free rs q true p) h at
      (plain_turn (held rows pending) met word k) (plain_walk (held rows pending) met word k)

-- ---- one word, where an option waits for its value

module _ (word : Text) (words : List Bytes) (rest : Says words) (p : Part) (rows : List Row) (met : Bool) (t : TakesValue p) where
  abbrev wants : Walk
  wants = state (wanting rows p) (option (id_of p)) met false

  waits_kind : (k : Kind) → IsKind word k → (seen : Seen) → Shows rows seen → Placed met (Some seen)
      → Agrees wants (word ∷ words) (parse_value k p word seen (parse_on words))
  waits_kind dashes k seen shows at =
      go_on wants (state (wanting rows p) (option (id_of p)) met true) word words None (dashes_walk (wanting rows p) (option (id_of p)) met word refl k)
      (dashes_turn (wanting rows p) (option (id_of p)) met word refl k)
      (rest.trails rows (Some (id_of p, [])) (option (id_of p)) met None (wanting_fault p rows t) tt)
  waits_kind (named name v) k seen shows at =
      stop_here wants word words (subst IsFault (sym (named_turn (wanting rows p) (option (id_of p)) met word name v refl k))
      (fault_left _ _ (name_doomed (choice_of name) v (wanting rows p) (wanting_fault p rows t))))
  waits_kind hyphened k seen shows at = stop_here wants word words (hyphened_turn rows (Some (id_of p, [])) (option (id_of p)) met word refl k)
  waits_kind plain k seen shows at =
      let h = held_once p rows word seen t shows in
      go_on wants (state (held rows (Some (id_of p, word ∷ []))) idle met false) word words (option_and_then (parse_on words anything) (put p word seen))
      (value_walk p rows met word t k) (value_turn p rows met word t k)
      (rest.free rows (Some (id_of p, word ∷ [])) met (put p word seen) h (placed_other p met word seen t at))

-- ---- all words

free_here : (word : Text) (words : List Bytes) (rest : Says words) → IsKind word (kind_of word) → (rows : List Row) (pending : Pending) (met : Bool) (o : Option Seen)
    → Holds (held rows pending) o → Placed met o
    → Agrees (state (held rows pending) idle met false) (word ∷ words) (option_and_then (λ seen. parse_on (word ∷ words) anything seen) o)
free_here word words rest k rows pending met o h at = free_kind word words rest rows pending met (kind_of word) k o h at

trails_here : (word : Text) (words : List Bytes) (rest : Says words) (rows : List Row) (pending : Pending) (waiting : Waiting) (met : Bool) (o : Option Seen)
    → Holds (held rows pending) o → Placed met o
    → Agrees (state (held rows pending) waiting met true) (word ∷ words) (option_and_then (λ seen. all_positional (word ∷ words) seen) o)
trails_here word words rest rows pending waiting met o h at =
    positional (all_positional words) rows pending waiting met true word words o (λ rs q p. rest.trails rs q idle true p) h at
    (trailing_turn (held rows pending) waiting met word) (trailing_walk (held rows pending) waiting met word)

pub says : (words : List Bytes) → AreTexts words → Says words
says [] are = record {
  free = λ rows pending met o h at. none_free rows pending met o h;
  waits = λ p rows met seen t shows at. none_waits p rows met seen t;
  trails = λ rows pending waiting met o h at. none_trails rows pending waiting met o h;
}
says (word ∷ words) are =
    let rest = says words are.1 in
    let k = sort word are.0 in
    record {
      free = free_here word words rest k;
      waits = λ p rows met seen t shows at. waits_kind word words rest p rows met t (kind_of word) k seen shows at;
      trails = trails_here word words rest;
    }
