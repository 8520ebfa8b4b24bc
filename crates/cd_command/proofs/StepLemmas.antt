-- One word of the walk: where the walk stands behind it, and its fault.
use Rattle.std.proofs.Common.{◌≡◌, ◌∙◌, ◌&&◌, ℕ, Bool, cond, true, false, refl, sym, ap, subst, List, [], ◌∷◌, Option, Some, None, is_some}
use Rattle.std.specs.Prelude.{⊤}
use Rattle.std.specs.List.{fold}
use Rattle.clap.specs.Walk.{Held, Row, Rule, Step, Text, Waiting, idle, option, value, Walk, after_flag, after_step, arg_by_long, is_pending, long_met, settled, subcommand_met, walked}
use Rattle.clap.specs.Kinds.{Kinds, or_else}
use Rattle.clap.specs.Faults.{flags_fault, long_fault, settle_fault, step_fault, turn_fault, use_fault, walk_fault}
use Rattle.cd_command.specs.CommandLine.{named, hyphened, plain, Choice, for_workers, for_size, for_record, choice_of, Part, action, workers, size, with_record, Seen, put}
use Rattle.cd_command.proofs.WordLemmas.{IsKind, is_dashes}
use Rattle.cd_command.proofs.RowLemmas.{Agreed, IsFault, Shows, fault_left, id_of, named_rule, rule, rule_named, rules, top, used_once}

-- what is held between two words
abbrev pub held : List Row → Option (Text × List Text) → Held
held rows pending = record { rows = rows; pending = pending; skip = 0 }

-- the place of the next positional word, by whether one was met
abbrev pub place : Bool → ℕ
place true = 2
place false = 1

abbrev pub state : Held → Waiting → Bool → Bool → Walk
state h waiting met trailing = record {
  held = h;
  waiting = waiting;
  position = place met;
  is_trailing = trailing;
  stopped = None;
}

-- the fault and the rows once what waits is used
abbrev pub settle : Held → Kinds
settle h = settle_fault rules false h

abbrev pub rows_at : Held → List Row
rows_at h = (settled rules h).rows

abbrev pub Holds : Held → Option Seen → Type 0
Holds h o = Agreed (settle h) (rows_at h) o

abbrev pub end_of : Walk → List Text → Held
end_of w words = (fold (walked rules []) w words).held

abbrev pub total : Walk → List Text → Kinds
total w words = or_else (walk_fault top [] w words) (settle (end_of w words))

-- the walk over the words gives what o says
abbrev pub Agrees : Walk → List Text → Option Seen → Type 0
Agrees w words o = Agreed (total w words) (rows_at (end_of w words)) o

abbrev pub Placed : Bool → Option Seen → Type 0
Placed met None = ⊤
Placed met (Some seen) = met ≡ is_some (seen action)

-- ---- from one word to the next

pub stop_here : (w : Walk) (word : Text) (words : List Text) → IsFault (turn_fault top [] w word) → Agrees w (word ∷ words) None
unfolding walk_fault
stop_here w word words h =
    fault_left (walk_fault top [] w (word ∷ words)) (settle (end_of w (word ∷ words)))
    (fault_left (turn_fault top [] w word) (walk_fault top [] (walked rules [] w word) words) h)

abbrev Behind : Walk → List Text → Option Seen → Kinds → Type 0
Behind v words o fault = Agreed (or_else (or_else fault (walk_fault top [] v words)) (settle (end_of v words))) (rows_at (end_of v words)) o

pub go_on : (w after : Walk) (word : Text) (words : List Text) (o : Option Seen) → walked rules [] w word ≡ after → turn_fault top [] w word ≡ []
    → Agrees after words o → Agrees w (word ∷ words) o
unfolding walk_fault
go_on w after word words o next none h =
    subst (λ fault. Behind (walked rules [] w word) words o fault) (sym none) (subst (λ v. Behind v words o []) (sym next) h)

-- ---- what a word does, by its kind

module _ (h : Held) (waiting : Waiting) (met : Bool) (word : Text) (free : subcommand_met [] waiting word ≡ None) where
  pub dashes_walk : is_dashes word ≡ true → walked rules [] (state h waiting met false) word ≡ state h waiting met true
  unfolding walked
  dashes_walk e = rw (free, e) refl

  pub dashes_turn : is_dashes word ≡ true → turn_fault top [] (state h waiting met false) word ≡ []
  dashes_turn e = rw (free, e) refl

pub hyphened_turn : (rows : List Row) (pending : Option (Text × List Text)) (waiting : Waiting) (met : Bool) (word : Text) → subcommand_met [] waiting word ≡ None
    → IsKind word hyphened → IsFault (turn_fault top [] (state (held rows pending) waiting met false) word)
unfolding flags_fault
hyphened_turn rows pending waiting met word free k = rw (free, k.0, k.1.0, k.1.1.3, k.1.1.4) tt

-- `--NAME` or `--NAME=VALUE`, by its rule
abbrev pub name_met : Held → Waiting → Text → Option Rule → Option Text → Held × Step
name_met h waiting word r v = after_flag rules waiting word (long_met rules r v h).0 (long_met rules r v h).1

abbrev pub name_turn : Held → Waiting → Bool → Text → Option Rule → Option Text → Kinds
name_turn h waiting met word r v =
    or_else (long_fault rules false r v h) (step_fault top (place met) (name_met h waiting word r v).0 (name_met h waiting word r v).1)

abbrev pub name_walk : Held → Waiting → Bool → Text → Option Rule → Option Text → Walk
name_walk h waiting met word r v = after_step rules word (state h waiting met false) (name_met h waiting word r v).0 (name_met h waiting word r v).1

module _ (h : Held) (waiting : Waiting) (met : Bool) (word name : Text) (v : Option Text) (free : subcommand_met [] waiting word ≡ None) (k : IsKind word (named name v)) where
  pub named_turn : turn_fault top [] (state h waiting met false) word ≡ name_turn h waiting met word (rule_named (choice_of name)) v
  named_turn =
      let by_rule : turn_fault top [] (state h waiting met false) word ≡ name_turn h waiting met word (arg_by_long rules name) v = rw (free, k.0, k.1) refl in
      by_rule ∙ ap (λ r. name_turn h waiting met word r v) (named_rule name)

  pub named_walk : walked rules [] (state h waiting met false) word ≡ name_walk h waiting met word (rule_named (choice_of name)) v
  unfolding walked
  named_walk =
      let by_rule : walked rules [] (state h waiting met false) word ≡ name_walk h waiting met word (arg_by_long rules name) v = rw (free, k.0, k.1) refl in
      by_rule ∙ ap (λ r. name_walk h waiting met word r v) (named_rule name)

-- where what waits is a fault, a name is one
pub name_doomed : (n : Option Choice) (v : Option Text) (h : Held) → IsFault (settle h) → IsFault (long_fault rules false (rule_named n) v h)
name_doomed (Some for_workers) None h e = e
name_doomed (Some for_workers) (Some v) h e = fault_left (settle h) (use_fault false (rule workers) (v ∷ []) (rows_at h)) e
name_doomed (Some for_size) None h e = e
name_doomed (Some for_size) (Some v) h e = fault_left (settle h) (use_fault false (rule size) (v ∷ []) (rows_at h)) e
name_doomed (Some for_record) None h e = fault_left (settle h) (use_fault false (rule with_record) [] (rows_at h)) e
name_doomed (Some for_record) (Some v) h e = tt
name_doomed None v h e = tt

-- a plain word where nothing waits
pub plain_turn : (h : Held) (met : Bool) (word : Text) → IsKind word plain → turn_fault top [] (state h idle met false) word ≡ step_fault top (place met) h value
plain_turn h met word k = rw (k.0, k.1.0, k.1.1) refl

pub plain_walk : (h : Held) (met : Bool) (word : Text) → IsKind word plain
    → walked rules [] (state h idle met false) word ≡ after_step rules word (state h idle met false) h value
unfolding walked
plain_walk h met word k = rw (k.0, k.1.0, k.1.1) refl

-- a word behind `--`
pub trailing_turn : (h : Held) (waiting : Waiting) (met : Bool) (word : Text)
    → turn_fault top [] (state h waiting met true) word ≡ step_fault top (place met) h value
trailing_turn h waiting met word = refl

pub trailing_walk : (h : Held) (waiting : Waiting) (met : Bool) (word : Text)
    → walked rules [] (state h waiting met true) word ≡ after_step rules word (state h waiting met true) h value
unfolding walked
trailing_walk h waiting met word = refl

-- an option that waits for its value
abbrev pub TakesValue : Part → Type 0
TakesValue workers = ⊤
TakesValue size = ⊤
TakesValue _ = ⊥

abbrev pub wanting : List Row → Part → Held
wanting rows p = held rows (Some (id_of p, []))

pub wanting_fault : (p : Part) (rows : List Row) → TakesValue p → IsFault (settle (wanting rows p))
wanting_fault workers rows t = tt
wanting_fault size rows t = tt
wanting_fault action rows t = absurd t
wanting_fault with_record rows t = absurd t

pub value_turn : (p : Part) (rows : List Row) (met : Bool) (word : Text) → TakesValue p → IsKind word plain
    → turn_fault top [] (state (wanting rows p) (option (id_of p)) met false) word ≡ []
value_turn workers rows met word t k = rw (k.0, k.1.0, k.1.1) refl
value_turn size rows met word t k = rw (k.0, k.1.0, k.1.1) refl
value_turn action rows met word t k = absurd t
value_turn with_record rows met word t k = absurd t

pub value_walk : (p : Part) (rows : List Row) (met : Bool) (word : Text) → TakesValue p → IsKind word plain
    → walked rules [] (state (wanting rows p) (option (id_of p)) met false) word ≡ state (held rows (Some (id_of p, word ∷ []))) idle met false
unfolding walked
value_walk workers rows met word t k = rw (k.0, k.1.0, k.1.1) refl
value_walk size rows met word t k = rw (k.0, k.1.0, k.1.1) refl
value_walk action rows met word t k = absurd t
value_walk with_record rows met word t k = absurd t

-- a text that waits, of a part that takes one
pub held_once : (p : Part) (rows : List Row) (text : Text) (seen : Seen) → TakesValue p → Shows rows seen
    → Holds (held rows (Some (id_of p, text ∷ []))) (put p text seen)
held_once workers rows text seen t shows = used_once workers text rows seen shows
held_once size rows text seen t shows = used_once size text rows seen shows
held_once action rows text seen t shows = absurd t
held_once with_record rows text seen t shows = absurd t

pub held_action : (rows : List Row) (text : Text) (seen : Seen) → Shows rows seen → Holds (held rows (Some (id_of action, text ∷ []))) (put action text seen)
held_action rows text seen shows = used_once action text rows seen shows

-- ---- a positional word

and_false : (t : Bool) → (t && false) ≡ false
and_false true = refl
and_false false = refl

-- the first one
pub first_turn : (rows : List Row) (pending : Option (Text × List Text)) → step_fault top (place false) (held rows pending) value ≡ settle (held rows pending)
first_turn rows pending = ap (λ t. cond t [] (settle (held rows pending))) (and_false (is_pending (rule action) pending))

pub first_walk : (rows : List Row) (pending : Option (Text × List Text)) (waiting : Waiting) (trailing : Bool) (word : Text)
    → after_step rules word (state (held rows pending) waiting false trailing) (held rows pending) value
    ≡ state (held (rows_at (held rows pending)) (Some (id_of action, word ∷ []))) idle true trailing
first_walk rows pending waiting true word = rw (and_false (is_pending (rule action) pending)) refl
first_walk rows pending waiting false word = rw (and_false (is_pending (rule action) pending)) refl

-- any other is a fault
pub second_turn : (h : Held) → IsFault (step_fault top (place true) h value)
second_turn h = tt
