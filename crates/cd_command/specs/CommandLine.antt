-- The command that the words of a command line give.
use Rattle.std.specs.Prelude.{ℕ, ◌+◌, ◌*◌, ◌-◌, ◌==◌, ◌&&◌, ◌||◌, ◌≤◌, Bool, true, false, ⊤, List, [], ◌∷◌, length, codes, Option, Some, None, is_some, not, if◌then◌else◌, nat_le, option_map, option_and_then}
use Rattle.std.specs.List.{list_all, list_any, before_first, after_first}
use Rattle.std.specs.Str.{bytes_eq}
use Rattle.cd_command.specs.declared.command.Command.{Command}
use Rattle.cd_command.specs.declared.options.Action.{Action}
use Rattle.cd_command.specs.declared.options.Action.TheVariants as act
use Rattle.cd_command.specs.declared.value.Values.{Values}
use Rattle.cd_command.specs.declared.command.Command.TheVariants.{Check, Read, Lift, Run, Make}

-- the bytes of a word
abbrev pub Bytes : Type 0
Bytes = List ℕ

-- ---- what a word is

-- what a word before `--` is: `--` itself; `--NAME` or `--NAME=VALUE`; any other word of two or more bytes that begins with a
-- hyphen; or any other word, `-` alone and the empty one included
pub data Kind : Type 0 where
  dashes : Kind
  named : Bytes → Option Bytes → Kind
  hyphened : Kind
  plain : Kind

-- what stands behind the first `=` (61), where there is one
abbrev pub value_behind : Bytes → Option Bytes
value_behind text = if list_any (λ b. b == 61) text then Some (after_first (λ b. b == 61) text) else None

-- what a word is by what stands behind two hyphens, and behind one (45)
abbrev pub behind_two : Bytes → Kind
behind_two [] = dashes
behind_two (b ∷ bytes) = named (before_first (λ b. b == 61) (b ∷ bytes)) (value_behind (b ∷ bytes))

abbrev pub behind_one : Bytes → Kind
behind_one [] = plain
behind_one (b ∷ bytes) = if b == 45 then behind_two bytes else hyphened

abbrev pub kind_of : Bytes → Kind
kind_of [] = plain
kind_of (b ∷ bytes) = if b == 45 then behind_one bytes else plain

abbrev pub begins_with_hyphen : Bytes → Bool
begins_with_hyphen [] = false
begins_with_hyphen (b ∷ bytes) = b == 45

-- ---- actions and options

-- the action that the positional word names, one of five
abbrev pub action_of : Bytes → Option Action
action_of word = if bytes_eq word (codes "check") then Some act.Check
    else (if bytes_eq word (codes "read") then Some act.Read
    else (if bytes_eq word (codes "lift") then Some act.Lift
    else (if bytes_eq word (codes "run") then Some act.Run
    else (if bytes_eq word (codes "make") then Some act.Make else None))))

abbrev pub same_action : Action → Action → Bool
same_action act.Check act.Check = true
same_action act.Read act.Read = true
same_action act.Lift act.Lift = true
same_action act.Run act.Run = true
same_action act.Make act.Make = true
same_action _ _ = false

-- the parts of a command line: the positional word, the values of the two options, and the flag
pub data Part : Type 0 where
  action : Part
  workers : Part
  size : Part
  with_record : Part

abbrev pub is_same : Part → Part → Bool
is_same action action = true
is_same workers workers = true
is_same size size = true
is_same with_record with_record = true
is_same _ _ = false

-- an option or a flag
pub data Choice : Type 0 where
  for_workers : Choice
  for_size : Choice
  for_record : Choice

-- what an option is: its part and its name; the numbers that its value may be, where it has a value; the action with which
-- it stands
pub record Row : Type 0 where
  pub part : Part
  pub name : Bytes
  pub values : Option Values
  pub stands_with : Action

abbrev pub workers_values : Values
workers_values = record { least = 1; most = 64; usual = 2 }

abbrev pub size_values : Values
size_values = record { least = 1; most = 14; usual = 4 }

-- the table of options
abbrev pub row_of : Choice → Row
row_of for_workers = record { part = workers; name = codes "workers"; values = Some workers_values; stands_with = act.Run }
row_of for_size = record { part = size; name = codes "size"; values = Some size_values; stands_with = act.Make }
row_of for_record = record { part = with_record; name = codes "record"; values = None; stands_with = act.Run }

abbrev pub choices : List Choice
choices = for_workers ∷ for_size ∷ for_record ∷ []

-- the first of some options that has a name; a name is not shortened
abbrev pub named_in : List Choice → Bytes → Option Choice
named_in [] name = None
named_in (choice ∷ rest) name = if bytes_eq (row_of choice).name name then Some choice else named_in rest name

abbrev pub choice_of : Bytes → Option Choice
choice_of name = named_in choices name

-- ---- what the words give

-- each part that was given, with its text (of the flag, nothing)
abbrev pub Seen : Type 0
Seen = Part → Option Bytes

abbrev pub nothing_seen : Seen
nothing_seen _ = None

abbrev pub put_first : Option Bytes → Part → Bytes → Seen → Option Seen
put_first None part text seen = Some (λ other. if is_same part other then Some text else seen other)
put_first (Some _) part text seen = None

-- a part is given; a second time there is no command
abbrev pub put : Part → Bytes → Seen → Option Seen
put part text seen = put_first (seen part) part text seen

-- what the next word has to be: anything, or the value of an option
pub data Wanted : Type 0 where
  anything : Wanted
  value_for : Part → Wanted

-- behind the first `--` each word is positional
abbrev pub all_positional : List Bytes → Seen → Option Seen
all_positional [] seen = Some seen
all_positional (word ∷ words) seen = option_and_then (all_positional words) (put action word seen)

-- an option with a value, which stands behind `=` or is the next word; or a flag, which has none; `next` is what the words
-- behind it give
abbrev pub by_row : Part → Option Values → Option Bytes → Seen → (Wanted → Seen → Option Seen) → Option Seen
by_row part (Some values) None seen next = next (value_for part) seen
by_row part (Some values) (Some value) seen next = option_and_then (next anything) (put part value seen)
by_row part None None seen next = option_and_then (next anything) (put part [] seen)
by_row part None (Some value) seen next = None

-- `--NAME` or `--NAME=VALUE`
abbrev pub by_name : Option Choice → Option Bytes → Seen → (Wanted → Seen → Option Seen) → Option Seen
by_name None value seen next = None
by_name (Some choice) value seen next = by_row (row_of choice).part (row_of choice).values value seen next

-- a word where anything may come, by what it is; `next` is what the words behind it give, and `ended` what they give as
-- positional words
abbrev pub by_kind : Kind → Bytes → Seen → (Wanted → Seen → Option Seen) → (Seen → Option Seen) → Option Seen
by_kind dashes word seen next ended = ended seen
by_kind (named name value) word seen next ended = by_name (choice_of name) value seen next
by_kind hyphened word seen next ended = None
by_kind plain word seen next ended = option_and_then (next anything) (put action word seen)

-- the value of an option: it does not begin with a hyphen
abbrev pub by_value : Bool → Part → Bytes → Seen → (Wanted → Seen → Option Seen) → Option Seen
by_value true part word seen next = None
by_value false part word seen next = option_and_then (next anything) (put part word seen)

abbrev pub one_word : Wanted → Bytes → Seen → (Wanted → Seen → Option Seen) → (Seen → Option Seen) → Option Seen
one_word anything word seen next ended = by_kind (kind_of word) word seen next ended
one_word (value_for part) word seen next ended = by_value (begins_with_hyphen word) part word seen next

-- no value may be missing at the end
abbrev pub at_end : Wanted → Seen → Option Seen
at_end anything seen = Some seen
at_end (value_for part) seen = None

-- what the words give, behind what was seen
abbrev pub read_on : List Bytes → Wanted → Seen → Option Seen
read_on [] wanted seen = at_end wanted seen
read_on (word ∷ words) wanted seen = one_word wanted word seen (read_on words) (all_positional words)

-- what a whole command line gives: its one positional word, the values of the options, and whether the flag was given
pub record Given : Type 0 where
  pub word : Bytes
  pub workers : Option Bytes
  pub size : Option Bytes
  pub has_record : Bool

abbrev pub given_with : Seen → Bytes → Given
given_with seen word = record {
  word = word;
  workers = seen workers;
  size = seen size;
  has_record = is_some (seen with_record);
}

-- there is no command without a positional word
abbrev pub given : Seen → Option Given
given seen = option_map (given_with seen) (seen action)

abbrev pub given_in : List Bytes → Option Given
given_in words = option_and_then given (read_on words anything nothing_seen)

-- ---- what they mean

abbrev pub is_digit : ℕ → Bool
is_digit b = nat_le 48 b && nat_le b 57

-- digits behind a number
abbrev pub number_behind : ℕ → Bytes → ℕ
number_behind n [] = n
number_behind n (b ∷ bytes) = number_behind (10 * n + (b - 48)) bytes

-- one to three digits, and nothing else
abbrev pub is_value : Bytes → Bool
is_value text = nat_le 1 (length text) && (nat_le (length text) 3 && list_all is_digit text)

-- a number among the values
abbrev pub within : Values → ℕ → Option ℕ
within values n = if nat_le values.least n && nat_le n values.most then Some n else None

-- the number that a value stands for
abbrev pub number_in : Values → Bytes → Option ℕ
number_in values text = if is_value text then within values (number_behind 0 text) else None

-- the number of an option, and without it the usual one
abbrev pub number_or : Values → Option Bytes → Option ℕ
number_or values None = Some values.usual
number_or values (Some text) = number_in values text

-- whether an option was given
abbrev pub was_given : Choice → Given → Bool
was_given for_workers g = is_some g.workers
was_given for_size g = is_some g.size
was_given for_record g = g.has_record

-- each of these options stands with the action, or was not given
abbrev pub each_fits : List Choice → Action → Given → Bool
each_fits [] to g = true
each_fits (choice ∷ rest) to g = (same_action (row_of choice).stands_with to || not (was_given choice g)) && each_fits rest to g

abbrev pub fits : Action → Given → Bool
fits to g = each_fits choices to g

abbrev pub run_of : Bool → ℕ → Command
run_of record_wanted n = Run n record_wanted

abbrev pub make_of : ℕ → Command
make_of n = Make n

-- the command of an action, with the options that stand with it
abbrev pub command_to : Action → Given → Option Command
command_to act.Check g = Some Check
command_to act.Read g = Some Read
command_to act.Lift g = Some Lift
command_to act.Run g = option_map (run_of g.has_record) (number_or workers_values g.workers)
command_to act.Make g = option_map make_of (number_or size_values g.size)

abbrev pub command_for : Option Action → Given → Option Command
command_for None g = None
command_for (Some to) g = if fits to g then command_to to g else None

-- the command of what was given
abbrev pub command_by : Given → Option Command
command_by g = command_for (action_of g.word) g

-- the command that the words give, or none
abbrev pub command_in : List Bytes → Option Command
command_in words = option_and_then command_by (given_in words)

abbrev pub IsAmong : Values → ℕ → Type 0
IsAmong values n = (values.least ≤ n) × (n ≤ values.most)

-- the numbers of a command lie in their ranges
abbrev pub IsInRange : Command → Type 0
IsInRange (Run n record_wanted) = IsAmong workers_values n
IsInRange (Make n) = IsAmong size_values n
IsInRange _ = ⊤

abbrev pub IsWithin : Option Command → Type 0
IsWithin None = ⊤
IsWithin (Some command) = IsInRange command
