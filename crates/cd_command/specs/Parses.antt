-- What the parser of words finds, against what the words give.
use Rattle.std.specs.Prelude.{◌≡◌, ⊤, List, [], ◌∷◌, codes, Option, Some, None, is_some, option_map, option_and_then, IsUtf8}
use Rattle.clap.specs.Values.{bool_text}
use Rattle.clap.specs.Matches.{first_value, one_text}
use Rattle.clap.specs.declared.parser.matches.Found.{Found}
use Rattle.cd_command.specs.CommandLine.{Bytes, Given, Kind, plain, kind_of, Part, action, workers, size, with_record, Seen, nothing_seen, put, Wanted, anything, value_for, all_positional, by_kind, at_end, given}
use Rattle.cd_command.specs.declared.line.Entries.{Entries}

-- each word is a text
abbrev pub AreTexts : List Bytes → Type 0
AreTexts [] = ⊤
AreTexts (word ∷ words) = IsUtf8 word × AreTexts words

-- what was found, as what the words give
abbrev pub given_by : Entries → Given
given_by f = record {
  word = f.action.now;
  workers = option_map (λ s. s.now) f.workers;
  size = option_map (λ s. s.now) f.size;
  has_record = f.with_record;
}

-- ---- what the parser makes of the words: what they give, but that it takes a hyphen alone for the value of an option, which
-- is then no number

abbrev pub parse_value : Kind → Part → Bytes → Seen → (Wanted → Seen → Option Seen) → Option Seen
parse_value plain part word seen next = option_and_then (next anything) (put part word seen)
parse_value _ part word seen next = None

abbrev pub parse_word : Wanted → Bytes → Seen → (Wanted → Seen → Option Seen) → (Seen → Option Seen) → Option Seen
parse_word anything word seen next ended = by_kind (kind_of word) word seen next ended
parse_word (value_for part) word seen next ended = parse_value (kind_of word) part word seen next

abbrev pub parse_on : List Bytes → Wanted → Seen → Option Seen
parse_on [] wanted seen = at_end wanted seen
parse_on (word ∷ words) wanted seen = parse_word wanted word seen (parse_on words) (all_positional words)

abbrev pub parsed_in : List Bytes → Option Given
parsed_in words = option_and_then given (parse_on words anything nothing_seen)

-- the entries of a parse have the texts of what was seen
pub record Finds (entries : Found) (seen : Seen) : Type 0 where
  pub word : first_value entries (codes "action") ≡ seen action
  pub of_workers : first_value entries (codes "workers") ≡ seen workers
  pub of_size : first_value entries (codes "size") ≡ seen size
  pub of_record : one_text entries (codes "record") ≡ Some (bool_text (is_some (seen with_record)))
