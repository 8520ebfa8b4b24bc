-- That the parser takes a hyphen alone for a value makes no command: it is no number.
use Rattle.std.proofs.Common.{◌≡◌, ◌∙◌, ◌==◌, ◌||◌, ◌⊎◌, Bool, cond, true, false, refl, sym, ap, subst, inl, inr, List, [], ◌∷◌, Option, Some, None, is_some, eqb-true}
use Rattle.std.specs.Prelude.{⊤, option_map, option_and_then}
use Rattle.cd_command.specs.declared.command.Command.{Command}
use Rattle.cd_command.specs.declared.command.Command.TheVariants.{Check, Read, Lift}
use Rattle.cd_command.specs.declared.options.Action.{Action}
use Rattle.cd_command.specs.declared.options.Action.TheVariants as act
use Rattle.cd_command.specs.CommandLine.{Bytes, Kind, dashes, named, hyphened, plain, kind_of, behind_two, begins_with_hyphen, Choice, for_workers, for_size, for_record, choice_of, Part, action, workers, size, with_record, Seen, nothing_seen, put, put_first, Wanted, anything, value_for, all_positional, by_name, by_kind, by_value, read_on, given, given_with, action_of, run_of, make_of, number_or, command_for, command_by, command_in}
use Rattle.cd_command.specs.Parses.{parse_on, parse_value, parsed_in}
use Rattle.cd_command.proofs.WordLemmas.{by_test}
use Rattle.cd_command.proofs.StepLemmas.{TakesValue}

abbrev hyphen : Bytes
hyphen = 45 ∷ []

-- the value of an option is a hyphen alone
abbrev IsSpoilt : Seen → Type 0
IsSpoilt seen = (seen workers ≡ Some hyphen) ⊎ (seen size ≡ Some hyphen)

abbrev SpoiltOrNone : Option Seen → Type 0
SpoiltOrNone None = ⊤
SpoiltOrNone (Some seen) = IsSpoilt seen

-- ---- it stays so

-- a part that is given is spoilt no more than it was, or it is given twice
put_once : (o : Option Bytes) (p : Part) (text : Bytes) (seen : Seen) → SpoiltOrNone (put_first None p text seen)
    → SpoiltOrNone (put_first o p text seen)
put_once None p text seen h = h
put_once (Some t) p text seen h = tt

put_spoilt : (p : Part) (text : Bytes) (seen : Seen) → IsSpoilt seen → SpoiltOrNone (put p text seen)
put_spoilt action text seen h = put_once (seen action) action text seen h
put_spoilt with_record text seen h = put_once (seen with_record) with_record text seen h
put_spoilt workers text seen (inl e) = subst (λ o. SpoiltOrNone (put_first o workers text seen)) (sym e) tt
put_spoilt workers text seen (inr e) = put_once (seen workers) workers text seen (inr e)
put_spoilt size text seen (inr e) = subst (λ o. SpoiltOrNone (put_first o size text seen)) (sym e) tt
put_spoilt size text seen (inl e) = put_once (seen size) size text seen (inl e)

then_spoilt : (next : Seen → Option Seen) (o : Option Seen) → ((seen : Seen) → IsSpoilt seen → SpoiltOrNone (next seen)) → SpoiltOrNone o
    → SpoiltOrNone (option_and_then next o)
then_spoilt next None f h = tt
then_spoilt next (Some seen) f h = f seen h

positional_spoilt : (words : List Bytes) (seen : Seen) → IsSpoilt seen → SpoiltOrNone (all_positional words seen)
positional_spoilt [] seen h = h
positional_spoilt (word ∷ words) seen h =
    then_spoilt (all_positional words) (put action word seen) (positional_spoilt words) (put_spoilt action word seen h)

abbrev Spoils : (Wanted → Seen → Option Seen) → Type 0
Spoils next = (wanted : Wanted) (seen : Seen) → IsSpoilt seen → SpoiltOrNone (next wanted seen)

name_spoilt : (n : Option Choice) (v : Option Bytes) (seen : Seen) (next : Wanted → Seen → Option Seen) → Spoils next → IsSpoilt seen → SpoiltOrNone (by_name n v seen next)
name_spoilt (Some for_workers) None seen next f h = f (value_for workers) seen h
name_spoilt (Some for_workers) (Some v) seen next f h = then_spoilt (next anything) (put workers v seen) (f anything) (put_spoilt workers v seen h)
name_spoilt (Some for_size) None seen next f h = f (value_for size) seen h
name_spoilt (Some for_size) (Some v) seen next f h = then_spoilt (next anything) (put size v seen) (f anything) (put_spoilt size v seen h)
name_spoilt (Some for_record) None seen next f h = then_spoilt (next anything) (put with_record [] seen) (f anything) (put_spoilt with_record [] seen h)
name_spoilt (Some for_record) (Some v) seen next f h = tt
name_spoilt None v seen next f h = tt

kind_spoilt : (k : Kind) (word : Bytes) (words : List Bytes) (seen : Seen) → Spoils (parse_on words) → IsSpoilt seen
    → SpoiltOrNone (by_kind k word seen (parse_on words) (all_positional words))
kind_spoilt dashes word words seen f h = positional_spoilt words seen h
kind_spoilt (named name v) word words seen f h = name_spoilt (choice_of name) v seen (parse_on words) f h
kind_spoilt hyphened word words seen f h = tt
kind_spoilt plain word words seen f h = then_spoilt (parse_on words anything) (put action word seen) (f anything) (put_spoilt action word seen h)

value_spoilt : (k : Kind) (p : Part) (word : Bytes) (words : List Bytes) (seen : Seen) → Spoils (parse_on words) → IsSpoilt seen
    → SpoiltOrNone (parse_value k p word seen (parse_on words))
value_spoilt dashes p word words seen f h = tt
value_spoilt (named name v) p word words seen f h = tt
value_spoilt hyphened p word words seen f h = tt
value_spoilt plain p word words seen f h = then_spoilt (parse_on words anything) (put p word seen) (f anything) (put_spoilt p word seen h)

stays_spoilt : (words : List Bytes) → Spoils (parse_on words)
stays_spoilt [] anything seen h = h
stays_spoilt [] (value_for p) seen h = tt
stays_spoilt (word ∷ words) anything seen h = kind_spoilt (kind_of word) word words seen (stays_spoilt words) h
stays_spoilt (word ∷ words) (value_for p) seen h = value_spoilt (kind_of word) p word words seen (stays_spoilt words) h

-- ---- the two readings

-- the same, or none against one with a hyphen for a value
abbrev Close : Option Seen → Option Seen → Type 0
Close a b = (a ≡ b) ⊎ ((a ≡ None) × SpoiltOrNone b)

abbrev IsFine : Wanted → Type 0
IsFine anything = ⊤
IsFine (value_for p) = TakesValue p

abbrev AreClose : (Wanted → Seen → Option Seen) → (Wanted → Seen → Option Seen) → Type 0
AreClose f g = (wanted : Wanted) (seen : Seen) → IsFine wanted → Close (f wanted seen) (g wanted seen)

then_close : (f g : Wanted → Seen → Option Seen) (o : Option Seen) → AreClose f g → Close (option_and_then (f anything) o) (option_and_then (g anything) o)
then_close f g None h = inl refl
then_close f g (Some seen) h = h anything seen tt

name_close : (n : Option Choice) (v : Option Bytes) (seen : Seen) (f g : Wanted → Seen → Option Seen) → AreClose f g → Close (by_name n v seen f) (by_name n v seen g)
name_close (Some for_workers) None seen f g h = h (value_for workers) seen tt
name_close (Some for_workers) (Some v) seen f g h = then_close f g (put workers v seen) h
name_close (Some for_size) None seen f g h = h (value_for size) seen tt
name_close (Some for_size) (Some v) seen f g h = then_close f g (put size v seen) h
name_close (Some for_record) None seen f g h = then_close f g (put with_record [] seen) h
name_close (Some for_record) (Some v) seen f g h = inl refl
name_close None v seen f g h = inl refl

kind_close : (k : Kind) (word : Bytes) (words : List Bytes) (seen : Seen) → AreClose (read_on words) (parse_on words)
    → Close (by_kind k word seen (read_on words) (all_positional words)) (by_kind k word seen (parse_on words) (all_positional words))
kind_close dashes word words seen h = inl refl
kind_close (named name v) word words seen h = name_close (choice_of name) v seen (read_on words) (parse_on words) h
kind_close hyphened word words seen h = inl refl
kind_close plain word words seen h = then_close (read_on words) (parse_on words) (put action word seen) h

put_hyphen : (p : Part) (seen : Seen) → TakesValue p → SpoiltOrNone (put p hyphen seen)
put_hyphen workers seen t = go (seen workers)
  where
    go : (o : Option Bytes) → SpoiltOrNone (put_first o workers hyphen seen)
    go None = inl refl
    go (Some u) = tt
put_hyphen size seen t = go (seen size)
  where
    go : (o : Option Bytes) → SpoiltOrNone (put_first o size hyphen seen)
    go None = inr refl
    go (Some u) = tt
put_hyphen action seen t = absurd t
put_hyphen with_record seen t = absurd t

module _ (p : Part) (t : TakesValue p) (words : List Bytes) (seen : Seen) (h : AreClose (read_on words) (parse_on words)) where
  abbrev ValueClose : Bytes → Kind → Type 0
  ValueClose word k = Close (by_value (begins_with_hyphen word) p word seen (read_on words)) (parse_value k p word seen (parse_on words))

  two_close : (bytes : Bytes) → ValueClose (45 ∷ 45 ∷ bytes) (behind_two bytes)
  two_close [] = inl refl
  two_close (b ∷ bytes) = inl refl

  one_close : (bytes : Bytes) → ValueClose (45 ∷ bytes) (kind_of (45 ∷ bytes))
  one_close [] = inr (refl, then_spoilt (parse_on words anything) (put p hyphen seen) (stays_spoilt words anything) (put_hyphen p seen t))
  one_close (c ∷ bytes) = by_test (c == 45)
      (λ e. subst (λ x. ValueClose (45 ∷ x ∷ bytes) (kind_of (45 ∷ x ∷ bytes))) (sym (eqb-true c 45 e)) (two_close bytes))
      (λ e. let one : kind_of (45 ∷ c ∷ bytes) ≡ hyphened = ap (λ b. cond b (behind_two bytes) hyphened) e in
      subst (ValueClose (45 ∷ c ∷ bytes)) (sym one) (inl refl))

  value_close : (word : Bytes) → ValueClose word (kind_of word)
  value_close [] = then_close (read_on words) (parse_on words) (put p [] seen) h
  value_close (b ∷ bytes) = by_test (b == 45)
      (λ e. subst (λ x. ValueClose (x ∷ bytes) (kind_of (x ∷ bytes))) (sym (eqb-true b 45 e)) (one_close bytes))
      (λ e. rw e (then_close (read_on words) (parse_on words) (put p (b ∷ bytes) seen) h))

close : (words : List Bytes) → AreClose (read_on words) (parse_on words)
close [] wanted seen fine = inl refl
close (word ∷ words) anything seen fine = kind_close (kind_of word) word words seen (close words)
close (word ∷ words) (value_for p) seen fine = value_close p fine words seen (close words) word

-- ---- the command

-- the command of an action by what was given
abbrev by_given : Option Action → Bytes → Option Bytes → Option Bytes → Bool → Option Command
by_given to word w s r = command_for to (record { word = word; workers = w; size = s; has_record = r })

-- there is none where a hyphen is the number of workers
no_workers : (to : Option Action) (word : Bytes) (s : Option Bytes) (r : Bool) → by_given to word (Some hyphen) s r ≡ None
no_workers (Some act.Check) word s r = refl
no_workers (Some act.Read) word s r = refl
no_workers (Some act.Lift) word s r = refl
no_workers (Some act.Run) word None r = refl
no_workers (Some act.Run) word (Some text) r = refl
no_workers (Some act.Make) word s r = refl
no_workers None word s r = refl

-- nor where it is the size
no_size : (to : Option Action) (word : Bytes) (w : Option Bytes) (r : Bool) → by_given to word w (Some hyphen) r ≡ None
no_size (Some act.Check) word None r = refl
no_size (Some act.Check) word (Some text) r = refl
no_size (Some act.Read) word None r = refl
no_size (Some act.Read) word (Some text) r = refl
no_size (Some act.Lift) word None r = refl
no_size (Some act.Lift) word (Some text) r = refl
no_size (Some act.Run) word w r = refl
no_size (Some act.Make) word None true = refl
no_size (Some act.Make) word None false = refl
no_size (Some act.Make) word (Some text) r = refl
no_size None word None r = refl
no_size None word (Some text) r = refl

no_command : (to : Option Action) (word : Bytes) (seen : Seen) → IsSpoilt seen → command_for to (given_with seen word) ≡ None
no_command to word seen (inl e) =
    ap (λ o. by_given to word o (seen size) (is_some (seen with_record))) e ∙ no_workers to word (seen size) (is_some (seen with_record))
no_command to word seen (inr e) =
    ap (λ o. by_given to word (seen workers) o (is_some (seen with_record))) e ∙ no_size to word (seen workers) (is_some (seen with_record))

abbrev command_from : Option Seen → Option Command
command_from o = option_and_then command_by (option_and_then given o)

spoilt_none : (o : Option Seen) → SpoiltOrNone o → command_from o ≡ None
spoilt_none None h = refl
spoilt_none (Some seen) h = go (seen action)
  where
    go : (o : Option Bytes) → option_and_then command_by (option_map (given_with seen) o) ≡ None
    go None = refl
    go (Some word) = no_command (action_of word) word seen h

-- what the parser makes of the words has their command
pub same_command : (words : List Bytes) → option_and_then command_by (parsed_in words) ≡ command_in words
same_command words = go (close words anything nothing_seen tt)
  where
    go : Close (read_on words anything nothing_seen) (parse_on words anything nothing_seen) → option_and_then command_by (parsed_in words) ≡ command_in words
    go (inl e) = ap command_from (sym e)
    go (inr h) = spoilt_none (parse_on words anything nothing_seen) h.1 ∙ sym (ap command_from h.0)
