-- What is wrong with a statement: of all that is wrong with its parts, what comes first in the order of refusals.
use Rattle.std.specs.Prelude.{ℕ, ◌+◌, Bool, true, false, nat_lt, nat_le, List, [], ◌∷◌, Result, Ok, Err, if◌then◌else◌}
use Rattle.cd_tree.specs.declared.refusal.Which.{Which}
use Rattle.cd_tree.specs.declared.refusal.Which.TheVariants.{Lines, Nesting, Name, Kinds, Regions, Words, Domains, Depth, Items, Entries, Preserves, Members, Retry, Faults, Need}
use Rattle.cd_tree.specs.declared.refusal.Refusal.{Refusal}
use Rattle.cd_tree.specs.declared.refusal.Refusal.TheVariants as refusal
use Rattle.cd_tokens.specs.declared.wrong.Wrong.{Wrong}
use Rattle.cd_tokens.specs.declared.wrong.Wrong.TheVariants.{Form, Overflow, NoRegion, Outside, Taken, Unfit, Limit}

-- the order of limits within one statement; lines are counted before it, and need is no matter of the text
abbrev pub limit_rank : Which → ℕ
limit_rank Name = 6
limit_rank Nesting = 7
limit_rank Kinds = 8
limit_rank Regions = 9
limit_rank Words = 10
limit_rank Domains = 11
limit_rank Depth = 12
limit_rank Items = 13
limit_rank Entries = 14
limit_rank Preserves = 15
limit_rank Members = 16
limit_rank Retry = 17
limit_rank Faults = 18
limit_rank Lines = 19
limit_rank Need = 20

-- the order of refusals within one statement
abbrev pub rank : Wrong → ℕ
rank Form = 0
rank Overflow = 1
rank NoRegion = 2
rank Outside = 3
rank Taken = 4
rank Unfit = 5
rank (Limit which count) = limit_rank which

-- what comes first of two that are wrong
abbrev pub first_wrong : Wrong → Wrong → Wrong
first_wrong one other = if nat_le (rank one) (rank other) then one else other

-- two parts that are read both, whatever is wrong with either: their values, or the first of what is wrong
abbrev pub both : {A B : Type 0} → Result A Wrong → Result B Wrong → Result (A × B) Wrong
both (Ok a) (Ok b) = Ok (a, b)
both (Ok a) (Err other) = Err other
both (Err one) (Ok b) = Err one
both (Err one) (Err other) = Err (first_wrong one other)

-- a test that has to hold
abbrev pub guard : Bool → Wrong → Result (Unit {0}) Wrong
guard true wrong = Ok tt
guard false wrong = Err wrong

-- one thing more, where there are `count` and at most `most` may be
abbrev pub room : Which → ℕ → ℕ → Result (Unit {0}) Wrong
room which most count = guard (nat_lt count most) (Limit which (most + 1))

-- what needs the values of a part is looked at only where the part has them
infixl 10 ◌>>=◌
abbrev pub ◌>>=◌ : {A B E : Type 0} → Result A E → (A → Result B E) → Result B E
(Ok a) >>= f = f a
(Err e) >>= f = Err e

-- the refusal of a statement at this line
abbrev pub refusal_at : ℕ → Wrong → Refusal
refusal_at line Form = refusal.Line line
refusal_at line Overflow = refusal.Arithmetic line
refusal_at line NoRegion = refusal.UnknownRegion line
refusal_at line Outside = refusal.OutsideRegion line
refusal_at line Taken = refusal.NameTaken line
refusal_at line Unfit = refusal.Shape line
refusal_at line (Limit which count) = refusal.Limit which count

-- a step at this line: its result, or its refusal
abbrev pub at_line : {A : Type 0} → ℕ → Result A Wrong → Result A Refusal
at_line line (Ok a) = Ok a
at_line line (Err wrong) = Err (refusal_at line wrong)

-- tests that all have to hold; else the first of all that is wrong
abbrev pub all_hold : List (Result (Unit {0}) Wrong) → Result (Unit {0}) Wrong
all_hold [] = Ok tt
all_hold (test ∷ tests) = both test (all_hold tests) >>= λ p. Ok p.0
