-- Numbers of a document have 64 bits, names are bases, and paths are of bases.
use Rattle.std.proofs.Common.{◌≡◌, ◌⊎◌, count_by, ℕ, zero, suc, ◌+◌, ◌-◌, ◌/◌, ◌%◌, ◌<◌, ◌^◌, ◌==◌, nat_lt, nat_le, Bool, true, false, List, [], ◌∷◌, ◌++◌, Option, None, Some, Result, Ok, Err, codes, length, take, drop, position, refl, ap, sym, ◌∙◌, subst, arith, inl, inr, bytes_eq, decimal, ltb-true, append_assoc, if◌then◌else◌}
use Rattle.std.specs.List.{list_all, slice_split, join_with_byte}
use Rattle.std.specs.Fmt.{digits, digits_onto, digit_glyph}
use Rattle.std.proofs.lemmas.Bool.{and_parts, and_from, cond_both, cond_below}
use Rattle.std.proofs.lemmas.Bool.Decides.{nat_tests}
use Rattle.std.proofs.lemmas.List.Splits.{length-slice_split}
use Rattle.std.proofs.lemmas.List.Folds.{list_all-append}
use Rattle.cd_base.specs.declared.pattern.Pattern.{Pattern}
use Rattle.cd_base.specs.declared.pattern.Pattern.TheVariants.{Const, Iota, Mix}
use Rattle.cd_tree.specs.declared.domain.How.{How}
use Rattle.cd_tree.specs.declared.domain.How.TheVariants as how
use Rattle.cd_tokens.specs.declared.wrong.Wrong.{Wrong}
use Rattle.cd_tokens.specs.declared.wrong.Wrong.TheVariants.{Form, Overflow}
use Rattle.cd_tokens.specs.declared.sums.Variable.{Variable}
use Rattle.cd_tokens.specs.Wrongs.{both, guard, ◌>>=◌}
use Rattle.cd_tokens.specs.Sums.{is_letter, is_name_byte, is_base, in_64_bits, term, is_minus, Part, parts_of, difference, joined, plus, sum_on, expression}
use Rattle.cd_tokens.specs.Names.{is_colon, name_at, name, is_slash, slashed, one_more_name, path_on, path}
use Rattle.cd_tokens.specs.Kinds.{short_pattern, long_pattern, pattern}
use Rattle.cd_parse.specs.Heads.{how_in}
use Rattle.cd_parse.specs.WellRead.{IsReadPattern, IsReadHow, AreBases, IsReadPath}
use Rattle.cd_parse.proofs.SoundGuards.{Bound, bound, both_ok, same_ok, guard_ok, if_ok, if_else_err}

-- ---- numbers

small : (n v : ℕ) → in_64_bits n ≡ Ok v → v < 2 ^ 64
small n v is =
    let test = if_else_err ℕ Wrong (nat_lt n (2 ^ 64)) (Ok n) Overflow v is in
    subst (λ (x : ℕ). x < 2 ^ 64) (same_ok ℕ Wrong n v test.1) (ltb-true n (2 ^ 64) test.0)

difference_small : (a b v : ℕ) → a < 2 ^ 64 → difference a b ≡ Ok v → v < 2 ^ 64
difference_small a b v below is =
    let test = if_else_err ℕ Wrong (nat_le b a) (Ok (a - b)) Overflow v is in
    let most : a - b < 2 ^ 64 = omega arith in
    subst (λ (x : ℕ). x < 2 ^ 64) (same_ok ℕ Wrong (a - b) v test.1) most

joined_small : (sign a b v : ℕ) → a < 2 ^ 64 → joined sign a b ≡ Ok v → v < 2 ^ 64
joined_small sign a b v below is =
    elim (if_ok ℕ Wrong (is_minus sign) (difference a b) (in_64_bits (a + b)) v is) [
      | inl less ↦ difference_small a b v below less.1
      | inr more ↦ small (a + b) v more.1
    ]

plus_small : (sum : Result ℕ Wrong) (sign : ℕ) (more : Result ℕ Wrong) → ((v : ℕ) → sum ≡ Ok v → v < 2 ^ 64) → (v : ℕ) → plus sum sign more ≡ Ok v
    → v < 2 ^ 64
unfolding plus
plus_small sum sign more below v is =
    let parts : Bound (ℕ × ℕ) ℕ Wrong (both sum more) (λ p. joined sign p.0 p.1) v =
    bound (ℕ × ℕ) ℕ Wrong (both sum more) (λ p. joined sign p.0 p.1) v is in
    let two = both_ok ℕ ℕ sum more parts.value parts.is in
    joined_small sign parts.value.0 parts.value.1 v (below parts.value.0 two.0) parts.next

sum_small : (variables : List Variable) (sum : Result ℕ Wrong) (parts : List Part) → ((v : ℕ) → sum ≡ Ok v → v < 2 ^ 64) → (v : ℕ)
    → sum_on variables sum parts ≡ Ok v → v < 2 ^ 64
sum_small variables sum [] below v is = below v is
sum_small variables sum (part ∷ parts) below v is =
    sum_small variables (plus sum part.sign (term variables part.token)) parts (plus_small sum part.sign (term variables part.token) below) v is

nought_small : (v : ℕ) → ◌≡◌ {A = Result ℕ Wrong} (Ok 0) (Ok v) → v < 2 ^ 64
nought_small v is = subst (λ (x : ℕ). x < 2 ^ 64) (same_ok ℕ Wrong 0 v is) (omega arith)

-- the value of an expression has 64 bits
pub expression_small : (variables : List Variable) (token : List ℕ) (v : ℕ) → expression variables token ≡ Ok v → v < 2 ^ 64
unfolding expression
expression_small variables token v is = sum_small variables (Ok 0) (parts_of 43 token) nought_small v is

-- ---- patterns

as_pattern : (one p : Pattern) → IsReadPattern one → ◌≡◌ {A = Result Pattern Wrong} (Ok one) (Ok p) → IsReadPattern p
as_pattern one p read is = subst IsReadPattern (same_ok Pattern Wrong one p is) read

number_pattern : (make : ℕ → Pattern) (variables : List Variable) (number : List ℕ) (p : Pattern) → ((n : ℕ) → n < 2 ^ 64 → IsReadPattern (make n))
    → (expression variables number >>= λ n. Ok (make n)) ≡ Ok p → IsReadPattern p
number_pattern make variables number p reads is =
    let parts : Bound ℕ Pattern Wrong (expression variables number) (λ n. Ok (make n)) p =
    bound ℕ Pattern Wrong (expression variables number) (λ n. Ok (make n)) p is in
    as_pattern (make parts.value) p (reads parts.value (expression_small variables number parts.value parts.is)) parts.next

short_read : (variables : List Variable) (keyword number : List ℕ) (p : Pattern) → short_pattern variables keyword number ≡ Ok p → IsReadPattern p
short_read variables keyword number p is =
    elim (if_ok Pattern Wrong (bytes_eq keyword (codes "const")) (expression variables number >>= λ n. Ok (Const n)) _ p is) [
      | inl const ↦ number_pattern (λ n. Const n) variables number p (λ n below. below) const.1
      | inr other ↦
          let mix = if_else_err Pattern Wrong (bytes_eq keyword (codes "mix")) (expression variables number >>= λ n. Ok (Mix n)) Form p other.1 in
          number_pattern (λ n. Mix n) variables number p (λ n below. below) mix.1
    ]

long_read : (variables : List Variable) (keyword start step : List ℕ) (p : Pattern) → long_pattern variables keyword start step ≡ Ok p → IsReadPattern p
long_read variables keyword start step p is =
    let numbers : Result (ℕ × ℕ) Wrong = both (expression variables start) (expression variables step) in
    let iota = if_else_err Pattern Wrong (bytes_eq keyword (codes "iota")) (numbers >>= λ q. Ok (Iota q.0 q.1)) Form p is in
    let parts : Bound (ℕ × ℕ) Pattern Wrong numbers (λ q. Ok (Iota q.0 q.1)) p = bound (ℕ × ℕ) Pattern Wrong numbers (λ q. Ok (Iota q.0 q.1)) p iota.1 in
    let two = both_ok ℕ ℕ (expression variables start) (expression variables step) parts.value parts.is in
    as_pattern (Iota parts.value.0 parts.value.1) p
    (expression_small variables start parts.value.0 two.0, expression_small variables step parts.value.1 two.1) parts.next

pub pattern_read : (variables : List Variable) (tokens : List (List ℕ)) (p : Pattern) → pattern variables tokens ≡ Ok p → IsReadPattern p
unfolding pattern
pattern_read variables [] p is = absurd (cc)
pattern_read variables (keyword ∷ []) p is = absurd (cc)
pattern_read variables (keyword ∷ number ∷ []) p is = short_read variables keyword number p is
pattern_read variables (keyword ∷ start ∷ step ∷ []) p is = long_read variables keyword start step p is
pattern_read variables (keyword ∷ start ∷ step ∷ other ∷ more) p is = absurd (cc)

as_how : (one h : How) → IsReadHow one → ◌≡◌ {A = Result How Wrong} (Ok one) (Ok h) → IsReadHow h
as_how one h read is = subst IsReadHow (same_ok How Wrong one h is) read

regen_read : (variables : List Variable) (token : List ℕ) (more : List (List ℕ)) (h : How)
    → (if bytes_eq token (codes "regen") then (pattern variables more >>= λ p. Ok (how.Regen p)) else Err Form) ≡ Ok h → IsReadHow h
regen_read variables token more h is =
    let regen = if_else_err How Wrong (bytes_eq token (codes "regen")) (pattern variables more >>= λ p. Ok (how.Regen p)) Form h is in
    let parts : Bound Pattern How Wrong (pattern variables more) (λ p. Ok (how.Regen p)) h =
    bound Pattern How Wrong (pattern variables more) (λ p. Ok (how.Regen p)) h regen.1 in
    as_how (how.Regen parts.value) h (pattern_read variables more parts.value parts.is) parts.next

pub how_read : (variables : List Variable) (tokens : List (List ℕ)) (h : How) → how_in variables tokens ≡ Ok h → IsReadHow h
unfolding how_in
how_read variables [] h is = absurd (cc)
how_read variables (token ∷ []) h is =
    elim (if_ok How Wrong (bytes_eq token (codes "copy")) (Ok how.Copy) _ h is) [
      | inl copy ↦ as_how how.Copy h tt copy.1
      | inr other ↦
          let refer = if_else_err How Wrong (bytes_eq token (codes "refer")) (Ok how.Refer) Form h other.1 in
          as_how how.Refer h tt refer.1
    ]
how_read variables (token ∷ next ∷ more) h is = regen_read variables token (next ∷ more) h is

-- ---- names

glyph_in_name : (d : ℕ) → d < 10 → is_name_byte (digit_glyph false d) ≡ true
glyph_in_name d below =
    let here : 48 + d ≡ digit_glyph false d = cond_below d 10 (48 + d) (87 + d) below in
    subst (λ (b : ℕ). is_name_byte b ≡ true) here (is_digit_byte d below)
  where
    is_digit_byte : (d : ℕ) → d < 10 → is_name_byte (48 + d) ≡ true
    is_digit_byte d below = grind (arith, nat_tests)

digits_in_name : (k n : ℕ) (after : List ℕ) → list_all is_name_byte after ≡ true → list_all is_name_byte (digits_onto k 10 false n after) ≡ true
digits_in_name zero n after is = is
digits_in_name (suc k) n after is =
    let below : n % 10 < 10 = omega arith in
    let more : list_all is_name_byte (digit_glyph false (n % 10) ∷ after) ≡ true =
    and_from (is_name_byte (digit_glyph false (n % 10))) (list_all is_name_byte after) (glyph_in_name (n % 10) below) is in
    cond_both (n / 10 == 0) (digit_glyph false (n % 10) ∷ after) (digits_onto k 10 false (n / 10) (digit_glyph false (n % 10) ∷ after))
    (λ (bytes : List ℕ). list_all is_name_byte bytes ≡ true) (λ _. more)
    (λ _. digits_in_name k (n / 10) (digit_glyph false (n % 10) ∷ after) more)

decimal_in_name : (n : ℕ) → list_all is_name_byte (decimal n) ≡ true
unfolding digits
decimal_in_name n = digits_in_name 64 n [] refl

base_more : (base more : List ℕ) → is_base base ≡ true → list_all is_name_byte more ≡ true → is_base (base ++ more) ≡ true
base_more [] more is all = absurd (cc)
base_more (b ∷ bytes) more is all =
    let parts = and_parts (is_letter b) (list_all is_name_byte bytes) is in
    and_from (is_letter b) (list_all is_name_byte (bytes ++ more)) parts.0
    (list_all-append is_name_byte bytes more ∙ and_from (list_all is_name_byte bytes) (list_all is_name_byte more) parts.1 all)

as_base : (one token : List ℕ) → is_base one ≡ true → ◌≡◌ {A = Result (List ℕ) Wrong} (Ok one) (Ok token) → is_base token ≡ true
as_base one token base is = subst (λ (bytes : List ℕ). is_base bytes ≡ true) (same_ok (List ℕ) Wrong one token is) base

name_at_is_base : (variables : List Variable) (token : List ℕ) (at : Option ℕ) (text : List ℕ) → name_at variables token at ≡ Ok text
    → is_base text ≡ true
name_at_is_base variables token None text is =
    let parts : Bound (Unit {0}) (List ℕ) Wrong (guard (is_base token) Form) (λ _. Ok token) text =
    bound (Unit {0}) (List ℕ) Wrong (guard (is_base token) Form) (λ _. Ok token) text is in
    as_base token text (guard_ok (is_base token) Form parts.value parts.is) parts.next
name_at_is_base variables token (Some at) text is =
    let base : List ℕ = take at token in
    let number : List ℕ = drop (at + 1) token in
    let parts : Bound (Unit {0} × ℕ) (List ℕ) Wrong (both (guard (is_base base) Form) (expression variables number)) (λ p. Ok (base ++ decimal p.1)) text =
    bound (Unit {0} × ℕ) (List ℕ) Wrong (both (guard (is_base base) Form) (expression variables number)) (λ p. Ok (base ++ decimal p.1)) text is in
    let tests = both_ok (Unit {0}) ℕ (guard (is_base base) Form) (expression variables number) parts.value parts.is in
    as_base (base ++ decimal parts.value.1) text
    (base_more base (decimal parts.value.1) (guard_ok (is_base base) Form parts.value.0 tests.0) (decimal_in_name parts.value.1)) parts.next

-- a name is a base
pub name_is_base : (variables : List Variable) (token text : List ℕ) → name variables token ≡ Ok text → is_base text ≡ true
unfolding name
name_is_base variables token text is = name_at_is_base variables token (position is_colon token) text is

-- ---- paths

join_more : (first : List ℕ) (names : List (List ℕ)) (token : List ℕ)
    → join_with_byte 47 (first ∷ (names ++ token ∷ [])) ≡ join_with_byte 47 (first ∷ names) ++ 47 ∷ token
join_more first [] token = refl
join_more first (next ∷ names) token =
    ap (λ (rest : List ℕ). first ++ 47 ∷ rest) (join_more next names token)
    ∙ sym (append_assoc first (47 ∷ join_with_byte 47 (next ∷ names)) (47 ∷ token))

bases_more : (names : List (List ℕ)) (token : List ℕ) → AreBases names → is_base token ≡ true → AreBases (names ++ token ∷ [])
bases_more [] token are is = (is, tt)
bases_more (first ∷ names) token (here, are) is = (here, bases_more names token are is)

slashed_text : (text token : List ℕ) → (text ≡ [] → ⊥) → slashed text ++ token ≡ text ++ 47 ∷ token
slashed_text [] token some = absurd (some refl)
slashed_text (b ∷ text) token some = ap (λ (rest : List ℕ). b ∷ rest) (append_assoc text (47 ∷ []) token)

base_some : (first rest : List ℕ) → is_base first ≡ true → first ++ rest ≡ [] → ⊥
base_some [] rest is none = absurd (cc)
base_some (b ∷ first) rest is none = cc

path_some : (first : List ℕ) (names : List (List ℕ)) → is_base first ≡ true → join_with_byte 47 (first ∷ names) ≡ [] → ⊥
path_some [] [] is none = absurd (cc)
path_some (b ∷ first) [] is none = cc
path_some first (next ∷ names) is none = base_some first (47 ∷ join_with_byte 47 (next ∷ names)) is none

path_more : (text token : List ℕ) → IsReadPath text → is_base token ≡ true → IsReadPath (slashed text ++ token)
path_more text token read is =
    record {
      first = read.first;
      names = read.names ++ token ∷ [];
      bases = bases_more (read.first ∷ read.names) token read.bases is;
      joined = slashed_text text token (λ none. path_some read.first read.names read.bases.0 (sym read.joined ∙ none))
          ∙ ap (λ (bytes : List ℕ). bytes ++ 47 ∷ token) read.joined ∙ sym (join_more read.first read.names token);
    }

as_path : (one text : List ℕ) → IsReadPath one → ◌≡◌ {A = Result (List ℕ) Wrong} (Ok one) (Ok text) → IsReadPath text
as_path one text read is = subst IsReadPath (same_ok (List ℕ) Wrong one text is) read

one_more_read : (variables : List Variable) (path : Result (List ℕ) Wrong) (token text : List ℕ)
    → ((t : List ℕ) → path ≡ Ok t → (t ≡ []) ⊎ IsReadPath t) → one_more_name path (name variables token) ≡ Ok text → IsReadPath text
one_more_read variables path token text read is =
    let parts : Bound (List ℕ × List ℕ) (List ℕ) Wrong (both path (name variables token)) (λ p. Ok (slashed p.0 ++ p.1)) text =
    bound (List ℕ × List ℕ) (List ℕ) Wrong (both path (name variables token)) (λ p. Ok (slashed p.0 ++ p.1)) text is in
    let v : List ℕ × List ℕ = parts.value in
    let two = both_ok (List ℕ) (List ℕ) path (name variables token) v parts.is in
    let base : is_base v.1 ≡ true = name_is_base variables token v.1 two.1 in
    elim (read v.0 two.0) [
      | inl none ↦
          let only : IsReadPath v.1 = record { first = v.1; names = []; bases = (base, tt); joined = refl } in
          let same : slashed v.0 ++ v.1 ≡ v.1 = ap (λ (t : List ℕ). slashed t ++ v.1) none in
          as_path (slashed v.0 ++ v.1) text (subst IsReadPath (sym same) only) parts.next
      | inr some ↦ as_path (slashed v.0 ++ v.1) text (path_more v.0 v.1 some base) parts.next
    ]

path_on_read : (variables : List Variable) (path : Result (List ℕ) Wrong) (tokens : List (List ℕ)) (text : List ℕ)
    → ((t : List ℕ) → path ≡ Ok t → IsReadPath t) → path_on variables path tokens ≡ Ok text → IsReadPath text
path_on_read variables path [] text read is = read text is
path_on_read variables path (token ∷ tokens) text read is =
    path_on_read variables (one_more_name path (name variables token)) tokens text
    (λ t there. one_more_read variables path token t (λ u here. inr (read u here)) there) is

from_none : (variables : List Variable) (tokens : List (List ℕ)) (text : List ℕ) → (tokens ≡ [] → ⊥) → path_on variables (Ok []) tokens ≡ Ok text
    → IsReadPath text
from_none variables [] text some is = absurd (some refl)
from_none variables (token ∷ tokens) text some is =
    path_on_read variables (one_more_name (Ok []) (name variables token)) tokens text
    (λ t there. one_more_read variables (Ok []) token t (λ u here. inl (sym (same_ok (List ℕ) Wrong [] u here))) there) is

split_some : (p : ℕ → Bool) (xs : List ℕ) → slice_split p xs ≡ [] → ⊥
split_some p xs none =
    let size : length (slice_split p xs) ≡ count_by p xs + 1 = length-slice_split p xs in
    let zero : length (slice_split p xs) ≡ 0 = ap length none in
    omega arith

-- a path is of bases
pub path_read : (variables : List Variable) (token text : List ℕ) → path variables token ≡ Ok text → IsReadPath text
unfolding path
path_read variables token text is = from_none variables (slice_split is_slash token) text (split_some is_slash token) is
