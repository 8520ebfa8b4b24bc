-- A name of a document is no path, and the kinds that it names are known.
use Rattle.std.proofs.Common.{◌&&◌, nat_lt, ◌≡◌, ℕ, ◌+◌, ◌<◌, ◌^◌, true, List, [], ◌∷◌, Result, Ok, Err, codes, length, refl, ap, subst, arith, All, Contains, inl, inr, bytes_eq}
use Rattle.std.specs.List.{list_all, slice_split}
use Rattle.std.proofs.lemmas.Bool.{and_parts, cond_both}
use Rattle.std.proofs.lemmas.Nat.{pow_pos, or_lt}
use Rattle.std.proofs.Math.Pow.{pow-lt}
use Rattle.std.proofs.lemmas.List.Elements.{All-cons, All-nil, All-contains}
use Rattle.cd_tree.specs.declared.kinds.Kind.{Kind}
use Rattle.cd_tree.specs.declared.kinds.KindName.{KindName}
use Rattle.cd_tree.specs.KindSets.{no_kinds, only_kind, with_kind, has_kind}
use Rattle.cd_tokens.specs.declared.wrong.Wrong.{Wrong}
use Rattle.cd_tokens.specs.declared.wrong.Wrong.TheVariants.{Form}
use Rattle.cd_tokens.specs.declared.sums.Variable.{Variable}
use Rattle.cd_tokens.specs.Wrongs.{both}
use Rattle.cd_tokens.specs.Sums.{is_letter, is_name_byte, is_base}
use Rattle.cd_tokens.specs.Names.{name}
use Rattle.cd_tokens.specs.Kinds.{kind_from, kind, one_more_kind, with_kind_named, kinds_on, is_comma, kind_set}
use Rattle.cd_parse.proofs.SoundNumbers.{name_is_base}
use Rattle.cd_parse.proofs.SoundGuards.{Bound, bound, both_ok, same_ok, if_ok}

-- ---- names

abbrev IsNoSlash : ℕ → Type 0
IsNoSlash b = b ≡ 47 → ⊥

letter_is_no_slash : (b : ℕ) → is_letter b ≡ true → IsNoSlash b
letter_is_no_slash b is same =
    let slash : is_letter 47 ≡ true = subst (λ (n : ℕ). is_letter n ≡ true) same is in
    absurd (cc)

byte_is_no_slash : (b : ℕ) → is_name_byte b ≡ true → IsNoSlash b
byte_is_no_slash b is same =
    let slash : is_name_byte 47 ≡ true = subst (λ (n : ℕ). is_name_byte n ≡ true) same is in
    absurd (cc)

bytes_are_no_slashes : (bytes : List ℕ) → list_all is_name_byte bytes ≡ true → All IsNoSlash bytes
bytes_are_no_slashes [] is = All-nil IsNoSlash
bytes_are_no_slashes (b ∷ bytes) is =
    let parts = and_parts (is_name_byte b) (list_all is_name_byte bytes) is in
    All-cons IsNoSlash b bytes (byte_is_no_slash b parts.0) (bytes_are_no_slashes bytes parts.1)

base_is_no_path : (token : List ℕ) → is_base token ≡ true → All IsNoSlash token
base_is_no_path [] is = absurd (cc)
base_is_no_path (b ∷ bytes) is =
    let parts = and_parts (is_letter b) (list_all is_name_byte bytes) is in
    All-cons IsNoSlash b bytes (letter_is_no_slash b parts.0) (bytes_are_no_slashes bytes parts.1)

-- a name is no path
pub name_is_no_path : (variables : List Variable) (token text : List ℕ) → name variables token ≡ Ok text → Contains text 47 → ⊥
name_is_no_path variables token text is slash =
    All-contains IsNoSlash text 47 (base_is_no_path text (name_is_base variables token text is)) slash refl

-- ---- kinds

kind_from_known : (at : ℕ) (kinds : List KindName) (name : List ℕ) (kind : Kind) → kind_from at kinds name ≡ Ok kind → kind.0 < at + length kinds
kind_from_known at [] name kind is = absurd (cc)
kind_from_known at (first ∷ kinds) name kind is =
    elim (if_ok Kind Wrong (nat_lt at 16 && bytes_eq first.name name) (Ok (record { 0 = at })) (kind_from (at + 1) kinds name) kind is) [
      | inl here ↦
          let same : record { 0 = at } ≡ kind = same_ok Kind Wrong (record { 0 = at }) kind here.1 in
          let number : at ≡ kind.0 = ap (λ (k : Kind). k.0) same in
          omega arith
      | inr later ↦
          let rest : kind.0 < at + 1 + length kinds = kind_from_known (at + 1) kinds name kind later.1 in
          omega arith
    ]

-- a kind that a document names is one of its kinds
pub kind_known : (kinds : List KindName) (name : List ℕ) (found : Kind) → kind kinds name ≡ Ok found → found.0 < length kinds
unfolding kind
kind_known kinds name found is =
    let below : found.0 < 0 + length kinds = kind_from_known 0 kinds name found is in
    omega arith

with_known : (n set : ℕ) (kind : Kind) → set < 2 ^ n → kind.0 < n → with_kind set kind < 2 ^ n
with_known n set kind below known =
    or_lt n set (only_kind kind) below
    (cond_both (nat_lt kind.0 16) (2 ^ kind.0) 0 (λ (x : ℕ). x < 2 ^ n) (λ _. pow-lt known) (λ _. pow_pos n))

one_more_known : (n set : ℕ) (kind : Kind) (v : ℕ) → set < 2 ^ n → kind.0 < n → one_more_kind set kind ≡ Ok v → v < 2 ^ n
one_more_known n set kind v below known is =
    elim (if_ok ℕ Wrong (has_kind set kind) (Err Form) (Ok (with_kind set kind)) v is) [
      | inl twice ↦ let wrong = twice.1 in absurd (cc)
      | inr once ↦ subst (λ (x : ℕ). x < 2 ^ n) (same_ok ℕ Wrong (with_kind set kind) v once.1) (with_known n set kind below known)
    ]

kinds_on_known : (kinds : List KindName) (set : Result ℕ Wrong) (names : List (List ℕ)) → ((v : ℕ) → set ≡ Ok v → v < 2 ^ length kinds)
    → (v : ℕ) → kinds_on kinds set names ≡ Ok v → v < 2 ^ length kinds
kinds_on_known kinds set [] known v is = known v is
kinds_on_known kinds set (token ∷ names) known v is =
    kinds_on_known kinds (with_kind_named kinds set token) names
    (λ u one_is.
    let parts : Bound (ℕ × Kind) ℕ Wrong (both set (kind kinds token)) (λ p. one_more_kind p.0 p.1) u =
    bound (ℕ × Kind) ℕ Wrong (both set (kind kinds token)) (λ p. one_more_kind p.0 p.1) u one_is in
    let two = both_ok ℕ Kind set (kind kinds token) parts.value parts.is in
    one_more_known (length kinds) parts.value.0 parts.value.1 u (known parts.value.0 two.0) (kind_known kinds token parts.value.1 two.1) parts.next)
    v is

none_known : (n v : ℕ) → ◌≡◌ {A = Result ℕ Wrong} (Ok no_kinds) (Ok v) → v < 2 ^ n
none_known n v is = subst (λ (x : ℕ). x < 2 ^ n) (same_ok ℕ Wrong no_kinds v is) (pow_pos n)

-- the kinds that a domain finds are kinds of its document
pub kind_set_known : (kinds : List KindName) (token : List ℕ) (set : ℕ) → kind_set kinds token ≡ Ok set → set < 2 ^ length kinds
unfolding kind_set
kind_set_known kinds token set is =
    elim (if_ok ℕ Wrong (bytes_eq token (codes "none")) (Ok no_kinds) (kinds_on kinds (Ok no_kinds) (slice_split is_comma token)) set is) [
      | inl none ↦ none_known (length kinds) set none.1
      | inr some ↦ kinds_on_known kinds (Ok no_kinds) (slice_split is_comma token) (none_known (length kinds)) set some.1
    ]
