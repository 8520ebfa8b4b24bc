-- Sets of kinds that are gathered from the front of a list of names.
use Rattle.std.proofs.Common.{◌≡◌, ℕ, ◌+◌, ◌<◌, ◌≤◌, Bool, true, false, if◌then◌else◌, bit_or, List, length, drop, get_or, sym, ap, ◌∙◌, arith}
use Rattle.std.proofs.lemmas.Bool.Decides.{nat_tests}
use Rattle.std.proofs.lemmas.Nat.Bits.{bit_at_or, bit_at-zero, same_from_bits}
use Rattle.std.proofs.lemmas.List.{at_drop_more, drop_all}
use Rattle.cd_tree.specs.declared.kinds.Kind.{Kind}
use Rattle.cd_tree.specs.declared.kinds.KindName.{KindName}
use Rattle.cd_tree.specs.Limits.{kinds_limit}
use Rattle.cd_tree.specs.KindSets.{only_kind, halting, halting_from}

-- ---- sets as numbers

pub bit_or-assoc : (a b c : ℕ) → bit_or (bit_or a b) c ≡ bit_or a (bit_or b c)
bit_or-assoc a b c =
    same_from_bits (bit_or (bit_or a b) c) (bit_or a (bit_or b c))
    (λ i. omega (arith, bit_at_or (bit_or a b) c i, bit_at_or a b i, bit_at_or a (bit_or b c) i, bit_at_or b c i))

pub bit_or-none : (a : ℕ) → bit_or a 0 ≡ a
bit_or-none a = same_from_bits (bit_or a 0) a (λ i. omega (arith, bit_at_or a 0 i, bit_at-zero i))

-- a number at the limit or above is no kind, and adds none
pub no_such_kind : (kind : Kind) → kinds_limit ≤ kind.0 → only_kind kind ≡ 0
no_such_kind kind high = grind (arith, nat_tests)

pub with_none : (kinds : ℕ) (kind : Kind) → kinds_limit ≤ kind.0 → kinds ≡ bit_or kinds (only_kind kind)
with_none kinds kind high = sym (bit_or-none kinds) ∙ ap (bit_or kinds) (sym (no_such_kind kind high))

-- ---- the kinds that halt

halting_next : (so : ℕ) (names : List KindName) (i : ℕ) (name : KindName) → i < length names → name ≡ get_or names i name
    → bit_or so (halting_from i (drop i names)) ≡ halting names
    → bit_or (bit_or so (if name.halts then only_kind (record { 0 = i }) else 0)) (halting_from (i + 1) (drop (i + 1) names)) ≡ halting names
halting_next so names i name within is left =
    bit_or-assoc so (if name.halts then only_kind (record { 0 = i }) else 0) (halting_from (i + 1) (drop (i + 1) names))
    ∙ sym (ap (λ (n : KindName). bit_or so (bit_or (if n.halts then only_kind (record { 0 = i }) else 0) (halting_from (i + 1) (drop (i + 1) names)))) (sym is))
    ∙ sym (ap (λ (n : ℕ). bit_or so n) (at_drop_more (halting_from i) names i name within))
    ∙ left

pub halting_more : (so : ℕ) (names : List KindName) (i : ℕ) (name : KindName) → i < length names → name ≡ get_or names i name → name.halts ≡ true
    → bit_or so (halting_from i (drop i names)) ≡ halting names
    → bit_or (bit_or so (only_kind (record { 0 = i }))) (halting_from (i + 1) (drop (i + 1) names)) ≡ halting names
halting_more so names i name within is halts left =
    sym (ap (λ (b : Bool). bit_or (bit_or so (if b then only_kind (record { 0 = i }) else 0)) (halting_from (i + 1) (drop (i + 1) names))) halts)
    ∙ halting_next so names i name within is left

pub halting_same : (so : ℕ) (names : List KindName) (i : ℕ) (name : KindName) → i < length names → name ≡ get_or names i name → name.halts ≡ false
    → bit_or so (halting_from i (drop i names)) ≡ halting names
    → bit_or so (halting_from (i + 1) (drop (i + 1) names)) ≡ halting names
halting_same so names i name within is halts left =
    sym (ap (λ (n : ℕ). bit_or n (halting_from (i + 1) (drop (i + 1) names))) (bit_or-none so))
    ∙ sym (ap (λ (b : Bool). bit_or (bit_or so (if b then only_kind (record { 0 = i }) else 0)) (halting_from (i + 1) (drop (i + 1) names))) halts)
    ∙ halting_next so names i name within is left

pub halting_all : (so : ℕ) (names : List KindName) (i : ℕ) → length names ≤ i → bit_or so (halting_from i (drop i names)) ≡ halting names
    → so ≡ halting names
halting_all so names i past left =
    sym (bit_or-none so) ∙ sym (ap (λ (ns : List KindName). bit_or so (halting_from i ns)) (drop_all i names past)) ∙ left
