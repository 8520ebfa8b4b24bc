-- The steps of a walk over outer references: over the links of one domain, and from one domain to the next.
use Rattle.std.proofs.Common.{◌≡◌, ℕ, zero, suc, ◌+◌, ◌-◌, ◌<◌, ◌≤◌, true, false, List, [], ◌∷◌, ◌++◌, length, drop, get_or, slice_index_or, Option, refl, sym, ap, ◌∙◌, add-one, arith}
use Rattle.std.specs.List.{flat_map}
use Rattle.std.proofs.lemmas.List.{drop_more, drop_all}
use Rattle.cd_tree.specs.declared.domain.NodeId.{NodeId}
use Rattle.cd_tree.specs.Domains.{numbers_from}
use Rattle.cd_cover.specs.OuterLaws.{leads_before, leading_before, leading_of}
use Rattle.cd_cover.specs.OuterLeft.{leading_from, leading_left}

-- ---- one domain

pub leading_hit : (first : ℕ) (id : NodeId) (links : List (Option (NodeId × ℕ))) (at : ℕ) (d : Option (NodeId × ℕ)) → at < length links
    → leads_before first (get_or links at d) ≡ true
    → leading_before first id at (drop at links) ≡ (id, at) ∷ leading_before first id (at + 1) (drop (at + 1) links)
leading_hit first id links at d within leads = rw (drop_more links at d within, leads, add-one)

pub leading_miss : (first : ℕ) (id : NodeId) (links : List (Option (NodeId × ℕ))) (at : ℕ) (d : Option (NodeId × ℕ)) → at < length links
    → leads_before first (get_or links at d) ≡ false
    → leading_before first id at (drop at links) ≡ leading_before first id (at + 1) (drop (at + 1) links)
leading_miss first id links at d within leads = rw (drop_more links at d within, leads, add-one)

pub leading_none : (first : ℕ) (id : NodeId) (links : List (Option (NodeId × ℕ))) (at : ℕ) → length links ≤ at
    → leading_before first id at (drop at links) ≡ []
leading_none first id links at past = rw (drop_all at links past)

-- ---- all that are left

-- a domain that is looked at from its first entry on
pub whole_left : (links : List (List (Option (NodeId × ℕ)))) (first n left : ℕ)
    → leading_left links first n 0 left ≡ flat_map (leading_of links first) (numbers_from n left)
whole_left links first n zero = refl
whole_left links first n (suc left) = refl

pub left_hit : (links : List (List (Option (NodeId × ℕ)))) (first n entry left k : ℕ) → 0 < left
    → leading_from links first n entry
    ≡ (record { 0 = n }, k) ∷ leading_before first (record { 0 = n }) (k + 1) (drop (k + 1) (slice_index_or links n []))
    → leading_left links first n entry left ≡ (record { 0 = n }, k) ∷ leading_left links first n (k + 1) left
left_hit links first n entry zero k some is = absurd (omega arith)
left_hit links first n entry (suc left) k some is =
    ap (λ (xs : List (NodeId × ℕ)). xs ++ flat_map (leading_of links first) (numbers_from (suc n) left)) is

pub left_miss : (links : List (List (Option (NodeId × ℕ)))) (first n entry left : ℕ) → 0 < left → leading_from links first n entry ≡ []
    → leading_left links first n entry left ≡ leading_left links first (n + 1) 0 (left - 1)
left_miss links first n entry zero some is = absurd (omega arith)
left_miss links first n entry (suc left) some is =
    let fewer : left ≡ suc left - 1 = omega arith in
    let next : suc n ≡ n + 1 = omega arith in
    ap (λ (xs : List (NodeId × ℕ)). xs ++ flat_map (leading_of links first) (numbers_from (suc n) left)) is
    ∙ sym (whole_left links first (suc n) left)
    ∙ ap (λ (k : ℕ). leading_left links first k 0 left) next
    ∙ ap (leading_left links first (n + 1) 0) fewer

pub left_none : (links : List (List (Option (NodeId × ℕ)))) (first n entry left : ℕ) → left ≤ 0 → leading_left links first n entry left ≡ []
left_none links first n entry zero none = refl
left_none links first n entry (suc left) none = absurd (omega arith)
