-- What a domain keeps takes no more room than its entries need.
use Rattle.std.proofs.Common.{◌≡◌, ℕ, ◌+◌, ◌-◌, ◌*◌, ◌/◌, ◌≤◌, List, [], ◌∷◌, ◌++◌, length, sum_by, ap, arith, length-append}
use Rattle.std.proofs.lemmas.List.Sums.{sum_by-cons}
use Rattle.std.proofs.lemmas.Nat.{le-div}
use Rattle.cd_base.specs.declared.place.Range.{Range}
use Rattle.cd_tree.specs.declared.domain.Entry.{Entry}
use Rattle.cd_tree.specs.declared.domain.How.{How}
use Rattle.cd_tree.specs.declared.domain.How.TheVariants.{Copy, Refer, Regen}
use Rattle.cd_tree.specs.Meaning.{blocks_of, blocks_kept, entry_need}
use Rattle.cd_tree.specs.Operations.{length_of}
use Rattle.cd_tries.specs.declared.keep.Keep.{Keep}
use Rattle.cd_tries.specs.declared.keep.Keep.TheVariants as by
use Rattle.cd_tries.specs.Keeping.{Known, KeepFits, KeepsFit, keep_ids, all_ids}

-- so many pieces take no more than so many words
few_blocks : (n words : ℕ) → n * 64 ≤ words + 63 → n ≤ (words + 63) / 64
few_blocks n words h = le-div n (words + 63) 64 (omega arith) h

blocks_least : (how : How) (r : Range) → blocks_of r ≤ blocks_kept how r
blocks_least Copy r = omega arith
blocks_least Refer r = omega arith
blocks_least (Regen pattern) r = omega arith

one_within : (known : Known) (entry : Entry) (keep : Keep) → KeepFits known entry keep → length (keep_ids keep) ≤ entry_need entry
one_within known entry (by.Copied pieces) (cover, begin, meets) =
    let n : ℕ = length pieces.ids in
    let words : ℕ = length_of entry.range in
    let few : n ≤ (words + 63) / 64 = few_blocks n words (omega (arith, begin, meets.last)) in
    let least : blocks_of entry.range ≤ blocks_kept entry.how entry.range = blocks_least entry.how entry.range in
    omega (arith, few, least)
one_within known entry (by.Shared pieces) (cover, refers, meets) =
    let n : ℕ = length pieces.ids in
    let words : ℕ = length_of entry.range in
    let few : n - 1 ≤ (words + 63) / 64 = few_blocks (n - 1) words (omega (arith, meets.first, meets.last)) in
    let need : blocks_kept entry.how entry.range ≡ blocks_of entry.range + 1 = ap (λ (how : How). blocks_kept how entry.range) refers in
    omega (arith, few, need)
one_within known entry by.Pattern fits = omega arith

pub kept_within : (known : Known) (entries : List Entry) (keeps : List Keep) → KeepsFit known entries keeps
    → length (all_ids keeps) ≤ sum_by entry_need entries
kept_within known [] [] fits = omega arith
kept_within known [] (keep ∷ keeps) fits = absurd fits
kept_within known (entry ∷ entries) [] fits = absurd fits
kept_within known (entry ∷ entries) (keep ∷ keeps) fits =
    let here : length (keep_ids keep) ≤ entry_need entry = one_within known entry keep fits.0 in
    let rest : length (all_ids keeps) ≤ sum_by entry_need entries = kept_within known entries keeps fits.1 in
    let ids : length (keep_ids keep ++ all_ids keeps) ≡ length (keep_ids keep) + length (all_ids keeps) = length-append (keep_ids keep) (all_ids keeps) in
    let needs : sum_by entry_need (entry ∷ entries) ≡ entry_need entry + sum_by entry_need entries = sum_by-cons entry_need entry entries in
    omega (arith, here, rest, ids, needs)
