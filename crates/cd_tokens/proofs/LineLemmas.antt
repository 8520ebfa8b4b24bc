-- The first line of a text, and where it is cut.
use Rattle.std.proofs.Common.{◌≡◌, ℕ, suc, ◌+◌, ◌-◌, ◌<◌, ◌≤◌, Bool, true, false, not, cond, nat_lt, List, [], ◌∷◌, length, take, drop, Some, None, refl, ap, subst, arith, ◌^◌, ltb-true, ltb-false}
use Rattle.std.specs.Prelude.{filter, count_by}
use Rattle.std.proofs.lemmas.List.Sums.{length-filter, count_by-le-length}
use Rattle.std.proofs.lemmas.List.Splits.{length-slice_split}
use Rattle.std.specs.List.{onto_first, position, position_or_len, slice_split}
use Rattle.std.proofs.lemmas.Option.{cond_some}
use Rattle.std.proofs.lemmas.List.{take_rest}
use Rattle.cd_tokens.specs.Lines.{is_feed, is_blank, is_token, lines}

-- a byte before a text whose first line is known
other_byte : (x n m k : ℕ) (xs : List ℕ) → m ≡ suc n → k ≡ suc (n + 1) → lines xs ≡ take n xs ∷ lines (drop (n + 1) xs)
    → onto_first x (lines xs) ≡ take m (x ∷ xs) ∷ lines (drop k (x ∷ xs))
other_byte x n m k xs e f h = rw (e, f, h) refl

one_byte : (b : Bool) (x n : ℕ) (xs : List ℕ) → (n < length xs → lines xs ≡ take n xs ∷ lines (drop (n + 1) xs))
    → cond (not b) (1 + n) 0 < suc (length xs)
    → cond b ([] ∷ lines xs) (onto_first x (lines xs)) ≡ take (cond (not b) (1 + n) 0) (x ∷ xs) ∷ lines (drop (cond (not b) (1 + n) 0 + 1) (x ∷ xs))
one_byte true x n xs h k = refl
one_byte false x n xs h k = other_byte x n (1 + n) (1 + n + 1) xs (omega arith) (omega arith) (h (omega arith))

-- a text with a line feed: its first line ends there
lines_first : (xs : List ℕ) → position_or_len is_feed xs < length xs
    → lines xs ≡ take (position_or_len is_feed xs) xs ∷ lines (drop (position_or_len is_feed xs + 1) xs)
lines_first [] h = absurd (omega arith)
lines_first (x ∷ xs) h = one_byte (is_feed x) x (position_or_len is_feed xs) xs (lines_first xs) h

one_more : (b : Bool) (x n : ℕ) (xs : List ℕ) → (length xs ≤ n → 0 < length xs → lines xs ≡ xs ∷ []) → suc (length xs) ≤ cond (not b) (1 + n) 0
    → cond b ([] ∷ lines xs) (onto_first x (lines xs)) ≡ (x ∷ xs) ∷ []
one_more true x n xs h k = absurd (omega arith)
one_more false x n [] h k = refl
one_more false x n (y ∷ ys) h k = ap (onto_first x) (h (omega arith) (omega arith))

-- a text without a line feed is one line
lines_only : (xs : List ℕ) → length xs ≤ position_or_len is_feed xs → 0 < length xs → lines xs ≡ xs ∷ []
lines_only [] h k = absurd (omega arith)
lines_only (x ∷ xs) h k = one_more (is_feed x) x (position_or_len is_feed xs) xs (lines_only xs) h

pub none_found : (b : Bool) (n : ℕ) → cond b (Some n) None ≡ None → b ≡ false
none_found true n e = absurd (cc)
none_found false n e = refl

pub lines_cut : (xs : List ℕ) (at : ℕ) → position is_feed xs ≡ Some at → lines xs ≡ take at xs ∷ lines (drop (at + 1) xs)
lines_cut xs at e =
    let f = cond_some (nat_lt (position_or_len is_feed xs) (length xs)) (position_or_len is_feed xs) at e in
    subst (λ (n : ℕ). lines xs ≡ take n xs ∷ lines (drop (n + 1) xs)) f.1 (lines_first xs (ltb-true _ _ f.0))

pub lines_whole : (xs : List ℕ) → position is_feed xs ≡ None → 0 < length xs → lines xs ≡ xs ∷ []
lines_whole xs e h = lines_only xs (ltb-false _ _ (none_found (nat_lt (position_or_len is_feed xs) (length xs)) (position_or_len is_feed xs) e)) h

-- the same, as the slices of the code show it
pub lines_cut_slice : (xs : List ℕ) (at : ℕ) → position is_feed xs ≡ Some at
    → lines xs ≡ take at xs ∷ lines (take (length xs - (at + 1)) (drop (at + 1) xs))
lines_cut_slice xs at e = rw (take_rest xs (at + 1)) (lines_cut xs at e)

-- a line has no more tokens than bytes
pub few_pieces : (tokens : List (List ℕ)) (said line : List ℕ) → tokens ≡ filter is_token (slice_split is_blank said)
    → length said ≤ length line → length line ≤ 1048576 → length tokens < 2 ^ 32
few_pieces tokens said line f h k =
    let a : length tokens ≡ length (filter is_token (slice_split is_blank said)) = ap length f in
    let b : length (filter is_token (slice_split is_blank said)) ≡ count_by is_token (slice_split is_blank said) = length-filter is_token (slice_split is_blank said) in
    let d : count_by is_token (slice_split is_blank said) ≤ length (slice_split is_blank said) = count_by-le-length is_token (slice_split is_blank said) in
    let g : length (slice_split is_blank said) ≡ count_by is_blank said + 1 = length-slice_split is_blank said in
    let i : count_by is_blank said ≤ length said = count_by-le-length is_blank said in
    omega arith
