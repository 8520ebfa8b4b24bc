-- Lemmas on counts of faults and on what is taken and written.
use Rattle.std.proofs.Math.Seq.{take-add}
use Rattle.std.proofs.Common.{◌≡◌, ℕ, ◌+◌, ◌-◌, ◌^◌, ◌<◌, ◌≤◌, ◌++◌, List, [], length, take, drop, min, inl, inr, sym, ap, ◌∙◌, subst, arith, length-append, length-drop, take-append-drop}
use Rattle.std.proofs.lemmas.Bool.{cases_lt}
use Rattle.std.proofs.lemmas.List.{take_at, drop-drop, drop_all, take_rest, length-take-le}
use Rattle.std.proofs.KnownBytes.{Consumes-trans, Appends-trans}
use Rattle.std.specs.Io.KnownBytes.{Consumes, Appends}
use Rattle.cd_base.specs.Ends.{SourceModel, SinkModel, Rose, Took, TookCount, TookAtMost, Grew}

-- a count that rose in a later part of a time rose in all of it
pub Rose-before : (a b c : ℕ) → a ≤ b → Rose b c → Rose a c
Rose-before a b c h (inl p) = inl (omega arith)
Rose-before a b c h (inr p) = inr p

Rose-kept : (a b c : ℕ) → a ≤ b → b ≤ c → b ≡ 2 ^ 64 - 1 → Rose a c
Rose-kept a b c h k p = elim (cases_lt b c) as (λ _. Rose a c) [ inl q ↦ inl (omega arith) | inr q ↦ inr (omega arith) ]

-- a count that rose in an earlier part of a time rose in all of it
pub Rose-after : (a b c : ℕ) → a ≤ b → b ≤ c → Rose a b → Rose a c
Rose-after a b c h k (inl p) = inl (omega arith)
Rose-after a b c h k (inr p) = Rose-kept a b c h k p

-- bytes that were taken, and then more
Took-then : (a b d : SourceModel) (xs ys : List ℕ) → Took a b xs → Consumes b.left d.left ys → b.faults ≤ d.faults → Took a d (xs ++ ys)
Took-then a b d xs ys p q h = (Consumes-trans a.left b.left d.left xs ys p.0 q, omega (arith, p.1, h))

pub TookCount-more : (a b d : SourceModel) (xs ys : List ℕ) (n m : ℕ) → Took a b xs → Consumes b.left d.left ys → b.faults ≤ d.faults → n ≡ length ys
    → length xs + n ≡ m → TookCount a d m
TookCount-more a b d xs ys n m p q h e k = (xs ++ ys, Took-then a b d xs ys p q h, length-append xs ys ∙ omega arith)

pub TookAtMost-more : (a b d : SourceModel) (xs ys : List ℕ) (n m : ℕ) → Took a b xs → Consumes b.left d.left ys → b.faults ≤ d.faults → n ≡ length ys
    → length xs + n ≤ m → TookAtMost a d m
TookAtMost-more a b d xs ys n m p q h e k = (xs ++ ys, Took-then a b d xs ys p q h, omega (arith, length-append xs ys))

-- a front that was written, and then n bytes of what was left
pub Grew-next : (a b d : SinkModel) (bytes : List ℕ) (i n : ℕ) → Grew a b (take i bytes)
    → Appends b.holds d.holds (take n (take (length bytes - i) (drop i bytes))) → b.faults ≤ d.faults → Grew a d (take (i + n) bytes)
Grew-next a b d bytes i n p q h =
    let next : Appends b.holds d.holds (take n (drop i bytes)) = subst (λ (l : List ℕ). Appends b.holds d.holds (take n l)) (take_rest bytes i) q in (
      subst (Appends a.holds d.holds) (sym (take-add i n bytes)) (Appends-trans a.holds b.holds d.holds (take i bytes) (take n (drop i bytes)) p.0 next),
      omega (arith, p.1, h),
    )

-- n bytes moved into the front of a buffer are what was left before, up to what is left after
moved_bytes : (bytes copy tail : List ℕ) (i n : ℕ) → copy ≡ take n (drop i bytes) → length copy ≡ n
    → drop i bytes ≡ take n (copy ++ tail) ++ drop (i + n) bytes
moved_bytes bytes copy tail i n e h =
    sym (ap (λ (l : List ℕ). l ++ drop (i + n) bytes) (take_at copy tail n h ∙ e) ∙ ap (λ (l : List ℕ). take n (drop i bytes) ++ l) (sym (drop-drop n i bytes))
    ∙ take-append-drop n (drop i bytes))

-- one read of the bytes from `i` on, which gives at most `step` of them into a buffer with room
pub read_from : (bytes buf copy : List ℕ) (i n step : ℕ) → copy ≡ take n (take (length bytes - i) (drop i bytes)) → length copy ≡ length (take n buf)
    → n ≡ min (min (length bytes - i) step) (length buf) → 0 < step → 0 < length buf
    → (drop i bytes ≡ take n (copy ++ drop n buf) ++ drop (i + n) bytes) × (n ≡ 0 → 0 < length (copy ++ drop n buf) → drop (i + n) bytes ≡ [])
read_from bytes buf copy i n step moved same count some room =
    let rest = take_rest bytes i in
    let size : length copy ≡ n = same ∙ length-take-le n buf (omega arith) in
    (moved_bytes bytes copy (drop n buf) i n (moved ∙ ap (take n) rest) size, λ z h. drop_all (i + n) bytes (omega arith))
