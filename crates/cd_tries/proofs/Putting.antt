-- Words put back into a range: the same by parts, and what a machine has then.
use Rattle.std.proofs.Common.{◌≡◌, ℕ, ◌+◌, ◌-◌, ◌*◌, ◌<◌, ◌≤◌, min, max, Bool, true, false, nat_le, List, length, get_or, drop, get_or-take, get_or-drop, ◌||◌, if◌then◌else◌, Some, None, arith, refl, ap, ap₂, sym, ◌∙◌, inl, inr}
use Rattle.std.specs.Prelude.{slice_get, slice_range}
use Rattle.std.proofs.Math.Path.{fun_ext}
use Rattle.std.proofs.lemmas.Bool.{cases_lt, cond-false, cond-true, false_from_ne_true, or_left, or_right}
use Rattle.std.proofs.lemmas.Bool.Decides.{nat_tests}
use Rattle.std.proofs.lemmas.Option.{slice_get-get_or}
use Rattle.cd_base.specs.declared.place.Place.{Place}
use Rattle.cd_base.specs.declared.place.Range.{Range}
use Rattle.cd_base.specs.Words.{Words, PlaceSet, in_range, same_place}
use Rattle.cd_tree.specs.Locality.{SameWords}
use Rattle.cd_field.specs.FieldModel.{FieldModel, refilled_word, refilled_run}
use Rattle.cd_tries.specs.declared.keep.Pieces.{Pieces}
use Rattle.cd_tries.specs.Refilling.{put_words, part_of_piece, words_at}
use Rattle.cd_base.proofs.BoolLemmas.{by_test}
use Rattle.cd_base.proofs.PlaceLemmas.{place-same, Inside, inside_from, inside_to, same_from, same_to}

-- what is chosen on a range
abbrev pub on : {X : Type 0} → (Place → Bool) → (Place → X) → (Place → X) → Place → X
on {X} places others w = λ p. if places p then others p else w p

-- where two tests are the same, so is the choice
on_same : {X : Type 0} (a b : Place → Bool) (v w : Place → X) → ((p : Place) → a p ≡ b p) → on a v w ≡ on b v w
on_same {X} a b v w same = fun_ext (λ p. ap (λ (t : Bool). if t then v p else w p) (same p))

-- nothing is chosen where the test is never true
on_none : {X : Type 0} (a : Place → Bool) (v w : Place → X) → ((p : Place) → a p ≡ false) → on a v w ≡ w
on_none {X} a v w none = fun_ext (λ p. cond-false (a p) (v p) (w p) (none p))

-- what is chosen in two steps is chosen at once
on_twice : {X : Type 0} (whole first rest : Place → Bool) (v w : Place → X)
    → ((p : Place) → whole p ≡ (first p || rest p)) → on rest v (on first v w) ≡ on whole v w
on_twice {X} whole first rest v w split = fun_ext (λ p. at p (first p) (rest p) (whole p) (split p))
  where
    at : (p : Place) (a b c : Bool) → c ≡ (a || b) → (if b then v p else (if a then v p else w p)) ≡ (if c then v p else w p)
    at p true true c e = rw e refl
    at p true false c e = rw e refl
    at p false true c e = rw e refl
    at p false false c e = rw e refl

-- words that agree in the range are put back alike
pub put_same : (v w : Words) (r : Range) (m : FieldModel) → SameWords (in_range r) v w → put_words v r m ≡ put_words w r m
put_same v w r m same =
    ap (λ (words : Words). record m { words = words; lost = λ p. if in_range r p then false else m.lost p })
    (fun_ext (λ p. by_test (in_range r p)
    (λ t. cond-true (in_range r p) (v p) (m.words p) t ∙ same p t ∙ sym (cond-true (in_range r p) (w p) (m.words p) t))
    (λ f. cond-false (in_range r p) (v p) (m.words p) f ∙ sym (cond-false (in_range r p) (w p) (m.words p) f))))

-- no word is put back into a range without a place
pub put_none : (w : Words) (r : Range) (m : FieldModel) → r.high ≤ r.low → put_words w r m ≡ m
put_none w r m empty =
    let none : (p : Place) → in_range r p ≡ false =
    λ p. false_from_ne_true (in_range r p) (λ t. let i : Inside r p = inside_from r p t in
    let low : r.low ≤ p.index = i.low in let high : p.index < r.high = i.high in omega arith) in
    ap₂ (λ (words : Words) (lost : PlaceSet). record m { words = words; lost = lost })
    (on_none (in_range r) w m.words none) (on_none (in_range r) (λ p. false) m.lost none)

-- a range whose places are those of two
pub put_twice : (w : Words) (whole first rest : Range) (m : FieldModel)
    → ((p : Place) → in_range whole p ≡ (in_range first p || in_range rest p))
    → put_words w rest (put_words w first m) ≡ put_words w whole m
put_twice w whole first rest m split =
    ap₂ (λ (words : Words) (lost : PlaceSet). record m { words = words; lost = lost })
    (on_twice (in_range whole) (in_range first) (in_range rest) w m.words split)
    (on_twice (in_range whole) (in_range first) (in_range rest) (λ p. false) m.lost split)

-- a test that is true exactly where one of two is
pub either : (a b c : Bool) → (a ≡ true → (b || c) ≡ true) → (b ≡ true → a ≡ true) → (c ≡ true → a ≡ true) → a ≡ (b || c)
either true b c split left right = sym (split refl)
either false true c split left right = left refl
either false false true split left right = right refl
either false false false split left right = refl

-- a range that falls in two at an index
pub range_parts : (r : Range) (at : ℕ) → r.low ≤ at → at ≤ r.high → (p : Place)
    → in_range r p ≡ (in_range (record r { high = at }) p || in_range (record r { low = at }) p)
range_parts r at low high p =
    either (in_range r p) (in_range (record r { high = at }) p) (in_range (record r { low = at }) p)
    (λ t.
    let i : Inside r p = inside_from r p t in
    let up : r.low ≤ p.index = i.low in
    let down : p.index < r.high = i.high in
    elim (cases_lt p.index at) [
      | inl l ↦ or_left (in_range (record r { high = at }) p) (in_range (record r { low = at }) p)
          (inside_to (record r { high = at }) p (record { region = i.region; low = up; high = l }))
      | inr l ↦ or_right (in_range (record r { high = at }) p) (in_range (record r { low = at }) p)
          (inside_to (record r { low = at }) p (record { region = i.region; low = l; high = down }))
    ])
    (λ t.
    let i : Inside (record r { high = at }) p = inside_from (record r { high = at }) p t in
    let up : r.low ≤ p.index = i.low in
    let down : p.index < at = i.high in
    inside_to r p (record { region = i.region; low = up; high = omega arith }))
    (λ t.
    let i : Inside (record r { low = at }) p = inside_from (record r { low = at }) p t in
    let up : at ≤ p.index = i.low in
    let down : p.index < r.high = i.high in
    inside_to r p (record { region = i.region; low = omega arith; high = down }))

-- a range from an index on
abbrev pub from : Range → ℕ → Range
from r at = record r { low = at }

-- what pieces from the k-th on have of a range
abbrev pub rest_of : Pieces → Range → ℕ → Range
rest_of pieces r k = record { region = r.region; low = max r.low (pieces.begin + 64 * k); high = r.high }

-- what the k-th of pieces has of the rest of a range, and what those after it have
pub rest_parts : (pieces : Pieces) (r : Range) (k : ℕ) → max r.low (pieces.begin + 64 * k) ≤ min r.high (pieces.begin + 64 * k + 64)
    → (p : Place) → in_range (rest_of pieces r k) p ≡ (in_range (part_of_piece pieces r k) p || in_range (rest_of pieces r (k + 1)) p)
rest_parts pieces r k order p =
    let whole : Range = rest_of pieces r k in
    let part : Range = part_of_piece pieces r k in
    let rest : Range = rest_of pieces r (k + 1) in
    either (in_range whole p) (in_range part p) (in_range rest p)
    (λ t.
    let i : Inside whole p = inside_from whole p t in
    let up : max r.low (pieces.begin + 64 * k) ≤ p.index = i.low in
    let down : p.index < r.high = i.high in
    elim (cases_lt p.index (pieces.begin + 64 * k + 64)) [
      | inl l ↦ or_left (in_range part p) (in_range rest p)
          (inside_to part p (record { region = i.region; low = up; high = omega arith }))
      | inr l ↦ or_right (in_range part p) (in_range rest p)
          (inside_to rest p (record { region = i.region; low = omega arith; high = down }))
    ])
    (λ t.
    let i : Inside part p = inside_from part p t in
    let up : max r.low (pieces.begin + 64 * k) ≤ p.index = i.low in
    let down : p.index < min r.high (pieces.begin + 64 * k + 64) = i.high in
    inside_to whole p (record { region = i.region; low = up; high = omega arith }))
    (λ t.
    let i : Inside rest p = inside_from rest p t in
    let up : max r.low (pieces.begin + 64 * (k + 1)) ≤ p.index = i.low in
    let down : p.index < r.high = i.high in
    inside_to whole p (record { region = i.region; low = omega arith; high = down }))

-- one word put back is a range of one place put back
pub put_one : (w : Words) (r : Range) (at word : ℕ) (m : FieldModel) → w (record { region = r.region; index = at }) ≡ Some word
    → refilled_word m (record { region = r.region; index = at }) word
    ≡ put_words w (record { region = r.region; low = at; high = at + 1 }) m
put_one w r at word m is =
    let q : Place = record { region = r.region; index = at } in
    let one : Range = record { region = r.region; low = at; high = at + 1 } in
    let same : (p : Place) → same_place q p ≡ in_range one p =
    λ p. by_test (same_place q p)
    (λ t. let e : (q.region ≡ p.region) × (q.index ≡ p.index) = same_from q p t in
    let i : at ≡ p.index = e.1 in
    t ∙ sym (inside_to one p (record { region = e.0; low = omega arith; high = omega arith })))
    (λ f. f ∙ sym (false_from_ne_true (in_range one p) (λ t. let i : Inside one p = inside_from one p t in
    let low : at ≤ p.index = i.low in let high : p.index < at + 1 = i.high in
    let e : at ≡ p.index = omega arith in
    let there : same_place q p ≡ true = same_to q p i.region e in cc))) in
    ap₂ (λ (words : Words) (lost : PlaceSet). record m { words = words; lost = lost })
    (fun_ext (λ p. by_test (same_place q p)
    (λ t. let e : (q.region ≡ p.region) × (q.index ≡ p.index) = same_from q p t in
    let at_p : q ≡ p = place-same q p e.0 e.1 in
    cond-true (same_place q p) (Some word) (m.words p) t
    ∙ sym is ∙ ap w at_p
    ∙ sym (cond-true (in_range one p) (w p) (m.words p) (sym (same p) ∙ t)))
    (λ f. cond-false (same_place q p) (Some word) (m.words p) f ∙ sym (cond-false (in_range one p) (w p) (m.words p) (sym (same p) ∙ f)))))
    (on_same (same_place q) (in_range one) (λ p. false) m.lost same)

-- a run of words put back, cut out of a list that stands from an index on
pub run_put : (m : FieldModel) (r : Range) (start : ℕ) (words : List ℕ) → start ≤ r.low → r.low ≤ r.high → r.high ≤ start + length words
    → refilled_run m r (slice_range words (r.low - start) (r.high - start)) ≡ put_words (words_at start words) r m
run_put m r start words low order high =
    let cut : List ℕ = slice_range words (r.low - start) (r.high - start) in
    ap (λ (w : Words). record m { words = w; lost = λ p. if in_range r p then false else m.lost p })
    (fun_ext (λ p. by_test (in_range r p)
    (λ t.
    let i : Inside r p = inside_from r p t in
    let up : r.low ≤ p.index = i.low in
    let down : p.index < r.high = i.high in
    let from_start : nat_le start p.index ≡ true = (let l : start ≤ p.index = omega arith in grind (arith, nat_tests)) in
    let short : p.index - r.low < (r.high - start) - (r.low - start) = omega arith in
    let place : (r.low - start) + (p.index - r.low) ≡ p.index - start = omega arith in
    let inside : p.index - start < length words = omega arith in
    cond-true (in_range r p) (Some (get_or cut (p.index - r.low) 0)) (m.words p) t
    ∙ ap (λ (n : ℕ). Some n)
    (get_or-take ((r.high - start) - (r.low - start)) (drop (r.low - start) words) (p.index - r.low) 0 short
    ∙ get_or-drop (r.low - start) words (p.index - r.low) 0
    ∙ ap (λ (n : ℕ). get_or words n 0) place)
    ∙ sym (slice_get-get_or words (p.index - start) 0 inside)
    ∙ sym (cond-true (nat_le start p.index) (slice_get words (p.index - start)) None from_start)
    ∙ sym (cond-true (in_range r p) (words_at start words p) (m.words p) t))
    (λ f. cond-false (in_range r p) (Some (get_or cut (p.index - r.low) 0)) (m.words p) f
    ∙ sym (cond-false (in_range r p) (words_at start words p) (m.words p) f))))
