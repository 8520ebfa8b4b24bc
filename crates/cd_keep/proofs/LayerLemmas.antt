-- What a layer says of its blocks when a piece is put last.
use Rattle.std.proofs.Common.{◌≡◌, ◌≢◌, ℕ, zero, suc, ◌+◌, ◌-◌, ◌<◌, ◌≤◌, Bool, true, false, ◌==◌, List, [], ◌∷◌, ◌++◌, length, get_or, take, drop, Option, None, Some, refl, sym, ap, subst, ◌∙◌, arith, inl, inr, if◌then◌else◌}
use Rattle.std.specs.Prelude.{option_map}
use Rattle.std.specs.List.{slice_get}
use Rattle.std.proofs.lemmas.Bool.{cases_eq, cases_lt}
use Rattle.std.proofs.lemmas.Bool.Decides.{nat_tests}
use Rattle.std.proofs.lemmas.Grind.{common_steps}
use Rattle.std.proofs.lemmas.List.{take-append-le, drop-append-le}
use Rattle.std.proofs.Math.Seq.{drop-append_seam}
use Rattle.cd_keep.specs.LayerModel.{LayerModel, AreEnds, begin_at, between, piece_in, pushed}

-- a list with one more put last, read at the end and before it
pub last_of : (xs : List ℕ) (x : ℕ) → get_or (xs ++ x ∷ []) (length xs) 0 ≡ x
last_of xs x = grind (arith, common_steps)

pub front_of : (xs : List ℕ) (x i : ℕ) → i < length xs → get_or (xs ++ x ∷ []) i 0 ≡ get_or xs i 0
front_of xs x i h = grind (arith, common_steps)

pub found_front : {X : Type 0} (xs : List X) (x : X) (i : ℕ) → i < length xs → slice_get (xs ++ x ∷ []) i ≡ slice_get xs i
found_front [] x i h = absurd (omega arith)
found_front (y ∷ xs) x zero h = refl
found_front (y ∷ xs) x (suc i) h = found_front xs x i (omega arith)

pub found_last : {X : Type 0} (xs : List X) (x : X) → slice_get (xs ++ x ∷ []) (length xs) ≡ Some x
found_last [] x = refl
found_last (y ∷ xs) x = found_last xs x

pub found_past : {X : Type 0} (xs : List X) (i : ℕ) → length xs ≤ i → slice_get xs i ≡ None
found_past [] i h = refl
found_past (y ∷ xs) zero h = absurd (omega arith)
found_past (y ∷ xs) (suc i) h = found_past xs i (omega arith)

pub found : (xs : List ℕ) (i : ℕ) → i < length xs → slice_get xs i ≡ Some (get_or xs i 0)
found [] i h = absurd (omega arith)
found (y ∷ xs) zero h = refl
found (y ∷ xs) (suc i) h = found xs i (omega arith)

same_begin : (ends : List ℕ) (e i : ℕ) → i ≤ length ends → begin_at (ends ++ e ∷ []) i ≡ begin_at ends i
same_begin ends e zero h = refl
same_begin ends e (suc i) h = front_of ends e i (omega arith)

longer : (xs : List ℕ) (x : ℕ) → length (xs ++ x ∷ []) ≡ suc (length xs)
longer xs x = grind (arith, common_steps)

both : (xs ys : List ℕ) → length (xs ++ ys) ≡ length xs + length ys
both xs ys = grind (arith, common_steps)

-- ends with one more are ends
pub are_ends-pushed : (words ends piece : List ℕ) → AreEnds words ends → AreEnds (words ++ piece) (ends ++ (length words + length piece) ∷ [])
are_ends-pushed words ends piece are =
    let e : ℕ = length words + length piece in
    let all : length (words ++ piece) ≡ e = both words piece in
    record {
      ordered = λ block h.
          let within : block < suc (length ends) = subst (λ (n : ℕ). block < n) (longer ends e) h in
          elim (cases_eq block (length ends)) [
            | inl at ↦
                let begin : begin_at (ends ++ e ∷ []) block ≡ length words = same_begin ends e block (omega (arith, at)) ∙ ap (begin_at ends) at ∙ are.all in
                let end : get_or (ends ++ e ∷ []) block 0 ≡ e = ap (λ (n : ℕ). get_or (ends ++ e ∷ []) n 0) at ∙ last_of ends e in
                omega (arith, begin, end)
            | inr not_at ↦
                let below : block < length ends = omega (arith, within, not_at) in
                let begin : begin_at (ends ++ e ∷ []) block ≡ begin_at ends block = same_begin ends e block (omega (arith, below)) in
                let end : get_or (ends ++ e ∷ []) block 0 ≡ get_or ends block 0 = front_of ends e block below in
                let old : begin_at ends block ≤ get_or ends block 0 = are.ordered block below in
                omega (arith, begin, end, old)
          ];
      within = λ block h.
          let within : block < suc (length ends) = subst (λ (n : ℕ). block < n) (longer ends e) h in
          elim (cases_eq block (length ends)) [
            | inl at ↦
                let end : get_or (ends ++ e ∷ []) block 0 ≡ e = ap (λ (n : ℕ). get_or (ends ++ e ∷ []) n 0) at ∙ last_of ends e in
                omega (arith, end, all)
            | inr not_at ↦
                let below : block < length ends = omega (arith, within, not_at) in
                let end : get_or (ends ++ e ∷ []) block 0 ≡ get_or ends block 0 = front_of ends e block below in
                let old : get_or ends block 0 ≤ length words = are.within block below in
                omega (arith, end, all, old)
          ];
      all = ap (begin_at (ends ++ e ∷ [])) (longer ends e) ∙ last_of ends e ∙ sym all;
    }

-- what lies between two places does not change as more is put behind
between_front : (words more : List ℕ) (begin end : ℕ) → begin ≤ end → end ≤ length words → between (words ++ more) begin end ≡ between words begin end
between_front words more begin end b e =
    let left : length (drop begin words) ≡ length words - begin = grind (arith, common_steps) in
    ap (take (end - begin)) (drop-append-le begin words more (omega (arith, b, e)))
    ∙ take-append-le (end - begin) (drop begin words) more (omega (arith, left, b, e))

take_all : (xs : List ℕ) (n : ℕ) → n ≡ length xs → take n xs ≡ xs
take_all xs n e = grind (arith, common_steps)

between_last : (words piece : List ℕ) (begin : ℕ) → begin ≡ length words → between (words ++ piece) begin (length words + length piece) ≡ piece
between_last words piece begin e =
    ap (λ (n : ℕ). between (words ++ piece) n (length words + length piece)) e
    ∙ ap (take (length words + length piece - length words)) (drop-append_seam words piece) ∙ take_all piece (length words + length piece - length words) (omega arith)

pub test_is : (i j : ℕ) → i ≡ j → (i == j) ≡ true
test_is i j e = grind (arith, nat_tests)

pub test_not : (i j : ℕ) → j ≢ i → (i == j) ≡ false
test_not i j n = grind (arith, nat_tests)

by_end : (words ends : List ℕ) (block : ℕ) (end : Option ℕ) → slice_get ends block ≡ end → piece_in (record { words = words; ends = ends }) block ≡ option_map (λ e. between words (begin_at ends block) e) end
by_end words ends block end is = ap (option_map (λ e. between words (begin_at ends block) e)) is

unlike : (layer : LayerModel) (piece : List ℕ) (q : ℕ) → AreEnds layer.words layer.ends → q ≢ length layer.ends → piece_in (pushed layer piece) q ≡ piece_in layer q
unlike layer piece q are not_at =
    let ends = layer.ends in
    let words = layer.words in
    let e : ℕ = length words + length piece in
    elim (cases_lt q (length ends)) [
      | inl below ↦
          let here : slice_get (ends ++ e ∷ []) q ≡ Some (get_or ends q 0) = found_front ends e q below ∙ found ends q below in
          by_end (words ++ piece) (ends ++ e ∷ []) q (Some (get_or ends q 0)) here
          ∙ ap (λ (n : ℕ). Some (between (words ++ piece) n (get_or ends q 0))) (same_begin ends e q (omega (arith, below)))
          ∙ ap (λ (ws : List ℕ). Some ws) (between_front words piece (begin_at ends q) (get_or ends q 0) (are.ordered q below) (are.within q below))
          ∙ sym (by_end words ends q (Some (get_or ends q 0)) (found ends q below))
      | inr past ↦
          by_end (words ++ piece) (ends ++ e ∷ []) q None (found_past (ends ++ e ∷ []) q (omega (arith, past, not_at, longer ends e)))
          ∙ sym (by_end words ends q None (found_past ends q past))
    ]

pub piece_in-pushed : (layer : LayerModel) (piece : List ℕ) (q : ℕ) → AreEnds layer.words layer.ends
    → piece_in (pushed layer piece) q ≡ (if length layer.ends == q then Some piece else piece_in layer q)
piece_in-pushed layer piece q are =
    let ends = layer.ends in
    let words = layer.words in
    let e : ℕ = length words + length piece in
    elim (cases_eq q (length ends)) [
      | inl at ↦
          let here : slice_get (ends ++ e ∷ []) q ≡ Some e = ap (slice_get (ends ++ e ∷ [])) at ∙ found_last ends e in
          let begin : begin_at (ends ++ e ∷ []) q ≡ length words = same_begin ends e q (omega (arith, at)) ∙ ap (begin_at ends) at ∙ are.all in
          by_end (words ++ piece) (ends ++ e ∷ []) q (Some e) here
          ∙ ap (λ (ws : List ℕ). Some ws) (between_last words piece (begin_at (ends ++ e ∷ []) q) begin)
          ∙ ap (λ (b : Bool). if b then Some piece else piece_in layer q) (sym (test_is (length ends) q (sym at)))
      | inr not_at ↦
          unlike layer piece q are not_at ∙ ap (λ (b : Bool). if b then Some piece else piece_in layer q) (sym (test_not (length ends) q not_at))
    ]
