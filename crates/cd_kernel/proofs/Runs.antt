-- Runs of words of a range: where they are present, and what is read of them.
use Rattle.std.proofs.Common.{◌≡◌, ℕ, ◌+◌, ◌<◌, ◌≤◌, true, List, [], ◌∷◌, get_or, ap, sym, subst, ◌∙◌, arith}
use Rattle.std.proofs.lemmas.List.FromFn.{get_or-map-range_with_len}
use Rattle.cd_base.specs.declared.place.Range.{Range}
use Rattle.cd_base.specs.Words.{Words, word_at, in_range}
use Rattle.cd_tree.specs.Operations.{length_of, nth_word}
use Rattle.cd_field.specs.FieldModel.{FieldModel, ArePresent, words_in}
use Rattle.cd_kernel.specs.Computing.{run_of, IsHere}
use Rattle.cd_base.proofs.BoolLemmas.{or-none}
use Rattle.cd_base.proofs.PlaceLemmas.{Inside, inside_from, inside_to}

-- a run of a range that is there is present
pub run_present : (m : FieldModel) (r run : Range) (at n : ℕ) → run ≡ run_of r at n → at + n ≤ length_of r → IsHere m r → ArePresent m (run ∷ [])
run_present m r run at n is inside here p h =
    let P : Range → Type 0 = λ v. in_range v p ≡ true in
    let t : in_range (run_of r at n) p ≡ true = subst P is (sym (or-none (in_range run p)) ∙ h) in
    let i : Inside (run_of r at n) p = inside_from (run_of r at n) p t in
    let low : r.low + at ≤ p.index = i.low in
    let high : p.index < r.low + at + n = i.high in
    here.each p (inside_to r p (record { region = i.region; low = omega arith; high = omega arith }))

-- a word of a run
pub run_word : (w : Words) (r run : Range) (at n : ℕ) (words : List ℕ) → run ≡ run_of r at n → words ≡ words_in w run
    → (j : ℕ) → j < n → get_or words j 0 ≡ nth_word w r (at + j)
run_word w r run at n words is read j short =
    let made : Range = run_of r at n in
    let f : ℕ → ℕ = λ i. word_at w (record { region = r.region; index = i }) in
    let inside : j < length_of made = omega arith in
    ap (λ (v : List ℕ). get_or v j 0) (read ∙ ap (words_in w) is)
    ∙ get_or-map-range_with_len f made.low (length_of made) j (r.low + (at + j)) 0 inside (omega arith)
