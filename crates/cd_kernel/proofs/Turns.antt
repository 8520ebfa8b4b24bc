-- One turn of an operation that writes its destination a block at a time.
use Rattle.std.proofs.Common.{◌≡◌, ℕ, ◌+◌, ◌-◌, ◌<◌, ◌≤◌, suc, Bool, true, cond, List, [], ◌∷◌, All, get_or, length, take, Option, Some, IsSome, refl, ap, subst, sym, ◌∙◌, arith, inl, inr}
use Rattle.std.proofs.Math.Path.{fun_ext}
use Rattle.std.proofs.lemmas.List.{length-take, get_or-take}
use Rattle.std.proofs.lemmas.Bool.{cases_lt, cond-true, cond-false, or_left, or_right}
use Rattle.std.proofs.lemmas.List.Elements.{All-nil, All-cons}
use Rattle.cd_base.specs.declared.place.Place.{Place}
use Rattle.cd_base.specs.declared.place.Range.{Range}
use Rattle.cd_base.specs.Words.{Words, in_range, in_ranges, word_of}
use Rattle.cd_tree.specs.declared.operation.Op.{Op}
use Rattle.cd_tree.specs.declared.operation.Op.TheVariants.{Fill, Scan}
use Rattle.cd_tree.specs.Operations.{column, op_writes, length_of, nth_word, total, FitsShape, IsInStep}
use Rattle.cd_tree.specs.Locality.{ColumnIsLocal}
use Rattle.cd_field.specs.FieldModel.{FieldModel, IsPresent, ArePresent, laid, wrote_run}
use Rattle.cd_kernel.specs.Computing.{run_of, IsHere, IsDirect}
use Rattle.cd_base.proofs.PlaceLemmas.{Inside, inside_from, inside_to}
use Rattle.cd_base.proofs.BoolLemmas.{by_test, same_test}
use Rattle.cd_kernel.proofs.Sums.{block_summed}
use Rattle.cd_kernel.proofs.Written.{words_to, first_of}
use Rattle.cd_kernel.proofs.Steady.{step_there, column_stays}

-- writing keeps places present
still_present : (m was : FieldModel) (op : Op) (n : ℕ) (p : Place)
    → m ≡ record was { words = words_to op was.words n } → IsPresent was p → IsPresent m p
still_present m was op n p e h =
    let P : FieldModel → Type 0 = λ v. IsPresent v p in
    let Q : Option ℕ → Type 0 = λ o. IsSome o in
    subst P (sym e)
    (by_test (in_range (first_of (op_writes op) n) p)
    (λ t. let w : words_to op was.words n p ≡ Some (column op was.words (p.index - (op_writes op).low)) = cond-true _ _ _ t in
    record { known = subst Q (sym w) refl; here = h.here })
    (λ f. let w : words_to op was.words n p ≡ was.words p = cond-false _ _ _ f in
    record { known = subst Q (sym w) h.known; here = h.here }))

-- the places of ranges, one range at a time
here_from : (m : FieldModel) (ranges : List Range) → ArePresent m ranges → All (IsHere m) ranges
here_from m [] present = All-nil (IsHere m)
here_from m (r ∷ ranges) present =
    All-cons (IsHere m) r ranges
    (record { each = λ p h. present p (or_left (in_range r p) (in_ranges ranges p) h) })
    (here_from m ranges (λ p h. present p (or_right (in_range r p) (in_ranges ranges p) h)))

-- after the first n words are written each range is there as before
pub still_here : (m was : FieldModel) (op : Op) (n : ℕ) (ranges : List Range)
    → m ≡ record was { words = words_to op was.words n } → ArePresent was ranges → All (IsHere m) ranges
still_here m was op n ranges e present = here_from m ranges (λ p h. still_present m was op n p e (present p h))

-- where a block is written behind the first words, so many more are
laid_on : (op : Op) (w : Words) (at n : ℕ) (words : List ℕ) → ((j : ℕ) → j < n → get_or words j 0 ≡ column op w (at + j)) → (q : Place)
    → laid (words_to op w at) (run_of (op_writes op) at n) words q ≡ words_to op w (at + n) q
laid_on op w at n words each q =
    let d : Range = op_writes op in
    let run : Range = run_of d at n in
    by_test (in_range run q)
    (λ t. let h : Inside run q = inside_from run q t in
    let low : d.low + at ≤ q.index = h.low in
    let high : q.index < d.low + at + n = h.high in
    let inside : in_range (first_of d (at + n)) q ≡ true =
    inside_to (first_of d (at + n)) q (record { region = h.region; low = omega arith; high = omega arith }) in
    let index : at + (q.index - (d.low + at)) ≡ q.index - d.low = omega arith in
    cond-true (in_range run q) (Some (get_or words (q.index - run.low) 0)) (words_to op w at q) t
    ∙ ap (λ (v : ℕ). Some v) (each (q.index - (d.low + at)) (omega arith))
    ∙ ap (λ (i : ℕ). Some (column op w i)) index
    ∙ sym (cond-true (in_range (first_of d (at + n)) q) (Some (column op w (q.index - d.low))) (w q) inside))
    (λ f. let tests : in_range (first_of d at) q ≡ in_range (first_of d (at + n)) q =
    same_test _ _
    (λ t. let h : Inside (first_of d at) q = inside_from (first_of d at) q t in
    let high : q.index < d.low + at = h.high in
    inside_to (first_of d (at + n)) q (record { region = h.region; low = h.low; high = omega arith }))
    (λ t. let h : Inside (first_of d (at + n)) q = inside_from (first_of d (at + n)) q t in
    let high : q.index < d.low + (at + n) = h.high in
    let low : d.low ≤ q.index = h.low in
    elim (cases_lt q.index (d.low + at)) [
      | inl l ↦ inside_to (first_of d at) q (record { region = h.region; low = low; high = l })
      | inr l ↦
          let in_run : in_range run q ≡ true = inside_to run q (record { region = h.region; low = l; high = omega arith }) in
          absurd (cc)
    ]) in
    cond-false (in_range run q) (Some (get_or words (q.index - run.low) 0)) (words_to op w at q) f
    ∙ ap (λ (b : Bool). cond b (Some (column op w (q.index - d.low))) (w q)) tests)

-- a block more is written
run_written : (m was later : FieldModel) (op : Op) (at n : ℕ) (words : List ℕ)
    → m ≡ record was { words = words_to op was.words at } → ((j : ℕ) → j < n → get_or words j 0 ≡ column op was.words (at + j))
    → later ≡ wrote_run m (run_of (op_writes op) at (length words)) words → length words ≡ n
    → later ≡ record was { words = words_to op was.words (at + n) }
run_written m was later op at n words is each after long =
    after
    ∙ ap (λ (k : ℕ). wrote_run m (run_of (op_writes op) at k) words) long
    ∙ ap (λ (v : FieldModel). wrote_run v (run_of (op_writes op) at n) words) is
    ∙ ap (λ (w : Words). record was { words = w }) (fun_ext (laid_on op was.words at n words each))

-- one block of an operation whose words come from words that are still to be written
pub block_written : ColumnIsLocal → (m was later : FieldModel) (op : Op) (at n : ℕ) (words : List ℕ)
    → m ≡ record was { words = words_to op was.words at } → IsDirect op → FitsShape op → at + n ≤ length_of (op_writes op)
    → ((j : ℕ) → j < length words → get_or words j 0 ≡ column op m.words (at + j))
    → later ≡ wrote_run m (run_of (op_writes op) at (length words)) words → length words ≡ n
    → later ≡ record was { words = words_to op was.words (at + n) }
block_written law m was later op at n words is direct shape within each after long =
    run_written m was later op at n words is
    (λ j short. each j (omega arith) ∙ ap (λ (v : FieldModel). column op v.words (at + j)) is
    ∙ column_stays law op was.words at (at + j) direct shape (omega arith) (omega arith))
    after long

-- one block of a `fill`
pub fill_written : (m was later : FieldModel) (d : Range) (word at n : ℕ) (words run : List ℕ)
    → m ≡ record was { words = words_to (Fill d word) was.words at } → ((j : ℕ) → j < length words → get_or words j 0 ≡ word)
    → later ≡ wrote_run m (run_of d at (length run)) run → run ≡ take n words → n ≤ length words
    → later ≡ record was { words = words_to (Fill d word) was.words (at + n) }
fill_written m was later d word at n words run is each after front enough =
    let long : length run ≡ n = ap length front ∙ (let l : length (take n words) ≡ n = omega (arith, length-take n words) in l) in
    run_written m was later (Fill d word) at n run is
    (λ j short. ap (λ (v : List ℕ). get_or v j 0) front ∙ get_or-take n words j 0 short ∙ each j (omega arith)) after long

-- the words that a `scan` reads are as they were
pub scan_read : (m was : FieldModel) (d x : Range) (at i : ℕ)
    → m ≡ record was { words = words_to (Scan d x) was.words at } → IsInStep d x → at + i < length_of d
    → nth_word m.words x (at + i) ≡ nth_word was.words x (at + i)
scan_read m was d x at i is step short =
    ap (λ (v : FieldModel). nth_word v.words x (at + i)) is ∙ step_there (Scan d x) was.words x at (at + i) step (omega arith) short

-- the sum up to the end of a block, and up to each of its words
pub scan_summed : (m was : FieldModel) (d x : Range) (at n sum later : ℕ)
    → m ≡ record was { words = words_to (Scan d x) was.words at } → IsInStep d x → at + n ≤ length_of d
    → sum ≡ word_of (total (nth_word was.words x) at)
    → (k : ℕ) → later ≡ word_of (sum + total (λ i. nth_word m.words x (at + i)) k) → k ≡ n
    → later ≡ word_of (total (nth_word was.words x) (at + n))
scan_summed m was d x at n sum later is step within before k after long =
    block_summed (nth_word was.words x) (λ i. nth_word m.words x (at + i)) at n k sum later before
    (λ i short. scan_read m was d x at i is step (omega arith)) after long

-- one block of a `scan`
pub scan_written : (m was later : FieldModel) (d x : Range) (at n sum : ℕ) (words : List ℕ)
    → m ≡ record was { words = words_to (Scan d x) was.words at } → IsInStep d x → at + n ≤ length_of d
    → sum ≡ word_of (total (nth_word was.words x) at)
    → ((j : ℕ) → j < length words → get_or words j 0 ≡ word_of (sum + total (λ i. nth_word m.words x (at + i)) (j + 1)))
    → later ≡ wrote_run m (run_of d at (length words)) words → length words ≡ n
    → later ≡ record was { words = words_to (Scan d x) was.words (at + n) }
scan_written m was later d x at n sum words is step within before each after long =
    run_written m was later (Scan d x) at n words is
    (λ j short. let up : at + (j + 1) ≡ suc (at + j) = omega arith in
    scan_summed m was d x at (j + 1) sum (get_or words j 0) is step (omega arith) before (j + 1) (each j (omega arith)) refl
    ∙ ap (λ (k : ℕ). word_of (total (nth_word was.words x) k)) up)
    after long
