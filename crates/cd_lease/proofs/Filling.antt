-- Words that are written: a filling grows, and at its last word becomes a hold. Words that are read.
use Rattle.std.proofs.Common.{◌≡◌, ◌≢◌, ℕ, ◌+◌, ◌*◌, ◌<◌, ◌≤◌, List, [], ◌∷◌, ◌++◌, length, get_or, set, None, Some, is_some, refl, sym, ap, ◌∙◌, subst, ⊎_elim, arith, le_refl, le_of_eq, ◌==◌}
use Rattle.std.proofs.lemmas.Bool.{cases_eq}
use Rattle.std.proofs.lemmas.List.{get_or_append_left, get_or_push, set-get_or, length_push}
use mathlib.Core.Option.{some, none}
use lib.ListN.{get_elem?}
use Rattle.atomic_table.specs.Table.{keeps, stepped, step, Allows}
use Rattle.atomic_table.proofs.Lists.{set_again}
use Rattle.cd_keep.specs.declared.keep_id.KeepId.{KeepId}
use Rattle.cd_lease.specs.declared.rule.Size.{Size}
use Rattle.cd_lease.specs.declared.view.View.{View}
use Rattle.cd_lease.specs.declared.view.Piece.{Piece}
use Rattle.cd_lease.specs.Control.{users_of, serial_of, word_at, users_in, serial_in, word_in, Begins}
use Rattle.cd_lease.specs.Views.{one_if, one_there, fills_of, holds_in, fills_in, total}
use Rattle.cd_lease.specs.Rule.{fillers, IsHeld, IsKnown, IsFilled, Stands, IsAlone, Leased}
use Rattle.cd_lease.specs.Steps.{with_view, Sat, longer, growing, holding, Writes, Ends, Reads}
use Rattle.cd_lease.proofs.Sums.{total_set, total_at, total_two}
use Rattle.cd_lease.proofs.Counting.{inside, not_some, one_off, fills_self, first_words, times_cases, words_cases, known_still}
use Rattle.cd_lease.proofs.TableWords.{controls_stay, word_now, words_else, words_before}
use Rattle.cd_lease.proofs.Changing.{Change, stays, refills, stands_on}
use Rattle.cd_lease.proofs.Stepping.{St, fillers_stay, alone_still, step_kept}

module _ (size : Size) (s : St) (r : Leased size s) (id : ℕ) (v : View) (at : get_elem? s.views id ≡ some v)
    (p : Piece) (fill : v.filling ≡ Some p) (n : ℕ) where
  abbrev b : ℕ
  b = p.id.block

  abbrev i : ℕ
  i = length p.words

  filled_now : IsFilled size.blocks s.words p
  filled_now = (r.each id v at).filled p fill

  fills_one : fills_in b v ≡ 1
  fills_one = fills_self v p fill

  some_fill : 0 < fillers s.views b
  some_fill = let f = fills_one in let t : fills_in b v ≤ fillers s.views b = total_at (fills_in b) s.views id v at in omega arith

  is_alone : IsAlone b s.views
  is_alone = r.alone b some_fill

  not_held : (k : ℕ) (u : View) → get_elem? s.views k ≡ some u → holds_in b u ≡ 0
  not_held k u e =
      let t : holds_in b u ≤ total (holds_in b) s.views = total_at (holds_in b) s.views k u e in
      let z : total (holds_in b) s.views ≡ 0 = is_alone.none in
      omega arith

  not_filled : (k : ℕ) (u : View) → k ≢ id → get_elem? s.views k ≡ some u → fills_in b u ≡ 0
  not_filled k u ne e =
      let t : fills_in b v + fills_in b u ≤ fillers s.views b = total_two (fills_in b) s.views id k v u (λ q. ne (sym q)) at e in
      let f = fills_one in
      let one : fillers s.views b ≡ 1 = is_alone.one in
      omega arith

  abbrev vs : List ℕ
  vs = set s.words (word_at b i) n

  serials : (d : ℕ) → serial_in vs d ≡ serial_in s.words d
  serials d = ap serial_of (controls_stay s.words b n i filled_now.short d)

  users : (d : ℕ) → users_in vs d ≡ users_in s.words d
  users d = ap users_of (controls_stay s.words b n i filled_now.short d)

  in_words : word_at b i < length s.words
  in_words =
      let l : length s.words ≡ 65 * size.blocks = r.long in
      let k : p.id.block < size.blocks = filled_now.block in
      let m : length p.words < 64 = filled_now.short in
      omega arith

  -- the block begins with the words so far, and the one that is written
  begins_longer : Begins vs b (p.words ++ n ∷ [])
  begins_longer = record {
    each = λ j k. ⊎_elim
        (λ (e : j ≡ i). ap (word_in vs b) e ∙ (word_now s.words b n i filled_now.short in_words ∙ (sym (get_or_push p.words n 0 i refl) ∙ ap (λ (x : ℕ). get_or (p.words ++ n ∷ []) x 0) (sym e))))
        (λ ne.
        let before : j < i = let l : length (p.words ++ n ∷ []) ≡ length p.words + 1 = length_push p.words n in omega arith in
        words_before s.words b n i filled_now.short j before ∙ (filled_now.begins.each j before ∙ sym (get_or_append_left p.words (n ∷ []) 0 j before)))
        (cases_eq j i);
  }

  -- the pass without its filling
  abbrev bare : View
  bare = record v { filling = None }

  bare_stands : Stands size.blocks s.words (fillers s.views) bare
  bare_stands = let is = r.each id v at in record { held = is.held; seen = is.seen; filled = λ q e. absurd (not_some q e); missed = is.missed; tried = is.tried }

  module _ (now : ℕ → ℕ) (other : (d : ℕ) → d ≢ b → now d ≡ fillers s.views d) where
    change : (u : View) → holds_in b u ≡ 0 → fills_in b u ≡ 0 → (d : ℕ) → Change s.words vs (fillers s.views) now u d
    change u held filled d = ⊎_elim
        (λ (e : d ≡ b). subst (λ (x : ℕ). Change s.words vs (fillers s.views) now u x) (sym e) (refills (serials b) some_fill held filled))
        (λ ne. stays (serials d) (other d ne) (λ j k. words_else s.words b n i filled_now.short d j k ne))
        (cases_eq d b)

    bare_now : Stands size.blocks vs now bare
    bare_now = stands_on size.blocks s.words vs (fillers s.views) now bare bare_stands (λ d k. change bare (not_held id v at) refl d)

  pub grown_kept : i + 1 < 64 → (c : List (ℕ × Unit {0})) → Leased size (stepped s (word_at b i) n id c (growing v (longer p n)) keeps)
  grown_kept short c =
      let w : View = growing v (longer p n) in
      let same : (d : ℕ) → fills_in d w ≡ fills_in d v = λ d. sym (ap (fills_of d) fill) in
      let now : ℕ → ℕ = fillers (set s.views id w) in
      let other : (d : ℕ) → d ≢ b → now d ≡ fillers s.views d = λ d ne. fillers_stay size s r id v w at d (same d) in
      let mine = bare_now now other in
      step_kept size s r id v w at (word_at b i) n c
      (let one : one_there v.filling ≡ 1 = ap one_there fill in omega arith)
      (λ d k. let u = users d in let f = same d in omega arith)
      (λ d k. alone_still size s r id v w at d (same d) (λ m. le_refl (holds_in d v)) k)
      (record {
        held = mine.held;
        seen = mine.seen;
        filled = λ q e. subst (λ (x : Piece). IsFilled size.blocks vs x) (inside (longer p n) q e) (record {
          block = filled_now.block;
          short = let l : length (p.words ++ n ∷ []) ≡ length p.words + 1 = length_push p.words n in omega arith;
          serial = serials b ∙ filled_now.serial;
          begins = begins_longer;
        });
        missed = mine.missed;
        tried = mine.tried;
      })
      (λ k u ne e d l. change now other u (not_held k u e) (not_filled k u ne e) d)

  pub ended_kept : (c : List (ℕ × Unit {0})) → Leased size (stepped s (word_at b i) n id c (holding v (longer p n)) keeps)
  ended_kept c =
      let w : View = holding v (longer p n) in
      let now : ℕ → ℕ = fillers (set s.views id w) in
      let fills : (d : ℕ) → fills_in d v ≡ one_if (b == d) = λ d. ap (fills_of d) fill in
      let other : (d : ℕ) → d ≢ b → now d ≡ fillers s.views d = λ d ne.
      fillers_stay size s r id v w at d (sym (fills d ∙ one_off b d (λ e. ne (sym e)))) in
      let none_now : now b ≡ 0 =
      let t = total_set (fills_in b) s.views id v w at in
      let f = fills_one in
      let one : fillers s.views b ≡ 1 = is_alone.one in
      omega arith in
      let mine = bare_now now other in
      let held_now : IsHeld size.blocks vs w.known p.id = record {
        block = filled_now.block;
        serial = serials b ∙ filled_now.serial;
        there = ap is_some (first_words (longer p n) v.known);
      } in
      let known_now : IsKnown size.blocks vs now p.id (p.words ++ n ∷ []) = record {
        block = filled_now.block;
        short = let l : length (p.words ++ n ∷ []) ≡ length p.words + 1 = length_push p.words n in let m : length p.words < 64 = filled_now.short in omega arith;
        past = le_of_eq (sym (serials b ∙ filled_now.serial));
        alone = λ e. none_now;
        begins = λ e. begins_longer;
      } in
      step_kept size s r id v w at (word_at b i) n c
      (let one : one_there v.filling ≡ 1 = ap one_there fill in omega arith)
      (λ d k. let u = users d in let f = fills d in omega arith)
      (λ d k. ⊎_elim
      (λ (e : d ≡ b). absurd (let z : now d ≡ 0 = ap now e ∙ none_now in omega arith))
      (λ ne.
      let off : one_if (b == d) ≡ 0 = one_off b d (λ e. ne (sym e)) in
      alone_still size s r id v w at d (sym (fills d ∙ off)) (λ m. let o = off in omega arith) k)
      (cases_eq d b))
      (record {
        held = λ q k. times_cases p.id q v.holds k
            (λ e. subst (λ (x : KeepId). IsHeld size.blocks vs w.known x) e held_now)
            (λ more.
            let is = mine.held q more in
            record { block = is.block; serial = is.serial; there = known_still (longer p n) v.known q is.there });
        seen = λ q piece e. words_cases (longer p n) v.known q piece e
            (λ x y. subst (λ (z : KeepId). IsKnown size.blocks vs now z piece) x (subst (λ (z : List ℕ). IsKnown size.blocks vs now p.id z) y known_now))
            (λ rest. mine.seen q piece rest);
        filled = λ q e. absurd (not_some q e);
        missed = mine.missed;
        tried = mine.tried;
      })
      (λ k u ne e d l. change now other u (not_held k u e) (not_filled k u ne e) d)

module _ (size : Size) (slots id : ℕ) (me : Sat) where
  pub writes_allows : (p : Piece) → me.0.filling ≡ Some p → length p.words + 1 < 64 → (n : ℕ)
      → Allows (Leased size) slots id me (word_at p.id.block (length p.words)) (λ _. n)
      (λ _. Writes (step slots (word_at p.id.block (length p.words)) n 0 none) me n)
  writes_allows p fill short n s r homes at small = (
    growing me.0 (longer p n),
    keeps,
    tt,
    grown_kept size s r id me.0 at p fill n short me.1,
    (λ q e k. ap (λ (x : Piece). with_view me (growing me.0 (longer x n))) (inside p q (sym fill ∙ e))),
  )

  pub writes_at : (p : Piece) (i : ℕ) → length p.words ≡ i → me.0.filling ≡ Some p → i + 1 < 64 → (n : ℕ)
      → Allows (Leased size) slots id me (word_at p.id.block i) (λ _. n) (λ _. Writes (step slots (word_at p.id.block i) n 0 none) me n)
  writes_at p i e fill short n = subst
      (λ (x : ℕ). Allows (Leased size) slots id me (word_at p.id.block x) (λ _. n) (λ _. Writes (step slots (word_at p.id.block x) n 0 none) me n))
      e (writes_allows p fill (subst (λ (x : ℕ). x + 1 < 64) (sym e) short) n)

  pub ends_allows : (p : Piece) → me.0.filling ≡ Some p → (n : ℕ)
      → Allows (Leased size) slots id me (word_at p.id.block (length p.words)) (λ _. n)
      (λ _. Ends (step slots (word_at p.id.block (length p.words)) n 0 none) me n)
  ends_allows p fill n s r homes at small = (
    holding me.0 (longer p n),
    keeps,
    tt,
    ended_kept size s r id me.0 at p fill n me.1,
    (λ q e k. ap (λ (x : Piece). with_view me (holding me.0 (longer x n))) (inside p q (sym fill ∙ e))),
  )

  pub ends_at : (p : Piece) (i : ℕ) → length p.words ≡ i → me.0.filling ≡ Some p → (n : ℕ)
      → Allows (Leased size) slots id me (word_at p.id.block i) (λ _. n) (λ _. Ends (step slots (word_at p.id.block i) n 0 none) me n)
  ends_at p i e fill n = subst
      (λ (x : ℕ). Allows (Leased size) slots id me (word_at p.id.block x) (λ _. n) (λ _. Ends (step slots (word_at p.id.block x) n 0 none) me n))
      e (ends_allows p fill n)

  pub reads_allows : (b i : ℕ) → b < size.blocks → i < 64
      → Allows (Leased size) slots id me (word_at b i) (λ n. n) (Reads (step slots (word_at b i) 0 0 none) me)
  reads_allows b i h short s r homes at small =
      let n : ℕ = get_or s.words (word_at b i) 0 in
      let back : stepped s (word_at b i) n id me.1 me.0 keeps ≡ s = λ k. record {
        words = set-get_or s.words (word_at b i) 0 k;
        homes = s.homes;
        views = set_again s.views id me.0 at k;
      } in (
        me.0,
        keeps,
        tt,
        subst (λ (t : St). Leased size t) (sym back) r,
        (
          refl,
          λ p piece j held known k e.
              let stands = r.each id me.0 at in
              let is = stands.seen p piece known in
              let same : serial_in s.words p.block ≡ p.serial = (stands.held p held).serial in
              ap (λ (x : ℕ). get_or s.words x 0) e ∙ (is.begins (sym same)).each j k,
        ),
      )
