-- The words of an ask: words listed over ranges, and laid over these ranges again, are the words there.
use Rattle.std.proofs.Common.{◌≡◌, ℕ, ◌+◌, ◌-◌, ◌<◌, ◌≤◌, Bool, true, false, ◌||◌, List, [], ◌∷◌, ◌++◌, length, drop, Option, Some, None, unwrap_or, IsSome, slice_get, length-append, arith, refl, ap, ◌∙◌}
use Rattle.std.proofs.lemmas.List.{drop_at, get_or_append_left}
use Rattle.std.proofs.lemmas.List.FromFn.{get_or-map-range_with_len}
use Rattle.std.proofs.lemmas.Option.{slice_get-get_or}
use Rattle.cd_base.specs.declared.place.Place.{Place}
use Rattle.cd_base.specs.declared.place.Range.{Range}
use Rattle.cd_base.specs.Words.{Words, word_at, in_range, in_ranges}
use Rattle.cd_base.proofs.PlaceLemmas.{Inside, inside_from}
use Rattle.cd_tree.specs.Operations.{length_of}
use Rattle.cd_field.specs.FieldModel.{words_in}
use Rattle.cd_tries.proofs.Rows.{words_long}
use Rattle.cd_core.specs.Asks.{laid_over, words_over}
use Rattle.cd_core.proofs.Choices.{by_test, chosen, other}

-- the words of a range stand first in a list that begins with them
word_first : (w : Words) (r : Range) (more : List ℕ) (p : Place) → in_range r p ≡ true
    → slice_get (words_in w r ++ more) (p.index - r.low) ≡ Some (word_at w p)
word_first w r more p h =
    let i : Inside r p = inside_from r p h in
    let low : r.low ≤ p.index = i.low in
    let high : p.index < r.high = i.high in
    let long : length (words_in w r) ≡ length_of r = words_long w r in
    let all : length (words_in w r ++ more) ≡ length (words_in w r) + length more = length-append (words_in w r) more in
    let at : ℕ = p.index - r.low in
    let word : ℕ → ℕ = λ n. word_at w (record { region = r.region; index = n }) in
    slice_get-get_or (words_in w r ++ more) at 0 (omega (arith, all, long, low, high))
    ∙ ap (λ (n : ℕ). Some n) (get_or_append_left (words_in w r) more 0 at (omega (arith, long, low, high)))
    ∙ ap (λ (n : ℕ). Some n) (get_or-map-range_with_len word r.low (length_of r) at p.index 0 (omega (arith, low, high)) (omega (arith, low)))
    ∙ ap (λ (n : ℕ). Some (word_at w (record { region = n; index = p.index }))) i.region

-- of one of two tests that hold together the second holds where the first does not
second_of : (a b : Bool) → (a || b) ≡ true → a ≡ false → b ≡ true
second_of true b h e = absurd (cc)
second_of false b h e = h

pub laid_back : (ranges : List Range) (w : Words) (p : Place) → in_ranges ranges p ≡ true
    → laid_over ranges (words_over ranges w) p ≡ Some (word_at w p)
laid_back [] w p h = absurd (cc)
laid_back (r ∷ rs) w p h =
    let words : List ℕ = words_in w r ++ words_over rs w in
    let here : Option ℕ = slice_get words (p.index - r.low) in
    let later : Option ℕ = laid_over rs (drop (length_of r) words) p in
    by_test (in_range r p)
    (λ e. chosen (in_range r p) here later e ∙ word_first w r (words_over rs w) p e)
    (λ e. other (in_range r p) here later e
    ∙ ap (λ (left : List ℕ). laid_over rs left p) (drop_at (words_in w r) (words_over rs w) (length_of r) (words_long w r))
    ∙ laid_back rs w p (second_of (in_range r p) (in_ranges rs p) h e))

there_word : (o : Option ℕ) → IsSome o → Some (unwrap_or o 0) ≡ o
there_word None h = absurd (cc)
there_word (Some word) h = refl

-- where there is a word it is given back
pub words_back : (ranges : List Range) (w : Words) (p : Place) → in_ranges ranges p ≡ true → IsSome (w p)
    → laid_over ranges (words_over ranges w) p ≡ w p
words_back ranges w p h some = laid_back ranges w p h ∙ there_word (w p) some
