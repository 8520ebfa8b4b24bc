-- The words of links in an ask: those that are kept above for each outer reference, on its range.
use Rattle.std.proofs.Common.{◌≡◌, ℕ, ◌+◌, ◌-◌, ◌<◌, ◌≤◌, ◌==◌, true, false, List, [], ◌∷◌, map, length, get_or, Option, Some, None, IsSome, IsSomeAnd, Contains, inl, inr, arith, refl, ap, subst, sym, ◌∙◌}
use Rattle.std.specs.Option.{option_map_or}
use Rattle.std.proofs.lemmas.Bool.{and_from, eq-eqb, and_parts, eqb-true}
use Rattle.std.proofs.lemmas.Option.{slice_get-get_or}
use Rattle.cd_base.specs.declared.place.Place.{Place}
use Rattle.cd_base.specs.declared.place.Range.{Range}
use Rattle.cd_base.specs.Words.{Words, in_range}
use Rattle.cd_base.proofs.PlaceLemmas.{Inside, inside_from}
use Rattle.cd_tree.specs.declared.domain.NodeId.{NodeId}
use Rattle.cd_tree.specs.declared.domain.Entry.{Entry}
use Rattle.cd_tree.specs.declared.domain.Domain.{Domain}
use Rattle.cd_tree.specs.Legal.{entry_at}
use Rattle.cd_tree.specs.Locality.{SameWords}
use Rattle.cd_cover.proofs.Downward.{contains_cases, contains_none}
use Rattle.cd_tries.specs.declared.keep.Pieces.{Pieces}
use Rattle.cd_tries.specs.Keeping.{Known, Cover, text, piece_words}
use Rattle.cd_tries.proofs.Rows.{text_at}
use Rattle.cd_core.specs.Asks.{laid_over, same_reference, range_of, links_listed, link_words}
use Rattle.cd_core.proofs.AskedWords.{words_back}
use Rattle.cd_core.proofs.Choices.{by_test, chosen, other, or_left}

same_itself : (reference : NodeId × ℕ) → same_reference reference reference ≡ true
same_itself (id, at) = and_from (id.0 == id.0) (at == at) (eq-eqb id.0 id.0 refl) (eq-eqb at at refl)

reference_is : (one reference : NodeId × ℕ) → same_reference one reference ≡ true → one ≡ reference
reference_is (id, at) (up, entry) e =
    let parts : ((id.0 == up.0) ≡ true) × ((at == entry) ≡ true) = and_parts (id.0 == up.0) (at == entry) e in
    let from : ℕ → NodeId × ℕ = λ n. (record { 0 = n }, at) in
    let to : ℕ → NodeId × ℕ = λ n. (up, n) in
    ap from (eqb-true id.0 up.0 parts.0) ∙ ap to (eqb-true at entry parts.1)

after_first : (one reference : NodeId × ℕ) (references : List (NodeId × ℕ)) → same_reference one reference ≡ false
    → Contains (one ∷ references) reference → Contains references reference
after_first one reference references e among =
    elim (contains_cases one references reference among) [
      | inl same ↦
          let P : NodeId × ℕ → Type 0 = λ r. same_reference one r ≡ false in
          let never : true ≡ false = sym (same_itself one) ∙ subst P (sym same) e in
          absurd (cc)
      | inr later ↦ later
    ]

-- a list of words for each reference, in order, gives each its own
pub links_back : (domains : List Domain) (references : List (NodeId × ℕ)) (words : NodeId × ℕ → List ℕ) (reference : NodeId × ℕ)
    → Contains references reference
    → links_listed domains references (map words references) reference ≡ laid_over (range_of domains reference) (words reference)
links_back domains [] words reference among = absurd (contains_none reference among)
links_back domains (one ∷ references) words reference among =
    let here : Words = laid_over (range_of domains one) (words one) in
    let later : Words = links_listed domains references (map words references) reference in
    let P : NodeId × ℕ → Type 0 = λ r. here ≡ laid_over (range_of domains r) (words r) in
    by_test (same_reference one reference)
    (λ e. chosen (same_reference one reference) here later e ∙ subst P (reference_is one reference e) refl)
    (λ e. other (same_reference one reference) here later e
    ∙ links_back domains references words reference (after_first one reference references e among))

-- pieces that cover a range have its words
covered_words : (known : Known) (pieces : Pieces) (range : Range) (p : Place) → Cover known pieces range → in_range range p ≡ true
    → IsSome (piece_words known pieces p)
covered_words known pieces range p covers h =
    let i : Inside range p = inside_from range p h in
    let words : List ℕ = text known pieces.ids in
    let at : ℕ = p.index - pieces.begin in
    let low : range.low ≤ p.index = i.low in
    let high : p.index < range.high = i.high in
    let from : pieces.begin ≤ range.low = covers.low in
    let to : range.high ≤ pieces.end = covers.high in
    let size : pieces.begin + length words ≡ pieces.end = covers.cut.size in
    let there : piece_words known pieces p ≡ Some (get_or words at 0) =
    text_at known pieces p (omega (arith, low, from)) ∙ slice_get-get_or words at 0 (omega (arith, low, high, from, to, size)) in
    let P : Option ℕ → Type 0 = λ o. IsSome o in
    subst P (sym there) refl

-- what is kept of a reference's range gives these words on it
kept_words : (known : Known) (link : Option Pieces) (range : Range) (words : Words)
    → words ≡ laid_over (range ∷ []) (link_words known link (range ∷ [])) → IsSomeAnd link (λ (pieces : Pieces). Cover known pieces range)
    → IsSomeAnd link (λ (pieces : Pieces). SameWords (in_range range) (piece_words known pieces) words)
kept_words known None range words is covers = covers
kept_words known (Some pieces) range words is covers = λ p h.
    sym (ap (λ (w : Words). w p) is
    ∙ words_back (range ∷ []) (piece_words known pieces) p (or_left (in_range range p) false h) (covered_words known pieces range p covers h))

range_is : (domains : List Domain) (reference : NodeId × ℕ) (entry : Entry) → entry_at domains reference.0 reference.1 ≡ Some entry
    → range_of domains reference ≡ entry.range ∷ []
range_is domains reference entry stands = ap (λ (o : Option Entry). option_map_or (λ (e : Entry). e.range ∷ []) o []) stands

-- so the words of each reference, listed from what is kept of it, are those that are kept
pub links_kept : (domains : List Domain) (references : List (NodeId × ℕ)) (known : Known) (kept : NodeId × ℕ → Option Pieces) (reference : NodeId × ℕ)
    (entry : Entry) → Contains references reference → entry_at domains reference.0 reference.1 ≡ Some entry
    → IsSomeAnd (kept reference) (λ (pieces : Pieces). Cover known pieces entry.range)
    → IsSomeAnd (kept reference) (λ (pieces : Pieces). SameWords (in_range entry.range) (piece_words known pieces)
    (links_listed domains references (map (λ r. link_words known (kept r) (range_of domains r)) references) reference))
links_kept domains references known kept reference entry among stands covers =
    let words : NodeId × ℕ → List ℕ = λ r. link_words known (kept r) (range_of domains r) in
    kept_words known (kept reference) entry.range (links_listed domains references (map words references) reference)
    (links_back domains references words reference among
    ∙ ap (λ (rs : List Range). laid_over rs (link_words known (kept reference) rs)) (range_is domains reference entry stands)) covers
