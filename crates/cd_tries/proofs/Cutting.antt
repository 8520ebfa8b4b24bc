-- Pieces of a range, kept one by one; what a pass knows and has room for then.
use Rattle.std.proofs.Common.{◌≡◌, ℕ, suc, ◌+◌, ◌-◌, ◌*◌, ◌<◌, ◌≤◌, Bool, true, false, cond, List, [], ◌∷◌, ◌++◌, length, Option, None, Some, unwrap_or, IsSomeAnd, slice_get, arith, refl, ap, sym, subst, ◌∙◌, append_assoc, add-one, length-append}
use Rattle.cd_tries.proofs.Holding.{same_parts}
use Rattle.std.proofs.lemmas.List.{append-nil, length_push}
use Rattle.cd_base.specs.declared.place.Range.{Range}
use Rattle.cd_base.specs.Words.{Words}
use Rattle.cd_tree.specs.Meaning.{blocks_of}
use Rattle.cd_field.specs.FieldModel.{FieldModel, ArePresent, words_in}
use Rattle.cd_keep.specs.declared.keep_id.KeepId.{KeepId}
use Rattle.cd_keep.specs.PassModel.{PassModel, IsPiece, same_id, kept}
use Rattle.cd_tries.specs.declared.keep.Pieces.{Pieces}
use Rattle.cd_tries.specs.Keeping.{Known, AreCut, Cover, text}
use Rattle.cd_tries.specs.KeepLaws.{KnowsMore}
use Rattle.cd_tries.specs.Preserving.{nth_piece, KeepsFrom, IsCopy}
use Rattle.cd_tries.proofs.Ranges.{within_present}

pub piece_present : (m : FieldModel) (r piece : Range) (k : ℕ) → piece ≡ nth_piece r k → ArePresent m (r ∷ []) → ArePresent m (piece ∷ [])
piece_present m r piece k cut there =
    let P : Range → Type 0 = λ v. ArePresent m (v ∷ []) in
    subst P (sym cut) (within_present m r (nth_piece r k) refl (omega arith) (omega arith) there)

-- the first k pieces are kept; the rest of the pieces gives the whole
pub record AreCopied (w : Words) (r : Range) (k : ℕ) (ids : List KeepId) (was now : PassModel) : Type 0 where
  pub count : length ids ≡ k
  pub room : blocks_of r ≤ k + now.room
  pub whole : (more : List KeepId) (q : PassModel) → KeepsFrom w r k more now q → KeepsFrom w r 0 (ids ++ more) was q

pub none_copied : (w : Words) (r : Range) (p : PassModel) → blocks_of r ≤ p.room → AreCopied w r 0 [] p p
none_copied w r p room = record { count = refl; room = omega (arith, room); whole = λ more q h. h }

pub one_copied : (w : Words) (r piece : Range) (k : ℕ) (id : KeepId) (ids all : List KeepId) (was now next : PassModel) → k < blocks_of r
    → piece ≡ nth_piece r k → now.known id ≡ None → next ≡ kept now id (words_in w piece) → all ≡ ids ++ id ∷ []
    → AreCopied w r k ids was now → AreCopied w r (k + 1) all was next
one_copied w r piece k id ids all was now next within cut new is pushed s =
    let P : List KeepId → Type 0 = λ xs. AreCopied w r (k + 1) xs was next in
    subst P (sym pushed) (record {
      count = length_push ids id ∙ ap (λ (n : ℕ). n + 1) s.count;
      room =
          let left : next.room ≡ now.room - 1 = ap (λ (v : PassModel). v.room) is in
          omega (arith, left, s.room, within);
      whole = λ more q h.
          let A : PassModel → Type 0 = λ v. KeepsFrom w r (k + 1) more v q in
          let B : Range → Type 0 = λ v. KeepsFrom w r (k + 1) more (kept now id (words_in w v)) q in
          let C : ℕ → Type 0 = λ n. KeepsFrom w r n more (kept now id (words_in w (nth_piece r k))) q in
          let D : List KeepId → Type 0 = λ xs. KeepsFrom w r 0 xs was q in
          let rest : KeepsFrom w r (suc k) more (kept now id (words_in w (nth_piece r k))) q = subst C (add-one k) (subst B cut (subst A is h)) in
          subst D (sym (append_assoc ids (id ∷ []) more)) (s.whole (id ∷ more) q (new, rest));
    })

pub all_copied : (w : Words) (r : Range) (k : ℕ) (ids : List KeepId) (was now : PassModel) → k ≡ blocks_of r → AreCopied w r k ids was now
    → IsCopy w r (record { begin = r.low; end = r.high; ids = ids }) was now
all_copied w r k ids was now over s = record {
  begin = refl;
  end = refl;
  count = s.count ∙ over;
  keeps =
      let D : List KeepId → Type 0 = λ xs. KeepsFrom w r 0 xs was now in
      subst D (append-nil ids) (s.whole [] now refl);
}

-- ---- what a pass knows

pub found : (P : List ℕ → Type 0) (o : Option (List ℕ)) → IsSomeAnd o P → (words : List ℕ) × (o ≡ Some words) × P words
found P None h = absurd h
found P (Some words) h = (words, refl, h)

pub stays_known : (P : List ℕ → Type 0) (known more : Known) (id : KeepId) → KnowsMore known more → IsSomeAnd (known id) P → more id ≡ known id
stays_known P known more id knows h =
    let f : (words : List ℕ) × (known id ≡ Some words) × P words = found P (known id) h in
    knows id f.0 f.1 ∙ sym f.1

kept_known : (b : Bool) (o : Option (List ℕ)) (words had : List ℕ) → (b ≡ true → o ≡ None) → o ≡ Some had → cond b (Some words) o ≡ Some had
kept_known true o words had new h = absurd (grind (arith, new refl, h))
kept_known false o words had new h = h

same_known : (known : Known) (id other : KeepId) → same_id id other ≡ true → known id ≡ None → known other ≡ None
same_known known id other e new =
    let parts : (id.block ≡ other.block) × (id.serial ≡ other.serial) = same_parts id other e in
    ap (λ (n : ℕ). known (record { block = n; serial = other.serial })) (sym parts.0)
    ∙ ap (λ (n : ℕ). known (record { block = id.block; serial = n })) (sym parts.1) ∙ new

pub keeping_knows : (p : PassModel) (id : KeepId) (words : List ℕ) → p.known id ≡ None → KnowsMore p.known (kept p id words).known
keeping_knows p id words new other had h =
    kept_known (same_id id other) (p.known other) words had (λ e. same_known p.known id other e new) h

pub copies_know : (w : Words) (r : Range) (k : ℕ) (ids : List KeepId) (p q : PassModel) → KeepsFrom w r k ids p q → KnowsMore p.known q.known
copies_know w r k [] p q h id words e = ap (λ (v : PassModel). v.known id) h ∙ e
copies_know w r k (one ∷ ids) p q h id words e =
    copies_know w r (suc k) ids (kept p one (words_in w (nth_piece r k))) q h.1 id words
    (keeping_knows p one (words_in w (nth_piece r k)) h.0 id words e)

pub copies_room : (w : Words) (r : Range) (k : ℕ) (ids : List KeepId) (p q : PassModel) → KeepsFrom w r k ids p q → p.room ≤ q.room + length ids
copies_room w r k [] p q h =
    let e : q.room ≡ p.room = ap (λ (v : PassModel). v.room) h in
    omega (arith, e)
copies_room w r k (one ∷ ids) p q h =
    let rest : p.room - 1 ≤ q.room + length ids = copies_room w r (suc k) ids (kept p one (words_in w (nth_piece r k))) q h.1 in
    omega (arith, rest)

pub same_text : (known more : Known) (ids : List KeepId) → KnowsMore known more
    → ((k : ℕ) (id : KeepId) → slice_get ids k ≡ Some id → IsSomeAnd (known id) IsPiece) → text more ids ≡ text known ids
same_text known more [] knows each = refl
same_text known more (id ∷ ids) knows each =
    ap (λ (o : Option (List ℕ)). unwrap_or o [] ++ text more ids) (stays_known IsPiece known more id knows (each 0 id refl))
    ∙ ap (λ (xs : List ℕ). unwrap_or (known id) [] ++ xs) (same_text known more ids knows (λ k x h. each (suc k) x h))

pub stays_cut : (known more : Known) (pieces : Pieces) → KnowsMore known more → AreCut known pieces → AreCut more pieces
stays_cut known more pieces knows cut =
    let same : (k : ℕ) (id : KeepId) → slice_get pieces.ids k ≡ Some id → more id ≡ known id =
    λ k id h. stays_known IsPiece known more id knows (cut.each k id h) in
    record {
      each = λ k id h.
          let P : Option (List ℕ) → Type 0 = λ o. IsSomeAnd o IsPiece in
          subst P (sym (same k id h)) (cut.each k id h);
      whole = λ k id h short. ap (λ (o : Option (List ℕ)). length (unwrap_or o [])) (same k id h) ∙ cut.whole k id h short;
      size =
          ap (λ (xs : List ℕ). pieces.begin + length xs) (same_text known more pieces.ids knows cut.each) ∙ cut.size;
    }

pub stays_covered : (known more : Known) (pieces : Pieces) (r : Range) → KnowsMore known more → Cover known pieces r → Cover more pieces r
stays_covered known more pieces r knows covers =
    record { cut = stays_cut known more pieces knows covers.cut; low = covers.low; high = covers.high }

-- pieces of 64 words at most reach as far as they end
pub pieces_reach : (known : Known) (ids : List KeepId)
    → ((k : ℕ) (id : KeepId) → slice_get ids k ≡ Some id → IsSomeAnd (known id) IsPiece) → length (text known ids) ≤ 64 * length ids
pieces_reach known [] each = omega arith
pieces_reach known (id ∷ ids) each =
    let f : (words : List ℕ) × (known id ≡ Some words) × IsPiece words = found IsPiece (known id) (each 0 id refl) in
    let few : length f.0 ≤ 64 = f.2.few in
    let is : length (unwrap_or (known id) []) ≡ length f.0 = ap (λ (o : Option (List ℕ)). length (unwrap_or o [])) f.1 in
    let rest : length (text known ids) ≤ 64 * length ids = pieces_reach known ids (λ k x h. each (suc k) x h) in
    let both : length (unwrap_or (known id) [] ++ text known ids) ≡ length (unwrap_or (known id) []) + length (text known ids) =
    length-append (unwrap_or (known id) []) (text known ids) in
    omega (arith, both, is, few, rest)

pub cover_enough : (known : Known) (pieces : Pieces) (r : Range) → Cover known pieces r → pieces.end ≤ pieces.begin + 64 * length pieces.ids
cover_enough known pieces r covers =
    let reach : length (text known pieces.ids) ≤ 64 * length pieces.ids = pieces_reach known pieces.ids covers.cut.each in
    let size : pieces.begin + length (text known pieces.ids) ≡ pieces.end = covers.cut.size in
    omega (arith, reach, size)
