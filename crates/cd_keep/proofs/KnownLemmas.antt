-- What layers say of ids when a piece is put into the latest, and when the latest is put to the others.
use Rattle.std.proofs.Common.{◌≡◌, ◌≢◌, ℕ, zero, suc, ◌<◌, ◌≤◌, Bool, true, false, ◌&&◌, ◌==◌, List, [], ◌∷◌, ◌++◌, length, get_or, Option, None, Some, unwrap_or, refl, sym, ap, subst, ◌∙◌, arith, inl, inr, if◌then◌else◌}
use Rattle.std.proofs.Math.Path.{fun_ext}
use Rattle.std.specs.declared.sync.Arc.{Arc}
use Rattle.std.proofs.lemmas.Bool.{cases_eq, cases_lt}
use Rattle.std.proofs.lemmas.Bool.Decides.{nat_tests}
use Rattle.std.proofs.lemmas.Grind.{common_steps}
use Rattle.cd_keep.specs.declared.keep_id.KeepId.{KeepId}
use Rattle.cd_keep.specs.PassModel.{AreShort, none_known, same_id, known_with}
use Rattle.cd_keep.specs.LayerModel.{LayerModel, AreEnds, empty_layer, piece_in, pushed}
use Rattle.cd_keep.specs.Layers.{values}
use Rattle.cd_keep.specs.Known.{layer_at, known_in}
use Rattle.cd_keep.proofs.LayerLemmas.{found_past, piece_in-pushed, test_is, test_not}

same_block : (i j a b : ℕ) → a ≡ b → ((i == j) && (a == b)) ≡ (i == j)
same_block i j a b e = grind (arith, nat_tests)

other_serial : (i j a b : ℕ) → b ≢ a → ((i == j) && (a == b)) ≡ false
other_serial i j a b n = grind (arith, nat_tests)

-- ---- the layer of a serial

pub layer_here : (layers : List LayerModel) (latest : LayerModel) (s : ℕ) → s ≡ length layers → layer_at layers latest s ≡ latest
layer_here layers latest s e = ap (λ (b : Bool). if b then latest else get_or layers s empty_layer) (test_is s (length layers) e)

pub layer_there : (layers : List LayerModel) (latest : LayerModel) (s : ℕ) → s ≢ length layers → layer_at layers latest s ≡ get_or layers s empty_layer
layer_there layers latest s n = ap (λ (b : Bool). if b then latest else get_or layers s empty_layer) (test_not s (length layers) (λ e. n (sym e)))

past_end : (layers : List LayerModel) (s : ℕ) → length layers ≤ s → get_or layers s empty_layer ≡ empty_layer
past_end [] s h = refl
past_end (layer ∷ layers) zero h = absurd (omega arith)
past_end (layer ∷ layers) (suc s) h = past_end layers s (omega arith)

read_last : (layers : List LayerModel) (latest : LayerModel) → get_or (layers ++ latest ∷ []) (length layers) empty_layer ≡ latest
read_last [] latest = refl
read_last (layer ∷ layers) latest = read_last layers latest

read_front : (layers : List LayerModel) (latest : LayerModel) (s : ℕ) → s < length layers → get_or (layers ++ latest ∷ []) s empty_layer ≡ get_or layers s empty_layer
read_front [] latest s h = absurd (omega arith)
read_front (layer ∷ layers) latest zero h = refl
read_front (layer ∷ layers) latest (suc s) h = read_front layers latest s (omega arith)

one_longer : (layers : List LayerModel) (latest : LayerModel) → length (layers ++ latest ∷ []) ≡ suc (length layers)
one_longer layers latest = grind (arith, common_steps)

-- ---- a piece put into the latest layer

pub known_in-pushed : (layers : List LayerModel) (latest new : LayerModel) (piece : List ℕ) (at : KeepId) → at.serial ≡ length layers
    → at.block ≡ length latest.ends → AreEnds latest.words latest.ends → new ≡ pushed latest piece → known_in layers new ≡ known_with (known_in layers latest) at piece
known_in-pushed layers latest new piece at serial block are is =
    fun_ext λ (id : KeepId).
    elim (cases_eq id.serial (length layers)) [
      | inl e ↦
          let together : ((at.block == id.block) && (at.serial == id.serial)) ≡ (at.block == id.block) =
          same_block at.block id.block at.serial id.serial (serial ∙ sym e) in
          ap (λ (r : LayerModel). piece_in r id.block) (layer_here layers new id.serial e ∙ is) ∙ piece_in-pushed latest piece id.block are
          ∙ ap (λ (n : ℕ). if n == id.block then Some piece else piece_in latest id.block) (sym block)
          ∙ ap (λ (r : LayerModel). if at.block == id.block then Some piece else piece_in r id.block) (sym (layer_here layers latest id.serial e))
          ∙ ap (λ (b : Bool). if b then Some piece else known_in layers latest id) (sym together)
      | inr n ↦
          let apart : ((at.block == id.block) && (at.serial == id.serial)) ≡ false =
          other_serial at.block id.block at.serial id.serial (λ e. n (e ∙ serial)) in
          ap (λ (r : LayerModel). piece_in r id.block) (layer_there layers new id.serial n ∙ sym (layer_there layers latest id.serial n))
          ∙ ap (λ (b : Bool). if b then Some piece else known_in layers latest id) (sym apart)
    ]

-- its id is new
no_piece : (layer : LayerModel) (block : ℕ) → length layer.ends ≤ block → piece_in layer block ≡ None
no_piece layer block h = grind (arith, found_past)

pub new_id : (layers : List LayerModel) (latest : LayerModel) (at : KeepId) → at.serial ≡ length layers → at.block ≡ length latest.ends → known_in layers latest at ≡ None
new_id layers latest at serial block =
    ap (λ (r : LayerModel). piece_in r at.block) (layer_here layers latest at.serial serial) ∙ no_piece latest at.block (omega (arith, block))

-- ---- the latest layer put to the others

at_end : (layers : List LayerModel) (latest : LayerModel) (s : ℕ) → length layers ≤ s → s ≢ length layers
    → layer_at (layers ++ latest ∷ []) empty_layer s ≡ empty_layer
at_end layers latest s past n =
    let longer : length (layers ++ latest ∷ []) ≡ suc (length layers) = one_longer layers latest in
    elim (cases_eq s (length (layers ++ latest ∷ []))) [
      | inl e ↦ layer_here (layers ++ latest ∷ []) empty_layer s e
      | inr m ↦ layer_there (layers ++ latest ∷ []) empty_layer s m ∙ past_end (layers ++ latest ∷ []) s (omega (arith, longer, past, n))
    ]

same_layer : (layers : List LayerModel) (latest : LayerModel) (s : ℕ) → layer_at (layers ++ latest ∷ []) empty_layer s ≡ layer_at layers latest s
same_layer layers latest s =
    let longer : length (layers ++ latest ∷ []) ≡ suc (length layers) = one_longer layers latest in
    elim (cases_lt s (length layers)) [
      | inl below ↦
          layer_there (layers ++ latest ∷ []) empty_layer s (λ e. omega (arith, e, longer, below)) ∙ read_front layers latest s below
          ∙ sym (layer_there layers latest s (λ e. omega (arith, e, below)))
      | inr past ↦ elim (cases_eq s (length layers)) [
        | inl e ↦
            layer_there (layers ++ latest ∷ []) empty_layer s (λ t. omega (arith, e, longer, t))
            ∙ ap (λ (n : ℕ). get_or (layers ++ latest ∷ []) n empty_layer) e ∙ read_last layers latest ∙ sym (layer_here layers latest s e)
        | inr n ↦ at_end layers latest s past n ∙ sym (layer_there layers latest s n ∙ past_end layers s past)
      ]
    ]

pub known_in-closed : (layers new : List LayerModel) (latest full fresh : LayerModel) → new ≡ layers ++ full ∷ [] → full ≡ latest → fresh ≡ empty_layer
    → known_in new fresh ≡ known_in layers latest
known_in-closed layers new latest full fresh is same none =
    ap (λ (r : LayerModel). known_in new r) none
    ∙ ap (λ (rs : List LayerModel). known_in rs empty_layer) (is ∙ ap (λ (r : LayerModel). layers ++ r ∷ []) same)
    ∙ fun_ext (λ (id : KeepId). ap (λ (r : LayerModel). piece_in r id.block) (same_layer layers latest id.serial))

-- ---- layers behind pointers

pub length-values : {Z : Type 0} (pointers : List (Arc LayerModel Z)) → length pointers ≡ length (values pointers)
length-values [] = refl
length-values (p ∷ pointers) = ap suc (length-values pointers)

-- ---- no piece longer than one keep takes

pub short-none : (known : KeepId → Option (List ℕ)) → known ≡ none_known → AreShort known
short-none known e = subst AreShort (sym e) (record { each = λ id. omega arith })

pub short-more : (old new : KeepId → Option (List ℕ)) (id : KeepId) (words : List ℕ) → new ≡ known_with old id words
    → length words ≤ 64 → AreShort old → AreShort new
short-more old new id words e few h = subst AreShort (sym e) (record { each = λ q. by_test (same_id id q) (old q) (h.each q) })
  where
    by_test : (b : Bool) (was : Option (List ℕ)) → length (unwrap_or was []) ≤ 64 → length (unwrap_or (if b then Some words else was) []) ≤ 64
    by_test false was w = w
    by_test true was w = few
