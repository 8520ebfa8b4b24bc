-- The group that is timed is as the rule of the cells wants it.
use Rattle.std.proofs.Common.{◌≡◌, ℕ, ◌+◌, ◌<◌, ◌==◌, [], ◌∷◌, ◌⊎◌, inl, inr, refl, ap, sym, subst, arith, lit<}
use Rattle.std.proofs.lemmas.Bool.{eqb-true}
use Rattle.cd_base.proofs.BoolLemmas.{by_test}
use Rattle.cd_core.specs.declared.ask.Ask.{Ask}
use Rattle.cd_cells.specs.Kinds.{IsMember, Lawful}
use Rattle.cd_cells.specs.Listing.{often, one_if}
use Rattle.cd_speed.specs.Grouped.{four, grouped}

-- what is counted at the head of a list, or behind it
head_or : (x m n : ℕ) (P : ℕ → Type 0) → P x → (0 < n → P m) → 0 < one_if (x == m) + n → P m
head_or x m n P here behind some =
    by_test (x == m)
    (λ e. subst P (eqb-true x m e) here)
    (λ e. behind (let none : one_if (x == m) ≡ 0 = ap one_if e in omega (arith, some, none)))

-- what holds of the four holds of each member
of_four : (P : ℕ → Type 0) (m : ℕ) → P 1 → P 2 → P 3 → P 4 → 0 < often m four → P m
of_four P m a b c d some =
    head_or 1 m (often m (2 ∷ 3 ∷ 4 ∷ [])) P a
    (head_or 2 m (often m (3 ∷ 4 ∷ [])) P b
    (head_or 3 m (often m (4 ∷ [])) P c
    (head_or 4 m 0 P d (λ never. absurd (omega (arith, never))))))
    some

pub lawful : {T : Type 0} → Lawful (grouped {T = T})
lawful {T} = record {
  some = lit< tt;
  root = refl;
  above = λ m above below. lit< tt;
  length = λ a t waits. lit< tt;
  group = λ a t waits m some. (
      let member : (n : ℕ) → 0 < n → n < 5 → often n four ≡ 1 → IsMember (grouped {T = T}) a.node.0 four n =
      λ n above below once. record { above = above; below = below; parent = sym waits; once = once; same = refl } in
      of_four (λ n. IsMember (grouped {T = T}) a.node.0 four n) m
      (member 1 (lit< tt) (lit< tt) refl) (member 2 (lit< tt) (lit< tt) refl)
      (member 3 (lit< tt) (lit< tt) refl) (member 4 (lit< tt) (lit< tt) refl) some
      );
  asks = λ a t waits m some. refl;
}
