-- Two ranges have no common place where, in one region, the lesser end is not above the greater beginning.
use Rattle.std.proofs.Common.{◌≡◌, ◌↔◌, ◌<◌, ◌≤◌, min, max, true, not, ◌==◌, nat_le, refl, arith, inl, inr, sym, ◌∙◌}
use Rattle.std.proofs.lemmas.Bool.{leb-true, le-leb, eq-eqb, ne_eqb, or_cases, or_left, or_right, not-true, not_from_false, cases_lt, cases_eq, cases_Bool, both_ways}
use Rattle.cd_base.specs.declared.place.Place.{Place}
use Rattle.cd_base.specs.declared.place.Range.{Range}
use Rattle.cd_base.specs.Words.{in_range}
use Rattle.cd_base.proofs.PlaceLemmas.{Inside, inside_from, inside_to}
use Rattle.cd_tree.specs.Operations.{AreApart, is_apart}

apart_where_none : (r s : Range) → ((p : Place) → Inside r p → Inside s p → ⊥) → AreApart r s
apart_where_none r s none p one =
    elim (cases_Bool (in_range s p)) [
      | inl other ↦ absurd (none p (inside_from r p one) (inside_from s p other))
      | inr not ↦ not
    ]

apart_by_ends : (r s : Range) → min r.high s.high ≤ max r.low s.low → AreApart r s
apart_by_ends r s ends =
    apart_where_none r s (λ p one other.
    let a : r.low ≤ p.index = one.low in
    let b : p.index < r.high = one.high in
    let c : s.low ≤ p.index = other.low in
    let d : p.index < s.high = other.high in
    absurd (omega arith))

ends_of_apart : (r s : Range) → r.region ≡ s.region → AreApart r s → min r.high s.high ≤ max r.low s.low
ends_of_apart r s region apart =
    elim (cases_lt (max r.low s.low) (min r.high s.high)) [
      | inr ends ↦ ends
      | inl common ↦
          let p : Place = record { region = r.region; index = max r.low s.low } in
          absurd (both_ways (in_range s p)
          (apart p (inside_to r p (record { region = refl; low = omega arith; high = omega arith })))
          (inside_to s p (record { region = sym region; low = omega arith; high = omega arith })))
    ]

-- what the test says
pub apart_says : (r s : Range) → is_apart r s ≡ true ↔ AreApart r s
apart_says r s = (
  λ test. elim (or_cases (not (r.region == s.region)) (nat_le (min r.high s.high) (max r.low s.low)) test) [
    | inl elsewhere ↦ apart_where_none r s (λ p one other.
        let region : r.region ≡ s.region = one.region ∙ sym other.region in
        both_ways (r.region == s.region) (not-true (r.region == s.region) elsewhere) (eq-eqb r.region s.region region))
    | inr ends ↦ apart_by_ends r s (leb-true (min r.high s.high) (max r.low s.low) ends)
  ],
  λ apart. elim (cases_eq r.region s.region) [
    | inl same ↦
        or_right (not (r.region == s.region)) (nat_le (min r.high s.high) (max r.low s.low))
        (le-leb (min r.high s.high) (max r.low s.low) (ends_of_apart r s same apart))
    | inr other ↦
        or_left (not (r.region == s.region)) (nat_le (min r.high s.high) (max r.low s.low))
        (not_from_false (r.region == s.region) (ne_eqb r.region s.region other))
  ],
)
