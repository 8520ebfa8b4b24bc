-- Tests on single places and ranges, and what they say.
use Rattle.std.proofs.Common.{◌≡◌, ℕ, ◌<◌, ◌≤◌, true, ◌&&◌, nat_lt, nat_le, ◌==◌, ap, ◌∙◌}
use Rattle.std.proofs.lemmas.Bool.{and_parts, and_from, eqb-true, eq-eqb, leb-true, le-leb, ltb-true, lt-ltb}
use Rattle.cd_base.specs.declared.place.Place.{Place}
use Rattle.cd_base.specs.declared.place.Range.{Range}
use Rattle.cd_base.specs.Words.{in_range, same_place}

-- a place lies in a range
pub record Inside (r : Range) (p : Place) : Type 0 where
  pub region : r.region ≡ p.region
  pub low : r.low ≤ p.index
  pub high : p.index < r.high

pub inside_from : (r : Range) (p : Place) → in_range r p ≡ true → Inside r p
inside_from r p is =
    let outer : (r.region == p.region ≡ true) × ((nat_le r.low p.index && nat_lt p.index r.high) ≡ true) =
    and_parts (r.region == p.region) (nat_le r.low p.index && nat_lt p.index r.high) is in
    let inner : (nat_le r.low p.index ≡ true) × (nat_lt p.index r.high ≡ true) =
    and_parts (nat_le r.low p.index) (nat_lt p.index r.high) outer.1 in
    record {
      region = eqb-true r.region p.region outer.0;
      low = leb-true r.low p.index inner.0;
      high = ltb-true p.index r.high inner.1;
    }

pub inside_to : (r : Range) (p : Place) → Inside r p → in_range r p ≡ true
inside_to r p is =
    and_from (r.region == p.region) (nat_le r.low p.index && nat_lt p.index r.high) (eq-eqb r.region p.region is.region)
    (and_from (nat_le r.low p.index) (nat_lt p.index r.high) (le-leb r.low p.index is.low) (lt-ltb p.index r.high is.high))

-- places of one region and one index are one
pub place-same : (p q : Place) → p.region ≡ q.region → p.index ≡ q.index → p ≡ q
place-same p q region index =
    let at_region : ℕ → Place = λ n. record { region = n; index = p.index } in
    let at_index : ℕ → Place = λ n. record { region = q.region; index = n } in
    ap at_region region ∙ ap at_index index

-- so are ranges of one region and the same ends
pub range-same : (r s : Range) → r.region ≡ s.region → r.low ≡ s.low → r.high ≡ s.high → r ≡ s
range-same r s region low high =
    let at_region : ℕ → Range = λ n. record { region = n; low = r.low; high = r.high } in
    let at_low : ℕ → Range = λ n. record { region = s.region; low = n; high = r.high } in
    let at_high : ℕ → Range = λ n. record { region = s.region; low = s.low; high = n } in
    ap at_region region ∙ ap at_low low ∙ ap at_high high

pub same_from : (p q : Place) → same_place p q ≡ true → (p.region ≡ q.region) × (p.index ≡ q.index)
same_from p q is =
    let parts : (p.region == q.region ≡ true) × (p.index == q.index ≡ true) = and_parts (p.region == q.region) (p.index == q.index) is in
    (eqb-true p.region q.region parts.0, eqb-true p.index q.index parts.1)

pub same_to : (p q : Place) → p.region ≡ q.region → p.index ≡ q.index → same_place p q ≡ true
same_to p q region index = and_from (p.region == q.region) (p.index == q.index) (eq-eqb p.region q.region region) (eq-eqb p.index q.index index)
