-- Ranges alone, and ranges within one that is present.
use Rattle.std.proofs.Common.{◌≡◌, ◌<◌, ◌≤◌, true, false, ◌||◌, [], ◌∷◌, arith, sym, ◌∙◌}
use Rattle.cd_base.specs.declared.place.Place.{Place}
use Rattle.cd_base.specs.declared.place.Range.{Range}
use Rattle.cd_base.specs.Words.{in_range}
use Rattle.cd_base.proofs.BoolLemmas.{or-none}
use Rattle.cd_base.proofs.PlaceLemmas.{Inside, inside_from, inside_to}
use Rattle.cd_field.specs.FieldModel.{FieldModel, ArePresent}

-- a place of one range alone
pub of_one : (r : Range) (p : Place) → (in_range r p || false) ≡ true → in_range r p ≡ true
of_one r p h = sym (or-none (in_range r p)) ∙ h

-- a range within one that is present is present
pub within_present : (m : FieldModel) (r s : Range) → s.region ≡ r.region → r.low ≤ s.low → s.high ≤ r.high
    → ArePresent m (r ∷ []) → ArePresent m (s ∷ [])
within_present m r s region low high there p h =
    let i : Inside s p = inside_from s p (of_one s p h) in
    let a : s.region ≡ p.region = i.region in
    let b : s.low ≤ p.index = i.low in
    let c : p.index < s.high = i.high in
    there p (or-none (in_range r p) ∙ inside_to r p (record { region = omega arith; low = omega arith; high = omega arith }))
