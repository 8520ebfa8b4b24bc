-- Worked cases on sets of places.
use Rattle.std.proofs.Common.{◌≡◌, ℕ, true, false, [], ◌∷◌, refl}
use Rattle.cd_base.specs.declared.place.Place.{Place}
use Rattle.cd_base.specs.declared.place.Range.{Range}
use Rattle.cd_base.specs.Places.{by_start, united, stands_before, in_both, in_second_alone}

abbrev at : ℕ → ℕ → Place
at region index = record { region = region; index = index }

abbrev range : ℕ → ℕ → ℕ → Range
range region low high = record { region = region; low = low; high = high }

-- overlapping, touching, nested and apart, over two regions
united-case : united (by_start (range 0 2 4 ∷ range 0 6 7 ∷ range 1 3 9 ∷ []) (range 0 4 5 ∷ range 1 0 4 ∷ range 1 5 6 ∷ [])) ≡ range 0 2 5 ∷ range 0 6 7 ∷ range 1 0 9 ∷ []
united-case = refl

region-first : stands_before (at 0 9) (at 1 0) ≡ true
region-first = refl

index-then : stands_before (at 1 4) (at 1 4) ≡ false
index-then = refl

both-case : in_both (range 0 2 4 ∷ []) (range 0 3 9 ∷ []) (at 0 3) ≡ true
both-case = refl

both-apart : in_both (range 0 2 4 ∷ []) (range 0 3 9 ∷ []) (at 0 4) ≡ false
both-apart = refl

second-alone : in_second_alone (range 0 2 4 ∷ []) (range 0 3 9 ∷ []) (at 0 4) ≡ true
second-alone = refl

second-not_alone : in_second_alone (range 0 2 4 ∷ []) (range 0 3 9 ∷ []) (at 0 3) ≡ false
second-not_alone = refl
