-- Choices by tests.
use Rattle.std.proofs.Common.{◌≡◌, Bool, true, false, ◌||◌, cond, refl, inl, inr}
use Rattle.std.proofs.lemmas.Bool.{cases_Bool}

-- what holds where a test is true and where it is false holds
pub by_test : {P : Type 0} (b : Bool) → (b ≡ true → P) → (b ≡ false → P) → P
by_test {P} b when unless = elim (cases_Bool b) [ inl e ↦ when e | inr e ↦ unless e ]

-- where a test is known, the choice is made
pub chosen : {A : Type 0} (b : Bool) (x y : A) → b ≡ true → cond b x y ≡ x
chosen {A} b x y e = rw e refl

pub other : {A : Type 0} (b : Bool) (x y : A) → b ≡ false → cond b x y ≡ y
other {A} b x y e = rw e refl

-- where one of two tests is true, so is either
pub or_right : (a b : Bool) → b ≡ true → (a || b) ≡ true
or_right true b e = refl
or_right false b e = e

pub or_left : (a b : Bool) → a ≡ true → (a || b) ≡ true
or_left true b e = refl
or_left false b e = absurd (cc)
