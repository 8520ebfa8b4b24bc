-- Tests, and what follows from them where the standard library's lemmas on Bool do not say it.
use Rattle.std.proofs.Common.{◌≡◌, Bool, true, false, ◌&&◌, ◌||◌, refl, inl, inr}
use Rattle.std.proofs.lemmas.Bool.{cases_Bool}

-- what holds where a test is true and where it is false holds
pub by_test : {P : Type 0} (b : Bool) → (b ≡ true → P) → (b ≡ false → P) → P
by_test {P} b when unless = elim (cases_Bool b) [ inl e ↦ when e | inr e ↦ unless e ]

-- two tests that hold together are the same
pub same_test : (a b : Bool) → (a ≡ true → b ≡ true) → (b ≡ true → a ≡ true) → a ≡ b
same_test true true to from = refl
same_test true false to from = absurd (let wrong : false ≡ true = to refl in cc)
same_test false true to from = absurd (let wrong : false ≡ true = from refl in cc)
same_test false false to from = refl

-- ---- choices of tests

pub and-none : (b : Bool) → (b && false) ≡ false
and-none true = refl
and-none false = refl

pub or-none : (b : Bool) → (b || false) ≡ b
or-none true = refl
or-none false = refl

pub or-assoc : (a b c : Bool) → ((a || b) || c) ≡ (a || (b || c))
or-assoc true b c = refl
or-assoc false b c = refl

pub or-swap : (a b c : Bool) → (a || (b || c)) ≡ (b || (a || c))
or-swap true true c = refl
or-swap true false c = refl
or-swap false true c = refl
or-swap false false c = refl

pub and-or : (a b c : Bool) → (a && (b || c)) ≡ ((a && b) || (a && c))
and-or true b c = refl
and-or false b c = refl
