-- Tests that hold.
use Rattle.std.proofs.Common.{◌≡◌, true, List, [], ◌∷◌, Result, Ok, Err, is_ok, refl, ap}
use Rattle.std.specs.List.{list_all}
use Rattle.cd_tokens.specs.declared.wrong.Wrong.{Wrong}
use Rattle.cd_tokens.specs.Wrongs.{all_hold, both, ◌>>=◌}

pub all_held : (tests : List (Result (Unit {0}) Wrong)) → list_all is_ok tests ≡ true → Ok tt ≡ all_hold tests
all_held [] held = refl
all_held (Ok done ∷ tests) held =
    ap (λ (rest : Result (Unit {0}) Wrong). both (Ok done) rest >>= λ p. Ok p.0) (all_held tests held)
all_held (Err wrong ∷ tests) held = absurd (cc)
