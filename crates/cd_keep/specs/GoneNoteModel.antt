-- What a gone answer tells.
use Rattle.std.specs.Prelude.{ℕ}

-- the serial seen and the serial found
pub record GoneNoteModel : Type 0 where
  pub seen : ℕ
  pub found : ℕ
