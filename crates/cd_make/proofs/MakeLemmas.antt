-- The text of the document.
use Rattle.std.proofs.Common.{◌<◌, ℕ, length, arith}
use Rattle.cd_make.specs.Making.{make_text}

-- the document has a letter
pub some_text : (n : ℕ) → 0 < length (make_text n)
unfolding make_text
some_text n = omega arith
