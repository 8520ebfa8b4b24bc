-- The number of a table among all tables.
use Rattle.std.specs.Prelude.{ℕ, zero, suc, ◌+◌, ◌*◌, List, [], ◌∷◌}
use Rattle.atomic_table.specs.Seated.{TableId}

-- 2 to the a, times n
abbrev pub doubled : ℕ → ℕ → ℕ
doubled zero n = n
doubled (suc a) n = 2 * doubled a n

-- one number for two
abbrev pub pair : ℕ → ℕ → ℕ
pair a b = doubled a (2 * b + 1)

abbrev pub row : List ℕ → ℕ
row [] = 0
row (n ∷ ns) = pair n (row ns)

unfoldable pub number : TableId → ℕ
number t = pair t.words (pair t.slots (pair t.views_name (pair t.atom (pair t.block (pair t.offset (row t.slot_names))))))
