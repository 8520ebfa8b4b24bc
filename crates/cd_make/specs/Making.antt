-- The document that is generated for a size n: a product of rows in n parts of n blocks each, a stencil in n strips, a sum,
-- and strikes on the first block of each part and on the root. It is a template, in which capital letters stand for numbers.
use Rattle.std.specs.Prelude.{ℕ, ◌+◌, ◌*◌, ◌==◌, List, [], ◌∷◌, ◌++◌, Option, None, Some, if◌then◌else◌, codes, decimal}
use Rattle.std.specs.List.{flat_map}
use Rattle.std.specs.Option.{option_map_or}

-- the document of every size
abbrev pub template : List ℕ
template =
    codes "cd 1\n"
    -- the regions
    ++ codes "region starts S iota 0 2\n"
    ++ codes "region cols C iota 0 1\n"
    ++ codes "region vals C const 3\n"
    ++ codes "region x C iota 1 1\n"
    ++ codes "region y R const 0\n"
    ++ codes "region total 1 const 0\n"
    ++ codes "region u U iota 0 1\n"
    ++ codes "region t T const 0\n"
    -- the root keeps a copy of each region
    ++ codes "domain root retry 3 detects node\n"
    ++ codes "preserve starts copy\n"
    ++ codes "preserve cols copy\n"
    ++ codes "preserve vals copy\n"
    ++ codes "preserve x copy\n"
    ++ codes "preserve y copy\n"
    ++ codes "preserve total copy\n"
    ++ codes "preserve u copy\n"
    ++ codes "preserve t copy\n"
    -- the parts
    ++ codes "group\n"
    ++ codes "for a in 0..N\n"
    ++ codes "domain part:a retry 2 detects lost,link\n"
    ++ codes "preserve starts[P*a..P*a+Q] refer\n"
    ++ codes "preserve cols refer\n"
    ++ codes "preserve vals refer\n"
    ++ codes "preserve x refer\n"
    ++ codes "preserve y[P*a..P*a+P] copy\n"
    -- their blocks of sixteen rows
    ++ codes "group\n"
    ++ codes "for b in 0..N\n"
    ++ codes "domain rows:b retry 3 detects flip\n"
    ++ codes "preserve starts[P*a+16*b..P*a+16*b+17] refer\n"
    ++ codes "preserve cols refer\n"
    ++ codes "preserve vals refer\n"
    ++ codes "preserve x refer\n"
    ++ codes "preserve y[P*a+16*b..P*a+16*b+16] refer\n"
    ++ codes "spmv y[P*a+16*b..P*a+16*b+16] starts[P*a+16*b..P*a+16*b+17] cols vals x\n"
    -- a block ends, and the loop and the group of the blocks; a part ends, and the loop and the group of the parts
    ++ codes "end\nend\nend\n"
    ++ codes "end\nend\nend\n"
    -- the strips
    ++ codes "group\n"
    ++ codes "for a in 0..N\n"
    ++ codes "domain strip:a retry 2 detects flip\n"
    ++ codes "preserve u[64*a..64*a+66] refer\n"
    ++ codes "preserve t[64*a..64*a+64] copy\n"
    ++ codes "stencil t[64*a..64*a+64] 1 2 1 u[64*a..64*a+66]\n"
    ++ codes "end\nend\nend\n"
    -- the root's last operation, and its end
    ++ codes "sum total y\n"
    ++ codes "end\n"
    -- the strikes
    ++ codes "faults\n"
    ++ codes "for a in 0..N\n"
    ++ codes "strike root/part:a/rows:0 1 1 flip y[P*a] 1\n"
    ++ codes "end\n"
    ++ codes "strike root 1 3 node total[0] 7\n"

-- the number of rows: sixteen for each block of each part
abbrev pub rows : ℕ → ℕ
rows n = 16 * n * n

-- the number for which a capital letter stands
abbrev pub number_for : ℕ → ℕ → Option ℕ
number_for n letter =
    -- N: the size; R: the rows, C: two columns for each, S: where rows start, and where the last ends
    if letter == 78 then Some n
    else if letter == 82 then Some (rows n)
    else if letter == 67 then Some (2 * rows n)
    else if letter == 83 then Some (rows n + 1)
    -- P: the rows of a part, Q: where they start, and where the last ends
    else if letter == 80 then Some (16 * n)
    else if letter == 81 then Some (16 * n + 1)
    -- T: the words of all strips, U: those that their stencils read
    else if letter == 84 then Some (64 * n)
    else if letter == 85 then Some (64 * n + 2)
    else None

-- the text that stands in a document for a letter of the template
abbrev pub filled : ℕ → ℕ → List ℕ
filled n letter = option_map_or decimal (number_for n letter) (letter ∷ [])

-- the text of the document
unfoldable pub make_text : ℕ → List ℕ
make_text n = flat_map (filled n) template
