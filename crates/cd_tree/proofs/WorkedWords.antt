-- Worked cases of patterns and operations: the words of each region after a list of operations, from initial words.
use Rattle.std.proofs.Common.{◌≡◌, ℕ, List, [], ◌∷◌, refl, map}
use Rattle.cd_base.specs.declared.pattern.Pattern.{Pattern}
use Rattle.cd_base.specs.declared.pattern.Pattern.TheVariants.{Const, Iota, Mix}
use Rattle.cd_base.specs.Words.{Words, pattern_word}
use Rattle.cd_tree.specs.declared.document.Region.{Region}
use Rattle.cd_tree.specs.declared.operation.Op.{Op}
use Rattle.cd_tree.specs.declared.operation.Op.TheVariants.{Fill, Axpy, Scan, Stencil, Sum, Dot, Max, Sub, Spmv}
use Rattle.cd_tree.specs.Operations.{op_meaning}
use Rattle.cd_tree.specs.Domains.{numbers_from}
use Rattle.cd_tree.specs.Meaning.{initial}
use Rattle.cd_tree.proofs.WorkedForms.{part, words_of}

abbrev pattern_words : Pattern → ℕ → List ℕ
pattern_words pattern n = map (pattern_word pattern) (numbers_from 0 n)

const_words : pattern_words (Const 5) 3 ≡ 5 ∷ 5 ∷ 5 ∷ []
const_words = refl

iota_words : pattern_words (Iota 10 3) 4 ≡ 10 ∷ 13 ∷ 16 ∷ 19 ∷ []
iota_words = refl

-- words go round at 2^64
iota_round : pattern_words (Iota 18446744073709551615 1) 3 ≡ 18446744073709551615 ∷ 0 ∷ 1 ∷ []
iota_round = refl

mix_words : pattern_words (Mix 0) 4
    ≡ 1442695040888963407 ∷ 7806831264735756412 ∷ 14170967488582549417 ∷ 2088359638719790806 ∷ []
mix_words = refl

abbrev region : ℕ → Pattern → Region
region length pattern = record { name = []; length = length; pattern = pattern }

abbrev after_all : List Op → Words → Words
after_all [] w = w
after_all (op ∷ ops) w = after_all ops (op_meaning op w)

-- regions x, a, b, c, d
abbrev five : Words
five = initial (region 4 (Iota 1 1) ∷ region 4 (Const 1) ∷ region 4 (Const 0) ∷ region 2 (Const 0) ∷ region 3 (Const 0) ∷ [])

-- axpy a 3 x, scan b x, stencil c 1 2 1 x, sum d[0] x, dot d[1] x x, max d[2] b
abbrev six : Words
six =
    after_all (Axpy (part 1 0 4) 3 (part 0 0 4) ∷ Scan (part 2 0 4) (part 0 0 4) ∷ Stencil (part 3 0 2) 1 2 1 (part 0 0 4)
    ∷ Sum (part 4 0 1) (part 0 0 4) ∷ Dot (part 4 1 2) (part 0 0 4) (part 0 0 4) ∷ Max (part 4 2 3) (part 2 0 4) ∷ []) five

x_stays : words_of six 0 4 ≡ 1 ∷ 2 ∷ 3 ∷ 4 ∷ []
x_stays = refl

axpy_a : words_of six 1 4 ≡ 4 ∷ 7 ∷ 10 ∷ 13 ∷ []
axpy_a = refl

scan_b : words_of six 2 4 ≡ 1 ∷ 3 ∷ 6 ∷ 10 ∷ []
scan_b = refl

stencil_c : words_of six 3 2 ≡ 8 ∷ 12 ∷ []
stencil_c = refl

sum_dot_max_d : words_of six 4 3 ≡ 10 ∷ 30 ∷ 10 ∷ []
sum_dot_max_d = refl

-- regions w, s, starts, cols, vals, x, y
abbrev seven : Words
seven =
    initial (region 2 (Const 18446744073709551615) ∷ region 2 (Const 0) ∷ region 3 (Const 0) ∷ region 3 (Iota 0 2)
    ∷ region 3 (Const 5) ∷ region 3 (Iota 1 1) ∷ region 2 (Const 9) ∷ [])

-- sum s[0] w, sub s[1] x[0] x[1], fill starts[0] 2, fill starts[2] 9, spmv y starts cols vals x
abbrev edges : Words
edges =
    after_all (Sum (part 1 0 1) (part 0 0 2) ∷ Sub (part 1 1 2) (part 5 0 1) (part 5 1 2) ∷ Fill (part 2 0 1) 2
    ∷ Fill (part 2 2 3) 9 ∷ Spmv (part 6 0 2) (part 2 0 3) (part 3 0 3) (part 4 0 3) (part 5 0 3) ∷ []) seven

-- a sum and a difference go round at 2^64
sums_go_round : words_of edges 1 2 ≡ 18446744073709551614 ∷ 18446744073709551615 ∷ []
sums_go_round = refl

starts_words : words_of edges 2 3 ≡ 2 ∷ 0 ∷ 9 ∷ []
starts_words = refl

-- the first row is empty; of the second the positions up to 2 count, and the last column has no word
spmv_y : words_of edges 6 2 ≡ 0 ∷ 20 ∷ []
spmv_y = refl
