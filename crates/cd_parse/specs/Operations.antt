-- Operations: their parts by the tokens after their names, and which lengths and ranges fit.
use Rattle.std.specs.Prelude.{ℕ, Bool, ◌||◌, List, [], ◌∷◌, Result, Ok, Err, if◌then◌else◌}
use Rattle.std.specs.Str.{bytes_eq}
use Rattle.cd_base.specs.declared.place.Range.{Range}
use Rattle.cd_tree.specs.declared.document.Region.{Region}
use Rattle.cd_tree.specs.declared.operation.Op.{Op}
use Rattle.cd_tree.specs.declared.operation.Op.TheVariants.{Fill, Copy, Add, Sub, Mul, Axpy, Scan, Sum, Dot, Max, Stencil, Spmv}
use Rattle.cd_tree.specs.Operations.{fits_shape}
use Rattle.cd_tokens.specs.declared.wrong.Wrong.{Wrong}
use Rattle.cd_tokens.specs.declared.wrong.Wrong.TheVariants.{Form}
use Rattle.cd_tokens.specs.declared.sums.Variable.{Variable}
use Rattle.cd_tokens.specs.Wrongs.{both, ◌>>=◌}
use Rattle.cd_tokens.specs.Sums.{expression}
use Rattle.cd_parse.specs.Ranges.{range_in}
use Rattle.cd_parse.specs.declared.signature.OpName.TheVariants as name
use Rattle.cd_parse.specs.Signatures.{op_text}

-- ---- what stands after an operation's name

-- two ranges
unfoldable pub two_ranges : List Variable → List Region → List (List ℕ) → Result (Range × Range) Wrong
two_ranges variables regions (d ∷ x ∷ []) = both (range_in variables regions d) (range_in variables regions x)
two_ranges variables regions _ = Err Form

-- three ranges
unfoldable pub three_ranges : List Variable → List Region → List (List ℕ) → Result (Range × (Range × Range)) Wrong
three_ranges variables regions (d ∷ x ∷ z ∷ []) =
    both (range_in variables regions d) (both (range_in variables regions x) (range_in variables regions z))
three_ranges variables regions _ = Err Form

unfoldable pub fill_in : List Variable → List Region → List (List ℕ) → Result Op Wrong
fill_in variables regions (d ∷ k ∷ []) =
    both (range_in variables regions d) (expression variables k) >>= λ p. Ok (Fill p.0 p.1)
fill_in variables regions _ = Err Form

unfoldable pub axpy_in : List Variable → List Region → List (List ℕ) → Result Op Wrong
axpy_in variables regions (d ∷ k ∷ x ∷ []) =
    both (range_in variables regions d) (both (expression variables k) (range_in variables regions x))
    >>= λ p. Ok (Axpy p.0 p.1.0 p.1.1)
axpy_in variables regions _ = Err Form

-- three numbers
unfoldable pub weights : List Variable → List ℕ → List ℕ → List ℕ → Result (ℕ × (ℕ × ℕ)) Wrong
weights variables a b c = both (expression variables a) (both (expression variables b) (expression variables c))

abbrev pub stencil_of : Result Range Wrong → Result (ℕ × (ℕ × ℕ)) Wrong → Result Range Wrong → Result Op Wrong
stencil_of d numbers x = both d (both numbers x) >>= λ p. Ok (Stencil p.0 p.1.0.0 p.1.0.1.0 p.1.0.1.1 p.1.1)

unfoldable pub stencil_in : List Variable → List Region → List (List ℕ) → Result Op Wrong
stencil_in variables regions (d ∷ a ∷ b ∷ c ∷ x ∷ []) =
    stencil_of (range_in variables regions d) (weights variables a b c) (range_in variables regions x)
stencil_in variables regions _ = Err Form

abbrev pub spmv_of : Result Range Wrong → Result Range Wrong → Result (Range × (Range × Range)) Wrong → Result Op Wrong
spmv_of d s more = both d (both s more) >>= λ p. Ok (Spmv p.0 p.1.0 p.1.1.0 p.1.1.1.0 p.1.1.1.1)

unfoldable pub spmv_in : List Variable → List Region → List (List ℕ) → Result Op Wrong
spmv_in variables regions (d ∷ s ∷ more) =
    spmv_of (range_in variables regions d) (range_in variables regions s) (three_ranges variables regions more)
spmv_in variables regions _ = Err Form

-- an operation with two ranges, by its name
abbrev pub short_op : List ℕ → Range → Range → Result Op Wrong
short_op keyword d x =
    if bytes_eq keyword (op_text name.Copy) then Ok (Copy d x)
    else (if bytes_eq keyword (op_text name.Scan) then Ok (Scan d x)
    else (if bytes_eq keyword (op_text name.Sum) then Ok (Sum d x)
    else (if bytes_eq keyword (op_text name.Max) then Ok (Max d x)
    else Err Form)))

-- an operation with three ranges, by its name
abbrev pub long_op : List ℕ → Range → Range → Range → Result Op Wrong
long_op keyword d x z =
    if bytes_eq keyword (op_text name.Add) then Ok (Add d x z)
    else (if bytes_eq keyword (op_text name.Sub) then Ok (Sub d x z)
    else (if bytes_eq keyword (op_text name.Mul) then Ok (Mul d x z)
    else (if bytes_eq keyword (op_text name.Dot) then Ok (Dot d x z)
    else Err Form)))

abbrev pub is_short : List ℕ → Bool
is_short keyword =
    bytes_eq keyword (op_text name.Copy) || (bytes_eq keyword (op_text name.Scan) || (bytes_eq keyword (op_text name.Sum) || bytes_eq keyword (op_text name.Max)))

abbrev pub is_long : List ℕ → Bool
is_long keyword =
    bytes_eq keyword (op_text name.Add) || (bytes_eq keyword (op_text name.Sub) || (bytes_eq keyword (op_text name.Mul) || bytes_eq keyword (op_text name.Dot)))

-- the operation of this name and these tokens
unfoldable pub op_in : List Variable → List Region → List ℕ → List (List ℕ) → Result Op Wrong
op_in variables regions keyword tokens =
    if is_short keyword then (two_ranges variables regions tokens >>= λ p. short_op keyword p.0 p.1)
    else (if is_long keyword then (three_ranges variables regions tokens >>= λ p. long_op keyword p.0 p.1.0 p.1.1)
    else (if bytes_eq keyword (op_text name.Fill) then fill_in variables regions tokens
    else (if bytes_eq keyword (op_text name.Axpy) then axpy_in variables regions tokens
    else (if bytes_eq keyword (op_text name.Stencil) then stencil_in variables regions tokens
    else (if bytes_eq keyword (op_text name.Spmv) then spmv_in variables regions tokens
    else Err Form)))))

-- ---- lengths and ranges

-- the lengths and ranges are those that an operation must have, as the rule of the tree says
abbrev pub fits : Op → Bool
fits op = fits_shape op
