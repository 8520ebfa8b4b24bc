-- The signature of each operation, which reader and printer follow: its name, and its operands in order.
use Rattle.std.specs.Prelude.{ℕ, List, [], ◌∷◌, codes}
use Rattle.cd_tree.specs.declared.operation.Op.{Op}
use Rattle.cd_tree.specs.declared.operation.Op.TheVariants.{Fill, Copy, Add, Sub, Mul, Axpy, Scan, Sum, Dot, Max, Stencil, Spmv}
use Rattle.cd_parse.specs.declared.signature.OpName.{OpName}
use Rattle.cd_parse.specs.declared.signature.OpName.TheVariants as name
use Rattle.cd_parse.specs.declared.signature.Operand.{Operand}
use Rattle.cd_parse.specs.declared.signature.Operand.TheVariants.{Range, Number}

-- the names as a text has them
abbrev pub op_text : OpName → List ℕ
op_text name.Fill = codes "fill"
op_text name.Copy = codes "copy"
op_text name.Add = codes "add"
op_text name.Sub = codes "sub"
op_text name.Mul = codes "mul"
op_text name.Axpy = codes "axpy"
op_text name.Scan = codes "scan"
op_text name.Sum = codes "sum"
op_text name.Dot = codes "dot"
op_text name.Max = codes "max"
op_text name.Stencil = codes "stencil"
op_text name.Spmv = codes "spmv"

abbrev pub name_of : Op → OpName
name_of (Fill d k) = name.Fill
name_of (Copy d x) = name.Copy
name_of (Add d x z) = name.Add
name_of (Sub d x z) = name.Sub
name_of (Mul d x z) = name.Mul
name_of (Axpy d k x) = name.Axpy
name_of (Scan d x) = name.Scan
name_of (Sum d x) = name.Sum
name_of (Dot d x z) = name.Dot
name_of (Max d x) = name.Max
name_of (Stencil d a b c x) = name.Stencil
name_of (Spmv d s c v x) = name.Spmv

-- the operands, the destination first
abbrev pub operands : Op → List Operand
operands (Fill d k) = Range d ∷ Number k ∷ []
operands (Copy d x) = Range d ∷ Range x ∷ []
operands (Add d x z) = Range d ∷ Range x ∷ Range z ∷ []
operands (Sub d x z) = Range d ∷ Range x ∷ Range z ∷ []
operands (Mul d x z) = Range d ∷ Range x ∷ Range z ∷ []
operands (Axpy d k x) = Range d ∷ Number k ∷ Range x ∷ []
operands (Scan d x) = Range d ∷ Range x ∷ []
operands (Sum d x) = Range d ∷ Range x ∷ []
operands (Dot d x z) = Range d ∷ Range x ∷ Range z ∷ []
operands (Max d x) = Range d ∷ Range x ∷ []
operands (Stencil d a b c x) = Range d ∷ Number a ∷ Number b ∷ Number c ∷ Range x ∷ []
operands (Spmv d s c v x) = Range d ∷ Range s ∷ Range c ∷ Range v ∷ Range x ∷ []
