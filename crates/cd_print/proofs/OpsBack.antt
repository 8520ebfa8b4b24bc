-- An operation is read as itself, and is the next item of the domain that is open.
use Rattle.std.proofs.Common.{◌≡◌, ℕ, ◌+◌, ◌^◌, ◌<◌, Bool, true, nat_lt, List, [], ◌∷◌, ap, ◌∙◌, arith}
use Rattle.std.specs.Prelude.{Result, Ok, codes}
use Rattle.std.specs.Fmt.{decimal}
use Rattle.std.proofs.lemmas.Bool.Decides.{nat_tests}
use Rattle.cd_base.specs.declared.place.Range.{Range}
use Rattle.cd_tree.specs.declared.document.Region.{Region}
use Rattle.cd_tree.specs.declared.domain.Item.TheVariants.{Run}
use Rattle.cd_tree.specs.declared.operation.Op.{Op}
use Rattle.cd_tree.specs.declared.operation.Op.TheVariants.{Fill, Copy, Add, Sub, Mul, Axpy, Scan, Sum, Dot, Max, Stencil, Spmv}
use Rattle.cd_tree.specs.declared.refusal.Which.{Which}
use Rattle.cd_tree.specs.declared.refusal.Which.TheVariants.{Items}
use Rattle.cd_tokens.specs.declared.wrong.Wrong.{Wrong}
use Rattle.cd_tokens.specs.declared.wrong.Wrong.TheVariants.{Form, Unfit, Limit}
use Rattle.cd_tokens.specs.Wrongs.{both, guard, room, all_hold, ◌>>=◌}
use Rattle.cd_tokens.specs.Sums.{expression}
use Rattle.cd_parse.specs.Draft.{DraftModel, takes_items, add_item, innermost}
use Rattle.cd_parse.specs.Ranges.{range_in}
use Rattle.cd_parse.specs.Operations.{two_ranges, three_ranges, fill_in, axpy_in, weights, stencil_in, spmv_in, short_op, long_op, op_in, fits}
use Rattle.cd_parse.specs.Statements.{with_op, operation_in, statement, statement_in}
use Rattle.cd_print.specs.Canonical.{range_token, op_statement}
use Rattle.cd_parse.specs.WellRead.{IsReadRange, IsReadOp}
use Rattle.cd_print.proofs.NumbersBack.{number_read}
use Rattle.cd_print.proofs.NamesBack.{range_read}

-- two parts that are read
pub both_read : {A B : Type 0} (one : Result A Wrong) (other : Result B Wrong) (a : A) (b : B) → one ≡ Ok a → other ≡ Ok b → both one other ≡ Ok (a, b)
both_read one other a b e f = ap (λ r. both r other) e ∙ ap (λ r. both (Ok a) r) f

pub bound : {A B : Type 0} (step : Result A Wrong) (a : A) (f : A → Result B Wrong) → step ≡ Ok a → (step >>= f) ≡ f a
bound step a f e = ap (λ r. r >>= f) e

pub has_room : (which : Which) (most count : ℕ) → count < most → room which most count ≡ Ok tt
has_room which most count h = ap (λ (t : Bool). guard t (Limit which (most + 1))) (the_test h)
  where
    the_test : count < most → nat_lt count most ≡ true
    the_test h = grind (arith, nat_tests)

pub held : (test : Bool) (wrong : Wrong) → test ≡ true → guard test wrong ≡ Ok tt
held test wrong e = ap (λ (t : Bool). guard t wrong) e

two_read : (regions : List Region) (d x : Range) → IsReadRange regions d → IsReadRange regions x
    → two_ranges [] regions (range_token regions d ∷ range_token regions x ∷ []) ≡ Ok (d, x)
unfolding two_ranges
two_read regions d x p q = both_read (range_in [] regions (range_token regions d)) (range_in [] regions (range_token regions x)) d x (range_read regions d p) (range_read regions x q)

three_read : (regions : List Region) (d x z : Range) → IsReadRange regions d → IsReadRange regions x → IsReadRange regions z
    → three_ranges [] regions (range_token regions d ∷ range_token regions x ∷ range_token regions z ∷ []) ≡ Ok (d, (x, z))
unfolding three_ranges
three_read regions d x z p q r =
    both_read (range_in [] regions (range_token regions d)) (both (range_in [] regions (range_token regions x)) (range_in [] regions (range_token regions z))) d (x, z)
    (range_read regions d p)
    (both_read (range_in [] regions (range_token regions x)) (range_in [] regions (range_token regions z)) x z (range_read regions x q) (range_read regions z r))

-- an operation whose parts are read, where it may stand and where there is room for it
finish : (draft : DraftModel) (parts : Result Op Wrong) (op : Op) → parts ≡ Ok op → takes_items draft.levels ≡ true → fits op ≡ true → draft.items < 16384
    → (both (guard (takes_items draft.levels) Form) parts >>= λ p. with_op draft p.1) ≡ Ok (add_item (innermost draft.levels) (Run op) draft)
unfolding with_op
finish draft parts op e stands shape few =
    bound (both (guard (takes_items draft.levels) Form) parts) (tt, op) (λ p. with_op draft p.1)
    (both_read (guard (takes_items draft.levels) Form) parts tt op (held (takes_items draft.levels) Form stands) e)
    ∙ ap (λ (t : Result (Unit {0}) Wrong). all_hold (t ∷ room Items 16384 draft.items ∷ []) >>= λ _. Ok (add_item (innermost draft.levels) (Run op) draft)) (held (fits op) Unfit shape)
    ∙ ap (λ (t : Result (Unit {0}) Wrong). all_hold (Ok tt ∷ t ∷ []) >>= λ _. Ok (add_item (innermost draft.levels) (Run op) draft)) (has_room Items 16384 draft.items few)

short : (regions : List Region) (keyword : List ℕ) (d x : Range) → IsReadRange regions d → IsReadRange regions x
    → (two_ranges [] regions (range_token regions d ∷ range_token regions x ∷ []) >>= λ p. short_op keyword p.0 p.1) ≡ short_op keyword d x
short regions keyword d x p q =
    bound (two_ranges [] regions (range_token regions d ∷ range_token regions x ∷ [])) (d, x) (λ p. short_op keyword p.0 p.1) (two_read regions d x p q)

long : (regions : List Region) (keyword : List ℕ) (d x z : Range) → IsReadRange regions d → IsReadRange regions x → IsReadRange regions z
    → (three_ranges [] regions (range_token regions d ∷ range_token regions x ∷ range_token regions z ∷ []) >>= λ p. long_op keyword p.0 p.1.0 p.1.1) ≡ long_op keyword d x z
long regions keyword d x z p q r =
    bound (three_ranges [] regions (range_token regions d ∷ range_token regions x ∷ range_token regions z ∷ [])) (d, (x, z)) (λ p. long_op keyword p.0 p.1.0 p.1.1)
    (three_read regions d x z p q r)

fill_read : (regions : List Region) (d : Range) (k : ℕ) → IsReadRange regions d → k < 2 ^ 64
    → fill_in [] regions (range_token regions d ∷ decimal k ∷ []) ≡ Ok (Fill d k)
unfolding fill_in
fill_read regions d k p h =
    bound (both (range_in [] regions (range_token regions d)) (expression [] (decimal k))) (d, k) (λ p. Ok (Fill p.0 p.1))
    (both_read (range_in [] regions (range_token regions d)) (expression [] (decimal k)) d k (range_read regions d p) (number_read k h))

axpy_read : (regions : List Region) (d : Range) (k : ℕ) (x : Range) → IsReadRange regions d → k < 2 ^ 64 → IsReadRange regions x
    → axpy_in [] regions (range_token regions d ∷ decimal k ∷ range_token regions x ∷ []) ≡ Ok (Axpy d k x)
unfolding axpy_in
axpy_read regions d k x p h q =
    bound (both (range_in [] regions (range_token regions d)) (both (expression [] (decimal k)) (range_in [] regions (range_token regions x)))) (d, (k, x)) (λ p. Ok (Axpy p.0 p.1.0 p.1.1))
    (both_read (range_in [] regions (range_token regions d)) (both (expression [] (decimal k)) (range_in [] regions (range_token regions x))) d (k, x) (range_read regions d p)
    (both_read (expression [] (decimal k)) (range_in [] regions (range_token regions x)) k x (number_read k h) (range_read regions x q)))

weights_read : (a b c : ℕ) → a < 2 ^ 64 → b < 2 ^ 64 → c < 2 ^ 64 → weights [] (decimal a) (decimal b) (decimal c) ≡ Ok (a, (b, c))
unfolding weights
weights_read a b c p q r =
    both_read (expression [] (decimal a)) (both (expression [] (decimal b)) (expression [] (decimal c))) a (b, c) (number_read a p)
    (both_read (expression [] (decimal b)) (expression [] (decimal c)) b c (number_read b q) (number_read c r))

stencil_read : (regions : List Region) (d : Range) (a b c : ℕ) (x : Range) → IsReadRange regions d → a < 2 ^ 64 → b < 2 ^ 64 → c < 2 ^ 64 → IsReadRange regions x
    → stencil_in [] regions (range_token regions d ∷ decimal a ∷ decimal b ∷ decimal c ∷ range_token regions x ∷ []) ≡ Ok (Stencil d a b c x)
unfolding stencil_in
stencil_read regions d a b c x p h i j q =
    bound (both (range_in [] regions (range_token regions d)) (both (weights [] (decimal a) (decimal b) (decimal c)) (range_in [] regions (range_token regions x)))) (d, ((a, (b, c)), x))
    (λ p. Ok (Stencil p.0 p.1.0.0 p.1.0.1.0 p.1.0.1.1 p.1.1))
    (both_read (range_in [] regions (range_token regions d)) (both (weights [] (decimal a) (decimal b) (decimal c)) (range_in [] regions (range_token regions x))) d ((a, (b, c)), x)
    (range_read regions d p)
    (both_read (weights [] (decimal a) (decimal b) (decimal c)) (range_in [] regions (range_token regions x)) (a, (b, c)) x (weights_read a b c h i j) (range_read regions x q)))

spmv_read : (regions : List Region) (d s c v x : Range) → IsReadRange regions d → IsReadRange regions s → IsReadRange regions c → IsReadRange regions v → IsReadRange regions x
    → spmv_in [] regions (range_token regions d ∷ range_token regions s ∷ range_token regions c ∷ range_token regions v ∷ range_token regions x ∷ []) ≡ Ok (Spmv d s c v x)
unfolding spmv_in
spmv_read regions d s c v x p q r t u =
    let three : Result (Range × (Range × Range)) Wrong = three_ranges [] regions (range_token regions c ∷ range_token regions v ∷ range_token regions x ∷ []) in
    bound (both (range_in [] regions (range_token regions d)) (both (range_in [] regions (range_token regions s)) three)) (d, (s, (c, (v, x)))) (λ p. Ok (Spmv p.0 p.1.0 p.1.1.0 p.1.1.1.0 p.1.1.1.1))
    (both_read (range_in [] regions (range_token regions d)) (both (range_in [] regions (range_token regions s)) three) d (s, (c, (v, x))) (range_read regions d p)
    (both_read (range_in [] regions (range_token regions s)) three s (c, (v, x)) (range_read regions s q) (three_read regions c v x r t u)))

-- the parts of an operation, as a statement of its tokens gives them
pub op_done : (draft : DraftModel) (op : Op) → IsReadOp draft.regions op → takes_items draft.levels ≡ true → fits op ≡ true → draft.items < 16384
    → statement_in [] (op_statement draft.regions op) draft ≡ Ok (add_item (innermost draft.levels) (Run op) draft)
unfolding statement_in statement operation_in op_in
op_done draft (Fill d k) h stands shape few = finish draft (fill_in [] draft.regions (range_token draft.regions d ∷ decimal k ∷ [])) (Fill d k) (fill_read draft.regions d k h.0 h.1) stands shape few
op_done draft (Copy d x) h stands shape few = finish draft _ (Copy d x) (short draft.regions (codes "copy") d x h.0 h.1) stands shape few
op_done draft (Add d x z) h stands shape few = finish draft _ (Add d x z) (long draft.regions (codes "add") d x z h.0 h.1 h.2) stands shape few
op_done draft (Sub d x z) h stands shape few = finish draft _ (Sub d x z) (long draft.regions (codes "sub") d x z h.0 h.1 h.2) stands shape few
op_done draft (Mul d x z) h stands shape few = finish draft _ (Mul d x z) (long draft.regions (codes "mul") d x z h.0 h.1 h.2) stands shape few
op_done draft (Axpy d k x) h stands shape few = finish draft _ (Axpy d k x) (axpy_read draft.regions d k x h.0 h.1 h.2) stands shape few
op_done draft (Scan d x) h stands shape few = finish draft _ (Scan d x) (short draft.regions (codes "scan") d x h.0 h.1) stands shape few
op_done draft (Sum d x) h stands shape few = finish draft _ (Sum d x) (short draft.regions (codes "sum") d x h.0 h.1) stands shape few
op_done draft (Dot d x z) h stands shape few = finish draft _ (Dot d x z) (long draft.regions (codes "dot") d x z h.0 h.1 h.2) stands shape few
op_done draft (Max d x) h stands shape few = finish draft _ (Max d x) (short draft.regions (codes "max") d x h.0 h.1) stands shape few
op_done draft (Stencil d a b c x) h stands shape few = finish draft _ (Stencil d a b c x) (stencil_read draft.regions d a b c x h.0 h.1 h.2 h.3 h.4) stands shape few
op_done draft (Spmv d s c v x) h stands shape few = finish draft _ (Spmv d s c v x) (spmv_read draft.regions d s c v x h.0 h.1 h.2 h.3 h.4) stands shape few
