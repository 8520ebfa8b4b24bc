-- What holds of each range that a token names holds of the ranges of an operation: they have places.
use Rattle.std.proofs.Common.{◌≡◌, ◌<◌, ◌^◌, ℕ, List, [], ◌∷◌, Result, Ok, codes, subst, All, inl, inr, bytes_eq}
use Rattle.std.proofs.lemmas.List.Elements.{All-cons, All-nil}
use Rattle.cd_base.specs.declared.place.Range.{Range}
use Rattle.cd_tree.specs.declared.document.Region.{Region}
use Rattle.cd_tree.specs.declared.operation.Op.{Op}
use Rattle.cd_tree.specs.declared.operation.Op.TheVariants.{Fill, Copy, Add, Sub, Mul, Axpy, Scan, Sum, Dot, Max, Stencil, Spmv}
use Rattle.cd_tree.specs.Operations.{op_reads, op_writes, IsFull}
use Rattle.cd_tokens.specs.declared.wrong.Wrong.{Wrong}
use Rattle.cd_tokens.specs.declared.wrong.Wrong.TheVariants.{Form}
use Rattle.cd_tokens.specs.declared.sums.Variable.{Variable}
use Rattle.cd_tokens.specs.Wrongs.{both, ◌>>=◌}
use Rattle.cd_tokens.specs.Sums.{expression}
use Rattle.cd_parse.specs.Ranges.{range_in}
use Rattle.cd_parse.specs.Operations.{two_ranges, three_ranges, fill_in, axpy_in, weights, stencil_in, spmv_in, short_op, long_op, is_short, is_long, op_in}
use Rattle.cd_parse.proofs.SoundGuards.{Bound, bound, both_ok, from_both, from_three, same_ok, if_ok, if_else_err}
use Rattle.cd_parse.proofs.SoundNumbers.{expression_small}
use Rattle.cd_parse.proofs.SoundPlaces.{HavePlaces, range_full}

-- ---- what holds of each range

-- a property of all ranges of an operation
abbrev pub OfRanges : (Range → Type 0) → Op → Type 0
OfRanges P op = All P (op_writes op ∷ op_reads op)

-- each range that a token names has a property
abbrev Gives : (Range → Type 0) → List Variable → List Region → Type 0
Gives P variables regions = (token : List ℕ) (r : Range) → range_in variables regions token ≡ Ok r → P r

of_one : (P : Range → Type 0) (d : Range) → P d → All P (d ∷ [])
of_one P d full = All-cons P d [] full (All-nil P)

of_two : (P : Range → Type 0) (d x : Range) → P d → P x → All P (d ∷ x ∷ [])
of_two P d x has_d has_x = All-cons P d (x ∷ []) has_d (of_one P x has_x)

of_three : (P : Range → Type 0) (d x z : Range) → P d → P x → P z → All P (d ∷ x ∷ z ∷ [])
of_three P d x z has_d has_x has_z = All-cons P d (x ∷ z ∷ []) has_d (of_two P x z has_x has_z)

-- what holds of each operation whose ranges have a property and whose numbers have 64 bits
pub record Makes (P : Range → Type 0) (Q : Op → Type 0) : Type 0 where
  pub fill : (d : Range) (k : ℕ) → P d → k < 2 ^ 64 → Q (Fill d k)
  pub copy : (d x : Range) → P d → P x → Q (Copy d x)
  pub add : (d x z : Range) → P d → P x → P z → Q (Add d x z)
  pub sub : (d x z : Range) → P d → P x → P z → Q (Sub d x z)
  pub mul : (d x z : Range) → P d → P x → P z → Q (Mul d x z)
  pub axpy : (d : Range) (k : ℕ) (x : Range) → P d → k < 2 ^ 64 → P x → Q (Axpy d k x)
  pub scan : (d x : Range) → P d → P x → Q (Scan d x)
  pub sum : (d x : Range) → P d → P x → Q (Sum d x)
  pub dot : (d x z : Range) → P d → P x → P z → Q (Dot d x z)
  pub greatest : (d x : Range) → P d → P x → Q (Max d x)
  pub stencil : (d : Range) (a b c : ℕ) (x : Range) → P d → a < 2 ^ 64 → b < 2 ^ 64 → c < 2 ^ 64 → P x → Q (Stencil d a b c x)
  pub spmv : (d s c v x : Range) → P d → P s → P c → P v → P x → Q (Spmv d s c v x)

of_same : (Q : Op → Type 0) (one op : Op) → Q one → ◌≡◌ {A = Result Op Wrong} (Ok one) (Ok op) → Q op
of_same Q one op holds is = subst Q (same_ok Op Wrong one op is) holds

two_all : (P : Range → Type 0) (variables : List Variable) (regions : List Region) (tokens : List (List ℕ)) (p : Range × Range) → Gives P variables regions
    → two_ranges variables regions tokens ≡ Ok p → P p.0 × P p.1
unfolding two_ranges
two_all P variables regions [] p some is = absurd (cc)
two_all P variables regions (d ∷ []) p some is = absurd (cc)
two_all P variables regions (d ∷ x ∷ []) p some is =
    let parts = both_ok Range Range (range_in variables regions d) (range_in variables regions x) p is in
    (some d p.0 parts.0, some x p.1 parts.1)
two_all P variables regions (d ∷ x ∷ y ∷ more) p some is = absurd (cc)

three_all : (P : Range → Type 0) (variables : List Variable) (regions : List Region) (tokens : List (List ℕ)) (p : Range × (Range × Range)) → Gives P variables regions
    → three_ranges variables regions tokens ≡ Ok p → P p.0 × (P p.1.0 × P p.1.1)
unfolding three_ranges
three_all P variables regions [] p some is = absurd (cc)
three_all P variables regions (d ∷ []) p some is = absurd (cc)
three_all P variables regions (d ∷ x ∷ []) p some is = absurd (cc)
three_all P variables regions (d ∷ x ∷ z ∷ []) p some is =
    let one = both_ok Range (Range × Range) (range_in variables regions d) (both (range_in variables regions x) (range_in variables regions z)) p is in
    let two = both_ok Range Range (range_in variables regions x) (range_in variables regions z) p.1 one.1 in
    (some d p.0 one.0, (some x p.1.0 two.0, some z p.1.1 two.1))
three_all P variables regions (d ∷ x ∷ z ∷ y ∷ more) p some is = absurd (cc)

short_all : (P : Range → Type 0) (Q : Op → Type 0) (makes : Makes P Q) (keyword : List ℕ) (d x : Range) (op : Op) → P d → P x → short_op keyword d x ≡ Ok op → Q op
short_all P Q makes keyword d x op has_d has_x is =
    elim (if_ok Op Wrong (bytes_eq keyword (codes "copy")) (Ok (Copy d x)) _ op is) [
      | inl copy ↦ of_same Q (Copy d x) op (makes.copy d x has_d has_x) copy.1
      | inr other ↦ elim (if_ok Op Wrong (bytes_eq keyword (codes "scan")) (Ok (Scan d x)) _ op other.1) [
        | inl scan ↦ of_same Q (Scan d x) op (makes.scan d x has_d has_x) scan.1
        | inr next ↦ elim (if_ok Op Wrong (bytes_eq keyword (codes "sum")) (Ok (Sum d x)) _ op next.1) [
          | inl sum ↦ of_same Q (Sum d x) op (makes.sum d x has_d has_x) sum.1
          | inr last ↦
              let greatest = if_else_err Op Wrong (bytes_eq keyword (codes "max")) (Ok (Max d x)) Form op last.1 in
              of_same Q (Max d x) op (makes.greatest d x has_d has_x) greatest.1
        ]
      ]
    ]

long_all : (P : Range → Type 0) (Q : Op → Type 0) (makes : Makes P Q) (keyword : List ℕ) (d x z : Range) (op : Op) → P d → P x → P z → long_op keyword d x z ≡ Ok op → Q op
long_all P Q makes keyword d x z op has_d has_x has_z is =
    elim (if_ok Op Wrong (bytes_eq keyword (codes "add")) (Ok (Add d x z)) _ op is) [
      | inl add ↦ of_same Q (Add d x z) op (makes.add d x z has_d has_x has_z) add.1
      | inr other ↦ elim (if_ok Op Wrong (bytes_eq keyword (codes "sub")) (Ok (Sub d x z)) _ op other.1) [
        | inl sub ↦ of_same Q (Sub d x z) op (makes.sub d x z has_d has_x has_z) sub.1
        | inr next ↦ elim (if_ok Op Wrong (bytes_eq keyword (codes "mul")) (Ok (Mul d x z)) _ op next.1) [
          | inl mul ↦ of_same Q (Mul d x z) op (makes.mul d x z has_d has_x has_z) mul.1
          | inr last ↦
              let dot = if_else_err Op Wrong (bytes_eq keyword (codes "dot")) (Ok (Dot d x z)) Form op last.1 in
              of_same Q (Dot d x z) op (makes.dot d x z has_d has_x has_z) dot.1
        ]
      ]
    ]

fill_all : (P : Range → Type 0) (Q : Op → Type 0) (makes : Makes P Q) (variables : List Variable) (regions : List Region) (tokens : List (List ℕ)) (op : Op) → Gives P variables regions
    → fill_in variables regions tokens ≡ Ok op → Q op
unfolding fill_in
fill_all P Q makes variables regions [] op some is = absurd (cc)
fill_all P Q makes variables regions (d ∷ []) op some is = absurd (cc)
fill_all P Q makes variables regions (d ∷ k ∷ []) op some is =
    from_both Range ℕ Op (Q op) (range_in variables regions d) (expression variables k) (λ p. Ok (Fill p.0 p.1)) op
    (λ r n named counted. of_same Q (Fill r n) op (makes.fill r n (some d r named) (expression_small variables k n counted))) is
fill_all P Q makes variables regions (d ∷ k ∷ y ∷ more) op some is = absurd (cc)

axpy_all : (P : Range → Type 0) (Q : Op → Type 0) (makes : Makes P Q) (variables : List Variable) (regions : List Region) (tokens : List (List ℕ)) (op : Op) → Gives P variables regions
    → axpy_in variables regions tokens ≡ Ok op → Q op
unfolding axpy_in
axpy_all P Q makes variables regions [] op some is = absurd (cc)
axpy_all P Q makes variables regions (d ∷ []) op some is = absurd (cc)
axpy_all P Q makes variables regions (d ∷ k ∷ []) op some is = absurd (cc)
axpy_all P Q makes variables regions (d ∷ k ∷ x ∷ []) op some is =
    from_three Range ℕ Range Op (Q op) (range_in variables regions d) (expression variables k) (range_in variables regions x)
    (λ p. Ok (Axpy p.0 p.1.0 p.1.1)) op
    (λ r n s named counted source.
    of_same Q (Axpy r n s) op (makes.axpy r n s (some d r named) (expression_small variables k n counted) (some x s source))) is
axpy_all P Q makes variables regions (d ∷ k ∷ x ∷ y ∷ more) op some is = absurd (cc)

weights_small : (variables : List Variable) (a b c : List ℕ) (p : ℕ × (ℕ × ℕ)) → weights variables a b c ≡ Ok p
    → (p.0 < 2 ^ 64) × ((p.1.0 < 2 ^ 64) × (p.1.1 < 2 ^ 64))
unfolding weights
weights_small variables a b c p is =
    let one = both_ok ℕ (ℕ × ℕ) (expression variables a) (both (expression variables b) (expression variables c)) p is in
    let two = both_ok ℕ ℕ (expression variables b) (expression variables c) p.1 one.1 in
    (expression_small variables a p.0 one.0, (expression_small variables b p.1.0 two.0, expression_small variables c p.1.1 two.1))

stencil_all : (P : Range → Type 0) (Q : Op → Type 0) (makes : Makes P Q) (variables : List Variable) (regions : List Region) (tokens : List (List ℕ)) (op : Op) → Gives P variables regions
    → stencil_in variables regions tokens ≡ Ok op → Q op
unfolding stencil_in
stencil_all P Q makes variables regions [] op some is = absurd (cc)
stencil_all P Q makes variables regions (d ∷ []) op some is = absurd (cc)
stencil_all P Q makes variables regions (d ∷ a ∷ []) op some is = absurd (cc)
stencil_all P Q makes variables regions (d ∷ a ∷ b ∷ []) op some is = absurd (cc)
stencil_all P Q makes variables regions (d ∷ a ∷ b ∷ c ∷ []) op some is = absurd (cc)
stencil_all P Q makes variables regions (d ∷ a ∷ b ∷ c ∷ x ∷ []) op some is =
    from_three Range (ℕ × (ℕ × ℕ)) Range Op (Q op) (range_in variables regions d) (weights variables a b c) (range_in variables regions x)
    (λ p. Ok (Stencil p.0 p.1.0.0 p.1.0.1.0 p.1.0.1.1 p.1.1)) op
    (λ r w s named counted source.
    let small = weights_small variables a b c w counted in
    of_same Q (Stencil r w.0 w.1.0 w.1.1 s) op
    (makes.stencil r w.0 w.1.0 w.1.1 s (some d r named) small.0 small.1.0 small.1.1 (some x s source))) is
stencil_all P Q makes variables regions (d ∷ a ∷ b ∷ c ∷ x ∷ y ∷ more) op some is = absurd (cc)

spmv_all : (P : Range → Type 0) (Q : Op → Type 0) (makes : Makes P Q) (variables : List Variable) (regions : List Region) (tokens : List (List ℕ)) (op : Op) → Gives P variables regions
    → spmv_in variables regions tokens ≡ Ok op → Q op
unfolding spmv_in
spmv_all P Q makes variables regions [] op some is = absurd (cc)
spmv_all P Q makes variables regions (d ∷ []) op some is = absurd (cc)
spmv_all P Q makes variables regions (d ∷ s ∷ more) op some is =
    from_three Range Range (Range × (Range × Range)) Op (Q op) (range_in variables regions d) (range_in variables regions s)
    (three_ranges variables regions more) (λ p. Ok (Spmv p.0 p.1.0 p.1.1.0 p.1.1.1.0 p.1.1.1.1)) op
    (λ r starts t named first rest.
    let all = three_all P variables regions more t some rest in
    of_same Q (Spmv r starts t.0 t.1.0 t.1.1) op
    (makes.spmv r starts t.0 t.1.0 t.1.1 (some d r named) (some s starts first) all.0 all.1.0 all.1.1)) is

short_tokens : (P : Range → Type 0) (Q : Op → Type 0) (makes : Makes P Q) (variables : List Variable) (regions : List Region) (keyword : List ℕ) (tokens : List (List ℕ)) (op : Op) → Gives P variables regions
    → (two_ranges variables regions tokens >>= λ p. short_op keyword p.0 p.1) ≡ Ok op → Q op
short_tokens P Q makes variables regions keyword tokens op some is =
    let parts : Bound (Range × Range) Op Wrong (two_ranges variables regions tokens) (λ p. short_op keyword p.0 p.1) op =
    bound (Range × Range) Op Wrong (two_ranges variables regions tokens) (λ p. short_op keyword p.0 p.1) op is in
    let full = two_all P variables regions tokens parts.value some parts.is in
    short_all P Q makes keyword parts.value.0 parts.value.1 op full.0 full.1 parts.next

long_tokens : (P : Range → Type 0) (Q : Op → Type 0) (makes : Makes P Q) (variables : List Variable) (regions : List Region) (keyword : List ℕ) (tokens : List (List ℕ)) (op : Op) → Gives P variables regions
    → (three_ranges variables regions tokens >>= λ p. long_op keyword p.0 p.1.0 p.1.1) ≡ Ok op → Q op
long_tokens P Q makes variables regions keyword tokens op some is =
    let parts : Bound (Range × (Range × Range)) Op Wrong (three_ranges variables regions tokens) (λ p. long_op keyword p.0 p.1.0 p.1.1) op =
    bound (Range × (Range × Range)) Op Wrong (three_ranges variables regions tokens) (λ p. long_op keyword p.0 p.1.0 p.1.1) op is in
    let full = three_all P variables regions tokens parts.value some parts.is in
    long_all P Q makes keyword parts.value.0 parts.value.1.0 parts.value.1.1 op full.0 full.1.0 full.1.1 parts.next

-- what holds of operations of such ranges and numbers holds of each operation of a document
pub op_made : (P : Range → Type 0) (Q : Op → Type 0) (makes : Makes P Q) (variables : List Variable) (regions : List Region) (keyword : List ℕ) (tokens : List (List ℕ)) (op : Op) → Gives P variables regions
    → op_in variables regions keyword tokens ≡ Ok op → Q op
unfolding op_in
op_made P Q makes variables regions keyword tokens op some is =
    elim (if_ok Op Wrong (is_short keyword) (two_ranges variables regions tokens >>= λ p. short_op keyword p.0 p.1) _ op is) [
      | inl short ↦ short_tokens P Q makes variables regions keyword tokens op some short.1
      | inr other ↦ elim (if_ok Op Wrong (is_long keyword) (three_ranges variables regions tokens >>= λ p. long_op keyword p.0 p.1.0 p.1.1) _ op other.1) [
        | inl long ↦ long_tokens P Q makes variables regions keyword tokens op some long.1
        | inr next ↦ elim (if_ok Op Wrong (bytes_eq keyword (codes "fill")) (fill_in variables regions tokens) _ op next.1) [
          | inl fill ↦ fill_all P Q makes variables regions tokens op some fill.1
          | inr more ↦ elim (if_ok Op Wrong (bytes_eq keyword (codes "axpy")) (axpy_in variables regions tokens) _ op more.1) [
            | inl axpy ↦ axpy_all P Q makes variables regions tokens op some axpy.1
            | inr last ↦ elim (if_ok Op Wrong (bytes_eq keyword (codes "stencil")) (stencil_in variables regions tokens) _ op last.1) [
              | inl stencil ↦ stencil_all P Q makes variables regions tokens op some stencil.1
              | inr end ↦
                  let spmv = if_else_err Op Wrong (bytes_eq keyword (codes "spmv")) (spmv_in variables regions tokens) Form op end.1 in
                  spmv_all P Q makes variables regions tokens op some spmv.1
            ]
          ]
        ]
      ]
    ]

-- what holds of each range that a token names holds of the ranges of an operation
pub op_all : (P : Range → Type 0) (variables : List Variable) (regions : List Region) (keyword : List ℕ) (tokens : List (List ℕ)) (op : Op)
    → Gives P variables regions → op_in variables regions keyword tokens ≡ Ok op → OfRanges P op
op_all P variables regions keyword tokens op gives is =
    let makes : Makes P (OfRanges P) =
    record {
      fill = λ d k p _. of_one P d p;
      copy = of_two P;
      add = of_three P;
      sub = of_three P;
      mul = of_three P;
      axpy = λ d k x p _ q. of_three P d d x p p q;
      scan = of_two P;
      sum = of_two P;
      dot = of_three P;
      greatest = of_two P;
      stencil = λ d a b c x p _ _ _ q. of_two P d x p q;
      spmv = λ d s c v x p q r t u.
          All-cons P d (s ∷ c ∷ v ∷ x ∷ []) p (All-cons P s (c ∷ v ∷ x ∷ []) q (of_three P c v x r t u));
    } in
    op_made P (OfRanges P) makes variables regions keyword tokens op gives is

-- the ranges of an operation of a document have places
pub op_full : (variables : List Variable) (regions : List Region) (keyword : List ℕ) (tokens : List (List ℕ)) (op : Op) → HavePlaces regions
    → op_in variables regions keyword tokens ≡ Ok op → OfRanges IsFull op
op_full variables regions keyword tokens op some is =
    op_all IsFull variables regions keyword tokens op (λ token r. range_full variables regions token r some) is
