use Rattle.std.proofs.Common.{◌≡◌, ℕ, ◌+◌, ◌*◌, get_or, length, arith, ap, ap₂, subst, sym, ◌∙◌}
use Rattle.cd_base.specs.Words.{Words}
use Rattle.cd_tree.specs.Operations.{length_of, nth_word}
use Rattle.cd_kernel.specs.declared.totals.Gathering.{Gathering}
use Rattle.cd_kernel.specs.declared.totals.Gathering.TheVariants.{Multiplying}
use Rattle.cd_kernel.specs.Computing.{gathered_on, CanGather}
use Rattle.cd_kernel.proofs.Sums.{sum_read, adding_read, comparing_read}
use Rattle.cd_kernel.proofs.totals.gather_block.Goals as goal

pub run_from-requires-clause-inside : goal.run_from-requires-clause-inside
run_from-requires-clause-inside g c =
    let P : Gathering → Type 0 = λ v. CanGather (g.F.Field.model c.args.field.now) c.args.x v in
    let both : CanGather (g.F.Field.model c.args.field.now) c.args.x (Multiplying c.in-Multiplying.z) = subst P c.in-Multiplying.is c.requires.both in
    let same : length_of c.args.x ≡ length_of c.in-Multiplying.z = both.0 in
    omega (arith, same, c.requires.inside, c.requires.same)

pub run_from-requires-clause-here : goal.run_from-requires-clause-here
run_from-requires-clause-here g c κs within =
    let P : Gathering → Type 0 = λ v. CanGather (g.F.Field.model c.args.field.now) c.args.x v in
    let both : CanGather (g.F.Field.model c.args.field.now) c.args.x (Multiplying c.in-Multiplying.z) = subst P c.in-Multiplying.is c.requires.both in
    both.1

pub returns-in-Adding : goal.returns-in-Adding
returns-in-Adding g c =
    adding_read c.args.gathering (g.F.Field.model c.args.field.now).words c.args.x c.args.at c.args.so_far c.add_all.result _ _
    c.run_from-xs.result.now c.in-Adding.is c.run_from-xs.ensures.words c.add_all.ensures (omega arith)

pub returns-in-Multiplying : goal.returns-in-Multiplying
returns-in-Multiplying g c =
    let w : Words = (g.F.Field.model c.args.field.now).words in
    sum_read c.args.so_far c.add_products.result (length c.run_from-xs.result.now) (length c.args.room.now)
    (λ (j : ℕ). get_or c.run_from-xs.result.now j 0 * get_or c.run_from.result.now j 0)
    (λ (j : ℕ). nth_word w c.args.x (c.args.at + j) * nth_word w c.in-Multiplying.z (c.args.at + j))
    (λ j short. ap₂ (λ (a b : ℕ). a * b) (c.run_from-xs.ensures.words j short) (c.run_from.ensures.words j (omega arith)))
    c.add_products.ensures (omega arith)
    ∙ sym (ap (λ (v : Gathering). gathered_on v w c.args.x c.args.at c.args.so_far (length c.args.room.now)) c.in-Multiplying.is)

pub returns-in-Comparing : goal.returns-in-Comparing
returns-in-Comparing g c =
    comparing_read c.args.gathering (g.F.Field.model c.args.field.now).words c.args.x c.args.at c.args.so_far c.greatest_with.result _ _
    c.run_from-xs.result.now c.in-Comparing.is c.run_from-xs.ensures.words c.greatest_with.ensures (omega arith)
