use Rattle.std.proofs.Common.{◌≡◌, ◌≤◌, ◌∙◌, true, false, ℕ, List, length, take, ap, subst, sym}
use Rattle.std.specs.List.Sorted.{IsPartitionedBy, IsPartitionPoint}
use Rattle.cd_tree.specs.declared.document.Fault.{Fault}
use Rattle.cd_tree.specs.Scripts.{strikes_at}
use Rattle.cd_field.proofs.FaultLemmas.{at_first, hits_are}
use Rattle.cd_field.proofs.faults.hits_in.Goals as goal

pub count_at-count-requires : goal.count_at-count-requires
count_at-count-requires c =
    let P : List Fault → Type 0 = λ v. IsPartitionedBy (strikes_at c.args.node c.args.begin c.args.point) v in
    subst P (sym c.split_at.ensures.back)
    (at_first c.args.order.now c.args.node c.args.begin c.args.point c.count_before-first.result c.requires
    (λ k d. c.count_before-first.ensures.split.1 k d))

pub returns : goal.returns
returns c =
    let first : ℕ = c.count_before-first.result in
    let count : ℕ = c.count_at-count.result in
    let at : Fault → Type 0 = λ fault. strikes_at c.args.node c.args.begin c.args.point fault ≡ true in
    let off : Fault → Type 0 = λ fault. strikes_at c.args.node c.args.begin c.args.point fault ≡ false in
    let S : List Fault → Type 0 = λ v. count ≤ length v in
    let P : List Fault → Type 0 = λ v. IsPartitionPoint at off v count in
    c.split_at-2.ensures.front
    ∙ ap (λ (v : List Fault). take count v) c.split_at.ensures.back
    ∙ hits_are c.args.order.now c.args.node c.args.begin c.args.point first count c.count_before-first.ensures.split
    (subst S c.split_at.ensures.back c.count_at-count.ensures.within) (subst P c.split_at.ensures.back c.count_at-count.ensures.split)
