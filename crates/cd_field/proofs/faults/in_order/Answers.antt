use Rattle.std.proofs.Common.{rules, ◌≡◌, List, subst}
use Rattle.std.proofs.lemmas.List.Sorted.{answers_always}
use Rattle.cd_tree.specs.declared.document.Fault.{Fault}
use Rattle.cd_field.specs.FaultOrder.{StrikeAlike}
use Rattle.cd_field.proofs.FaultLemmas.{key_of, order_from_sort, alike_from_sort}
use Rattle.cd_field.proofs.faults.in_order.Goals as goal

pub returns-clause-sorted : goal.returns-clause-sorted
returns-clause-sorted c =
    order_from_sort _ (c.in_ok-sort_by_key.ensures.sorted key_of (answers_always _ _ _ (λ f a r next called. search rules)))

pub returns-clause-alike : goal.returns-clause-alike
returns-clause-alike c =
    let same : c.in_ok-order.order.items ≡ c.args.script.now = search rules in
    let P : List Fault → Type 0 = λ v. StrikeAlike v c.sort_by_key.new.self.items in
    subst P same
    (alike_from_sort c.in_ok-order.order.items c.sort_by_key.new.self.items
    (c.sort_by_key.ensures.stable key_of (answers_always _ _ _ (λ f a r next called. search rules))))
