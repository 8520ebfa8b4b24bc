use Rattle.std.proofs.Common.{◌≡◌, ◌≤◌, ◌<◌, ◌∙◌, List, length, ap, sym, subst, sum_by, arith}
use Rattle.std.proofs.lemmas.Option.{slice_get_within}
use Rattle.cd_tree.specs.declared.domain.Entry.{Entry}
use Rattle.cd_tree.specs.Limits.{entries_limit}
use Rattle.cd_tree.specs.Meaning.{entry_need}
use Rattle.cd_cover.specs.Needs.{most_own}
use Rattle.cd_tree.proofs.View.{domain_fits}
use Rattle.cd_cover.proofs.NeedLemmas.{own_more, small_more}
use Rattle.cd_cover.proofs.needs.own_needs.Goals as goal

pub own_blocks-requires : goal.own_blocks-requires
own_blocks-requires c =
    subst (λ (es : List Entry). length es ≤ entries_limit) (sym c.items.ensures.value)
    (domain_fits c.args.tree.now c.requires (record { 0 = c.loop-k.k }) c.node.result.now c.node.ensures).entries

pub loop-k-preserved : goal.loop-k-preserved
loop-k-preserved c =
    let value : c.own_blocks.result ≡ sum_by entry_need c.node.result.now.entries =
    c.own_blocks.ensures.value ∙ ap (sum_by entry_need) c.items.ensures.value in (
      own_more c.args.tree.now.domains c.loop-k.k c.node.result.now c.node.ensures c.loop-k.own.items c.push.new.self.items
          c.own_blocks.result value c.loop-k.invariant.0 c.in_ok-push.ensures.items,
      small_more c.args.tree.now.domains c.loop-k.k c.node.result.now c.node.ensures
          (subst (λ n. n ≤ most_own) value c.own_blocks.ensures.small) c.loop-k.invariant.1,
    )

pub returns-clause-small : goal.returns-clause-small
returns-clause-small c k domain there =
    let within : k < length c.args.tree.now.domains = slice_get_within c.args.tree.now.domains k domain there in
    c.loop-k.invariant.1 k domain (omega arith) there
