use Rattle.std.proofs.Common.{◌+◌, ◌<◌, ◌^◌, length, refl, subst, sym, arith}
use Rattle.cd_tree.specs.declared.domain.Domain.{Domain}
use Rattle.cd_parse.specs.Draft.{with_item}
use Rattle.cd_parse.proofs.DraftLemmas.{changed_set, changed_none}
use Rattle.cd_parse.proofs.MarkLemmas.{marks_kept}
use Rattle.cd_parse.proofs.marked.push_item.Goals as goal

pub returns-then-at-len : goal.returns-then-at-len
returns-then-at-len c = record {
  change = changed_none (with_item c.args.item) c.args.domains.now.items c.args.at (omega (arith, c.len.ensures, c.if-at-len.true));
  marked = λ marks all. all;
}

pub push-requires : goal.push-requires
push-requires c =
    let P : Domain → Type 0 = λ domain. length domain.items + 1 < 2 ^ 32 in
    subst P (sym c.index_mut.ensures.value) (c.requires c.args.at c.index_mut.result.now (omega (arith, c.len.ensures, c.if-at-len.false)))

pub returns : goal.returns
returns c =
    let within : c.args.at < length c.args.domains.now.items = omega (arith, c.len.ensures, c.if-at-len.false) in
    rw c.in_ok-push.ensures.ok (record {
      change = changed_set (with_item c.args.item) c.args.domains.now.items c.args.at c.index_mut.result.now within c.index_mut.ensures.value;
      marked = λ marks all. marks_kept marks c.args.domains.now.items c.args.at c.index_mut.result.now (with_item c.args.item c.index_mut.result.now) c.index_mut.ensures.value refl refl all;
    })
