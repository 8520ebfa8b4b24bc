use Rattle.std.proofs.Common.{◌≡◌, ◌+◌, ◌<◌, ◌^◌, Option, Some, length, slice_get, refl, subst, arith}
use Rattle.std.proofs.lemmas.Option.{slice_get_read}
use Rattle.cd_tree.specs.declared.domain.Domain.{Domain}
use Rattle.cd_parse.specs.Draft.{with_entry}
use Rattle.cd_parse.specs.Heads.{entries_of}
use Rattle.cd_parse.proofs.DraftLemmas.{changed_set, changed_none}
use Rattle.cd_parse.proofs.MarkLemmas.{marks_kept}
use Rattle.cd_parse.proofs.marked.push_entry.Goals as goal

pub returns-then-at-len : goal.returns-then-at-len
returns-then-at-len c = record {
  change = changed_none (with_entry c.args.entry) c.args.domains.now.items c.args.at (omega (arith, c.len.ensures, c.if-at-len.true));
  marked = λ marks all. all;
}

pub push-requires : goal.push-requires
push-requires c =
    let domain = c.index_mut.result.now in
    let there : slice_get c.args.domains.now.items c.args.at ≡ Some domain =
    slice_get_read c.args.domains.now.items (length c.args.domains.now.items) c.args.at domain refl (omega (arith, c.len.ensures, c.if-at-len.false))
    c.index_mut.ensures.value in
    subst (λ (found : Option Domain). entries_of found + 1 < 2 ^ 32) there c.requires

pub returns : goal.returns
returns c =
    let within : c.args.at < length c.args.domains.now.items = omega (arith, c.len.ensures, c.if-at-len.false) in
    rw c.in_ok-push.ensures.ok (record {
      change = changed_set (with_entry c.args.entry) c.args.domains.now.items c.args.at c.index_mut.result.now within c.index_mut.ensures.value;
      marked = λ marks all. marks_kept marks c.args.domains.now.items c.args.at c.index_mut.result.now (with_entry c.args.entry c.index_mut.result.now) c.index_mut.ensures.value refl refl all;
    })
