use Rattle.std.proofs.Common.{◌≡◌, ◌<◌, ◌≤◌, ◌∙◌, Option, None, length, subst, ap, inr, refl, arith}
use Rattle.std.proofs.lemmas.List.{length-map}
use Rattle.cd_tree.specs.Limits.{need_limit}
use Rattle.cd_tree.specs.declared.refusal.Refusal.{Refusal}
use Rattle.cd_tree.specs.Domains.{nodes_from, root_of}
use Rattle.cd_tree.specs.Meaning.{node_need}
use Rattle.cd_tree.specs.Refusals.{FirstOf}
use Rattle.cd_tree.proofs.View.{length-nodes_from}
use Rattle.cd_cover.specs.Checks.{DomainOf}
use Rattle.cd_cover.proofs.PlanLemmas.{covered, fresh_links, root_read}
use Rattle.cd_cover.proofs.planning.planned.Goals as goal

pub index-need-requires : goal.index-need-requires
index-need-requires c =
    let size : length c.in_ok-needs.needs.items ≡ length c.args.tree.now.domains =
    ap length c.in_ok-needs.ensures ∙ length-map (nodes_from 0 c.args.tree.now.domains) node_need ∙ length-nodes_from 0 c.args.tree.now.domains in
    let some : 0 < length c.args.tree.now.domains = c.count.ensures.sound.some in
    omega arith

pub returns-then-need-gt-MOST_NEED : goal.returns-then-need-gt-MOST_NEED
returns-then-need-gt-MOST_NEED c =
    let clear : FirstOf (DomainOf c.args.tree.now.domains) (nodes_from 0 c.args.tree.now.domains) None =
    subst (λ (o : Option Refusal). FirstOf (DomainOf c.args.tree.now.domains) (nodes_from 0 c.args.tree.now.domains) o) c.in_default.is
    c.in_ok-refusal.ensures in
    inr (
      clear,
      (
        refl,
        root_read c.args.tree.now.domains c.in_ok-needs.needs.items c.index-need.result.now c.count.ensures.sound.some c.in_ok-needs.ensures
            c.index-need.ensures,
        c.if-need-gt-MOST_NEED.true,
      ),
    )

pub of-requires : goal.of-requires
of-requires c =
    let clear : FirstOf (DomainOf c.args.tree.now.domains) (nodes_from 0 c.args.tree.now.domains) None =
    subst (λ (o : Option Refusal). FirstOf (DomainOf c.args.tree.now.domains) (nodes_from 0 c.args.tree.now.domains) o) c.in_default.is
    c.in_ok-refusal.ensures in
    let need : c.index-need.result.now ≡ node_need (root_of c.args.tree.now.domains) =
    root_read c.args.tree.now.domains c.in_ok-needs.needs.items c.index-need.result.now c.count.ensures.sound.some c.in_ok-needs.ensures
    c.index-need.ensures in
    record {
      program = c.count.ensures.sound;
      footprints = c.requires.feet;
      disjoint = c.requires.disjoint;
      covered = covered c.args.tree.now c.count.ensures.sound c.each_domain_answers_for_itself.ensures.covered clear;
      linked = fresh_links c.args.tree.now c.count.ensures.sound clear;
      link = c.in_ok-links.ensures;
      need = c.in_ok-needs.ensures;
      within = subst (λ n. n ≤ need_limit) need c.if-need-gt-MOST_NEED.false;
    }
