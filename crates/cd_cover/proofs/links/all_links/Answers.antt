use Rattle.std.proofs.Common.{◌≡◌, ◌≤◌, ◌∙◌, length, map, ap, arith}
use Rattle.std.proofs.lemmas.List.{take_all}
use Rattle.cd_base.proofs.ListLemmas.{some_of}
use Rattle.cd_tree.specs.declared.domain.NodeId.{NodeId}
use Rattle.cd_tree.specs.Domains.{nodes_from, node_of}
use Rattle.cd_tree.proofs.View.{length-nodes_from}
use Rattle.cd_cover.specs.Plans.{links_of}
use Rattle.cd_cover.proofs.Views.{map_more}
use Rattle.cd_cover.proofs.links.all_links.Goals as goal

pub loop-k-preserved : goal.loop-k-preserved
loop-k-preserved c =
    let id : NodeId = record { 0 = c.loop-k.k } in
    let view = some_of (node_of c.args.tree.now.domains id) (λ d. c.in_ok-links_of_domain.field-0 ≡ links_of c.args.tree.now d)
    c.in_ok-links_of_domain.ensures in
    map_more (links_of c.args.tree.now) (nodes_from 0 c.args.tree.now.domains) c.loop-k.k view.0 view.1 c.loop-k.links.items
    c.push.new.self.items c.in_ok-links_of_domain.field-0 view.2 c.loop-k.invariant c.in_ok-push.ensures.items

pub returns : goal.returns
returns c =
    let all : length (nodes_from 0 c.args.tree.now.domains) ≡ length c.args.tree.now.domains = length-nodes_from 0 c.args.tree.now.domains in
    let past : length (nodes_from 0 c.args.tree.now.domains) ≤ c.loop-k.k = omega arith in
    c.loop-k.invariant ∙ ap (map (links_of c.args.tree.now)) (take_all c.loop-k.k (nodes_from 0 c.args.tree.now.domains) past)
