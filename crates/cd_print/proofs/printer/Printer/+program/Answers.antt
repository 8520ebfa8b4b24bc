use Rattle.std.proofs.Common.{rules, ◌≡◌, ◌<◌, length, List, subst, sym, ap, ◌∙◌, ◌++◌, ◌∷◌, [], ℕ, OnOk, codes, string_bytes, arith}
use Rattle.cd_tree.specs.declared.domain.NodeId.{NodeId}
use Rattle.cd_tree.specs.declared.domain.Item.{Item}
use Rattle.cd_tree.specs.TreeModel.{FitsItems}
use Rattle.cd_tree.specs.Domains.{node_of, members_by}
use Rattle.cd_print.specs.Canonical.{Statement, lines, end_statement, member_statements}
use Rattle.cd_print.proofs.PrintLemmas.{pushed, lines_between}
use Rattle.cd_print.proofs.ProgramLemmas.{domain_text, single_group, large_group, member_seen, items_fit, fits_item, member_later, member_within}
use Rattle.cd_print.proofs.printer.Printer.+program.Goals as goal

pub add_domain-returns : goal.add_domain-returns
add_domain-returns t c =
    pushed c.push_str.result (string_bytes c.push_str.new.self) (string_bytes c.add_items.new.text) (codes "end\n") _ c.push_str.ensures.bytes
    (domain_text c.args.self.now.document.now.regions c.args.self.now.document.now.tree.kinds (node_of c.args.self.now.document.now.tree.domains)
    c.args.id c.node-domain.result.now c.items.result.now c.items-2.result.now
    (string_bytes c.args.text.now) (string_bytes c.add_head.new.text) (string_bytes c.add_lines.new.text) (string_bytes c.add_items.new.text)
    (c.the_nested_view_follows_the_list.ensures c.args.self.now.document.now.tree c.requires.tree c.args.id c.node-domain.result.now c.node-domain.ensures)
    c.items.ensures.value c.items-2.ensures.value c.in_ok-add_head.ensures c.in_ok-add_lines.ensures c.in_ok-add_items.ensures)

pub add_domain-add_items-requires : goal.add_domain-add_items-requires
add_domain-add_items-requires t c =
    let fits : FitsItems c.args.self.now.document.now.tree.domains c.args.id.0 c.items-2.result.now =
    subst (λ (items : List Item). FitsItems c.args.self.now.document.now.tree.domains c.args.id.0 items) (sym c.items-2.ensures.value)
    (items_fit c.args.self.now.document.now.tree c.requires.tree c.args.id c.node-domain.result.now c.node-domain.ensures) in
    search (rules, fits)

pub add_items-add_item-requires : goal.add_items-add_item-requires
add_items-add_item-requires t c =
    let fits = fits_item c.args.self.now.document.now.tree.domains c.args.at.0 c.args.items.now c.loop-item.item-index c.item-item.result c.requires.items c.loop-item-test.true c.item-item.is in
    search (rules, fits)

pub add_members-add_domain-requires : goal.add_members-add_domain-requires
add_members-add_domain-requires t c =
    let later = member_later c.args.self.now.document.now.tree.domains c.args.at.0 c.args.ids.now c.loop-id.id-index (record { 0 = 0 }) c.requires.ids c.loop-id-test.true in
    let within = member_within c.args.self.now.document.now.tree.domains c.args.at.0 c.args.ids.now c.loop-id.id-index (record { 0 = 0 }) c.requires.ids c.loop-id-test.true in
    search (rules, later, within)

pub add_group-add_domain-requires : goal.add_group-add_domain-requires
add_group-add_domain-requires t c =
    let some : 0 < length c.args.ids.now = omega (arith, c.if-ids-eq1.true) in
    let later = member_later c.args.self.now.document.now.tree.domains c.args.at.0 c.args.ids.now 0 (record { 0 = 0 }) c.requires.ids some in
    let within = member_within c.args.self.now.document.now.tree.domains c.args.at.0 c.args.ids.now 0 (record { 0 = 0 }) c.requires.ids some in
    search (rules, later, within)

pub add_group-returns-then-ids-eq1 : goal.add_group-returns-then-ids-eq1
add_group-returns-then-ids-eq1 t c =
    let some : 0 < length c.args.ids.now = omega (arith, c.if-ids-eq1.true) in
    let seen = member_seen c.the_nested_view_follows_the_list.ensures c.args.self.now.document.now.tree c.requires.tree c.args.at.0 c.args.ids.now 0 (record { 0 = 0 }) c.requires.ids some in
    let one = single_group c.args.self.now.document.now.regions c.args.self.now.document.now.tree.kinds (node_of c.args.self.now.document.now.tree.domains) c.args.ids.now (record { 0 = 0 }) seen.0
    (omega (arith, c.if-ids-eq1.true)) (omega (arith, c.if-ids-eq1.true)) seen.1 in
    subst (λ (s : List Statement). OnOk c.add_domain.result (string_bytes c.add_domain.new.text ≡ string_bytes c.args.text.now ++ lines s)) (sym one) c.add_domain.ensures

pub add_group-returns : goal.add_group-returns
add_group-returns t c =
    let members : List Statement = member_statements c.args.self.now.document.now.regions c.args.self.now.document.now.tree.kinds (members_by (node_of c.args.self.now.document.now.tree.domains) c.args.ids.now) in
    let group = large_group c.args.self.now.document.now.regions c.args.self.now.document.now.tree.kinds (node_of c.args.self.now.document.now.tree.domains) c.args.ids.now c.if-ids-eq1.false
    (λ (k : ℕ) (d : NodeId) h. member_seen c.the_nested_view_follows_the_list.ensures c.args.self.now.document.now.tree c.requires.tree c.args.at.0 c.args.ids.now k d c.requires.ids h) in
    pushed c.push_str-2.result (string_bytes c.push_str-2.new.self) (string_bytes c.add_members.new.text) (codes "end\n") _
    c.push_str-2.ensures.bytes
    (lines_between (string_bytes c.args.text.now) (string_bytes c.push_str.new.self) (string_bytes c.add_members.new.text) (codes "group" ∷ []) end_statement members
    c.in_ok-push_str.ensures.bytes c.in_ok-add_members.ensures
    ∙ ap (λ (s : List Statement). string_bytes c.args.text.now ++ lines s) (sym group))
