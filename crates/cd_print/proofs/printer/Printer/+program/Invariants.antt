use Rattle.std.proofs.Common.{◌≡◌, ◌-◌, ◌*◌, ◌++◌, length, drop, string_bytes}
use Rattle.cd_tree.specs.Domains.{node_of, body_by, members_by}
use Rattle.cd_print.specs.Canonical.{lines, body_statements, member_statements}
use Rattle.cd_print.proofs.printer.Printer.+program.Given as goal

-- a member's number is greater than its parent's; between a domain and its members stand four calls
abbrev pub decreases-add_domain : goal.decreases-add_domain
decreases-add_domain l = 5 * (length l.self.now.document.now.tree.domains - l.id.0)

abbrev pub decreases-add_items : goal.decreases-add_items
decreases-add_items l = 5 * (length l.self.now.document.now.tree.domains - l.at.0) - 1

abbrev pub decreases-add_item : goal.decreases-add_item
decreases-add_item l = 5 * (length l.self.now.document.now.tree.domains - l.at.0) - 2

abbrev pub decreases-add_group : goal.decreases-add_group
decreases-add_group l = 5 * (length l.self.now.document.now.tree.domains - l.at.0) - 3

abbrev pub decreases-add_members : goal.decreases-add_members
decreases-add_members l = 5 * (length l.self.now.document.now.tree.domains - l.at.0) - 4

-- what is written and what is still to come are the whole
abbrev pub invariant-add_items-loop-item : goal.invariant-add_items-loop-item
invariant-add_items-loop-item l =
    string_bytes l.text ++ lines (body_statements l.self.document.now.regions l.self.document.now.tree.kinds (body_by (node_of l.self.document.now.tree.domains) (drop l.item-index l.items)))
    ≡ string_bytes l.fn.text ++ lines (body_statements l.self.document.now.regions l.self.document.now.tree.kinds (body_by (node_of l.self.document.now.tree.domains) l.items))

abbrev pub invariant-add_members-loop-id : goal.invariant-add_members-loop-id
invariant-add_members-loop-id l =
    string_bytes l.text ++ lines (member_statements l.self.document.now.regions l.self.document.now.tree.kinds (members_by (node_of l.self.document.now.tree.domains) (drop l.id-index l.ids)))
    ≡ string_bytes l.fn.text ++ lines (member_statements l.self.document.now.regions l.self.document.now.tree.kinds (members_by (node_of l.self.document.now.tree.domains) l.ids))
