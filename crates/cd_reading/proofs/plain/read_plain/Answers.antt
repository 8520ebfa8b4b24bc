use Rattle.std.proofs.Common.{rules, ◌+◌, ◌<◌, ◌^◌, set, slice_index, refl, arith}
use Rattle.cd_tree.specs.Reading.{read_node, Done}
use Rattle.cd_tree.specs.Record.{case_of}
use Rattle.cd_reading.specs.Walk.{the_node, listed}
use Rattle.cd_reading.proofs.StillLemmas.{plain_read, plain_few, plain_counts}
use Rattle.cd_reading.proofs.plain.read_plain.Goals as goal

pub overflow_add-counts : goal.overflow_add-counts
overflow_add-counts c =
    let tree = c.args.case.now.tree.now in
    let w = case_of tree c.args.case.now.script.now in
    let few : slice_index c.args.counts.now c.args.id.0 + 1 < 2 ^ 64 =
    plain_few (read_node w (the_node tree.domains c.args.id) (listed c.args.counts.now)) c.args.id.0 c.args.counts.now (Done 0)
    (plain_read w tree c.requires.case.sound c.the_nested_view_follows_the_list.ensures c.args.id (listed c.args.counts.now) c.requires.node
    c.requires.plain.runs c.requires.plain.still)
    c.requires.counts in
    search (rules, few)

pub returns-clause-reads : goal.returns-clause-reads
returns-clause-reads c =
    let tree = c.args.case.now.tree.now in
    let w = case_of tree c.args.case.now.script.now in
    plain_counts (read_node w (the_node tree.domains c.args.id) (listed c.args.counts.now)) c.args.id.0 c.args.counts.now
    (set c.args.counts.now c.args.id.0 (slice_index c.args.counts.now c.args.id.0 + 1)) _ (omega (arith, c.requires.node, c.requires.size)) refl c.none.ensures
    (plain_read w tree c.requires.case.sound c.the_nested_view_follows_the_list.ensures c.args.id (listed c.args.counts.now) c.requires.node
    c.requires.plain.runs c.requires.plain.still)
