use Rattle.std.proofs.Common.{ap, ◌∙◌}
use Rattle.cd_field.specs.FieldModel.{FieldModel, part_of, without}
use Rattle.cd_tree.specs.Domains.{root_of}
use Rattle.cd_tree.specs.Meaning.{node_reads, node_writes}
use Rattle.cd_app.proofs.PartLemmas.{can_run, reads_are, reads_reach, root_known, side_present, writes_are, writes_reach}
use Rattle.cd_app.proofs.program.root_part.Goals as goal

pub carve-requires-clause-reads : goal.carve-requires-clause-reads
carve-requires-clause-reads g c =
    let plan = c.args.plan.now in
    side_present c.args.document.now.regions c.args.script.now plan.tree (g.F.Field.model c.load.new.self) c.reads.result.now
    (node_reads (root_of plan.tree.domains))
    (root_known c.a_covered_domain_reaches_its_entries_alone.ensures.within c.args.document.now plan c.args.script.now c.tree.ensures.sound c.requires)
    (reads_reach (root_of plan.tree.domains))
    (reads_are plan c.feet-feet.result.now c.reads.result.now c.tree.ensures.sound c.feet-feet.ensures.value c.reads.ensures) c.in_ok-load.ensures

pub carve-requires-clause-writes : goal.carve-requires-clause-writes
carve-requires-clause-writes g c =
    let plan = c.args.plan.now in
    side_present c.args.document.now.regions c.args.script.now plan.tree (g.F.Field.model c.load.new.self) c.writes.result.now
    (node_writes (root_of plan.tree.domains))
    (root_known c.a_covered_domain_reaches_its_entries_alone.ensures.within c.args.document.now plan c.args.script.now c.tree.ensures.sound c.requires)
    (writes_reach (root_of plan.tree.domains))
    (writes_are plan c.feet-feet.result.now c.writes.result.now c.tree.ensures.sound c.feet-feet.ensures.value c.writes.ensures) c.in_ok-load.ensures

pub returns-clause-carved : goal.returns-clause-carved
returns-clause-carved g c =
    let plan = c.args.plan.now in
    let reads = c.reads.result.now in
    let writes = c.writes.result.now in
    record {
      sound = c.tree.ensures.sound;
      reads = reads;
      writes = writes;
      reading = reads_are plan c.feet-feet.result.now reads c.tree.ensures.sound c.feet-feet.ensures.value c.reads.ensures;
      writing = writes_are plan c.feet-feet.result.now writes c.tree.ensures.sound c.feet-feet.ensures.value c.writes.ensures;
      taken = c.in_ok-part.ensures.part ∙ ap (λ (m : FieldModel). part_of m reads writes) c.in_ok-load.ensures;
      left = c.in_ok-part.ensures.rest ∙ ap (λ (m : FieldModel). without m writes) c.in_ok-load.ensures;
    }

pub returns-clause-can : goal.returns-clause-can
returns-clause-can g c =
    can_run c.args.document.now c.args.plan.now c.args.script.now (g.F.Field.model c.in_ok-part.part) (g.F.Field.model c.carve.new.self)
    c.requires
    (root_known c.a_covered_domain_reaches_its_entries_alone.ensures.within c.args.document.now c.args.plan.now c.args.script.now
    c.tree.ensures.sound c.requires)
    (returns-clause-carved g c)
