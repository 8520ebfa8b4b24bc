use Rattle.cd_parse.proofs.marked.MarkedDomains.push_entry.Goals as goal

pub invariant_of-self : goal.invariant_of-self
invariant_of-self c = record {
  count = c.self.invariant.count;
  all = c.push_entry.ensures.marked c.self.inside.marks.items c.self.invariant.all;
}
