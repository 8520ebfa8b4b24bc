use Rattle.std.proofs.Common.{rules, ◌≡◌, ◌+◌, length, arith, refl}
use Rattle.cd_field.specs.declared.event_list.Part.{Part}
use Rattle.cd_field.proofs.EventLemmas.{events_pushed, numbered_pushed}
use Rattle.cd_field.proofs.event_list.Parts.add.Goals as goal

pub invariant_of-self-2 : goal.invariant_of-self-2
invariant_of-self-2 c =
    let part : Part = record { first = c.args.self.now.count; events = c.args.events } in
    let long : c.len.result ≡ length c.args.events.items = search rules in
    let total : c.args.self.now.count + c.len.result ≡ c.args.self.now.count + length c.args.events.items = omega (arith, long) in
    record {
      numbered = numbered_pushed c.args.self.now.parts.items c.push.new.self.items part c.args.self.now.count _
          c.in_ok-push.ensures.items c.args.self.now.numbered refl total (search rules);
    }

pub returns : goal.returns
returns c =
    events_pushed c.args.self.now.parts.items c.push.new.self.items (record { first = c.args.self.now.count; events = c.args.events })
    c.in_ok-push.ensures.items
