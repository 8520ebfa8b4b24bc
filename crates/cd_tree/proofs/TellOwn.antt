-- A reading tells events of its own domains alone.
use Rattle.std.proofs.Common.{◌≡◌, ℕ, Bool, true, List, [], ◌∷◌}
use Rattle.std.proofs.lemmas.Bool.{or_right}
use Rattle.cd_tree.specs.declared.domain.NodeId.{NodeId}
use Rattle.cd_tree.specs.declared.domain.Entry.{Entry}
use Rattle.cd_tree.specs.declared.event.Event.{Event}
use Rattle.cd_tree.specs.Domains.{Node, Body, Members, node, stop, run, group, no_more, member, node_numbers, body_numbers, member_numbers, Throughout, ThroughoutBody, ThroughoutMembers}
use Rattle.cd_tree.specs.Reading.{Case, Counts, saved_from, read_node, read_members}
use Rattle.cd_tree.specs.FrontLaws.{teller_of, DomainsTellTheirOwn}
use Rattle.cd_tree.specs.Slices.{among}
use Rattle.cd_base.proofs.ListLemmas.{Each}
use Rattle.cd_tree.proofs.EventsTold.{all_every, Tells, TellsAll, node_all, members_all}
use Rattle.cd_tree.proofs.OtherCounts.{Holds, among_first, among_left, among_right}

-- the teller's number is in the set
abbrev pub TellerIn : (ℕ → Bool) → Event → Type 0
TellerIn P event = P (teller_of event).0 ≡ true

own_tells : (P : ℕ → Bool) (id : NodeId) → P id.0 ≡ true → Tells (TellerIn P) id
own_tells P id e =
    record { begin = λ n. e; refilled = λ n. e; reached = λ n. e; halted = λ n. e; found = λ n. e; complete = e; escalate = e }

own_saves : (P : ℕ → Bool) (id : NodeId) (at : ℕ) (entries : List Entry) → P id.0 ≡ true → Each (TellerIn P) (saved_from id at entries)
own_saves P id at [] e = tt
own_saves P id at (entry ∷ entries) e = (e, own_saves P id _ entries e)

mutual
  node_tells : (P : ℕ → Bool) (d : Node) → Holds P (node_numbers d) → Throughout (TellsAll (TellerIn P)) d
  node_tells P (node id domain body) holds =
      let here : P id.0 ≡ true = holds id.0 (among_first id.0 (body_numbers body)) in
      ((own_tells P id here, own_saves P id 0 domain.entries here), body_tells P body (λ n e. holds n (or_right _ (among (body_numbers body) n) e)))

  body_tells : (P : ℕ → Bool) (body : Body) → Holds P (body_numbers body) → ThroughoutBody (TellsAll (TellerIn P)) body
  body_tells P stop holds = tt
  body_tells P (run op rest) holds = body_tells P rest holds
  body_tells P (group members rest) holds = (
    members_tell P members (λ n e. holds n (among_left (member_numbers members) (body_numbers rest) n e)),
    body_tells P rest (λ n e. holds n (among_right (member_numbers members) (body_numbers rest) n e)),
  )

  members_tell : (P : ℕ → Bool) (members : Members) → Holds P (member_numbers members) → ThroughoutMembers (TellsAll (TellerIn P)) members
  members_tell P no_more holds = tt
  members_tell P (member first rest) holds = (
    node_tells P first (λ n e. holds n (among_left (node_numbers first) (member_numbers rest) n e)),
    members_tell P rest (λ n e. holds n (among_right (node_numbers first) (member_numbers rest) n e)),
  )

pub domains_tell_their_own : DomainsTellTheirOwn
domains_tell_their_own w d counts =
    let P : ℕ → Bool = among (node_numbers d) in
    all_every (TellerIn P) (read_node w d counts).past.events (node_all (TellerIn P) w d counts (node_tells P d (λ n e. e))).every

pub members_tell_own : (w : Case) (members : Members) (counts : Counts)
    → Each (TellerIn (among (member_numbers members))) (read_members w members counts).past.events
members_tell_own w members counts =
    let P : ℕ → Bool = among (member_numbers members) in
    (members_all (TellerIn P) w members counts (members_tell P members (λ n e. e))).every
