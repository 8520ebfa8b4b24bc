-- A property of each event that a reading tells: it follows from that of the events of each of its domains.
use Rattle.std.proofs.Common.{ℕ, zero, suc, ◌+◌, ◌-◌, Bool, true, false, ◌==◌, bit_or, bit_and, List, [], ◌∷◌, length, is_none, arith}
use Rattle.std.specs.List.{All}
use Rattle.std.proofs.lemmas.List.Elements.{All-nil, All-cons}
use Rattle.cd_tree.specs.declared.domain.NodeId.{NodeId}
use Rattle.cd_tree.specs.declared.domain.Entry.{Entry}
use Rattle.cd_tree.specs.declared.domain.Domain.{Domain}
use Rattle.cd_tree.specs.declared.document.Fault.{Fault}
use Rattle.cd_tree.specs.declared.event.Event.{Event}
use Rattle.cd_tree.specs.declared.event.Event.TheVariants.{Begin, Refilled, Reached, Halted, Found, Complete, Escalate}
use Rattle.cd_tree.specs.KindSets.{no_kinds, kinds_without}
use Rattle.cd_tree.specs.Scripts.{struck, kinds_of}
use Rattle.cd_tree.specs.Domains.{Node, Body, Members, node, stop, run, group, no_more, member, domain_of, Throughout, ThroughoutBody, ThroughoutMembers}
use Rattle.cd_tree.specs.Reading.{Case, Counts, counted, Past, only_events, Told, after, TryEnd, Passed, Failed, Broken, NodeEnd, GroupEnd, AllDone, SomeEscalated, Try, saved_from, refilled_from, prepared, begun, halted, unless_halted, arrived, detected, group_ended, behind_group, with_end, with_member, escalation, ended, unless_failed, tries, read_node, read_points, read_members}
use Rattle.cd_base.proofs.ListLemmas.{Each, each_append}

pub all_every : (P : Event → Type 0) (events : List Event) → Each P events → All P events
all_every P [] every = All-nil P
all_every P (event ∷ events) (here, every) = All-cons P event events here (all_every P events every)

pub every_all : (P : Event → Type 0) (events : List Event) → All P events → Each P events
every_all P [] all = tt
every_all P (event ∷ events) all = (all 0 event (omega arith), every_all P events (λ k d short. all (suc k) d (omega arith)))

-- the property of the events of one domain, but for those of its saves
pub record Tells (P : Event → Type 0) (id : NodeId) : Type 0 where
  pub begin : (number : ℕ) → P (Begin id number)
  pub refilled : (entry : ℕ) → P (Refilled id entry)
  pub reached : (point : ℕ) → P (Reached id point)
  pub halted : (kinds : ℕ) → P (Halted id kinds)
  pub found : (kinds : ℕ) → P (Found id kinds)
  pub complete : P (Complete id)
  pub escalate : P (Escalate id)

abbrev pub id_of : Node → NodeId
id_of (node id domain body) = id

abbrev pub TellsAll : (Event → Type 0) → Node → Type 0
TellsAll P d = Tells P (id_of d) × Each P (saved_from (id_of d) 0 (domain_of d).entries)

-- the property of each event that a part of the reading tells
pub record AllTold {A : Type 0} (P : Event → Type 0) (t : Told A) : Type 0 where
  pub every : Each P t.past.events

after_all : {A : Type 0} (P : Event → Type 0) (past : Past) (t : Told A) → Each P past.events → AllTold P t → AllTold P (after past t)
after_all P past t before h = record { every = each_append P past.events t.past.events before h.every }

refilled_all : (P : Event → Type 0) (id : NodeId) (at : ℕ) (entries : List Entry) → Tells P id → Each P (refilled_from id at entries)
refilled_all P id at [] own = tt
refilled_all P id at (entry ∷ entries) own = (own.refilled at, refilled_all P id (suc at) entries own)

prepared_all : (P : Event → Type 0) (id : NodeId) (domain : Domain) (first : Bool) → Tells P id → Each P (saved_from id 0 domain.entries)
    → Each P (prepared first id domain.entries)
prepared_all P id domain true own saves = saves
prepared_all P id domain false own saves = refilled_all P id 0 domain.entries own

begun_all : (P : Event → Type 0) (id : NodeId) (domain : Domain) (first : Bool) (counts : Counts) (next : ℕ → Counts → Told TryEnd)
    → Tells P id → Each P (saved_from id 0 domain.entries) → ((begin : ℕ) (more : Counts) → AllTold P (next begin more))
    → AllTold P (begun id domain first counts next)
begun_all P id domain first counts next own saves on =
    after_all P (only_events (Begin id (counts id.0 + 1) ∷ prepared first id domain.entries)) (next (counts id.0 + 1) (counted id.0 counts))
    (own.begin (counts id.0 + 1), prepared_all P id domain first own saves) (on (counts id.0 + 1) (counted id.0 counts))

halted_all : (P : Event → Type 0) (h : Try) (halts notes : ℕ) (counts : Counts) (declared : Bool) → Tells P h.node
    → AllTold P (halted h halts notes counts declared)
halted_all P h halts notes counts true own = record { every = (own.halted halts, (own.found (bit_and notes h.detects), tt)) }
halted_all P h halts notes counts false own = record { every = (own.halted halts, tt) }

unless_halted_all : (P : Event → Type 0) (h : Try) (halts notes : ℕ) (counts : Counts) (next : ℕ → Told TryEnd) (none : Bool)
    → Tells P h.node → AllTold P (next notes) → AllTold P (unless_halted h halts notes counts next none)
unless_halted_all P h halts notes counts next true own on = on
unless_halted_all P h halts notes counts next false own on = halted_all P h halts notes counts (kinds_without halts h.detects == no_kinds) own

arrived_all : (P : Event → Type 0) (w : Case) (h : Try) (point notes : ℕ) (counts : Counts) (next : ℕ → Told TryEnd)
    → Tells P h.node → ((seen : ℕ) → AllTold P (next seen)) → AllTold P (arrived w h point notes counts next)
arrived_all P w h point notes counts next own on =
    let hits : List Fault = struck w.faults h.node h.begin point in
    let none : Bool = bit_and (kinds_of hits) w.halts == no_kinds in
    after_all P (record { events = Reached h.node point ∷ []; repeats = 0; strikes = length hits })
    (unless_halted h (bit_and (kinds_of hits) w.halts) (bit_or notes (kinds_of hits)) counts next none) (own.reached point, tt)
    (unless_halted_all P h (bit_and (kinds_of hits) w.halts) (bit_or notes (kinds_of hits)) counts next none own (on (bit_or notes (kinds_of hits))))

group_ended_all : (P : Event → Type 0) (h : Try) (notes : ℕ) (counts : Counts) (end : GroupEnd) (next : ℕ → Counts → Told TryEnd)
    → ((all : ℕ) → AllTold P (next all counts)) → AllTold P (group_ended h notes counts end next)
group_ended_all P h notes counts (AllDone leaks) next on = on (bit_or notes leaks)
group_ended_all P h notes counts (SomeEscalated cause over) next on = record { every = tt }

behind_group_all : (P : Event → Type 0) (h : Try) (notes : ℕ) (t : Told GroupEnd) (next : ℕ → Counts → Told TryEnd)
    → AllTold P t → ((all : ℕ) → AllTold P (next all t.counts)) → AllTold P (behind_group h notes t next)
behind_group_all P h notes t next members on =
    after_all P t.past (group_ended h notes t.counts t.answer next) members.every
    (group_ended_all P h notes t.counts t.answer next on)

with_member_all : (P : Event → Type 0) (t : Told NodeEnd) (rest : Counts → Told GroupEnd) → AllTold P t → AllTold P (rest t.counts)
    → AllTold P (with_member t rest)
with_member_all P t rest first others =
    after_all P t.past (with_end t.answer (rest t.counts)) first.every (record { every = others.every })

pub escalation_all : (P : Event → Type 0) (id : NodeId) (domain : Domain) (root : Bool) → Tells P id → Each P (escalation id domain root)
escalation_all P id domain true own =
    each_append P (refilled_from id 0 domain.entries) (Escalate id ∷ []) (refilled_all P id 0 domain.entries own) (own.escalate, tt)
escalation_all P id domain false own = (own.escalate, tt)

ended_all : (P : Event → Type 0) (id : NodeId) (domain : Domain) (t : Told TryEnd) (end : TryEnd) → Tells P id → Each P t.past.events
    → AllTold P (ended id domain t end)
ended_all P id domain t (Passed leak) own h = record { every = each_append P t.past.events _ h (own.complete, tt) }
ended_all P id domain t (Failed cause) own h =
    record { every = each_append P t.past.events _ h (escalation_all P id domain (is_none domain.parent) own) }
ended_all P id domain t (Broken cause over) own h =
    record { every = each_append P t.past.events _ h (escalation_all P id domain (is_none domain.parent) own) }

unless_failed_all : (P : Event → Type 0) (id : NodeId) (domain : Domain) (t : Told TryEnd) (end : TryEnd) (next : Counts → Told NodeEnd)
    → Tells P id → Each P t.past.events → AllTold P (next t.counts) → AllTold P (unless_failed id domain t end next)
unless_failed_all P id domain t (Passed leak) next own h on = ended_all P id domain t (Passed leak) own h
unless_failed_all P id domain t (Failed cause) next own h on = after_all P (record t.past { repeats = t.past.repeats + 1 }) (next t.counts) h on
unless_failed_all P id domain t (Broken cause over) next own h on = ended_all P id domain t (Broken cause over) own h

tries_all : (P : Event → Type 0) (spare : ℕ) (id : NodeId) (domain : Domain) (again : Counts → Told TryEnd) (t : Told TryEnd)
    → Tells P id → ((now : Counts) → AllTold P (again now)) → AllTold P t → AllTold P (tries spare id domain again t)
tries_all P zero id domain again t own on h = ended_all P id domain t t.answer own h.every
tries_all P (suc spare) id domain again t own on h =
    unless_failed_all P id domain t t.answer (λ now. tries spare id domain again (again now)) own h.every
    (tries_all P spare id domain again (again t.counts) own on (on t.counts))

mutual
  unfolding read_node read_points read_members

  pub node_all : (P : Event → Type 0) (w : Case) (d : Node) (counts : Counts) → Throughout (TellsAll P) d → AllTold P (read_node w d counts)
  node_all P w (node id domain body) counts (here, below) =
      let starts : ℕ → Try = λ begin. record { node = id; detects = domain.detects; begin = begin } in
      tries_all P (domain.retry - 1) id domain
      (λ now. begun id domain false now (λ begin more. read_points w body (starts begin) 0 no_kinds more))
      (begun id domain true counts (λ begin more. read_points w body (starts begin) 0 no_kinds more)) here.0
      (λ now. begun_all P id domain false now (λ begin more. read_points w body (starts begin) 0 no_kinds more) here.0 here.1
      (λ begin more. points_all P w body (starts begin) 0 no_kinds more here.0 below))
      (begun_all P id domain true counts (λ begin more. read_points w body (starts begin) 0 no_kinds more) here.0 here.1
      (λ begin more. points_all P w body (starts begin) 0 no_kinds more here.0 below))

  pub points_all : (P : Event → Type 0) (w : Case) (body : Body) (h : Try) (point notes : ℕ) (counts : Counts) → Tells P h.node
      → ThroughoutBody (TellsAll P) body → AllTold P (read_points w body h point notes counts)
  points_all P w stop h point notes counts own below =
      arrived_all P w h point notes counts (λ seen. detected h seen counts) own
      (λ seen. record { every = (own.found (bit_and seen h.detects), tt) })
  points_all P w (run op rest) h point notes counts own below =
      arrived_all P w h point notes counts (λ seen. read_points w rest h (suc point) seen counts) own
      (λ seen. points_all P w rest h (suc point) seen counts own below)
  points_all P w (group members rest) h point notes counts own (here, below) =
      let t : Told GroupEnd = read_members w members counts in
      let next : ℕ → Counts → Told TryEnd = λ all more. read_points w rest h (suc point) all more in
      arrived_all P w h point notes counts (λ seen. behind_group h seen t next) own
      (λ seen. behind_group_all P h seen t next (members_all P w members counts here)
      (λ all. points_all P w rest h (suc point) all t.counts own below))

  pub members_all : (P : Event → Type 0) (w : Case) (members : Members) (counts : Counts) → ThroughoutMembers (TellsAll P) members
      → AllTold P (read_members w members counts)
  members_all P w no_more counts below = record { every = tt }
  members_all P w (member first rest) counts (here, below) =
      let t : Told NodeEnd = read_node w first counts in
      with_member_all P t (λ now. read_members w rest now) (node_all P w first counts here)
      (members_all P w rest t.counts below)
