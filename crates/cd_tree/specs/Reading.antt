-- The one-thread reading of a program and its script: tries, begins, events and the ending. It knows no word.
use Rattle.std.specs.Prelude.{ℕ, zero, suc, ◌+◌, ◌-◌, Bool, true, false, ◌==◌, bit_or, bit_and, List, [], ◌∷◌, ◌++◌, length, if◌then◌else◌, is_none}
use Rattle.cd_tree.specs.declared.domain.NodeId.{NodeId}
use Rattle.cd_tree.specs.declared.domain.How.{How}
use Rattle.cd_tree.specs.declared.domain.How.TheVariants.{Copy, Refer, Regen}
use Rattle.cd_tree.specs.declared.domain.Entry.{Entry}
use Rattle.cd_tree.specs.declared.domain.Domain.{Domain}
use Rattle.cd_tree.specs.declared.document.Fault.{Fault}
use Rattle.cd_tree.specs.declared.event.Kept as kept
use Rattle.cd_tree.specs.declared.event.Kept.TheVariants as kept_as
use Rattle.cd_tree.specs.declared.event.Event.{Event}
use Rattle.cd_tree.specs.declared.event.Event.TheVariants.{Begin, Saved, Refilled, Reached, Halted, Found, Complete, Escalate}
use Rattle.cd_tree.specs.KindSets.{no_kinds, kinds_without}
use Rattle.cd_tree.specs.Domains.{Node, Body, Members, node, stop, run, group, no_more, member}
use Rattle.cd_tree.specs.Scripts.{struck, kinds_of}

-- what a run is to be read under: the kinds that halt, and the script
pub record Case : Type 0 where
  pub halts : ℕ
  pub faults : List Fault

-- how often each domain, by its number, has begun so far
abbrev pub Counts : Type 0
Counts = ℕ → ℕ

abbrev pub no_begins : Counts
no_begins = λ n. 0

-- these counts with one begin more of a domain
abbrev pub counted : ℕ → Counts → Counts
counted id counts = λ n. if n == id then counts n + 1 else counts n

-- what a part of the reading has told: its events, the tries that were repeats, the faults that struck
pub record Past : Type 0 where
  pub events : List Event
  pub repeats : ℕ
  pub strikes : ℕ

abbrev pub silence : Past
silence = record { events = []; repeats = 0; strikes = 0 }

abbrev pub only_events : List Event → Past
only_events events = record { events = events; repeats = 0; strikes = 0 }

-- first one, then the other
abbrev pub joined : Past → Past → Past
joined p q = record { events = p.events ++ q.events; repeats = p.repeats + q.repeats; strikes = p.strikes + q.strikes }

-- a part of the reading: what it tells, the counts after it, and its answer
pub record Told (A : Type 0) : Type 0 where
  pub past : Past
  pub counts : Counts
  pub answer : A

abbrev pub told : {A : Type 0} → Past → Counts → A → Told A
told past counts answer = record { past = past; counts = counts; answer = answer }

-- a part of the reading with what came before it put in front
abbrev pub after : {A : Type 0} → Past → Told A → Told A
after past t = record t { past = joined past t.past }

-- why a try failed: the domain whose detection failed or that broke off, with the kinds
pub record Blame : Type 0 where
  pub node : NodeId
  pub kinds : ℕ

abbrev pub blame : NodeId → ℕ → Blame
blame id kinds = record { node = id; kinds = kinds }

-- how a try ends: passed with a leak; failed; or broken off, with the halting kinds that are still to be declared
pub data TryEnd : Type 0 where
  Passed : (leak : ℕ) → TryEnd
  Failed : (cause : Blame) → TryEnd
  Broken : (cause : Blame) (over : ℕ) → TryEnd

-- how a domain ends: completed with a leak, or escalated
pub data NodeEnd : Type 0 where
  Done : (leak : ℕ) → NodeEnd
  Escalated : (cause : Blame) (over : ℕ) → NodeEnd

-- how a group ends: all completed, with their leaks; or with the first escalation's cause and what all leave over
pub data GroupEnd : Type 0 where
  AllDone : (leaks : ℕ) → GroupEnd
  SomeEscalated : (cause : Blame) (over : ℕ) → GroupEnd

-- the try in hand: its domain, the kinds that this declares, and the number of this begin
pub record Try : Type 0 where
  pub node : NodeId
  pub detects : ℕ
  pub begin : ℕ

abbrev pub how_kept : How → kept.Kept
how_kept Copy = kept_as.Copy
how_kept Refer = kept_as.Refer
how_kept (Regen pattern) = kept_as.Regen

-- an event for each entry, which are numbered from `at` on
abbrev pub saved_from : NodeId → ℕ → List Entry → List Event
saved_from id at [] = []
saved_from id at (entry ∷ entries) = Saved id at (how_kept entry.how) ∷ saved_from id (suc at) entries

abbrev pub refilled_from : NodeId → ℕ → List Entry → List Event
refilled_from id at [] = []
refilled_from id at (entry ∷ entries) = Refilled id at ∷ refilled_from id (suc at) entries

-- a first try saves the entries, a later one refills them
abbrev pub prepared : Bool → NodeId → List Entry → List Event
prepared true id entries = saved_from id 0 entries
prepared false id entries = refilled_from id 0 entries

-- a begin: the count rises, the entries are saved or refilled, and the try goes on with the number of this begin
abbrev pub begun : NodeId → Domain → Bool → Counts → (ℕ → Counts → Told TryEnd) → Told TryEnd
begun id domain first counts next =
    after (only_events (Begin id (counts id.0 + 1) ∷ prepared first id domain.entries))
    (next (counts id.0 + 1) (counted id.0 counts))

-- the try is over: it has failed where nothing is left over, else it has broken off
abbrev pub stopped : Blame → ℕ → Bool → TryEnd
stopped cause over true = Failed cause
stopped cause over false = Broken cause over

-- halting kinds end the try: found where the domain declares them all, else handed up
abbrev pub halted : Try → ℕ → ℕ → Counts → Bool → Told TryEnd
halted h halts notes counts true =
    told (only_events (Halted h.node halts ∷ Found h.node (bit_and notes h.detects) ∷ [])) counts
    (Failed (blame h.node (bit_and notes h.detects)))
halted h halts notes counts false =
    told (only_events (Halted h.node halts ∷ [])) counts
    (Broken (blame h.node halts) (kinds_without halts h.detects))

-- where none of these kinds halts the try goes on with the notes
abbrev pub unless_halted : Try → ℕ → ℕ → Counts → (ℕ → Told TryEnd) → Bool → Told TryEnd
unless_halted h halts notes counts next true = next notes
unless_halted h halts notes counts next false =
    halted h halts notes counts (kinds_without halts h.detects == no_kinds)

-- the try comes to a point: faults strike, and their kinds join the notes
abbrev pub arrived : Case → Try → ℕ → ℕ → Counts → (ℕ → Told TryEnd) → Told TryEnd
arrived w h point notes counts next =
    let hits : List Fault = struck w.faults h.node h.begin point in
    after (record { events = Reached h.node point ∷ []; repeats = 0; strikes = length hits })
    (unless_halted h (bit_and (kinds_of hits) w.halts) (bit_or notes (kinds_of hits)) counts next
    (bit_and (kinds_of hits) w.halts == no_kinds))

-- behind the last point: the notes that the domain declares are found; where there are none the try has passed
abbrev pub judged : NodeId → ℕ → ℕ → Bool → TryEnd
judged id notes found true = Passed notes
judged id notes found false = Failed (blame id found)

abbrev pub detected : Try → ℕ → Counts → Told TryEnd
detected h notes counts =
    told (only_events (Found h.node (bit_and notes h.detects) ∷ [])) counts
    (judged h.node notes (bit_and notes h.detects) (bit_and notes h.detects == no_kinds))

-- behind a group: the members' leaks join the notes, or the try is over
abbrev pub group_ended : Try → ℕ → Counts → GroupEnd → (ℕ → Counts → Told TryEnd) → Told TryEnd
group_ended h notes counts (AllDone leaks) next = next (bit_or notes leaks) counts
group_ended h notes counts (SomeEscalated cause over) next =
    told silence counts (stopped cause (kinds_without over h.detects) (kinds_without over h.detects == no_kinds))

abbrev pub behind_group : Try → ℕ → Told GroupEnd → (ℕ → Counts → Told TryEnd) → Told TryEnd
behind_group h notes t next = after t.past (group_ended h notes t.counts t.answer next)

-- a group's end is the first member's and that of the rest; the first escalation has the cause
abbrev pub ends_joined : NodeEnd → GroupEnd → GroupEnd
ends_joined (Done leak) (AllDone leaks) = AllDone (bit_or leak leaks)
ends_joined (Done leak) (SomeEscalated cause over) = SomeEscalated cause over
ends_joined (Escalated cause over) (AllDone leaks) = SomeEscalated cause over
ends_joined (Escalated cause over) (SomeEscalated other more) = SomeEscalated cause (bit_or over more)

abbrev pub with_end : NodeEnd → Told GroupEnd → Told GroupEnd
with_end end t = record t { answer = ends_joined end t.answer }

abbrev pub with_member : Told NodeEnd → (Counts → Told GroupEnd) → Told GroupEnd
with_member t rest = after t.past (with_end t.answer (rest t.counts))

-- an escalating root first refills its entries
abbrev pub escalation : NodeId → Domain → Bool → List Event
escalation id domain true = refilled_from id 0 domain.entries ++ Escalate id ∷ []
escalation id domain false = Escalate id ∷ []

-- the domain's end after its last try
abbrev pub ended : NodeId → Domain → Told TryEnd → TryEnd → Told NodeEnd
ended id domain t (Passed leak) = after t.past (told (only_events (Complete id ∷ [])) t.counts (Done leak))
ended id domain t (Failed cause) =
    after t.past (told (only_events (escalation id domain (is_none domain.parent))) t.counts (Escalated cause no_kinds))
ended id domain t (Broken cause over) =
    after t.past (told (only_events (escalation id domain (is_none domain.parent))) t.counts (Escalated cause over))

-- a failed try is followed by another, any other try is the last
abbrev pub unless_failed : NodeId → Domain → Told TryEnd → TryEnd → (Counts → Told NodeEnd) → Told NodeEnd
unless_failed id domain t (Passed leak) next = ended id domain t (Passed leak)
unless_failed id domain t (Failed cause) next = after (record t.past { repeats = t.past.repeats + 1 }) (next t.counts)
unless_failed id domain t (Broken cause over) next = ended id domain t (Broken cause over)

-- the rest of a domain: this try, and as many more as are spare where it fails
abbrev pub tries : ℕ → NodeId → Domain → (Counts → Told TryEnd) → Told TryEnd → Told NodeEnd
tries zero id domain again t = ended id domain t t.answer
tries (suc spare) id domain again t = unless_failed id domain t t.answer (λ now. tries spare id domain again (again now))

unfoldable mutual
  -- a domain from its begin to its end
  pub read_node : Case → Node → Counts → Told NodeEnd
  read_node w (node id domain body) counts =
      tries (domain.retry - 1) id domain
      (λ now. begun id domain false now
      (λ begin more. read_points w body (record { node = id; detects = domain.detects; begin = begin }) 0 no_kinds more))
      (begun id domain true counts
      (λ begin more. read_points w body (record { node = id; detects = domain.detects; begin = begin }) 0 no_kinds more))

  -- a try from a point on, with the notes so far
  pub read_points : Case → Body → Try → ℕ → ℕ → Counts → Told TryEnd
  read_points w stop h point notes counts = arrived w h point notes counts (λ seen. detected h seen counts)
  read_points w (run op rest) h point notes counts =
      arrived w h point notes counts (λ seen. read_points w rest h (suc point) seen counts)
  read_points w (group members rest) h point notes counts =
      arrived w h point notes counts (λ seen.
      behind_group h seen (read_members w members counts) (λ all more. read_points w rest h (suc point) all more))

  -- the members of a group in order, all of them
  pub read_members : Case → Members → Counts → Told GroupEnd
  read_members w no_more counts = told silence counts (AllDone no_kinds)
  read_members w (member first rest) counts = with_member (read_node w first counts) (λ now. read_members w rest now)

-- one try of a domain
abbrev pub read_try : Case → NodeId → Domain → Body → Bool → Counts → Told TryEnd
read_try w id domain body first counts =
    begun id domain first counts
    (λ begin more. read_points w body (record { node = id; detects = domain.detects; begin = begin }) 0 no_kinds more)
