-- The laws of records and their fronts: who tells the events, where fronts are and what they tell, and that the reading
-- goes on from them.
use Rattle.std.specs.Prelude.{◌≡◌, ℕ, suc, ◌+◌, ◌-◌, ◌≤◌, true, false, bit_and, bit_or, List, [], ◌∷◌, ◌++◌, None, Some, All}
use Rattle.std.specs.Option.{option_and_then}
use Rattle.cd_tree.specs.declared.domain.NodeId.{NodeId}
use Rattle.cd_tree.specs.declared.domain.Domain.{Domain}
use Rattle.cd_tree.specs.declared.event.Event.{Event}
use Rattle.cd_tree.specs.declared.event.Event.TheVariants.{Begin, Saved, Fell, Lapsed, Refilled, Reached, Halted, Found, Complete, Escalate}
use Rattle.cd_tree.specs.KindSets.{no_kinds}
use Rattle.cd_tree.specs.Domains.{Node, Body, Members, node, body_behind, node_numbers, body_numbers}
use Rattle.cd_tree.specs.Scripts.{struck, kinds_of}
use Rattle.cd_tree.specs.Reading.{Case, Counts, Blame, joined, Told, after, GroupEnd, AllDone, SomeEscalated, read_node, read_members}
use Rattle.cd_tree.specs.Fronts.{Front, arrives, next_point, next_try, first_front, front_of_node, behind_front, behind_members, WaitsAt}
use Rattle.cd_tree.specs.Slices.{among}

-- a front, and behind it what is left, are the whole reading
abbrev pub FrontsLead : Type 0
FrontsLead =
    (w : Case) (d : Node) (counts : Counts) (t point : ℕ) (f : Told Front) → front_of_node w d counts t point ≡ Some f
    → after f.past (behind_front w d f.answer f.counts) ≡ read_node w d counts

-- the events of a front are a front of the record
abbrev pub RecordsBegin : Type 0
RecordsBegin =
    (w : Case) (d : Node) (counts : Counts) (t point : ℕ) (f : Told Front) → front_of_node w d counts t point ≡ Some f
    → (rest : List Event) × ((read_node w d counts).past.events ≡ f.past.events ++ rest)

-- the domain that tells an event
abbrev pub teller_of : Event → NodeId
teller_of (Begin id number) = id
teller_of (Saved id entry how) = id
teller_of (Fell id entry place wanted found) = id
teller_of (Lapsed id entry seen found) = id
teller_of (Refilled id entry) = id
teller_of (Reached id point) = id
teller_of (Halted id kinds) = id
teller_of (Found id kinds) = id
teller_of (Complete id) = id
teller_of (Escalate id) = id

-- a domain's reading tells events of the domain and of those below it alone
abbrev pub DomainsTellTheirOwn : Type 0
DomainsTellTheirOwn =
    (w : Case) (d : Node) (counts : Counts)
    → All (λ (event : Event). among (node_numbers d) (teller_of event).0 ≡ true) (read_node w d counts).past.events

-- a front at this point whose events are these, with the arrival behind them
pub record FrontBehind (w : Case) (id : NodeId) (domain : Domain) (body : Body) (counts : Counts) (before : List Event) (point : ℕ) : Type 0 where
  pub attempt : ℕ
  pub front : Told Front
  pub is : front_of_node w (node id domain body) counts attempt point ≡ Some front
  pub events : front.past.events ≡ before ++ Reached id point ∷ []

-- a front ends with the arrival at its point
abbrev pub FrontsEndThere : Type 0
FrontsEndThere =
    (w : Case) (id : NodeId) (domain : Domain) (body : Body) (counts : Counts) (t point : ℕ) (f : Told Front)
    → front_of_node w (node id domain body) counts t point ≡ Some f
    → (before : List Event) × (f.past.events ≡ before ++ Reached id point ∷ [])

-- each arrival of a domain in its record is a front of it
abbrev pub ArrivalsAreFronts : Type 0
ArrivalsAreFronts =
    (w : Case) (id : NodeId) (domain : Domain) (body : Body) (counts : Counts) (before rest : List Event) (point : ℕ)
    → among (body_numbers body) id.0 ≡ false
    → (read_node w (node id domain body) counts).past.events ≡ before ++ Reached id point ∷ rest
    → FrontBehind w id domain body counts before point

-- the first try is there at its first point
abbrev pub FirstPointIsThere : Type 0
FirstPointIsThere = (w : Case) (d : Node) (counts : Counts) → front_of_node w d counts 1 0 ≡ Some (first_front w d counts)

-- the next point of a try is there exactly where the try comes to it from the point before
abbrev pub NextPointIsThere : Type 0
NextPointIsThere =
    (w : Case) (d : Node) (counts : Counts) (t point : ℕ)
    → front_of_node w d counts t (suc point) ≡ option_and_then (next_point w) (front_of_node w d counts t point)

-- the next try is there exactly where it follows, by each front of the try before
abbrev pub NextTryIsThere : Type 0
NextTryIsThere =
    (w : Case) (d : Node) (counts : Counts) (t point : ℕ) (f : Told Front) → front_of_node w d counts t point ≡ Some f
    → front_of_node w d counts (suc t) 0 ≡ next_try w d f

-- where the t-th try of a domain stands at a point, with the counts there, when the reading began with these counts
pub record StandsThere (w : Case) (id : NodeId) (domain : Domain) (body : Body) (counts : Counts) (t point : ℕ) (front : Front) (now : Counts) : Type 0 where
  pub node : front.stand.trying.node ≡ id
  pub detects : front.stand.trying.detects ≡ domain.detects
  pub at : front.stand.point ≡ point
  pub rest : front.stand.rest ≡ body_behind point body
  pub kinds : front.stand.kinds ≡ kinds_of (struck w.faults id front.stand.trying.begin point)
  pub notes : bit_and front.stand.notes w.halts ≡ bit_and front.stand.kinds w.halts
  pub spare : front.spare + t ≡ 1 + (domain.retry - 1)
  pub own : among (body_numbers body) id.0 ≡ false → now id.0 ≡ front.stand.trying.begin
  pub begin : among (body_numbers body) id.0 ≡ false → front.stand.trying.begin ≡ counts id.0 + t

abbrev pub FrontsStand : Type 0
FrontsStand =
    (w : Case) (id : NodeId) (domain : Domain) (body : Body) (counts : Counts) (t point : ℕ) (f : Told Front)
    → front_of_node w (node id domain body) counts t point ≡ Some f
    → StandsThere w id domain body counts t point f.answer f.counts

-- a front at which the domain waits, then its members, and then what their end leaves, are the whole reading
abbrev pub MembersLead : Type 0
MembersLead =
    (w : Case) (d : Node) (counts : Counts) (t point : ℕ) (f : Told Front) (members : Members) (behind : Body)
    → front_of_node w d counts t point ≡ Some f → WaitsAt w f.answer members behind
    → let all : Told GroupEnd = read_members w members f.counts in
    after (joined f.past all.past) (behind_members w d f.answer behind all.counts all.answer) ≡ read_node w d counts

-- no kind that was noted before halts, where the domain waits
abbrev pub WaitingIsQuiet : Type 0
WaitingIsQuiet =
    (w : Case) (d : Node) (counts : Counts) (t point : ℕ) (f : Told Front) (members : Members) (behind : Body)
    → front_of_node w d counts t point ≡ Some f → WaitsAt w f.answer members behind → bit_and f.answer.stand.notes w.halts ≡ no_kinds

-- behind members that are all done the try comes to the next point
abbrev pub PassesGroups : Type 0
PassesGroups =
    (w : Case) (d : Node) (counts : Counts) (t point : ℕ) (f : Told Front) (members : Members) (behind : Body) (leaks : ℕ)
    → front_of_node w d counts t point ≡ Some f → WaitsAt w f.answer members behind
    → let all : Told GroupEnd = read_members w members f.counts in
    all.answer ≡ AllDone leaks
    → front_of_node w d counts t (suc point)
    ≡ Some (after (joined f.past all.past)
    (arrives w f.answer.spare behind f.answer.stand.trying (suc f.answer.stand.point) (bit_or f.answer.stand.notes leaks) all.counts))

-- behind members of which one escalated it does not
abbrev pub StopsAtGroups : Type 0
StopsAtGroups =
    (w : Case) (d : Node) (counts : Counts) (t point : ℕ) (f : Told Front) (members : Members) (behind : Body) (cause : Blame) (over : ℕ)
    → front_of_node w d counts t point ≡ Some f → WaitsAt w f.answer members behind
    → (read_members w members f.counts).answer ≡ SomeEscalated cause over
    → front_of_node w d counts t (suc point) ≡ None

-- where a try goes on from a point no kind that it has noted halts
abbrev pub PassedPointsAreQuiet : Type 0
PassedPointsAreQuiet =
    (w : Case) (d : Node) (counts : Counts) (t point : ℕ) (f g : Told Front)
    → front_of_node w d counts t point ≡ Some f → front_of_node w d counts t (suc point) ≡ Some g
    → bit_and f.answer.stand.notes w.halts ≡ no_kinds

-- no kind that the members of a group leak halts
abbrev pub NoGroupLeakHalts : Type 0
NoGroupLeakHalts =
    (w : Case) (members : Members) (counts : Counts) (leaks : ℕ) → (read_members w members counts).answer ≡ AllDone leaks
    → bit_and leaks w.halts ≡ no_kinds

-- the counts at a front lie between those before the reading and those after it
abbrev pub FrontCountsLieBetween : Type 0
FrontCountsLieBetween =
    (w : Case) (d : Node) (counts : Counts) (t point : ℕ) (f : Told Front) (n : ℕ) → front_of_node w d counts t point ≡ Some f
    → (counts n ≤ f.counts n) × (f.counts n ≤ (read_node w d counts).counts n)

-- those behind the members that a front waits for are not above those after the reading either
abbrev pub MemberCountsLieBelow : Type 0
MemberCountsLieBelow =
    (w : Case) (d : Node) (counts : Counts) (t point : ℕ) (f : Told Front) (members : Members) (behind : Body) (n : ℕ)
    → front_of_node w d counts t point ≡ Some f → WaitsAt w f.answer members behind
    → (read_members w members f.counts).counts n ≤ (read_node w d counts).counts n
