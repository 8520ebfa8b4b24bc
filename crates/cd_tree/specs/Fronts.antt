-- The fronts of a domain's reading: where its tries stand at their points, one by one, and what of the reading is left
-- behind each. A front is there exactly where the reading comes there.
use Rattle.std.specs.Prelude.{◌≡◌, ℕ, zero, suc, ◌+◌, ◌-◌, Bool, true, false, ◌==◌, bit_or, bit_and, [], ◌∷◌, Option, None, Some, length}
use Rattle.std.specs.Option.{option_and_then}
use Rattle.cd_tree.specs.declared.event.Event.TheVariants.{Begin, Reached}
use Rattle.cd_tree.specs.KindSets.{no_kinds}
use Rattle.cd_tree.specs.Domains.{Node, Body, Members, node, stop, run, group, domain_of}
use Rattle.cd_tree.specs.Scripts.{struck, kinds_of}
use Rattle.cd_tree.specs.Reading.{Case, Counts, Past, only_events, Told, told, after, TryEnd, Passed, Failed, Broken, NodeEnd, GroupEnd, AllDone, SomeEscalated, Try, prepared, counted, unless_halted, detected, group_ended, behind_group, tries, read_points, read_members, read_try}

-- where a try stands at a point: the kinds that were struck there, the notes with these, and the body from there on
pub record Stand : Type 0 where
  pub trying : Try
  pub point : ℕ
  pub kinds : ℕ
  pub notes : ℕ
  pub rest : Body

-- where a domain stands: how many more tries it may make, and where its try stands
pub record Front : Type 0 where
  pub spare : ℕ
  pub stand : Stand

abbrev pub stand_at : Case → Body → Try → ℕ → ℕ → Stand
stand_at w rest h point notes =
    let kinds : ℕ = kinds_of (struck w.faults h.node h.begin point) in
    record { trying = h; point = point; kinds = kinds; notes = bit_or notes kinds; rest = rest }

-- what the arrival at a point tells
abbrev pub arrival : Case → Try → ℕ → Past
arrival w h point =
    record { events = Reached h.node point ∷ []; repeats = 0; strikes = length (struck w.faults h.node h.begin point) }

-- a try arrives at a point, with the notes from before it
abbrev pub arrives : Case → ℕ → Body → Try → ℕ → ℕ → Counts → Told Front
arrives w spare rest h point notes counts =
    told (arrival w h point) counts (record { spare = spare; stand = stand_at w rest h point notes })

-- a try from its begin to its first point
abbrev pub begins : Case → Node → ℕ → Bool → Counts → Told Front
begins w (node id domain body) spare first counts =
    after (only_events (Begin id (counts id.0 + 1) ∷ prepared first id domain.entries))
    (arrives w spare body (record { node = id; detects = domain.detects; begin = counts id.0 + 1 }) 0 no_kinds
    (counted id.0 counts))

-- behind a group the try arrives at the next point, unless a member escalated
abbrev pub past_group : Told GroupEnd → GroupEnd → (ℕ → Told Front) → Option (Told Front)
past_group t (AllDone leaks) next = Some (after t.past (next leaks))
past_group t (SomeEscalated cause over) next = None

-- behind the item at a point the try arrives at the next point; behind the last point there is none
abbrev pub past_item : Case → ℕ → Body → Try → ℕ → ℕ → Counts → Option (Told Front)
past_item w spare stop h point notes counts = None
past_item w spare (run op rest) h point notes counts = Some (arrives w spare rest h (suc point) notes counts)
past_item w spare (group members rest) h point notes counts =
    let t : Told GroupEnd = read_members w members counts in
    past_group t t.answer (λ leaks. arrives w spare rest h (suc point) (bit_or notes leaks) t.counts)

-- this, with what came before it in front, where none of these kinds halts
abbrev pub where_none : Bool → Past → Option (Told Front) → Option (Told Front)
where_none none past None = None
where_none true past (Some f) = Some (after past f)
where_none false past (Some f) = None

-- the front at the next point of the same try
abbrev pub next_point : Case → Told Front → Option (Told Front)
next_point w f =
    let s : Stand = f.answer.stand in
    where_none (bit_and s.kinds w.halts == no_kinds) f.past
    (past_item w f.answer.spare s.rest s.trying s.point s.notes f.counts)

-- what a try does behind a point at which no kind halts
abbrev pub behind_point : Case → Body → Try → ℕ → ℕ → Counts → Told TryEnd
behind_point w stop h point notes counts = detected h notes counts
behind_point w (run op rest) h point notes counts = read_points w rest h (suc point) notes counts
behind_point w (group members rest) h point notes counts =
    behind_group h notes (read_members w members counts) (λ all now. read_points w rest h (suc point) all now)

-- what is left of a try behind its arrival at a point
abbrev pub behind_arrival : Case → Stand → Counts → Told TryEnd
behind_arrival w s counts =
    unless_halted s.trying (bit_and s.kinds w.halts) s.notes counts
    (λ notes. behind_point w s.rest s.trying s.point notes counts) (bit_and s.kinds w.halts == no_kinds)

-- a failed try is followed by another where one is to spare
abbrev pub tried : Case → Node → ℕ → Told TryEnd → TryEnd → Option (Told Front)
tried w d zero t end = None
tried w d (suc spare) t (Passed leak) = None
tried w d (suc spare) t (Failed cause) =
    Some (after (record t.past { repeats = t.past.repeats + 1 }) (begins w d spare false t.counts))
tried w d (suc spare) t (Broken cause over) = None

-- the front at the first point of the next try
abbrev pub next_try : Case → Node → Told Front → Option (Told Front)
next_try w d f =
    let t : Told TryEnd = after f.past (behind_arrival w f.answer.stand f.counts) in
    tried w d f.answer.spare t t.answer

-- the front at the first point of the first try
abbrev pub first_front : Case → Node → Counts → Told Front
first_front w d counts = begins w d ((domain_of d).retry - 1) true counts

-- the front at the first point of a try, tries counting from 0
abbrev pub front_of_try : ℕ → Case → Node → Counts → Option (Told Front)
front_of_try zero w d counts = Some (first_front w d counts)
front_of_try (suc t) w d counts = option_and_then (next_try w d) (front_of_try t w d counts)

-- the front so many points on
abbrev pub points_on : ℕ → Case → Option (Told Front) → Option (Told Front)
points_on zero w front = front
points_on (suc k) w front = option_and_then (next_point w) (points_on k w front)

-- the front of a domain's reading at its own arrival at a point in a try, tries counting from 1
abbrev pub front_of_node : Case → Node → Counts → ℕ → ℕ → Option (Told Front)
front_of_node w d counts zero point = None
front_of_node w d counts (suc t) point = points_on point w (front_of_try t w d counts)

-- what is left of a domain's reading behind a front
abbrev pub behind_front : Case → Node → Front → Counts → Told NodeEnd
behind_front w (node id domain body) f counts =
    tries f.spare id domain (λ now. read_try w id domain body false now) (behind_arrival w f.stand counts)

-- a front at which a domain waits for these members: their group stands at its point, and no kind that was struck there halts
pub record WaitsAt (w : Case) (f : Front) (members : Members) (behind : Body) : Type 0 where
  pub comes : f.stand.rest ≡ group members behind
  pub goes_on : bit_and f.stand.kinds w.halts ≡ no_kinds

-- what is left of a domain's reading behind a front at which it waited, with the end of the members and the counts there:
-- the try from the next point on, or, where a member escalated, what follows a try that is over
abbrev pub behind_members : Case → Node → Front → Body → Counts → GroupEnd → Told NodeEnd
behind_members w (node id domain body) f behind counts end =
    tries f.spare id domain (λ now. read_try w id domain body false now)
    (group_ended f.stand.trying f.stand.notes counts end
    (λ all now. read_points w behind f.stand.trying (suc f.stand.point) all now))
