-- Each arrival of a domain in its record is one of its fronts, and each front ends with its arrival.
use Rattle.std.proofs.Common.{◌≡◌, ℕ, zero, suc, ◌+◌, ◌-◌, Bool, true, false, ◌==◌, bit_or, bit_and, List, [], ◌∷◌, ◌++◌, Some, is_none, refl, ap, sym, ◌∙◌, subst, append_assoc, inl, inr}
use Rattle.std.proofs.lemmas.Bool.{cases_Bool, eqb-true}
use Rattle.cd_tree.specs.declared.domain.NodeId.{NodeId}
use Rattle.cd_tree.specs.declared.domain.Domain.{Domain}
use Rattle.cd_tree.specs.declared.event.Event.{Event}
use Rattle.cd_tree.specs.declared.event.Event.TheVariants.{Begin, Reached, Complete, Escalate}
use Rattle.cd_tree.specs.KindSets.{no_kinds, kinds_without}
use Rattle.cd_tree.specs.Domains.{Node, Body, Members, node, stop, run, group, body_numbers, member_numbers}
use Rattle.cd_tree.specs.declared.operation.Op.{Op}
use Rattle.cd_tree.specs.Reading.{Case, Counts, Past, joined, Told, told, after, TryEnd, Passed, Failed, Broken, NodeEnd, GroupEnd, AllDone, SomeEscalated, Try, refilled_from, prepared, escalation, halted, unless_halted, group_ended, ended, unless_failed, tries, read_node, read_points, read_members, read_try}
use Rattle.cd_tree.specs.Fronts.{Stand, Front, arrives, begins, past_item, where_none, next_point, behind_point, behind_arrival, tried, front_of_node, behind_front, WaitsAt}
use Rattle.cd_tree.specs.FrontLaws.{StandsThere, FrontBehind, FrontsEndThere, ArrivalsAreFronts, teller_of}
use Rattle.cd_tree.specs.Slices.{among}
use Rattle.cd_base.proofs.ListLemmas.{Each, each_append}
use Rattle.cd_tree.proofs.TellOwn.{TellerIn, members_tell_own}
use Rattle.cd_tree.proofs.Arrivals.{NoArrival, split, not_among, arrivals, append_nil, begin_none, refilled_none}
use Rattle.cd_tree.proofs.FrontParts.{repeated, read_by_arrival, begins_leads, goes_on}
use Rattle.cd_tree.proofs.FrontSteps.{Onward, next_onward, tried_all, among_neither, behind_has_no_more}
use Rattle.cd_tree.proofs.FrontsStand.{Kept, in_fronts, if_there, fronts_stand}
use Rattle.cd_tree.proofs.FrontsWait.{next_there, next_try_is_there, passes_groups}

-- each arrival among these events, behind those that were told before, has the property
abbrev Shows : (List Event → ℕ → Type 0) → NodeId → List Event → List Event → Type 0
Shows At id told events =
    (before after : List Event) (k : ℕ) → events ≡ before ++ Reached id k ∷ after → At (told ++ before) k

shows_none : (At : List Event → ℕ → Type 0) (id : NodeId) (told events : List Event) → Each (NoArrival id) events → Shows At id told events
shows_none At id told events none before after k e = not_among id events before after k none e

-- arrivals in the first of two lists alone
shows_first : (At : List Event → ℕ → Type 0) (id : NodeId) (told first second : List Event) → Shows At id told first
    → Each (NoArrival id) second → Shows At id told (first ++ second)
shows_first At id told first second shows none before after k e =
    elim (split first second before after (Reached id k) e) [
      | inl (rest, inside) ↦ shows before rest k inside
      | inr (between, is, behind) ↦ not_among id second between after k none behind
    ]

shows_both : (At : List Event → ℕ → Type 0) (id : NodeId) (told first second : List Event) → Shows At id told first
    → Shows At id (told ++ first) second → Shows At id told (first ++ second)
shows_both At id told first second shows more before after k e =
    elim (split first second before after (Reached id k) e) [
      | inl (rest, inside) ↦ shows before rest k inside
      | inr (between, is, behind) ↦
          subst (λ (xs : List Event). At xs k) (append_assoc told first between ∙ ap (λ (xs : List Event). told ++ xs) (sym is))
          (more between after k behind)
    ]

halted_none : (id : NodeId) (h : Try) (halts notes : ℕ) (counts : Counts) (declared : Bool)
    → Each (NoArrival id) (halted h halts notes counts declared).past.events
halted_none id h halts notes counts true = (λ point e. absurd (cc), (λ point e. absurd (cc), tt))
halted_none id h halts notes counts false = (λ point e. absurd (cc), tt)

-- where a kind halts nothing more is reached
shows_quiet : (At : List Event → ℕ → Type 0) (id : NodeId) (told : List Event) (w : Case) (s : Stand) (counts : Counts)
    → ((bit_and s.kinds w.halts == no_kinds) ≡ true
    → Shows At id told (behind_point w s.rest s.trying s.point s.notes counts).past.events)
    → Shows At id told (behind_arrival w s counts).past.events
shows_quiet At id told w s counts on =
    let halts : ℕ = bit_and s.kinds w.halts in
    let next : ℕ → Told TryEnd = λ notes. behind_point w s.rest s.trying s.point notes counts in
    let at : Bool → Told TryEnd = λ none. unless_halted s.trying halts s.notes counts next none in
    elim (cases_Bool (halts == no_kinds)) [
      | inl none ↦ subst (λ (x : Told TryEnd). Shows At id told x.past.events) (sym (ap at none)) (on none)
      | inr some ↦
          subst (λ (x : Told TryEnd). Shows At id told x.past.events) (sym (ap at some))
          (shows_none At id told (halted s.trying halts s.notes counts (kinds_without halts s.trying.detects == no_kinds)).past.events
          (halted_none id s.trying halts s.notes counts (kinds_without halts s.trying.detects == no_kinds)))
    ]

-- a front whose events are these and then some without an arrival and its own, and what is left behind it
front_shows : (w : Case) (id : NodeId) (domain : Domain) (body : Body) (counts : Counts) (t point : ℕ) (g : Told Front) (told q rest : List Event)
    → front_of_node w (node id domain body) counts t point ≡ Some g → g.past.events ≡ told ++ (q ++ Reached id point ∷ [])
    → Each (NoArrival id) q → Shows (FrontBehind w id domain body counts) id g.past.events rest
    → Shows (FrontBehind w id domain body counts) id told ((q ++ Reached id point ∷ []) ++ rest)
front_shows w id domain body counts t point g told q rest is events none later =
    let At : List Event → ℕ → Type 0 = FrontBehind w id domain body counts in
    let here : At (told ++ q) point =
    record { attempt = t; front = g; is = is; events = events ∙ sym (append_assoc told q (Reached id point ∷ [])) } in
    arrivals At id told q rest point none here
    (λ before after k e. subst (λ (xs : List Event). At (xs ++ before) k) events (later before after k e))

-- the next arrival of a try, with events that were told on the way
arrival_shows : (w : Case) (id : NodeId) (domain : Domain) (body : Body) (counts : Counts) (t point : ℕ) (f : Told Front) (q : List Event)
    (p : Past) (left : Body) (seen : ℕ) (now : Counts)
    → f.answer.stand.trying.node ≡ id → f.answer.stand.point ≡ point
    → let g : Told Front = after p (arrives w f.answer.spare left f.answer.stand.trying (suc f.answer.stand.point) seen now) in
    front_of_node w (node id domain body) counts t (suc point) ≡ Some g
    → p.events ≡ f.past.events ++ q → Each (NoArrival id) q
    → Shows (FrontBehind w id domain body counts) id g.past.events (behind_arrival w g.answer.stand g.counts).past.events
    → Shows (FrontBehind w id domain body counts) id f.past.events
    (q ++ (read_points w left f.answer.stand.trying (suc f.answer.stand.point) seen now).past.events)
arrival_shows w id domain body counts t point f q p left seen now node_is point_is is events none later =
    let s : Stand = f.answer.stand in
    let h : Try = s.trying in
    let g : Told Front = after p (arrives w f.answer.spare left h (suc s.point) seen now) in
    let rest : List Event = (behind_arrival w g.answer.stand g.counts).past.events in
    let same : Reached h.node (suc s.point) ≡ Reached id (suc point) =
    ap (λ (n : NodeId). Reached n (suc s.point)) node_is ∙ ap (λ (k : ℕ). Reached id (suc k)) point_is in
    let told_is : g.past.events ≡ f.past.events ++ (q ++ Reached id (suc point) ∷ []) =
    ap (λ (xs : List Event). xs ++ Reached h.node (suc s.point) ∷ []) events
    ∙ ap (λ (e : Event). (f.past.events ++ q) ++ e ∷ []) same
    ∙ append_assoc f.past.events q (Reached id (suc point) ∷ []) in
    let read_is : q ++ (read_points w left h (suc s.point) seen now).past.events ≡ (q ++ Reached id (suc point) ∷ []) ++ rest =
    ap (λ (x : Told TryEnd). q ++ x.past.events) (read_by_arrival w left h (suc s.point) seen now)
    ∙ ap (λ (e : Event). q ++ e ∷ rest) same
    ∙ sym (append_assoc q (Reached id (suc point) ∷ []) rest) in
    subst (Shows (FrontBehind w id domain body counts) id f.past.events) (sym read_is)
    (front_shows w id domain body counts t (suc point) g f.past.events q rest is told_is none later)

-- the next front behind an operation
next_running : (w : Case) (f : Told Front) (op : Op) (left : Body) → f.answer.stand.rest ≡ run op left
    → (bit_and f.answer.stand.kinds w.halts == no_kinds) ≡ true
    → next_point w f ≡ Some (after f.past (arrives w f.answer.spare left f.answer.stand.trying (suc f.answer.stand.point) f.answer.stand.notes f.counts))
next_running w f op left is none =
    let s : Stand = f.answer.stand in
    ap (λ (b : Bool). where_none b f.past (past_item w f.answer.spare s.rest s.trying s.point s.notes f.counts)) none
    ∙ ap (λ (b : Body). where_none true f.past (past_item w f.answer.spare b s.trying s.point s.notes f.counts)) is

-- members tell no arrival of the domain that they stand in
members_none : (w : Case) (id : NodeId) (members : Members) (counts : Counts) → among (member_numbers members) id.0 ≡ false
    → Each (NoArrival id) (read_members w members counts).past.events
members_none w id members counts out =
    each (read_members w members counts).past.events (members_tell_own w members counts)
  where
    each : (events : List Event) → Each (TellerIn (among (member_numbers members))) events → Each (NoArrival id) events
    each [] all = tt
    each (event ∷ events) (here, all) = (
      λ point e.
          let inside : among (member_numbers members) id.0 ≡ true = ap (λ (x : Event). among (member_numbers members) (teller_of x).0) (sym e) ∙ here in
          let no : true ≡ false = sym inside ∙ out in
          absurd (cc),
      each events all,
    )

silent_group : (At : List Event → ℕ → Type 0) (id : NodeId) (told events : List Event) → Each (NoArrival id) events → Shows At id told (events ++ [])
silent_group At id told events none = shows_none At id told (events ++ []) (each_append (NoArrival id) events [] none tt)

-- behind a group of which this is the end
by_end : (w : Case) (id : NodeId) (domain : Domain) (body : Body) (counts : Counts) (t point : ℕ) (f : Told Front) (members : Members) (rest : Body)
    (end : GroupEnd) → (read_members w members f.counts).answer ≡ end
    → front_of_node w (node id domain body) counts t point ≡ Some f → WaitsAt w f.answer members rest
    → Each (NoArrival id) (read_members w members f.counts).past.events
    → StandsThere w id domain body counts t point f.answer f.counts
    → ((g : Told Front) → front_of_node w (node id domain body) counts t (suc point) ≡ Some g → g.answer.stand.rest ≡ rest
    → Shows (FrontBehind w id domain body counts) id g.past.events (behind_arrival w g.answer.stand g.counts).past.events)
    → Shows (FrontBehind w id domain body counts) id f.past.events
    (behind_point w (group members rest) f.answer.stand.trying f.answer.stand.point f.answer.stand.notes f.counts).past.events
by_end w id domain body counts t point f members rest (SomeEscalated cause over) end is waits quiet stands later =
    let At : List Event → ℕ → Type 0 = FrontBehind w id domain body counts in
    let s : Stand = f.answer.stand in
    let all : Told GroupEnd = read_members w members f.counts in
    let next : ℕ → Counts → Told TryEnd = λ notes now. read_points w rest s.trying (suc s.point) notes now in
    subst (λ (x : GroupEnd). Shows At id f.past.events (all.past.events ++ (group_ended s.trying s.notes all.counts x next).past.events)) (sym end)
    (silent_group At id f.past.events all.past.events quiet)
by_end w id domain body counts t point f members rest (AllDone leaks) end is waits quiet stands later =
    let At : List Event → ℕ → Type 0 = FrontBehind w id domain body counts in
    let s : Stand = f.answer.stand in
    let all : Told GroupEnd = read_members w members f.counts in
    let next : ℕ → Counts → Told TryEnd = λ notes now. read_points w rest s.trying (suc s.point) notes now in
    let seen : ℕ = bit_or s.notes leaks in
    let g : Told Front = after (joined f.past all.past) (arrives w f.answer.spare rest s.trying (suc s.point) seen all.counts) in
    let there : front_of_node w (node id domain body) counts t (suc point) ≡ Some g =
    passes_groups w (node id domain body) counts t point f members rest leaks is waits end in
    subst (λ (x : GroupEnd). Shows At id f.past.events (all.past.events ++ (group_ended s.trying s.notes all.counts x next).past.events)) (sym end)
    (arrival_shows w id domain body counts t point f all.past.events (joined f.past all.past) rest seen all.counts stands.node stands.at there
    refl quiet (later g there refl))

-- each arrival in what is left of a try is a front
try_shows : (w : Case) (id : NodeId) (domain : Domain) (body : Body) (counts : Counts) → among (body_numbers body) id.0 ≡ false
    → (left : Body) (t point : ℕ) (f : Told Front) → front_of_node w (node id domain body) counts t point ≡ Some f
    → f.answer.stand.rest ≡ left → among (body_numbers left) id.0 ≡ false
    → Shows (FrontBehind w id domain body counts) id f.past.events (behind_arrival w f.answer.stand f.counts).past.events
try_shows w id domain body counts out stop t point f is left below =
    let At : List Event → ℕ → Type 0 = FrontBehind w id domain body counts in
    let s : Stand = f.answer.stand in
    shows_quiet At id f.past.events w s f.counts
    (λ none.
    subst (λ (b : Body). Shows At id f.past.events (behind_point w b s.trying s.point s.notes f.counts).past.events) (sym left)
    (shows_none At id f.past.events (behind_point w stop s.trying s.point s.notes f.counts).past.events (λ k e. absurd (cc), tt)))
try_shows w id domain body counts out (run op rest) t point f is left below =
    let At : List Event → ℕ → Type 0 = FrontBehind w id domain body counts in
    let s : Stand = f.answer.stand in
    let g : Told Front = after f.past (arrives w f.answer.spare rest s.trying (suc s.point) s.notes f.counts) in
    let stands : StandsThere w id domain body counts t point f.answer f.counts = fronts_stand w id domain body counts t point f is in
    shows_quiet At id f.past.events w s f.counts
    (λ none.
    let there : front_of_node w (node id domain body) counts t (suc point) ≡ Some g =
    next_there w (node id domain body) counts t point f is ∙ next_running w f op rest left none in
    subst (λ (b : Body). Shows At id f.past.events (behind_point w b s.trying s.point s.notes f.counts).past.events) (sym left)
    (arrival_shows w id domain body counts t point f [] f.past rest s.notes f.counts stands.node stands.at there
    (sym (append_nil f.past.events)) tt
    (try_shows w id domain body counts out rest t (suc point) g there refl below)))
try_shows w id domain body counts out (group members rest) t point f is left below =
    let At : List Event → ℕ → Type 0 = FrontBehind w id domain body counts in
    let s : Stand = f.answer.stand in
    let all : Told GroupEnd = read_members w members f.counts in
    let outside = among_neither (member_numbers members) (body_numbers rest) id.0 below in
    let quiet : Each (NoArrival id) all.past.events = members_none w id members f.counts outside.0 in
    let stands : StandsThere w id domain body counts t point f.answer f.counts = fronts_stand w id domain body counts t point f is in
    shows_quiet At id f.past.events w s f.counts
    (λ none.
    let waits : WaitsAt w f.answer members rest = record { comes = left; goes_on = eqb-true (bit_and s.kinds w.halts) no_kinds none } in
    subst (λ (b : Body). Shows At id f.past.events (behind_point w b s.trying s.point s.notes f.counts).past.events) (sym left)
    (by_end w id domain body counts t point f members rest all.answer refl is waits quiet stands
    (λ g there is_left. try_shows w id domain body counts out rest t (suc point) g there is_left outside.1)))

-- the same from any front
left_shows : (w : Case) (id : NodeId) (domain : Domain) (body : Body) (counts : Counts) → among (body_numbers body) id.0 ≡ false
    → (t point : ℕ) (f : Told Front) → front_of_node w (node id domain body) counts t point ≡ Some f
    → Shows (FrontBehind w id domain body counts) id f.past.events (behind_arrival w f.answer.stand f.counts).past.events
left_shows w id domain body counts out t point f is =
    let stands : StandsThere w id domain body counts t point f.answer f.counts = fronts_stand w id domain body counts t point f is in
    try_shows w id domain body counts out f.answer.stand.rest t point f is refl
    (subst (λ (b : Body). among (body_numbers b) id.0 ≡ false) (sym stands.rest) (behind_has_no_more point body id.0 out))

refills_none : (id : NodeId) (domain : Domain) (root : Bool) → Each (NoArrival id) (escalation id domain root)
refills_none id domain true =
    each_append (NoArrival id) (refilled_from id 0 domain.entries) (Escalate id ∷ []) (refilled_none id 0 domain.entries) (λ k e. absurd (cc), tt)
refills_none id domain false = (λ k e. absurd (cc), tt)

ended_shows : (At : List Event → ℕ → Type 0) (told : List Event) (id : NodeId) (domain : Domain) (t : Told TryEnd) (end : TryEnd)
    → Shows At id told t.past.events → Shows At id told (ended id domain t end).past.events
ended_shows At told id domain t (Passed leak) shows = shows_first At id told t.past.events (Complete id ∷ []) shows (λ k e. absurd (cc), tt)
ended_shows At told id domain t (Failed cause) shows =
    shows_first At id told t.past.events (escalation id domain (is_none domain.parent)) shows (refills_none id domain (is_none domain.parent))
ended_shows At told id domain t (Broken cause over) shows =
    shows_first At id told t.past.events (escalation id domain (is_none domain.parent)) shows (refills_none id domain (is_none domain.parent))

unless_failed_shows : (At : List Event → ℕ → Type 0) (told : List Event) (id : NodeId) (domain : Domain) (t : Told TryEnd) (end : TryEnd)
    (next : Counts → Told NodeEnd) → Shows At id told t.past.events
    → ((cause : _) → end ≡ Failed cause → Shows At id (told ++ t.past.events) (next t.counts).past.events)
    → Shows At id told (unless_failed id domain t end next).past.events
unless_failed_shows At told id domain t (Passed leak) next shows more = ended_shows At told id domain t (Passed leak) shows
unless_failed_shows At told id domain t (Failed cause) next shows more =
    shows_both At id told t.past.events (next t.counts).past.events shows (more cause refl)
unless_failed_shows At told id domain t (Broken cause over) next shows more = ended_shows At told id domain t (Broken cause over) shows

-- a try from its begin on, where what is left behind its first point shows its arrivals
begin_shows : (w : Case) (id : NodeId) (domain : Domain) (body : Body) (counts : Counts) (t spare : ℕ) (first : Bool) (now : Counts) (g : Told Front)
    (told : List Event)
    → let b : Told Front = begins w (node id domain body) spare first now in
    front_of_node w (node id domain body) counts t 0 ≡ Some g → g.past.events ≡ told ++ b.past.events
    → Shows (FrontBehind w id domain body counts) id g.past.events (behind_front w (node id domain body) b.answer b.counts).past.events
    → Shows (FrontBehind w id domain body counts) id told
    (tries spare id domain (λ now. read_try w id domain body false now) (read_try w id domain body first now)).past.events
begin_shows w id domain body counts t spare first now g told is events later =
    let b : Told Front = begins w (node id domain body) spare first now in
    let q : List Event = Begin id (now id.0 + 1) ∷ prepared first id domain.entries in
    subst (λ (x : Told NodeEnd). Shows (FrontBehind w id domain body counts) id told x.past.events)
    (sym (begins_leads w id domain body spare first now))
    (front_shows w id domain body counts t 0 g told q (behind_front w (node id domain body) b.answer b.counts).past.events is events
    (begin_none id (now id.0 + 1) first domain.entries) later)

-- each arrival in what is left of a domain's reading is a front
tries_show : (w : Case) (id : NodeId) (domain : Domain) (body : Body) (counts : Counts) → among (body_numbers body) id.0 ≡ false
    → (spare t point : ℕ) (f : Told Front) → front_of_node w (node id domain body) counts t point ≡ Some f → f.answer.spare ≡ spare
    → Shows (FrontBehind w id domain body counts) id f.past.events
    (tries spare id domain (λ now. read_try w id domain body false now) (behind_arrival w f.answer.stand f.counts)).past.events
tries_show w id domain body counts out zero t point f is spare =
    let rest : Told TryEnd = behind_arrival w f.answer.stand f.counts in
    ended_shows (FrontBehind w id domain body counts) f.past.events id domain rest rest.answer
    (left_shows w id domain body counts out t point f is)
tries_show w id domain body counts out (suc less) t point f is spare =
    let d : Node = node id domain body in
    let again : Counts → Told TryEnd = λ now. read_try w id domain body false now in
    let rest : Told TryEnd = behind_arrival w f.answer.stand f.counts in
    let over : Told TryEnd = after f.past rest in
    let left : Shows (FrontBehind w id domain body counts) id f.past.events rest.past.events =
    left_shows w id domain body counts out t point f is in
    let g : Told Front = after (repeated over.past) (begins w d less false rest.counts) in
    unless_failed_shows (FrontBehind w id domain body counts) f.past.events id domain rest rest.answer
    (λ now. tries less id domain again (again now)) left
    (λ cause failed.
    let there : front_of_node w d counts (suc t) 0 ≡ Some g =
    next_try_is_there w d counts t point f is
    ∙ ap (λ (n : ℕ). tried w d n over over.answer) spare
    ∙ ap (λ (end : TryEnd). tried w d (suc less) over end) failed in
    begin_shows w id domain body counts (suc t) less false rest.counts g over.past.events there refl
    (tries_show w id domain body counts out less (suc t) 0 g there refl))

pub arrivals_are_fronts : ArrivalsAreFronts
unfolding read_node
arrivals_are_fronts w id domain body counts before rest point out e =
    let b : Told Front = begins w (node id domain body) (domain.retry - 1) true counts in
    begin_shows w id domain body counts 1 (domain.retry - 1) true counts b [] refl refl
    (tries_show w id domain body counts out (domain.retry - 1) 1 0 b refl refl) before rest point e

-- a front ends with its arrival
abbrev EndsThere : Told Front → Type 0
EndsThere f = (before : List Event) × (f.past.events ≡ before ++ Reached f.answer.stand.trying.node f.answer.stand.point ∷ [])

ends_kept : (w : Case) (id : NodeId) (domain : Domain) (body : Body) (counts : Counts)
    → Kept w (node id domain body) counts (λ t point f. EndsThere f)
ends_kept w id domain body counts =
    let d : Node = node id domain body in
    record {
      start = (Begin id (counts id.0 + 1) ∷ prepared true id domain.entries, refl);
      onward = λ t point f ends.
          if_there (λ g. (Onward w (after f.past (behind_arrival w f.answer.stand f.counts)) f g) × ((bit_and f.answer.stand.kinds w.halts == no_kinds) ≡ true))
          EndsThere (next_point w f) (λ g on. on.0.ends) (next_onward w f);
      again = λ t point f ends.
          let over : Told TryEnd = after f.past (behind_arrival w f.answer.stand f.counts) in
          tried_all EndsThere w d f.answer.spare over over.answer
          (λ less cause spare failed.
          let q : List Event = Begin id (over.counts id.0 + 1) ∷ prepared false id domain.entries in
          (over.past.events ++ q, sym (append_assoc over.past.events q (Reached id 0 ∷ []))));
    }

pub fronts_end_there : FrontsEndThere
fronts_end_there w id domain body counts t point f e =
    let ends : EndsThere f = in_fronts w (node id domain body) counts (λ t point f. EndsThere f) (ends_kept w id domain body counts) t point f e in
    let stands : StandsThere w id domain body counts t point f.answer f.counts = fronts_stand w id domain body counts t point f e in (
      ends.0,
      ends.1
          ∙ ap (λ (n : NodeId). ends.0 ++ Reached n f.answer.stand.point ∷ []) stands.node
          ∙ ap (λ (k : ℕ). ends.0 ++ Reached id k ∷ []) stands.at,
    )
