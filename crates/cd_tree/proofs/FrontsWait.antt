-- Fronts at which a domain waits for the members of a group, what their end leaves, and when the next try is there.
use Rattle.std.proofs.Common.{◌≡◌, ℕ, zero, suc, Bool, true, false, ◌==◌, bit_or, bit_and, Option, None, Some, refl, ap, sym, ◌∙◌, subst}
use Rattle.std.specs.Option.{option_and_then}
use Rattle.cd_tree.specs.KindSets.{no_kinds}
use Rattle.cd_tree.specs.Domains.{Node, Body, Members, node, group}
use Rattle.cd_tree.specs.Reading.{Case, Counts, Told, after, TryEnd, GroupEnd, AllDone, SomeEscalated, group_ended, tries, read_points, read_members, read_try}
use Rattle.cd_tree.specs.Fronts.{Stand, Front, arrives, past_group, past_item, where_none, next_point, behind_point, behind_arrival, tried, next_try, front_of_try, points_on, front_of_node, WaitsAt}
use Rattle.cd_tree.specs.FrontLaws.{FirstPointIsThere, NextPointIsThere, NextTryIsThere, StandsThere, MembersLead, WaitingIsQuiet, PassesGroups, StopsAtGroups}
use Rattle.cd_tree.proofs.FrontParts.{after_twice, tries_after, goes_on}
use Rattle.cd_tree.proofs.FrontSteps.{IfThere, Onward, next_onward}
use Rattle.cd_tree.proofs.FrontsStand.{fronts_lead, fronts_stand}

pub first_point_is_there : FirstPointIsThere
first_point_is_there w d counts = refl

pub next_point_is_there : NextPointIsThere
next_point_is_there w d counts zero point = refl
next_point_is_there w d counts (suc t) point = refl

-- where the reading comes to the next point, the same try follows this one as before
same_next : (w : Case) (d : Node) (f g : Told Front)
    → (Onward w (after f.past (behind_arrival w f.answer.stand f.counts)) f g) × ((bit_and f.answer.stand.kinds w.halts == no_kinds) ≡ true)
    → next_try w d g ≡ next_try w d f
same_next w d f g on =
    let over : Told TryEnd = after f.past (behind_arrival w f.answer.stand f.counts) in
    let more : Told TryEnd = after g.past (behind_arrival w g.answer.stand g.counts) in
    ap (λ (n : ℕ). tried w d n more more.answer) on.0.spare
    ∙ ap (λ (t : Told TryEnd). tried w d f.answer.spare t t.answer) (sym on.0.leads)

next_by_points : (w : Case) (d : Node) (counts : Counts) (t point : ℕ) (o : Option (Told Front))
    → ((f : Told Front) → o ≡ Some f → front_of_node w d counts (suc (suc t)) 0 ≡ next_try w d f)
    → (g : Told Front) → option_and_then (next_point w) o ≡ Some g → front_of_node w d counts (suc (suc t)) 0 ≡ next_try w d g
next_by_points w d counts t point None before g e = cc
next_by_points w d counts t point (Some f) before g e =
    let on : (Onward w (after f.past (behind_arrival w f.answer.stand f.counts)) f g) × ((bit_and f.answer.stand.kinds w.halts == no_kinds) ≡ true) =
    subst (IfThere (λ g. (Onward w (after f.past (behind_arrival w f.answer.stand f.counts)) f g) × ((bit_and f.answer.stand.kinds w.halts == no_kinds) ≡ true)))
    e (next_onward w f) in
    before f refl ∙ sym (same_next w d f g on)

next_in_try : (w : Case) (d : Node) (counts : Counts) (t point : ℕ) (f : Told Front) → front_of_node w d counts (suc t) point ≡ Some f
    → front_of_node w d counts (suc (suc t)) 0 ≡ next_try w d f
next_in_try w d counts t zero f e = ap (option_and_then (next_try w d)) e
next_in_try w d counts t (suc point) f e =
    next_by_points w d counts t point (points_on point w (front_of_try t w d counts)) (λ g there. next_in_try w d counts t point g there) f e

pub next_try_is_there : NextTryIsThere
next_try_is_there w d counts zero point f e = cc
next_try_is_there w d counts (suc t) point f e = next_in_try w d counts t point f e

pub quiet_test : (kinds : ℕ) → kinds ≡ no_kinds → (kinds == no_kinds) ≡ true
quiet_test kinds e = rw e refl

-- what is left of the try in hand where its domain waits: the members, and what their end leaves
pub waits_leads : (w : Case) (s : Stand) (counts : Counts) (members : Members) (behind : Body) → s.rest ≡ group members behind
    → bit_and s.kinds w.halts ≡ no_kinds
    → let all : Told GroupEnd = read_members w members counts in
    behind_arrival w s counts
    ≡ after all.past (group_ended s.trying s.notes all.counts all.answer (λ notes now. read_points w behind s.trying (suc s.point) notes now))
waits_leads w s counts members behind comes quiet =
    goes_on w s counts (quiet_test (bit_and s.kinds w.halts) quiet)
    ∙ ap (λ (b : Body). behind_point w b s.trying s.point s.notes counts) comes

pub members_lead : MembersLead
members_lead w (node id domain body) counts t point f members behind e waits =
    let again : Counts → Told TryEnd = λ now. read_try w id domain body false now in
    let s : Stand = f.answer.stand in
    let all : Told GroupEnd = read_members w members f.counts in
    let left : Told TryEnd = group_ended s.trying s.notes all.counts all.answer (λ notes now. read_points w behind s.trying (suc s.point) notes now) in
    after_twice f.past all.past (tries f.answer.spare id domain again left)
    ∙ ap (after f.past) (sym (tries_after all.past f.answer.spare id domain again left))
    ∙ ap (λ (x : Told TryEnd). after f.past (tries f.answer.spare id domain again x))
    (sym (waits_leads w s f.counts members behind waits.comes waits.goes_on))
    ∙ fronts_lead w (node id domain body) counts t point f e

pub waiting_is_quiet : WaitingIsQuiet
waiting_is_quiet w (node id domain body) counts t point f members behind e waits =
    let stands : StandsThere w id domain body counts t point f.answer f.counts = fronts_stand w id domain body counts t point f e in
    stands.notes ∙ waits.goes_on

pub next_there : (w : Case) (d : Node) (counts : Counts) (t point : ℕ) (f : Told Front) → front_of_node w d counts t point ≡ Some f
    → front_of_node w d counts t (suc point) ≡ next_point w f
next_there w d counts t point f e = next_point_is_there w d counts t point ∙ ap (option_and_then (next_point w)) e

-- the next point where a domain waits, by the end of the members
pub next_waiting : (w : Case) (f : Told Front) (members : Members) (behind : Body) (end : GroupEnd) → WaitsAt w f.answer members behind
    → (read_members w members f.counts).answer ≡ end
    → let s : Stand = f.answer.stand in
    let all : Told GroupEnd = read_members w members f.counts in
    next_point w f
    ≡ where_none true f.past (past_group all end (λ leaks. arrives w f.answer.spare behind s.trying (suc s.point) (bit_or s.notes leaks) all.counts))
next_waiting w f members behind end waits is =
    let s : Stand = f.answer.stand in
    let all : Told GroupEnd = read_members w members f.counts in
    let next : ℕ → Told Front = λ leaks. arrives w f.answer.spare behind s.trying (suc s.point) (bit_or s.notes leaks) all.counts in
    ap (λ (none : Bool). where_none none f.past (past_item w f.answer.spare s.rest s.trying s.point s.notes f.counts))
    (quiet_test (bit_and s.kinds w.halts) waits.goes_on)
    ∙ ap (λ (b : Body). where_none true f.past (past_item w f.answer.spare b s.trying s.point s.notes f.counts)) waits.comes
    ∙ ap (λ (x : GroupEnd). where_none true f.past (past_group all x next)) is

pub passes_groups : PassesGroups
passes_groups w d counts t point f members behind leaks e waits is =
    let s : Stand = f.answer.stand in
    let all : Told GroupEnd = read_members w members f.counts in
    let g : Told Front = arrives w f.answer.spare behind s.trying (suc s.point) (bit_or s.notes leaks) all.counts in
    next_there w d counts t point f e
    ∙ next_waiting w f members behind (AllDone leaks) waits is
    ∙ ap (λ (x : Told Front). Some x) (sym (after_twice f.past all.past g))

pub stops_at_groups : StopsAtGroups
stops_at_groups w d counts t point f members behind cause over e waits is =
    next_there w d counts t point f e ∙ next_waiting w f members behind (SomeEscalated cause over) waits is
