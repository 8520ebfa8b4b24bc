-- How what was told before goes out of a part of the reading, and what stands at the begin of a try.
use Rattle.std.proofs.Common.{◌≡◌, ℕ, zero, suc, ◌+◌, Bool, true, false, ◌==◌, bit_and, List, [], ◌∷◌, ◌++◌, is_none, refl, ap, sym, ◌∙◌, arith, append_assoc}
use Rattle.cd_tree.specs.declared.domain.NodeId.{NodeId}
use Rattle.cd_tree.specs.declared.domain.Domain.{Domain}
use Rattle.cd_tree.specs.declared.event.Event.{Event}
use Rattle.cd_tree.specs.declared.event.Event.TheVariants.{Begin, Complete}
use Rattle.cd_tree.specs.KindSets.{no_kinds}
use Rattle.cd_tree.specs.Domains.{Body, node, stop, run, group}
use Rattle.cd_tree.specs.Reading.{Case, Counts, counted, Past, only_events, joined, Told, told, after, TryEnd, Passed, Failed, Broken, NodeEnd, Done, Escalated, Try, prepared, unless_halted, escalation, ended, unless_failed, tries, read_points, read_try}
use Rattle.cd_tree.specs.Fronts.{Stand, Front, stand_at, arrival, arrives, begins, behind_point, behind_arrival, behind_front}

-- the same past, with one repeat more
abbrev pub repeated : Past → Past
repeated p = record p { repeats = p.repeats + 1 }

joined_twice : (p q r : Past) → joined (joined p q) r ≡ joined p (joined q r)
joined_twice p q r =
    let make : List Event → ℕ → ℕ → Past = λ es n m. record { events = es; repeats = n; strikes = m } in
    let repeats : p.repeats + q.repeats + r.repeats ≡ p.repeats + (q.repeats + r.repeats) = omega arith in
    let strikes : p.strikes + q.strikes + r.strikes ≡ p.strikes + (q.strikes + r.strikes) = omega arith in
    ap (λ (es : List Event). make es (p.repeats + q.repeats + r.repeats) (p.strikes + q.strikes + r.strikes)) (append_assoc p.events q.events r.events)
    ∙ ap (λ (n : ℕ). make (p.events ++ (q.events ++ r.events)) n (p.strikes + q.strikes + r.strikes)) repeats
    ∙ ap (λ (m : ℕ). make (p.events ++ (q.events ++ r.events)) (p.repeats + (q.repeats + r.repeats)) m) strikes

pub after_twice : {A : Type 0} (p q : Past) (t : Told A) → after (joined p q) t ≡ after p (after q t)
after_twice p q t = ap (λ (x : Past). told x t.counts t.answer) (joined_twice p q t.past)

repeated_joined : (p q : Past) → repeated (joined p q) ≡ joined p (repeated q)
repeated_joined p q =
    let make : ℕ → Past = λ n. record { events = p.events ++ q.events; repeats = n; strikes = p.strikes + q.strikes } in
    let repeats : p.repeats + q.repeats + 1 ≡ p.repeats + (q.repeats + 1) = omega arith in
    ap make repeats

ended_after : (p : Past) (id : NodeId) (domain : Domain) (t : Told TryEnd) (end : TryEnd)
    → ended id domain (after p t) end ≡ after p (ended id domain t end)
ended_after p id domain t (Passed leak) = after_twice p t.past (told (only_events (Complete id ∷ [])) t.counts (Done leak))
ended_after p id domain t (Failed cause) =
    after_twice p t.past (told (only_events (escalation id domain (is_none domain.parent))) t.counts (Escalated cause no_kinds))
ended_after p id domain t (Broken cause over) =
    after_twice p t.past (told (only_events (escalation id domain (is_none domain.parent))) t.counts (Escalated cause over))

unless_failed_after : (p : Past) (id : NodeId) (domain : Domain) (t : Told TryEnd) (end : TryEnd) (next : Counts → Told NodeEnd)
    → unless_failed id domain (after p t) end next ≡ after p (unless_failed id domain t end next)
unless_failed_after p id domain t (Passed leak) next = ended_after p id domain t (Passed leak)
unless_failed_after p id domain t (Failed cause) next =
    ap (λ (x : Past). after x (next t.counts)) (repeated_joined p t.past)
    ∙ after_twice p (repeated t.past) (next t.counts)
unless_failed_after p id domain t (Broken cause over) next = ended_after p id domain t (Broken cause over)

pub tries_after : (p : Past) (spare : ℕ) (id : NodeId) (domain : Domain) (again : Counts → Told TryEnd) (t : Told TryEnd)
    → tries spare id domain again (after p t) ≡ after p (tries spare id domain again t)
tries_after p zero id domain again t = ended_after p id domain t t.answer
tries_after p (suc spare) id domain again t =
    unless_failed_after p id domain t t.answer (λ now. tries spare id domain again (again now))

-- the points are read by arriving at the first of them, and then what is left behind
pub read_by_arrival : (w : Case) (body : Body) (h : Try) (point notes : ℕ) (counts : Counts)
    → read_points w body h point notes counts ≡ after (arrival w h point) (behind_arrival w (stand_at w body h point notes) counts)
unfolding read_points
read_by_arrival w stop h point notes counts = refl
read_by_arrival w (run op rest) h point notes counts = refl
read_by_arrival w (group members rest) h point notes counts = refl

-- the same with what came before
pub arrives_leads : (w : Case) (p : Past) (spare : ℕ) (body : Body) (h : Try) (point notes : ℕ) (counts : Counts)
    → let g : Told Front = after p (arrives w spare body h point notes counts) in
    after p (read_points w body h point notes counts) ≡ after g.past (behind_arrival w g.answer.stand g.counts)
arrives_leads w p spare body h point notes counts =
    ap (after p) (read_by_arrival w body h point notes counts)
    ∙ sym (after_twice p (arrival w h point) (behind_arrival w (stand_at w body h point notes) counts))

-- a try is read from its front at its first point
pub begins_leads : (w : Case) (id : NodeId) (domain : Domain) (body : Body) (spare : ℕ) (first : Bool) (counts : Counts)
    → let g : Told Front = begins w (node id domain body) spare first counts in
    tries spare id domain (λ now. read_try w id domain body false now) (read_try w id domain body first counts)
    ≡ after g.past (behind_front w (node id domain body) g.answer g.counts)
begins_leads w id domain body spare first counts =
    let h : Try = record { node = id; detects = domain.detects; begin = counts id.0 + 1 } in
    let p : Past = only_events (Begin id (counts id.0 + 1) ∷ prepared first id domain.entries) in
    let g : Told Front = begins w (node id domain body) spare first counts in
    let again : Counts → Told TryEnd = λ now. read_try w id domain body false now in
    ap (tries spare id domain again) (arrives_leads w p spare body h 0 no_kinds (counted id.0 counts))
    ∙ tries_after g.past spare id domain again (behind_arrival w g.answer.stand g.counts)

-- where no kind that was struck halts, the try goes on
pub goes_on : (w : Case) (s : Stand) (counts : Counts) → (bit_and s.kinds w.halts == no_kinds) ≡ true
    → behind_arrival w s counts ≡ behind_point w s.rest s.trying s.point s.notes counts
goes_on w s counts none =
    ap (unless_halted s.trying (bit_and s.kinds w.halts) s.notes counts
    (λ notes. behind_point w s.rest s.trying s.point notes counts)) none
