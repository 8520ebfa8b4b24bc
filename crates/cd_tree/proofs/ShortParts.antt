-- How many events a part of the reading tells: at most a number that comes from that part of the program, and as many again for
-- each repeat.
use Rattle.std.proofs.Common.{◌≡◌, ℕ, zero, suc, ◌+◌, ◌*◌, ◌≤◌, Bool, true, false, ◌==◌, bit_or, bit_and, List, [], ◌∷◌, is_none, length, refl, ap, arith, le_refl, mul-le-mul, length-append}
use Rattle.cd_tree.specs.declared.domain.NodeId.{NodeId}
use Rattle.cd_tree.specs.declared.domain.Entry.{Entry}
use Rattle.cd_tree.specs.declared.domain.Domain.{Domain}
use Rattle.cd_tree.specs.declared.document.Fault.{Fault}
use Rattle.cd_tree.specs.declared.event.Event.TheVariants.{Begin, Reached, Complete, Escalate}
use Rattle.cd_tree.specs.KindSets.{no_kinds, kinds_without}
use Rattle.cd_tree.specs.Scripts.{struck, kinds_of}
use Rattle.cd_tree.specs.Reading.{Case, Counts, counted, Past, only_events, Told, told, after, TryEnd, Passed, Failed, Broken, NodeEnd, Done, Escalated, GroupEnd, AllDone, SomeEscalated, Try, saved_from, refilled_from, prepared, begun, halted, unless_halted, arrived, detected, group_ended, behind_group, with_end, with_member, escalation, ended, unless_failed, tries}
use Rattle.cd_tree.proofs.Numbers.{growth-joined, growth-repeated}

-- this part of the reading tells at most `most` events, and as many again for each repeat
pub record IsShort {A : Type 0} (most : ℕ) (t : Told A) : Type 0 where
  pub few : length t.past.events ≤ most * (1 + t.past.repeats)

-- a greater number serves too
pub short_more : {A : Type 0} (most more : ℕ) (t : Told A) → most ≤ more → IsShort most t → IsShort more t
short_more most more t less h =
    let k : length t.past.events ≤ most * (1 + t.past.repeats) = h.few in
    let m : most * (1 + t.past.repeats) ≤ more * (1 + t.past.repeats) = mul-le-mul less (le_refl (1 + t.past.repeats)) in
    record { few = omega arith }

-- one part of the reading and then another
after_short : {A : Type 0} (own most : ℕ) (past : Past) (t : Told A) → length past.events ≤ own * (1 + past.repeats) → IsShort most t
    → IsShort (own + most) (after past t)
after_short own most past t first h =
    let k : length t.past.events ≤ most * (1 + t.past.repeats) = h.few in
    let both : length past.events + length t.past.events ≤ 0 + (own + most) * (1 + (past.repeats + t.past.repeats)) =
    growth-joined 0 (length past.events) (length past.events + length t.past.events) own most past.repeats t.past.repeats
    (omega arith) (omega arith) in
    record { few = omega (arith, length-append past.events t.past.events) }

-- what is told before without a repeat
quiet_short : {A : Type 0} (own most : ℕ) (past : Past) (t : Told A) → past.repeats ≡ 0 → length past.events ≤ own → IsShort most t
    → IsShort (own + most) (after past t)
quiet_short own most past t none first h =
    let same : own * (1 + past.repeats) ≡ own * 1 = ap (λ (n : ℕ). own * (1 + n)) none in
    after_short own most past t (omega arith) h

halted_short : (h : Try) (halts notes : ℕ) (counts : Counts) (found : Bool) → IsShort 2 (halted h halts notes counts found)
halted_short h halts notes counts true = record { few = omega arith }
halted_short h halts notes counts false = record { few = omega arith }

unless_halted_short : (most : ℕ) (h : Try) (halts notes : ℕ) (counts : Counts) (next : ℕ → Told TryEnd) (none : Bool)
    → 2 ≤ most → IsShort most (next notes) → IsShort most (unless_halted h halts notes counts next none)
unless_halted_short most h halts notes counts next true two on = on
unless_halted_short most h halts notes counts next false two on =
    let found : Bool = kinds_without halts h.detects == no_kinds in
    short_more 2 most (halted h halts notes counts found) two (halted_short h halts notes counts found)

-- at a point, with what stands behind it
pub arrived_short : (behind : ℕ) (w : Case) (h : Try) (point notes : ℕ) (counts : Counts) (next : ℕ → Told TryEnd)
    → ((seen : ℕ) → IsShort (2 + behind) (next seen)) → IsShort (3 + behind) (arrived w h point notes counts next)
arrived_short behind w h point notes counts next on =
    let hits : List Fault = struck w.faults h.node h.begin point in
    let kinds : ℕ = kinds_of hits in
    let t : Told TryEnd = unless_halted h (bit_and kinds w.halts) (bit_or notes kinds) counts next (bit_and kinds w.halts == no_kinds) in
    let past : Past = record { events = Reached h.node point ∷ []; repeats = 0; strikes = length hits } in
    short_more (1 + (2 + behind)) (3 + behind) (after past t) (omega arith)
    (quiet_short 1 (2 + behind) past t refl (omega arith)
    (unless_halted_short (2 + behind) h (bit_and kinds w.halts) (bit_or notes kinds) counts next (bit_and kinds w.halts == no_kinds)
    (omega arith) (on (bit_or notes kinds))))

pub detected_short : (h : Try) (notes : ℕ) (counts : Counts) → IsShort 2 (detected h notes counts)
detected_short h notes counts = record { few = omega arith }

group_ended_short : (most : ℕ) (h : Try) (notes : ℕ) (counts : Counts) (end : GroupEnd) (next : ℕ → Counts → Told TryEnd)
    → ((seen : ℕ) → IsShort most (next seen counts)) → IsShort most (group_ended h notes counts end next)
group_ended_short most h notes counts (AllDone leaks) next on = on (bit_or notes leaks)
group_ended_short most h notes counts (SomeEscalated cause over) next on = record { few = omega arith }

pub behind_group_short : (inner outer : ℕ) (h : Try) (notes : ℕ) (t : Told GroupEnd) (next : ℕ → Counts → Told TryEnd)
    → IsShort inner t → ((seen : ℕ) → IsShort outer (next seen t.counts)) → IsShort (inner + outer) (behind_group h notes t next)
behind_group_short inner outer h notes t next group on =
    after_short inner outer t.past (group_ended h notes t.counts t.answer next) group.few
    (group_ended_short outer h notes t.counts t.answer next on)

pub with_member_short : (one others : ℕ) (t : Told NodeEnd) (rest : Counts → Told GroupEnd) → IsShort one t
    → IsShort others (rest t.counts) → IsShort (one + others) (with_member t rest)
with_member_short one others t rest first more =
    after_short one others t.past (with_end t.answer (rest t.counts)) first.few (record { few = more.few })

-- each entry gives one event
saved_length : (id : NodeId) (at : ℕ) (entries : List Entry) → length (saved_from id at entries) ≡ length entries
saved_length id at [] = refl
saved_length id at (entry ∷ entries) = ap suc (saved_length id (suc at) entries)

refilled_length : (id : NodeId) (at : ℕ) (entries : List Entry) → length (refilled_from id at entries) ≡ length entries
refilled_length id at [] = refl
refilled_length id at (entry ∷ entries) = ap suc (refilled_length id (suc at) entries)

prepared_length : (first : Bool) (id : NodeId) (entries : List Entry) → length (prepared first id entries) ≡ length entries
prepared_length true id entries = saved_length id 0 entries
prepared_length false id entries = refilled_length id 0 entries

escalation_length : (id : NodeId) (domain : Domain) (root : Bool) → length (escalation id domain root) ≤ 1 + length domain.entries
escalation_length id domain true =
    omega (arith, length-append (refilled_from id 0 domain.entries) (Escalate id ∷ []), refilled_length id 0 domain.entries)
escalation_length id domain false = omega arith

pub begun_short : (most : ℕ) (id : NodeId) (domain : Domain) (first : Bool) (counts : Counts) (next : ℕ → Counts → Told TryEnd)
    → IsShort most (next (counts id.0 + 1) (counted id.0 counts))
    → IsShort (1 + length domain.entries + most) (begun id domain first counts next)
begun_short most id domain first counts next h =
    quiet_short (1 + length domain.entries) most (only_events (Begin id (counts id.0 + 1) ∷ prepared first id domain.entries))
    (next (counts id.0 + 1) (counted id.0 counts)) refl (omega (arith, prepared_length first id domain.entries)) h

ended_short : (most : ℕ) (id : NodeId) (domain : Domain) (t : Told TryEnd) (end : TryEnd) → IsShort most t
    → IsShort (most + (1 + length domain.entries)) (ended id domain t end)
ended_short most id domain t (Passed leak) h =
    after_short most (1 + length domain.entries) t.past (told (only_events (Complete id ∷ [])) t.counts (Done leak)) h.few
    (record { few = omega arith })
ended_short most id domain t (Failed cause) h =
    after_short most (1 + length domain.entries) t.past
    (told (only_events (escalation id domain (is_none domain.parent))) t.counts (Escalated cause no_kinds)) h.few
    (record { few = omega (arith, escalation_length id domain (is_none domain.parent)) })
ended_short most id domain t (Broken cause over) h =
    after_short most (1 + length domain.entries) t.past
    (told (only_events (escalation id domain (is_none domain.parent))) t.counts (Escalated cause over)) h.few
    (record { few = omega (arith, escalation_length id domain (is_none domain.parent)) })

-- a failed try, and the tries that follow it: the repeat between them pays for the others
repeated_short : {A B : Type 0} (most : ℕ) (t : Told A) (rest : Told B) → IsShort most t → IsShort most rest
    → IsShort most (after (record t.past { repeats = t.past.repeats + 1 }) rest)
repeated_short most t rest h on =
    let first : length t.past.events ≤ most * (1 + t.past.repeats) = h.few in
    let others : length rest.past.events ≤ most * (1 + rest.past.repeats) = on.few in
    let both : length t.past.events + length rest.past.events ≤ 0 + most * (1 + (t.past.repeats + 1 + rest.past.repeats)) =
    growth-repeated 0 (length t.past.events) (length t.past.events + length rest.past.events) most t.past.repeats rest.past.repeats
    (omega arith) (omega arith) in
    record { few = omega (arith, length-append t.past.events rest.past.events) }

unless_failed_short : (most : ℕ) (id : NodeId) (domain : Domain) (t : Told TryEnd) (end : TryEnd) (next : Counts → Told NodeEnd)
    → IsShort most t → IsShort (most + (1 + length domain.entries)) (next t.counts)
    → IsShort (most + (1 + length domain.entries)) (unless_failed id domain t end next)
unless_failed_short most id domain t (Passed leak) next h on = ended_short most id domain t (Passed leak) h
unless_failed_short most id domain t (Failed cause) next h on =
    let whole : ℕ = most + (1 + length domain.entries) in
    repeated_short whole t (next t.counts) (short_more most whole t (omega arith) h) on
unless_failed_short most id domain t (Broken cause over) next h on = ended_short most id domain t (Broken cause over) h

pub tries_short : (most spare : ℕ) (id : NodeId) (domain : Domain) (again : Counts → Told TryEnd) (t : Told TryEnd)
    → ((now : Counts) → IsShort most (again now)) → IsShort most t
    → IsShort (most + (1 + length domain.entries)) (tries spare id domain again t)
tries_short most zero id domain again t on h = ended_short most id domain t t.answer h
tries_short most (suc spare) id domain again t on h =
    unless_failed_short most id domain t t.answer (λ now. tries spare id domain again (again now)) h
    (tries_short most spare id domain again (again t.counts) on (on t.counts))
