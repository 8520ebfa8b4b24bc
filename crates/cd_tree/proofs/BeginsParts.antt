-- What a walk over the record comes to, part by part: a state that each event changes, and what holds of it at the end of
-- each part of the reading, given the counts and the answer there.
use Rattle.std.proofs.Common.{◌≡◌, ℕ, zero, suc, ◌+◌, Bool, true, false, ◌==◌, bit_or, bit_and, List, [], ◌∷◌, ◌++◌, is_none, length, refl, ap, sym, ◌∙◌, subst, arith, inl, inr}
use Rattle.std.proofs.lemmas.Bool.{cases_Bool, eqb-true, eqb-false}
use Rattle.std.proofs.lemmas.Nat.Bits.{bit_at_or, bit_at_and, bit_at_xor, bit_at-zero, bit_at-lt, same_from_bits}
use Rattle.std.specs.Int.{bit_at}
use Rattle.cd_tree.specs.declared.domain.NodeId.{NodeId}
use Rattle.cd_tree.specs.declared.domain.Entry.{Entry}
use Rattle.cd_tree.specs.declared.domain.Domain.{Domain}
use Rattle.cd_tree.specs.declared.document.Fault.{Fault}
use Rattle.cd_tree.specs.declared.event.Kept.{Kept}
use Rattle.cd_tree.specs.declared.event.Event.{Event}
use Rattle.cd_tree.specs.declared.event.Event.TheVariants.{Begin, Saved, Refilled, Reached, Halted, Found, Complete, Escalate}
use Rattle.cd_tree.specs.KindSets.{no_kinds, kinds_without}
use Rattle.cd_tree.specs.Scripts.{struck, kinds_of}
use Rattle.cd_tree.specs.Reading.{Case, Counts, counted, Past, only_events, Told, told, after, Blame, blame, TryEnd, Passed, Failed, Broken, NodeEnd, Done, Escalated, GroupEnd, AllDone, SomeEscalated, Try, how_kept, saved_from, refilled_from, prepared, begun, stopped, halted, unless_halted, arrived, judged, detected, group_ended, behind_group, ends_joined, with_end, with_member, escalation, ended, unless_failed, tries}

-- the state behind some events
abbrev pub state_behind : {S : Type 0} → (S → Event → S) → S → List Event → S
state_behind step s [] = s
state_behind step s (event ∷ events) = state_behind step (step s event) events

pub state-append : {S : Type 0} (step : S → Event → S) (s : S) (first second : List Event)
    → state_behind step s (first ++ second) ≡ state_behind step (state_behind step s first) second
state-append step s [] second = refl
state-append step s (event ∷ first) second = state-append step (step s event) first second

-- events that change nothing
pub record Quiet {S : Type 0} (step : S → Event → S) : Type 0 where
  pub saved : (s : S) (id : NodeId) (entry : ℕ) (how : Kept) → step s (Saved id entry how) ≡ s
  pub refilled : (s : S) (id : NodeId) (entry : ℕ) → step s (Refilled id entry) ≡ s
  pub reached : (s : S) (id : NodeId) (point : ℕ) → step s (Reached id point) ≡ s
  pub halted : (s : S) (id : NodeId) (kinds : ℕ) → step s (Halted id kinds) ≡ s

-- a part of the reading takes the state to where this holds, by the counts and the answer there
pub record Goes {S A : Type 0} (step : S → Event → S) (s : S) (Ends : Counts → A → S → Type 0) (t : Told A) : Type 0 where
  pub ends : Ends t.counts t.answer (state_behind step s t.past.events)

pub after_goes : {S A : Type 0} (step : S → Event → S) (s now : S) (Ends : Counts → A → S → Type 0) (past : Past) (t : Told A)
    → state_behind step s past.events ≡ now → Goes step now Ends t → Goes step s Ends (after past t)
after_goes step s now Ends past t e h =
    let here : Ends t.counts t.answer (state_behind step (state_behind step s past.events) t.past.events) =
    subst (λ x. Ends t.counts t.answer (state_behind step x t.past.events)) (sym e) h.ends in
    record { ends = subst (Ends t.counts t.answer) (sym (state-append step s past.events t.past.events)) here }

saved_quiet : {S : Type 0} (step : S → Event → S) (quiet : Quiet step) (s : S) (id : NodeId) (at : ℕ) (entries : List Entry)
    → state_behind step s (saved_from id at entries) ≡ s
saved_quiet step quiet s id at [] = refl
saved_quiet step quiet s id at (entry ∷ entries) =
    saved_quiet step quiet (step s (Saved id at (how_kept entry.how))) id (suc at) entries
    ∙ quiet.saved s id at (how_kept entry.how)

refilled_quiet : {S : Type 0} (step : S → Event → S) (quiet : Quiet step) (s : S) (id : NodeId) (at : ℕ) (entries : List Entry)
    → state_behind step s (refilled_from id at entries) ≡ s
refilled_quiet step quiet s id at [] = refl
refilled_quiet step quiet s id at (entry ∷ entries) =
    refilled_quiet step quiet (step s (Refilled id at)) id (suc at) entries ∙ quiet.refilled s id at

prepared_quiet : {S : Type 0} (step : S → Event → S) (quiet : Quiet step) (s : S) (first : Bool) (id : NodeId) (entries : List Entry)
    → state_behind step s (prepared first id entries) ≡ s
prepared_quiet step quiet s true id entries = saved_quiet step quiet s id 0 entries
prepared_quiet step quiet s false id entries = refilled_quiet step quiet s id 0 entries

-- what holds where a try ends at a point
pub record Exits {S : Type 0} (step : S → Event → S) (s : S) (Ends : Counts → TryEnd → S → Type 0) (h : Try) (counts : Counts) : Type 0 where
  pub passes : (notes : ℕ) → Ends counts (Passed notes) (step s (Found h.node no_kinds))
  pub fails : (kinds : ℕ) → (kinds == no_kinds) ≡ false → Ends counts (Failed (blame h.node kinds)) (step s (Found h.node kinds))
  pub breaks : (cause : Blame) (over : ℕ) → Ends counts (Broken cause over) s

-- halting kinds of which none is left over, and none is found, are none
no_bits : (notes kinds halts detects : ℕ) → kinds_without (bit_and kinds halts) detects ≡ 0 → bit_and (bit_or notes kinds) detects ≡ 0
    → (i : ℕ) → bit_at (bit_and kinds halts) i ≡ bit_at 0 i
no_bits notes kinds halts detects over found i =
    let here : bit_at (bit_and (bit_or notes kinds) detects) i ≡ bit_at 0 i = ap (λ n. bit_at n i) found in
    let there : bit_at (kinds_without (bit_and kinds halts) detects) i ≡ bit_at 0 i = ap (λ n. bit_at n i) over in
    omega (
      arith,
      bit_at_and (bit_or notes kinds) detects i,
      bit_at_or notes kinds i,
      bit_at_xor (bit_and kinds halts) (bit_and (bit_and kinds halts) detects) i,
      bit_at_and (bit_and kinds halts) detects i,
      bit_at_and kinds halts i,
      bit_at-zero i,
      bit_at-lt notes i,
      bit_at-lt kinds i,
      bit_at-lt halts i,
      bit_at-lt detects i,
    )

-- halting kinds that are all declared are found
found_some : (notes kinds halts detects : ℕ) → (bit_and kinds halts == no_kinds) ≡ false
    → (kinds_without (bit_and kinds halts) detects == no_kinds) ≡ true → (bit_and (bit_or notes kinds) detects == no_kinds) ≡ false
found_some notes kinds halts detects some declared =
    elim (cases_Bool (bit_and (bit_or notes kinds) detects == no_kinds)) [
      | inl none ↦
          let found : bit_and (bit_or notes kinds) detects ≡ 0 = eqb-true (bit_and (bit_or notes kinds) detects) 0 none in
          let over : kinds_without (bit_and kinds halts) detects ≡ 0 = eqb-true (kinds_without (bit_and kinds halts) detects) 0 declared in
          let nothing : bit_and kinds halts ≡ 0 = same_from_bits (bit_and kinds halts) 0 (no_bits notes kinds halts detects over found) in
          absurd (eqb-false (bit_and kinds halts) 0 some nothing)
      | inr some_found ↦ some_found
    ]

halted_goes : {S : Type 0} (step : S → Event → S) (quiet : Quiet step) (s : S) (Ends : Counts → TryEnd → S → Type 0) (h : Try)
    (halts notes : ℕ) (counts : Counts) (found : Bool)
    → (found ≡ true → (bit_and notes h.detects == no_kinds) ≡ false)
    → Exits step s Ends h counts → Goes step s Ends (halted h halts notes counts found)
halted_goes step quiet s Ends h halts notes counts true some exits =
    let kinds : ℕ = bit_and notes h.detects in
    record {
      ends = subst (λ x. Ends counts (Failed (blame h.node kinds)) (step x (Found h.node kinds)))
          (sym (quiet.halted s h.node halts)) (exits.fails kinds (some refl));
    }
halted_goes step quiet s Ends h halts notes counts false some exits =
    let over : ℕ = kinds_without halts h.detects in
    record {
      ends = subst (Ends counts (Broken (blame h.node halts) over))
          (sym (quiet.halted s h.node halts)) (exits.breaks (blame h.node halts) over);
    }

unless_halted_goes : {S : Type 0} (step : S → Event → S) (quiet : Quiet step) (s : S) (Ends : Counts → TryEnd → S → Type 0) (h : Try)
    (halts notes : ℕ) (counts : Counts) (next : ℕ → Told TryEnd) (none : Bool)
    → (none ≡ false → (kinds_without halts h.detects == no_kinds) ≡ true → (bit_and notes h.detects == no_kinds) ≡ false)
    → Exits step s Ends h counts → Goes step s Ends (next notes)
    → Goes step s Ends (unless_halted h halts notes counts next none)
unless_halted_goes step quiet s Ends h halts notes counts next true some exits on = on
unless_halted_goes step quiet s Ends h halts notes counts next false some exits on =
    halted_goes step quiet s Ends h halts notes counts (kinds_without halts h.detects == no_kinds) (some refl) exits

pub arrived_goes : {S : Type 0} (step : S → Event → S) (quiet : Quiet step) (s : S) (Ends : Counts → TryEnd → S → Type 0) (w : Case)
    (h : Try) (point notes : ℕ) (counts : Counts) (next : ℕ → Told TryEnd)
    → Exits step s Ends h counts → ((seen : ℕ) → Goes step s Ends (next seen))
    → Goes step s Ends (arrived w h point notes counts next)
arrived_goes step quiet s Ends w h point notes counts next exits on =
    let hits : List Fault = struck w.faults h.node h.begin point in
    let kinds : ℕ = kinds_of hits in
    after_goes step s s Ends (record { events = Reached h.node point ∷ []; repeats = 0; strikes = length hits })
    (unless_halted h (bit_and kinds w.halts) (bit_or notes kinds) counts next (bit_and kinds w.halts == no_kinds))
    (quiet.reached s h.node point)
    (unless_halted_goes step quiet s Ends h (bit_and kinds w.halts) (bit_or notes kinds) counts next
    (bit_and kinds w.halts == no_kinds)
    (found_some notes kinds w.halts h.detects) exits (on (bit_or notes kinds)))

judged_goes : {S : Type 0} (step : S → Event → S) (s : S) (Ends : Counts → TryEnd → S → Type 0) (h : Try) (notes kinds : ℕ)
    (counts : Counts) (none : Bool) → (kinds == no_kinds) ≡ none → Exits step s Ends h counts
    → Ends counts (judged h.node notes kinds none) (step s (Found h.node kinds))
judged_goes step s Ends h notes kinds counts true e exits =
    subst (λ n. Ends counts (Passed notes) (step s (Found h.node n))) (sym (eqb-true kinds 0 e)) (exits.passes notes)
judged_goes step s Ends h notes kinds counts false e exits = exits.fails kinds e

pub detected_goes : {S : Type 0} (step : S → Event → S) (s : S) (Ends : Counts → TryEnd → S → Type 0) (h : Try) (notes : ℕ)
    (counts : Counts) → Exits step s Ends h counts → Goes step s Ends (detected h notes counts)
detected_goes step s Ends h notes counts exits =
    let kinds : ℕ = bit_and notes h.detects in
    record { ends = judged_goes step s Ends h notes kinds counts (kinds == no_kinds) refl exits }

-- what holds where a try ends behind a group with an escalation
pub record Stops {S : Type 0} (s : S) (Ends : Counts → TryEnd → S → Type 0) (cause : Blame) (counts : Counts) : Type 0 where
  pub fails : Ends counts (Failed cause) s
  pub breaks : (over : ℕ) → Ends counts (Broken cause over) s

stopped_goes : {S : Type 0} (s : S) (Ends : Counts → TryEnd → S → Type 0) (cause : Blame) (over : ℕ) (counts : Counts) (none : Bool)
    → Stops s Ends cause counts → Ends counts (stopped cause over none) s
stopped_goes s Ends cause over counts true stops = stops.fails
stopped_goes s Ends cause over counts false stops = stops.breaks over

group_ended_goes : {S : Type 0} (step : S → Event → S) (s : S) (Group : Counts → GroupEnd → S → Type 0)
    (Ends : Counts → TryEnd → S → Type 0) (h : Try) (notes : ℕ) (counts : Counts) (end : GroupEnd) (next : ℕ → Counts → Told TryEnd)
    → Group counts end s
    → ((leaks : ℕ) → Group counts (AllDone leaks) s → (seen : ℕ) → Goes step s Ends (next seen counts))
    → ((cause : Blame) (over : ℕ) → Group counts (SomeEscalated cause over) s → Stops s Ends cause counts)
    → Goes step s Ends (group_ended h notes counts end next)
group_ended_goes step s Group Ends h notes counts (AllDone leaks) next here on stops = on leaks here (bit_or notes leaks)
group_ended_goes step s Group Ends h notes counts (SomeEscalated cause over) next here on stops =
    let left : ℕ = kinds_without over h.detects in
    record { ends = stopped_goes s Ends cause left counts (left == no_kinds) (stops cause over here) }

pub behind_group_goes : {S : Type 0} (step : S → Event → S) (s : S) (Group : Counts → GroupEnd → S → Type 0)
    (Ends : Counts → TryEnd → S → Type 0) (h : Try) (notes : ℕ) (t : Told GroupEnd) (next : ℕ → Counts → Told TryEnd)
    → Goes step s Group t
    → ((now : S) (leaks : ℕ) → Group t.counts (AllDone leaks) now → (seen : ℕ) → Goes step now Ends (next seen t.counts))
    → ((now : S) (cause : Blame) (over : ℕ) → Group t.counts (SomeEscalated cause over) now → Stops now Ends cause t.counts)
    → Goes step s Ends (behind_group h notes t next)
behind_group_goes step s Group Ends h notes t next group on stops =
    let now = state_behind step s t.past.events in
    after_goes step s now Ends t.past (group_ended h notes t.counts t.answer next) refl
    (group_ended_goes step now Group Ends h notes t.counts t.answer next group.ends (on now) (stops now))

pub begun_goes : {S : Type 0} (step : S → Event → S) (quiet : Quiet step) (s : S) (Ends : Counts → TryEnd → S → Type 0) (id : NodeId)
    (domain : Domain) (first : Bool) (counts : Counts) (next : ℕ → Counts → Told TryEnd)
    → Goes step (step s (Begin id (counts id.0 + 1))) Ends (next (counts id.0 + 1) (counted id.0 counts))
    → Goes step s Ends (begun id domain first counts next)
begun_goes step quiet s Ends id domain first counts next on =
    let now = step s (Begin id (counts id.0 + 1)) in
    after_goes step s now Ends (only_events (Begin id (counts id.0 + 1) ∷ prepared first id domain.entries))
    (next (counts id.0 + 1) (counted id.0 counts)) (prepared_quiet step quiet now first id domain.entries) on

-- what holds where a domain ends after a try
pub record Leaves {S : Type 0} (step : S → Event → S) (Tries : Counts → TryEnd → S → Type 0) (Ends : Counts → NodeEnd → S → Type 0) (id : NodeId) : Type 0 where
  pub completes : (counts : Counts) (leak : ℕ) (s : S) → Tries counts (Passed leak) s → Ends counts (Done leak) (step s (Complete id))
  pub gives_up : (counts : Counts) (cause : Blame) (s : S) → Tries counts (Failed cause) s
      → Ends counts (Escalated cause no_kinds) (step s (Escalate id))
  pub breaks : (counts : Counts) (cause : Blame) (over : ℕ) (s : S) → Tries counts (Broken cause over) s
      → Ends counts (Escalated cause over) (step s (Escalate id))

escalation_goes : {S : Type 0} (step : S → Event → S) (quiet : Quiet step) (s : S) (id : NodeId) (domain : Domain) (root : Bool)
    → state_behind step s (escalation id domain root) ≡ step s (Escalate id)
escalation_goes step quiet s id domain true =
    state-append step s (refilled_from id 0 domain.entries) (Escalate id ∷ [])
    ∙ subst (λ x. step (state_behind step s (refilled_from id 0 domain.entries)) (Escalate id) ≡ step x (Escalate id))
    (refilled_quiet step quiet s id 0 domain.entries) refl
escalation_goes step quiet s id domain false = refl

ended_goes : {S : Type 0} (step : S → Event → S) (quiet : Quiet step) (s : S) (Tries : Counts → TryEnd → S → Type 0)
    (Ends : Counts → NodeEnd → S → Type 0) (id : NodeId) (domain : Domain) (t : Told TryEnd) (end : TryEnd)
    → Leaves step Tries Ends id → Tries t.counts end (state_behind step s t.past.events)
    → Goes step s Ends (ended id domain t end)
ended_goes step quiet s Tries Ends id domain t (Passed leak) leaves here =
    let now = state_behind step s t.past.events in
    after_goes step s now Ends t.past (told (only_events (Complete id ∷ [])) t.counts (Done leak)) refl
    (record { ends = leaves.completes t.counts leak now here })
ended_goes step quiet s Tries Ends id domain t (Failed cause) leaves here =
    let now = state_behind step s t.past.events in
    let root : Bool = is_none domain.parent in
    after_goes step s now Ends t.past (told (only_events (escalation id domain root)) t.counts (Escalated cause no_kinds)) refl
    (record {
      ends = subst (Ends t.counts (Escalated cause no_kinds)) (sym (escalation_goes step quiet now id domain root))
          (leaves.gives_up t.counts cause now here);
    })
ended_goes step quiet s Tries Ends id domain t (Broken cause over) leaves here =
    let now = state_behind step s t.past.events in
    let root : Bool = is_none domain.parent in
    after_goes step s now Ends t.past (told (only_events (escalation id domain root)) t.counts (Escalated cause over)) refl
    (record {
      ends = subst (Ends t.counts (Escalated cause over)) (sym (escalation_goes step quiet now id domain root))
          (leaves.breaks t.counts cause over now here);
    })

unless_failed_goes : {S : Type 0} (step : S → Event → S) (quiet : Quiet step) (s : S) (Tries : Counts → TryEnd → S → Type 0)
    (Ends : Counts → NodeEnd → S → Type 0) (id : NodeId) (domain : Domain) (t : Told TryEnd) (end : TryEnd) (next : Counts → Told NodeEnd)
    → Leaves step Tries Ends id → Tries t.counts end (state_behind step s t.past.events)
    → ((cause : Blame) → Tries t.counts (Failed cause) (state_behind step s t.past.events)
    → Goes step (state_behind step s t.past.events) Ends (next t.counts))
    → Goes step s Ends (unless_failed id domain t end next)
unless_failed_goes step quiet s Tries Ends id domain t (Passed leak) next leaves here on =
    ended_goes step quiet s Tries Ends id domain t (Passed leak) leaves here
unless_failed_goes step quiet s Tries Ends id domain t (Failed cause) next leaves here on =
    after_goes step s (state_behind step s t.past.events) Ends (record t.past { repeats = t.past.repeats + 1 }) (next t.counts) refl
    (on cause here)
unless_failed_goes step quiet s Tries Ends id domain t (Broken cause over) next leaves here on =
    ended_goes step quiet s Tries Ends id domain t (Broken cause over) leaves here

pub tries_goes : {S : Type 0} (step : S → Event → S) (quiet : Quiet step) (s : S) (Tries : Counts → TryEnd → S → Type 0)
    (Ends : Counts → NodeEnd → S → Type 0) (spare : ℕ) (id : NodeId) (domain : Domain) (again : Counts → Told TryEnd) (t : Told TryEnd)
    → Leaves step Tries Ends id
    → ((counts : Counts) (now : S) (cause : Blame) → Tries counts (Failed cause) now → Goes step now Tries (again counts))
    → Goes step s Tries t → Goes step s Ends (tries spare id domain again t)
tries_goes step quiet s Tries Ends zero id domain again t leaves more first =
    ended_goes step quiet s Tries Ends id domain t t.answer leaves first.ends
tries_goes step quiet s Tries Ends (suc spare) id domain again t leaves more first =
    let now = state_behind step s t.past.events in
    unless_failed_goes step quiet s Tries Ends id domain t t.answer (λ counts. tries spare id domain again (again counts)) leaves first.ends
    (λ cause here.
    tries_goes step quiet now Tries Ends spare id domain again (again t.counts) leaves more (more t.counts now cause here))

pub with_member_goes : {S : Type 0} (step : S → Event → S) (s : S) (One : Counts → NodeEnd → S → Type 0)
    (Rest Ends : Counts → GroupEnd → S → Type 0) (t : Told NodeEnd) (rest : Counts → Told GroupEnd)
    → Goes step s One t
    → ((now : S) → One t.counts t.answer now → Goes step now Rest (rest t.counts))
    → ((counts : Counts) (end : GroupEnd) (now : S) → Rest counts end now → Ends counts (ends_joined t.answer end) now)
    → Goes step s Ends (with_member t rest)
with_member_goes step s One Rest Ends t rest first on joins =
    let now = state_behind step s t.past.events in
    let more : Told GroupEnd = rest t.counts in
    let after_it : Goes step now Rest more = on now first.ends in
    after_goes step s now Ends t.past (with_end t.answer more) refl
    (record { ends = joins more.counts more.answer (state_behind step now more.past.events) after_it.ends })
