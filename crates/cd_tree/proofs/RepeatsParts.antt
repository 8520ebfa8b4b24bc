-- What each part of the reading spends of a script: a repeated try costs a strike, and so does an answer that is not clean.
use Rattle.std.proofs.Common.{◌≡◌, ℕ, zero, suc, ◌+◌, ◌≤◌, Bool, true, false, ◌==◌, bit_or, bit_and, List, [], ◌∷◌, length, refl, arith}
use Rattle.std.proofs.lemmas.Bool.{eqb-false}
use Rattle.std.specs.Int.Bits.{or_zero_l, and_zero_l}
use Rattle.cd_tree.specs.declared.domain.NodeId.{NodeId}
use Rattle.cd_tree.specs.declared.domain.Domain.{Domain}
use Rattle.cd_tree.specs.declared.document.Fault.{Fault}
use Rattle.cd_tree.specs.declared.event.Event.TheVariants.{Begin, Reached}
use Rattle.cd_tree.specs.KindSets.{no_kinds, kinds_without}
use Rattle.cd_tree.specs.Scripts.{struck, kinds_of}
use Rattle.cd_tree.specs.Reading.{Case, Counts, counted, Past, only_events, Told, after, Blame, TryEnd, Passed, Failed, Broken, NodeEnd, Done, Escalated, GroupEnd, AllDone, SomeEscalated, Try, prepared, begun, stopped, halted, unless_halted, arrived, judged, detected, group_ended, behind_group, ends_joined, with_end, with_member, ended, unless_failed, tries}
use Rattle.cd_tree.proofs.Potential.{potential, due, due_at_point, due_at_begin}

-- 1 where there are any kinds, else 0
abbrev pub any : ℕ → ℕ
any zero = 0
any (suc kinds) = 1

-- an answer costs a strike unless it is clean: passed or completed with no leak
abbrev pub try_cost : TryEnd → ℕ
try_cost (Passed leak) = any leak
try_cost (Failed cause) = 1
try_cost (Broken cause over) = 1

abbrev pub node_cost : NodeEnd → ℕ
node_cost (Done leak) = any leak
node_cost (Escalated cause over) = 1

abbrev pub group_cost : GroupEnd → ℕ
group_cost (AllDone leaks) = any leaks
group_cost (SomeEscalated cause over) = 1

-- a part of the reading keeps within `budget` entries of the script, those that can still strike after it included;
-- its repeats and the cost of its answer are at most its strikes and those that are `paid` before it
pub record Spends {A : Type 0} (faults : List Fault) (cost : A → ℕ) (paid budget : ℕ) (t : Told A) : Type 0 where
  pub repeats : t.past.repeats + cost t.answer ≤ paid + t.past.strikes
  pub strikes : t.past.strikes + potential faults t.counts ≤ budget

any_at_most_one : (kinds : ℕ) → any kinds ≤ 1
any_at_most_one zero = omega arith
any_at_most_one (suc kinds) = omega arith

any_or : (kinds others : ℕ) → any (bit_or kinds others) ≤ any kinds + any others
any_or zero others = rw (or_zero_l others) (omega arith)
any_or (suc kinds) others = omega (arith, any_at_most_one (bit_or (suc kinds) others))

-- kinds that have some in common with others are some
any_met : (kinds others : ℕ) → (bit_and kinds others == no_kinds) ≡ false → 1 ≤ any kinds
any_met zero others some = absurd (eqb-false (bit_and 0 others) 0 some (and_zero_l others))
any_met (suc kinds) others some = omega arith

-- kinds that faults bring are paid by these faults' strikes
any_struck : (hits : List Fault) → any (kinds_of hits) ≤ length hits
any_struck [] = omega arith
any_struck (hit ∷ hits) = omega (arith, any_at_most_one (kinds_of (hit ∷ hits)))

-- what came before pays
pub after_spends : {A : Type 0} (faults : List Fault) (cost : A → ℕ) (paid more budget total : ℕ) (past : Past) (t : Told A) →
    past.repeats + more ≤ paid + past.strikes → past.strikes + budget ≤ total → Spends faults cost more budget t →
    Spends faults cost paid total (after past t)
after_spends faults cost paid more budget total past t repeats strikes h =
    let r : t.past.repeats + cost t.answer ≤ more + t.past.strikes = h.repeats in
    let s : t.past.strikes + potential faults t.counts ≤ budget = h.strikes in
    record { repeats = omega arith; strikes = omega arith }

halted_spends : (faults : List Fault) (h : Try) (halts notes : ℕ) (counts : Counts) (paid budget : ℕ) (found : Bool) →
    1 ≤ paid → potential faults counts ≤ budget → Spends faults try_cost paid budget (halted h halts notes counts found)
halted_spends faults h halts notes counts paid budget true one within = record { repeats = omega arith; strikes = omega arith }
halted_spends faults h halts notes counts paid budget false one within = record { repeats = omega arith; strikes = omega arith }

unless_halted_spends : (faults : List Fault) (h : Try) (halts notes : ℕ) (counts : Counts) (next : ℕ → Told TryEnd)
    (paid budget : ℕ) (none : Bool) → (none ≡ false → 1 ≤ paid) → potential faults counts ≤ budget →
    Spends faults try_cost paid budget (next notes) →
    Spends faults try_cost paid budget (unless_halted h halts notes counts next none)
unless_halted_spends faults h halts notes counts next paid budget true one within on = on
unless_halted_spends faults h halts notes counts next paid budget false one within on =
    halted_spends faults h halts notes counts paid budget (kinds_without halts h.detects == no_kinds) (one refl) within

-- more may be paid before than is needed
more_paid : {A : Type 0} (faults : List Fault) (cost : A → ℕ) (paid more budget : ℕ) (t : Told A) → paid ≤ more →
    Spends faults cost paid budget t → Spends faults cost more budget t
more_paid faults cost paid more budget t less h =
    let r : t.past.repeats + cost t.answer ≤ paid + t.past.strikes = h.repeats in
    record { repeats = omega arith; strikes = h.strikes }

pub arrived_spends : (w : Case) (h : Try) (point notes : ℕ) (counts : Counts) (next : ℕ → Told TryEnd) →
    ((seen : ℕ) → Spends w.faults try_cost (any seen) (due w.faults h.node h.begin (suc point) + potential w.faults counts) (next seen)) →
    Spends w.faults try_cost (any notes) (due w.faults h.node h.begin point + potential w.faults counts) (arrived w h point notes counts next)
arrived_spends w h point notes counts next on =
    let hits : List Fault = struck w.faults h.node h.begin point in
    let kinds : ℕ = kinds_of hits in
    let seen : ℕ = bit_or notes kinds in
    let budget : ℕ = due w.faults h.node h.begin (suc point) + potential w.faults counts in
    let total : ℕ = due w.faults h.node h.begin point + potential w.faults counts in
    let paid : ℕ = any notes + length hits in
    let struck_some : any kinds ≤ length hits = any_struck hits in
    let both : any seen ≤ any notes + any kinds = any_or notes kinds in
    let taken : length hits + due w.faults h.node h.begin (suc point) ≤ due w.faults h.node h.begin point =
    due_at_point w.faults h.node h.begin point in
    after_spends w.faults try_cost (any notes) paid budget total
    (record { events = Reached h.node point ∷ []; repeats = 0; strikes = length hits })
    (unless_halted h (bit_and kinds w.halts) seen counts next (bit_and kinds w.halts == no_kinds))
    (omega arith) (omega arith)
    (unless_halted_spends w.faults h (bit_and kinds w.halts) seen counts next paid budget (bit_and kinds w.halts == no_kinds)
    (λ some. let met : 1 ≤ any kinds = any_met kinds w.halts some in omega arith)
    (omega arith)
    (more_paid w.faults try_cost (any seen) paid budget (next seen) (omega arith) (on seen)))

judged_cost : (id : NodeId) (notes detects : ℕ) (none : Bool) → (none ≡ false → 1 ≤ any notes) →
    try_cost (judged id notes (bit_and notes detects) none) ≤ any notes
judged_cost id notes detects true some = omega arith
judged_cost id notes detects false some = some refl

pub detected_spends : (faults : List Fault) (h : Try) (notes : ℕ) (counts : Counts) (budget : ℕ) → potential faults counts ≤ budget →
    Spends faults try_cost (any notes) budget (detected h notes counts)
detected_spends faults h notes counts budget within =
    let cost = judged_cost h.node notes h.detects (bit_and notes h.detects == no_kinds) (any_met notes h.detects) in
    record { repeats = omega arith; strikes = omega arith }

stopped_cost : (cause : Blame) (over : ℕ) (nothing : Bool) → try_cost (stopped cause over nothing) ≡ 1
stopped_cost cause over true = refl
stopped_cost cause over false = refl

group_ended_spends : (faults : List Fault) (h : Try) (notes : ℕ) (counts : Counts) (end : GroupEnd)
    (next : ℕ → Counts → Told TryEnd) (budget : ℕ) → potential faults counts ≤ budget →
    ((seen : ℕ) → Spends faults try_cost (any seen) budget (next seen counts)) →
    Spends faults try_cost (any notes + group_cost end) budget (group_ended h notes counts end next)
group_ended_spends faults h notes counts (AllDone leaks) next budget within on =
    more_paid faults try_cost (any (bit_or notes leaks)) (any notes + any leaks) budget (next (bit_or notes leaks) counts)
    (any_or notes leaks) (on (bit_or notes leaks))
group_ended_spends faults h notes counts (SomeEscalated cause over) next budget within on =
    let cost = stopped_cost cause (kinds_without over h.detects) (kinds_without over h.detects == no_kinds) in
    record { repeats = omega arith; strikes = omega arith }

pub behind_group_spends : (faults : List Fault) (h : Try) (notes : ℕ) (counts : Counts) (t : Told GroupEnd)
    (next : ℕ → Counts → Told TryEnd) (left : ℕ) →
    Spends faults group_cost 0 (potential faults counts) t →
    ((seen : ℕ) → Spends faults try_cost (any seen) (left + potential faults t.counts) (next seen t.counts)) →
    Spends faults try_cost (any notes) (left + potential faults counts) (behind_group h notes t next)
behind_group_spends faults h notes counts t next left group on =
    let r : t.past.repeats + group_cost t.answer ≤ 0 + t.past.strikes = group.repeats in
    let s : t.past.strikes + potential faults t.counts ≤ potential faults counts = group.strikes in
    after_spends faults try_cost (any notes) (any notes + group_cost t.answer) (left + potential faults t.counts)
    (left + potential faults counts) t.past (group_ended h notes t.counts t.answer next) (omega arith) (omega arith)
    (group_ended_spends faults h notes t.counts t.answer next (left + potential faults t.counts) (omega arith) on)

-- a begin takes what is due in its try out of the potential
pub begun_spends : (faults : List Fault) (id : NodeId) (domain : Domain) (first : Bool) (counts : Counts)
    (next : ℕ → Counts → Told TryEnd) →
    Spends faults try_cost 0 (due faults id (counts id.0 + 1) 0 + potential faults (counted id.0 counts))
    (next (counts id.0 + 1) (counted id.0 counts)) →
    Spends faults try_cost 0 (potential faults counts) (begun id domain first counts next)
begun_spends faults id domain first counts next on =
    let taken : due faults id (counts id.0 + 1) 0 + potential faults (counted id.0 counts) ≤ potential faults counts =
    due_at_begin faults id counts in
    after_spends faults try_cost 0 0 (due faults id (counts id.0 + 1) 0 + potential faults (counted id.0 counts))
    (potential faults counts)
    (only_events (Begin id (counts id.0 + 1) ∷ prepared first id domain.entries))
    (next (counts id.0 + 1) (counted id.0 counts)) (omega arith) (omega arith) on

ended_spends : (faults : List Fault) (id : NodeId) (domain : Domain) (t : Told TryEnd) (end : TryEnd) (budget : ℕ) →
    t.past.repeats + try_cost end ≤ t.past.strikes → t.past.strikes + potential faults t.counts ≤ budget →
    Spends faults node_cost 0 budget (ended id domain t end)
ended_spends faults id domain t (Passed leak) budget r s = record { repeats = omega arith; strikes = omega arith }
ended_spends faults id domain t (Failed cause) budget r s = record { repeats = omega arith; strikes = omega arith }
ended_spends faults id domain t (Broken cause over) budget r s = record { repeats = omega arith; strikes = omega arith }

unless_failed_spends : (faults : List Fault) (id : NodeId) (domain : Domain) (t : Told TryEnd) (end : TryEnd)
    (next : Counts → Told NodeEnd) (budget : ℕ) →
    t.past.repeats + try_cost end ≤ t.past.strikes → t.past.strikes + potential faults t.counts ≤ budget →
    Spends faults node_cost 0 (potential faults t.counts) (next t.counts) →
    Spends faults node_cost 0 budget (unless_failed id domain t end next)
unless_failed_spends faults id domain t (Passed leak) next budget r s on = ended_spends faults id domain t (Passed leak) budget r s
unless_failed_spends faults id domain t (Failed cause) next budget r s on =
    after_spends faults node_cost 0 0 (potential faults t.counts) budget (record t.past { repeats = t.past.repeats + 1 })
    (next t.counts) (omega arith) (omega arith) on
unless_failed_spends faults id domain t (Broken cause over) next budget r s on =
    ended_spends faults id domain t (Broken cause over) budget r s

pub tries_spends : (faults : List Fault) (spare : ℕ) (id : NodeId) (domain : Domain) (again : Counts → Told TryEnd)
    (t : Told TryEnd) (budget : ℕ) →
    ((now : Counts) → Spends faults try_cost 0 (potential faults now) (again now)) →
    Spends faults try_cost 0 budget t → Spends faults node_cost 0 budget (tries spare id domain again t)
tries_spends faults zero id domain again t budget on h =
    let r : t.past.repeats + try_cost t.answer ≤ 0 + t.past.strikes = h.repeats in
    ended_spends faults id domain t t.answer budget (omega arith) h.strikes
tries_spends faults (suc spare) id domain again t budget on h =
    let r : t.past.repeats + try_cost t.answer ≤ 0 + t.past.strikes = h.repeats in
    unless_failed_spends faults id domain t t.answer (λ now. tries spare id domain again (again now)) budget (omega arith) h.strikes
    (tries_spends faults spare id domain again (again t.counts) (potential faults t.counts) on (on t.counts))

-- a group costs no more than its members
joined_cost : (end : NodeEnd) (rest : GroupEnd) → group_cost (ends_joined end rest) ≤ node_cost end + group_cost rest
joined_cost (Done leak) (AllDone leaks) = any_or leak leaks
joined_cost (Done leak) (SomeEscalated cause over) = omega arith
joined_cost (Escalated cause over) (AllDone leaks) = omega arith
joined_cost (Escalated cause over) (SomeEscalated other more) = omega arith

pub with_member_spends : (faults : List Fault) (t : Told NodeEnd) (rest : Counts → Told GroupEnd) (budget : ℕ) →
    Spends faults node_cost 0 budget t → Spends faults group_cost 0 (potential faults t.counts) (rest t.counts) →
    Spends faults group_cost 0 budget (with_member t rest)
with_member_spends faults t rest budget first others =
    let more : Told GroupEnd = rest t.counts in
    let r : t.past.repeats + node_cost t.answer ≤ 0 + t.past.strikes = first.repeats in
    let s : t.past.strikes + potential faults t.counts ≤ budget = first.strikes in
    let q : more.past.repeats + group_cost more.answer ≤ 0 + more.past.strikes = others.repeats in
    let j = joined_cost t.answer more.answer in
    after_spends faults group_cost 0 (node_cost t.answer) (potential faults t.counts) budget t.past (with_end t.answer more)
    (omega arith) s (record { repeats = omega arith; strikes = others.strikes })
