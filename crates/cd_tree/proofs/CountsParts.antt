-- What a part of the reading adds to a count: one for each copy of the number in that part, and as much again for each repeat.
use Rattle.std.proofs.Common.{◌≡◌, ℕ, zero, suc, ◌+◌, ◌*◌, ◌≤◌, Bool, true, false, cond, ◌==◌, bit_or, bit_and, if◌then◌else◌, List, [], ◌∷◌, is_none, length, refl, arith, le_refl, mul-le-mul}
use Rattle.cd_tree.specs.declared.domain.NodeId.{NodeId}
use Rattle.cd_tree.specs.declared.domain.Domain.{Domain}
use Rattle.cd_tree.specs.declared.document.Fault.{Fault}
use Rattle.cd_tree.specs.declared.event.Event.TheVariants.{Reached, Complete}
use Rattle.cd_tree.specs.KindSets.{no_kinds, kinds_without}
use Rattle.cd_tree.specs.Scripts.{struck, kinds_of}
use Rattle.cd_tree.specs.Reading.{Case, Counts, counted, Past, only_events, Told, told, after, TryEnd, Passed, Failed, Broken, NodeEnd, Done, Escalated, GroupEnd, AllDone, SomeEscalated, Try, begun, halted, unless_halted, arrived, detected, group_ended, behind_group, with_end, with_member, escalation, ended, unless_failed, tries}
use Rattle.cd_tree.proofs.Numbers.{growth-joined, growth-repeated}

-- after this part of the reading, which has `many` copies of n, the count of n is at most `base` and these copies,
-- counted once and again for each repeat, and it has not fallen
pub record Grows {A : Type 0} (n base many : ℕ) (t : Told A) : Type 0 where
  pub count : t.counts n ≤ base + many * (1 + t.past.repeats)
  pub least : base ≤ t.counts n

-- a bound by more copies holds too
pub grows_more : {A : Type 0} (n base many more : ℕ) (t : Told A) → many ≤ more → Grows n base many t → Grows n base more t
grows_more n base many more t most h =
    let k : t.counts n ≤ base + many * (1 + t.past.repeats) = h.count in
    let m : many * (1 + t.past.repeats) ≤ more * (1 + t.past.repeats) = mul-le-mul most (le_refl (1 + t.past.repeats)) in
    record { count = omega arith; least = h.least }

-- what is told before without a repeat adds nothing
pub quiet_grows : {A : Type 0} (n base many : ℕ) (past : Past) (t : Told A) → past.repeats ≡ 0 → Grows n base many t →
    Grows n base many (after past t)
quiet_grows n base many past t none h =
    let k : t.counts n ≤ base + many * (1 + t.past.repeats) = h.count in
    let m : many * (1 + t.past.repeats) ≤ many * (1 + (past.repeats + t.past.repeats)) =
    mul-le-mul (le_refl many) (omega arith) in
    record { count = omega arith; least = h.least }

halted_grows : (n many : ℕ) (h : Try) (halts notes : ℕ) (counts : Counts) (found : Bool) →
    Grows n (counts n) many (halted h halts notes counts found)
halted_grows n many h halts notes counts true = record { count = omega arith; least = omega arith }
halted_grows n many h halts notes counts false = record { count = omega arith; least = omega arith }

pub unless_halted_grows : (n many : ℕ) (h : Try) (halts notes : ℕ) (counts : Counts) (next : ℕ → Told TryEnd) (none : Bool) →
    Grows n (counts n) many (next notes) → Grows n (counts n) many (unless_halted h halts notes counts next none)
unless_halted_grows n many h halts notes counts next true on = on
unless_halted_grows n many h halts notes counts next false on =
    halted_grows n many h halts notes counts (kinds_without halts h.detects == no_kinds)

pub arrived_grows : (n many : ℕ) (w : Case) (h : Try) (point notes : ℕ) (counts : Counts) (next : ℕ → Told TryEnd) →
    ((seen : ℕ) → Grows n (counts n) many (next seen)) → Grows n (counts n) many (arrived w h point notes counts next)
arrived_grows n many w h point notes counts next on =
    let hits : List Fault = struck w.faults h.node h.begin point in
    let kinds : ℕ = kinds_of hits in
    quiet_grows n (counts n) many (record { events = Reached h.node point ∷ []; repeats = 0; strikes = length hits })
    (unless_halted h (bit_and kinds w.halts) (bit_or notes kinds) counts next (bit_and kinds w.halts == no_kinds)) refl
    (unless_halted_grows n many h (bit_and kinds w.halts) (bit_or notes kinds) counts next
    (bit_and kinds w.halts == no_kinds) (on (bit_or notes kinds)))

pub detected_grows : (n many : ℕ) (h : Try) (notes : ℕ) (counts : Counts) → Grows n (counts n) many (detected h notes counts)
detected_grows n many h notes counts = record { count = omega arith; least = omega arith }

-- one part of the reading and then another
pub after_grows : {A B : Type 0} (n base first second : ℕ) (t : Told A) (next : Told B) →
    Grows n base first t → Grows n (t.counts n) second next → Grows n base (first + second) (after t.past next)
after_grows n base first second t next h k =
    let before : base ≤ t.counts n = h.least in
    let behind : t.counts n ≤ next.counts n = k.least in
    record {
      count = growth-joined base (t.counts n) (next.counts n) first second t.past.repeats next.past.repeats h.count k.count;
      least = omega arith;
    }

pub group_ended_grows : (n many : ℕ) (h : Try) (notes : ℕ) (counts : Counts) (end : GroupEnd) (next : ℕ → Counts → Told TryEnd) →
    ((seen : ℕ) → Grows n (counts n) many (next seen counts)) → Grows n (counts n) many (group_ended h notes counts end next)
group_ended_grows n many h notes counts (AllDone leaks) next on = on (bit_or notes leaks)
group_ended_grows n many h notes counts (SomeEscalated cause over) next on = record { count = omega arith; least = omega arith }

pub behind_group_grows : (n inner outer : ℕ) (h : Try) (notes : ℕ) (counts : Counts) (t : Told GroupEnd)
    (next : ℕ → Counts → Told TryEnd) → Grows n (counts n) inner t →
    ((seen : ℕ) → Grows n (t.counts n) outer (next seen t.counts)) →
    Grows n (counts n) (inner + outer) (behind_group h notes t next)
behind_group_grows n inner outer h notes counts t next group on =
    after_grows n (counts n) inner outer t (group_ended h notes t.counts t.answer next) group
    (group_ended_grows n outer h notes t.counts t.answer next on)

-- a begin adds the domain itself
counted_more : (n d of now many repeats : ℕ) → now ≤ (if n == d then of + 1 else of) + many * (1 + repeats) →
    now ≤ of + (cond (n == d) 1 0 + many) * (1 + (0 + repeats))
counted_more n d of now many repeats h = by (n == d) h
  where
    by : (b : Bool) → now ≤ (if b then of + 1 else of) + many * (1 + repeats) → now ≤ of + (cond b 1 0 + many) * (1 + (0 + repeats))
    by true k = growth-joined of (of + 1) now 1 many 0 repeats (omega arith) k
    by false k = growth-joined of of now 0 many 0 repeats (omega arith) k

pub counted_least : (n d of now : ℕ) → (if n == d then of + 1 else of) ≤ now → of ≤ now
counted_least n d of now h = by (n == d) h
  where
    by : (b : Bool) → (if b then of + 1 else of) ≤ now → of ≤ now
    by true k = omega arith
    by false k = k

pub begun_grows : (n many : ℕ) (id : NodeId) (domain : Domain) (first : Bool) (counts : Counts)
    (next : ℕ → Counts → Told TryEnd) →
    Grows n (counted id.0 counts n) many (next (counts id.0 + 1) (counted id.0 counts)) →
    Grows n (counts n) (cond (n == id.0) 1 0 + many) (begun id domain first counts next)
begun_grows n many id domain first counts next h =
    let t : Told TryEnd = next (counts id.0 + 1) (counted id.0 counts) in
    record {
      count = counted_more n id.0 (counts n) (t.counts n) many t.past.repeats h.count;
      least = counted_least n id.0 (counts n) (t.counts n) h.least;
    }

-- what is told behind a part, with no repeat and at the same counts, adds nothing
after_quiet : {A B : Type 0} (n base many : ℕ) (t : Told A) (last : Told B) → last.past.repeats ≡ 0 → last.counts n ≡ t.counts n →
    t.counts n ≤ base + many * (1 + t.past.repeats) → base ≤ t.counts n → Grows n base many (after t.past last)
after_quiet n base many t last none same h least =
    let m : many * (1 + t.past.repeats) ≤ many * (1 + (t.past.repeats + last.past.repeats)) =
    mul-le-mul (le_refl many) (omega arith) in
    record { count = omega arith; least = omega arith }

ended_grows : (n base many : ℕ) (id : NodeId) (domain : Domain) (t : Told TryEnd) (end : TryEnd) →
    t.counts n ≤ base + many * (1 + t.past.repeats) → base ≤ t.counts n → Grows n base many (ended id domain t end)
ended_grows n base many id domain t (Passed leak) h least =
    after_quiet n base many t (told (only_events (Complete id ∷ [])) t.counts (Done leak)) refl refl h least
ended_grows n base many id domain t (Failed cause) h least =
    after_quiet n base many t (told (only_events (escalation id domain (is_none domain.parent))) t.counts (Escalated cause no_kinds)) refl refl h least
ended_grows n base many id domain t (Broken cause over) h least =
    after_quiet n base many t (told (only_events (escalation id domain (is_none domain.parent))) t.counts (Escalated cause over)) refl refl h least

unless_failed_grows : (n base many : ℕ) (id : NodeId) (domain : Domain) (t : Told TryEnd) (end : TryEnd)
    (next : Counts → Told NodeEnd) → t.counts n ≤ base + many * (1 + t.past.repeats) → base ≤ t.counts n →
    Grows n (t.counts n) many (next t.counts) → Grows n base many (unless_failed id domain t end next)
unless_failed_grows n base many id domain t (Passed leak) next h least on = ended_grows n base many id domain t (Passed leak) h least
unless_failed_grows n base many id domain t (Failed cause) next h least on =
    let rest : Told NodeEnd = next t.counts in
    let more : t.counts n ≤ rest.counts n = on.least in
    record {
      count = growth-repeated base (t.counts n) (rest.counts n) many t.past.repeats rest.past.repeats h on.count;
      least = omega arith;
    }
unless_failed_grows n base many id domain t (Broken cause over) next h least on =
    ended_grows n base many id domain t (Broken cause over) h least

pub tries_grows : (n base many spare : ℕ) (id : NodeId) (domain : Domain) (again : Counts → Told TryEnd) (t : Told TryEnd) →
    ((now : Counts) → Grows n (now n) many (again now)) → Grows n base many t → Grows n base many (tries spare id domain again t)
tries_grows n base many zero id domain again t on h = ended_grows n base many id domain t t.answer h.count h.least
tries_grows n base many (suc spare) id domain again t on h =
    unless_failed_grows n base many id domain t t.answer (λ now. tries spare id domain again (again now)) h.count h.least
    (tries_grows n (t.counts n) many spare id domain again (again t.counts) on (on t.counts))

pub with_member_grows : (n one others : ℕ) (counts : Counts) (t : Told NodeEnd) (rest : Counts → Told GroupEnd) →
    Grows n (counts n) one t → Grows n (t.counts n) others (rest t.counts) →
    Grows n (counts n) (one + others) (with_member t rest)
with_member_grows n one others counts t rest first more =
    after_grows n (counts n) one others t (with_end t.answer (rest t.counts)) first (record { count = more.count; least = more.least })
