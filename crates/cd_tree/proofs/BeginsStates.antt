-- The state of one domain along the record: whether it may begin, and which of its begins are wrong.
use Rattle.std.proofs.Common.{◌≡◌, ℕ, zero, suc, Bool, true, false, not, ◌||◌, ◌==◌, Option, None, Some, refl, sym, subst}
use Rattle.cd_tree.specs.declared.domain.NodeId.{NodeId}
use Rattle.cd_tree.specs.declared.event.Event.{Event}
use Rattle.cd_tree.specs.declared.event.Event.TheVariants.{Begin, Saved, Fell, Lapsed, Refilled, Reached, Halted, Found, Complete, Escalate}
use Rattle.cd_tree.proofs.BeginsParts.{Quiet}

-- its parent has begun since its own last begin; its try is in hand; this has failed; it has ended; it has begun
-- where it may not
pub data State : Type 0 where
  ready : State
  trying : State
  failed : State
  over : State
  wrong : State

-- a value for each state, in the order in which they stand above: the tables that follow have one row a function
abbrev pub by_state : {A : Type 0} → A → A → A → A → A → State → A
by_state is_ready is_trying is_failed is_over is_wrong ready = is_ready
by_state is_ready is_trying is_failed is_over is_wrong trying = is_trying
by_state is_ready is_trying is_failed is_over is_wrong failed = is_failed
by_state is_ready is_trying is_failed is_over is_wrong over = is_over
by_state is_ready is_trying is_failed is_over is_wrong wrong = is_wrong

-- the domain begins; its parent begins; its try fails; it ends
abbrev pub opened : State → State
opened s = by_state trying wrong trying wrong wrong s

abbrev pub renewed : State → State
renewed s = by_state ready ready ready ready wrong s

abbrev pub hurt : State → State
hurt s = by_state ready failed failed over wrong s

abbrev pub ended : State → State
ended s = by_state ready over over over wrong s

abbrev pub is_number : Option NodeId → ℕ → Bool
is_number None n = false
is_number (Some id) n = n == id.0

-- a begin of the domain itself, of its parent, of another
abbrev pub at_begin : Bool → Bool → State → State
at_begin true parent s = opened s
at_begin false true s = renewed s
at_begin false false s = s

-- kinds found in the domain's own try
abbrev pub at_found : ℕ → Bool → State → State
at_found zero own s = s
at_found (suc kinds) true s = hurt s
at_found (suc kinds) false s = s

abbrev pub at_complete : Bool → State → State
at_complete true s = ended s
at_complete false s = s

-- the domain itself escalates, a member of it, another
abbrev pub at_escalate : Bool → Bool → State → State
at_escalate true member s = ended s
at_escalate false true s = hurt s
at_escalate false false s = s

-- the state of domain `k` behind an event; `up` gives the parents
abbrev pub along : (ℕ → Option NodeId) → ℕ → State → Event → State
along up k s (Begin id number) = at_begin (k == id.0) (is_number (up k) id.0) s
along up k s (Saved id entry how) = s
along up k s (Fell id entry place wanted found) = s
along up k s (Lapsed id entry seen found) = s
along up k s (Refilled id entry) = s
along up k s (Reached id point) = s
along up k s (Halted id kinds) = s
along up k s (Found id kinds) = at_found kinds (k == id.0) s
along up k s (Complete id) = at_complete (k == id.0) s
along up k s (Escalate id) = at_escalate (k == id.0) (is_number (up id.0) k) s

pub along_quiet : (up : ℕ → Option NodeId) (k : ℕ) → Quiet (along up k)
along_quiet up k =
    record {
      saved = λ s id entry how. refl;
      refilled = λ s id entry. refl;
      reached = λ s id point. refl;
      halted = λ s id kinds. refl;
    }

-- a test that holds
abbrev pub Kept : Bool → Type 0
Kept true = Unit {0}
Kept false = ⊥

-- no begin was wrong so far; the domain may begin; it has not ended
abbrev is_right : State → Bool
is_right s = by_state true true true true false s

abbrev is_free : State → Bool
is_free s = by_state true false true false false s

abbrev is_alive : State → Bool
is_alive s = by_state true true true false false s

abbrev pub IsRight : State → Type 0
IsRight s = Kept (is_right s)

abbrev pub IsFree : State → Type 0
IsFree s = Kept (is_free s)

abbrev pub IsAlive : State → Type 0
IsAlive s = Kept (is_alive s)

-- in its parent's try a domain may begin, in another's no begin was wrong
abbrev pub IsFit : Bool → State → Type 0
IsFit true s = IsFree s
IsFit false s = IsRight s

-- what no event of other domains changes
pub record Lasts (Q : State → Type 0) : Type 0 where
  pub renews : (s : State) → Q s → Q (renewed s)
  pub hurts : (s : State) → Q s → Q (hurt s)

-- ---- one test after another, in each of the five states

-- a test that holds in each state
abbrev InEach : (State → Bool) → Type 0
InEach test = (test ready ≡ true) × (test trying ≡ true) × (test failed ≡ true) × (test over ≡ true) × (test wrong ≡ true)

in_this : (test : State → Bool) (s : State) → InEach test → test s ≡ true
in_this test ready each = each.0
in_this test trying each = each.1
in_this test failed each = each.2
in_this test over each = each.3
in_this test wrong each = each.4

kept_after : (first then : Bool) → (not first || then) ≡ true → Kept first → Kept then
kept_after true then leads kept = subst Kept (sym leads) tt
kept_after false then leads kept = absurd kept

-- where the first test holds the second does, since this is so in each state
follows : (first then : State → Bool) → InEach (λ s. not (first s) || then s) → (s : State) → Kept (first s) → Kept (then s)
follows first then each s kept = kept_after (first s) (then s) (in_this (λ x. not (first x) || then x) s each) kept

pub right_lasts : Lasts IsRight
right_lasts =
    record { renews = follows is_right (λ s. is_right (renewed s)) (refl, refl, refl, refl, refl); hurts = follows is_right (λ s. is_right (hurt s)) (refl, refl, refl, refl, refl) }

pub free_lasts : Lasts IsFree
free_lasts = record { renews = follows is_free (λ s. is_free (renewed s)) (refl, refl, refl, refl, refl); hurts = follows is_free (λ s. is_free (hurt s)) (refl, refl, refl, refl, refl) }

pub alive_lasts : Lasts IsAlive
alive_lasts =
    record { renews = follows is_alive (λ s. is_alive (renewed s)) (refl, refl, refl, refl, refl); hurts = follows is_alive (λ s. is_alive (hurt s)) (refl, refl, refl, refl, refl) }

pub fit_lasts : (b : Bool) → Lasts (IsFit b)
fit_lasts true = record { renews = free_lasts.renews; hurts = free_lasts.hurts }
fit_lasts false = record { renews = right_lasts.renews; hurts = right_lasts.hurts }

pub free_right : (s : State) → IsFree s → IsRight s
free_right = follows is_free is_right (refl, refl, refl, refl, refl)

pub free_alive : (s : State) → IsFree s → IsAlive s
free_alive = follows is_free is_alive (refl, refl, refl, refl, refl)

pub alive_right : (s : State) → IsAlive s → IsRight s
alive_right = follows is_alive is_right (refl, refl, refl, refl, refl)

pub fit_right : (b : Bool) (s : State) → IsFit b s → IsRight s
fit_right true s q = free_right s q
fit_right false s q = q

pub hurt_free : (s : State) → IsAlive s → IsFree (hurt s)
hurt_free = follows is_alive (λ s. is_free (hurt s)) (refl, refl, refl, refl, refl)

pub opened_alive : (s : State) → IsFree s → IsAlive (opened s)
opened_alive = follows is_free (λ s. is_alive (opened s)) (refl, refl, refl, refl, refl)

ended_right : (s : State) → IsRight s → IsRight (ended s)
ended_right = follows is_right (λ s. is_right (ended s)) (refl, refl, refl, refl, refl)

renewed_free : (s : State) → IsRight s → IsFree (renewed s)
renewed_free = follows is_right (λ s. is_free (renewed s)) (refl, refl, refl, refl, refl)

-- ---- events of other domains

pub other_begins : (Q : State → Type 0) → Lasts Q → (own parent : Bool) (s : State) → own ≡ false → Q s → Q (at_begin own parent s)
other_begins Q lasts true parent s other q = absurd (cc)
other_begins Q lasts false true s other q = lasts.renews s q
other_begins Q lasts false false s other q = q

pub other_finds : (Q : State → Type 0) → Lasts Q → (kinds : ℕ) (own : Bool) (s : State) → Q s → Q (at_found kinds own s)
other_finds Q lasts zero own s q = q
other_finds Q lasts (suc kinds) true s q = lasts.hurts s q
other_finds Q lasts (suc kinds) false s q = q

pub other_completes : (Q : State → Type 0) (own : Bool) (s : State) → own ≡ false → Q s → Q (at_complete own s)
other_completes Q true s other q = absurd (cc)
other_completes Q false s other q = q

pub other_escalates : (Q : State → Type 0) → Lasts Q → (own member : Bool) (s : State) → own ≡ false → Q s → Q (at_escalate own member s)
other_escalates Q lasts true member s other q = absurd (cc)
other_escalates Q lasts false true s other q = lasts.hurts s q
other_escalates Q lasts false false s other q = q

pub member_escalates : (own member : Bool) (s : State) → own ≡ false → member ≡ true → IsAlive s → IsFree (at_escalate own member s)
member_escalates true member s other here q = absurd (cc)
member_escalates false true s other here q = hurt_free s q
member_escalates false false s other here q = absurd (cc)

pub fits_behind_begin : (own parent : Bool) (s : State) → own ≡ false → IsRight s → IsFit parent (at_begin own parent s)
fits_behind_begin true parent s other q = absurd (cc)
fits_behind_begin false true s other q = renewed_free s q
fits_behind_begin false false s other q = q

-- ---- events of the domain itself

pub own_begins : (own parent : Bool) (s : State) → own ≡ true → IsFree s → IsAlive (at_begin own parent s)
own_begins true parent s here q = opened_alive s q
own_begins false parent s here q = absurd (cc)

pub own_finds : (kinds : ℕ) (own : Bool) (s : State) → own ≡ true → (kinds == 0) ≡ false → IsAlive s → IsFree (at_found kinds own s)
own_finds zero own s here some q = absurd (cc)
own_finds (suc kinds) true s here some q = hurt_free s q
own_finds (suc kinds) false s here some q = absurd (cc)

pub completes_right : (own : Bool) (s : State) → IsRight s → IsRight (at_complete own s)
completes_right true s q = ended_right s q
completes_right false s q = q

pub escalates_right : (own member : Bool) (s : State) → IsRight s → IsRight (at_escalate own member s)
escalates_right true member s q = ended_right s q
escalates_right false true s q = right_lasts.hurts s q
escalates_right false false s q = q
