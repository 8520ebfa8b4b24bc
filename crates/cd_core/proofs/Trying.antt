-- How the tries of a domain follow one another, on a machine as in its reading, and how the last one ends.
use Rattle.std.proofs.Common.{◌≡◌, ◌≢◌, ℕ, zero, suc, ◌+◌, ◌-◌, ◌<◌, Bool, true, false, ◌==◌, List, [], ◌∷◌, ◌++◌, Option, None, Some, is_none, length, refl, ap, subst, sym, ◌∙◌, bit_and, bit_or, append_assoc, add_assoc, arith}
use Rattle.cd_base.specs.Words.{Words, PlaceSet}
use Rattle.cd_tree.specs.declared.domain.NodeId.{NodeId}
use Rattle.cd_tree.specs.declared.domain.Entry.{Entry}
use Rattle.cd_tree.specs.declared.domain.Item.{Item}
use Rattle.cd_tree.specs.declared.domain.Domain.{Domain}
use Rattle.cd_tree.specs.declared.event.Event.{Event}
use Rattle.cd_tree.specs.declared.event.Event.TheVariants.{Begin, Refilled, Halted, Found, Complete}
use Rattle.cd_tree.specs.KindSets.{no_kinds, kinds_without}
use Rattle.cd_tree.specs.Domains.{Node, Body, Members, node, stop, group}
use Rattle.cd_tree.specs.Fronts.{Front, Stand, front_of_node, behind_front, behind_arrival, behind_point, begins, next_try, tried}
use Rattle.cd_tree.specs.Legal.{Legal, nothing, same}
use Rattle.cd_tree.specs.LegalLaws.{LegalPieces}
use Rattle.cd_tree.specs.Reading.{Case, Counts, Past, joined, only_events, Told, told, after, Try, TryEnd, Passed, Failed, Broken, NodeEnd, Done, Escalated, blame, unless_halted, halted, detected, judged as judged_so, refilled_from, counted, escalation, ended, unless_failed, tries, read_node}
use Rattle.cd_tree.specs.TreeModel.{TreeModel}
use Rattle.cd_field.specs.FieldModel.{FieldModel}

-- ---- pasts

pub joined_twice : (p q r : Past) → joined p (joined q r) ≡ joined (joined p q) r
joined_twice p q r =
    ap (λ (es : List Event). let x : Past = record { events = es; repeats = p.repeats + (q.repeats + r.repeats); strikes = p.strikes + (q.strikes + r.strikes) } in x)
    (sym (append_assoc p.events q.events r.events))
    ∙ ap (λ (n : ℕ). let x : Past = record { events = (p.events ++ q.events) ++ r.events; repeats = n; strikes = p.strikes + (q.strikes + r.strikes) } in x)
    (sym (add_assoc p.repeats q.repeats r.repeats))
    ∙ ap (λ (n : ℕ). let x : Past = record { events = (p.events ++ q.events) ++ r.events; repeats = p.repeats + q.repeats + r.repeats; strikes = n } in x)
    (sym (add_assoc p.strikes q.strikes r.strikes))

pub after_twice : {A : Type 0} (p q : Past) (t : Told A) → after p (after q t) ≡ after (joined p q) t
after_twice {A} p q t = ap (λ (past : Past). told past t.counts t.answer) (joined_twice p q t.past)

-- ---- the end of a domain after its last try

-- the last events of a domain, by the end of its last try, and its own end
abbrev pub last_events : NodeId → Domain → TryEnd → List Event
last_events id domain (Passed leak) = Complete id ∷ []
last_events id domain (Failed cause) = escalation id domain (is_none domain.parent)
last_events id domain (Broken cause over) = escalation id domain (is_none domain.parent)

abbrev pub node_end : TryEnd → NodeEnd
node_end (Passed leak) = Done leak
node_end (Failed cause) = Escalated cause no_kinds
node_end (Broken cause over) = Escalated cause over

-- no try follows
abbrev pub IsLast : ℕ → TryEnd → Type 0
IsLast spare (Passed leak) = Unit {0}
IsLast spare (Failed cause) = spare ≡ 0
IsLast spare (Broken cause over) = Unit {0}

-- the reading of a domain, behind its last try
pub record EndsAfter (id : NodeId) (domain : Domain) (before : Told TryEnd) (whole : Told NodeEnd) : Type 0 where
  pub events : whole.past.events ≡ before.past.events ++ last_events id domain before.answer
  pub counts : whole.counts ≡ before.counts
  pub answer : whole.answer ≡ node_end before.answer

ended_so : (id : NodeId) (domain : Domain) (past : Past) (t : Told TryEnd) (end : TryEnd) → t.answer ≡ end
    → EndsAfter id domain (after past t) (after past (ended id domain t end))
ended_so id domain past t (Passed leak) e = record {
  events = sym (append_assoc past.events t.past.events (Complete id ∷ [])) ∙ ap (λ (x : TryEnd). (past.events ++ t.past.events) ++ last_events id domain x) (sym e);
  counts = refl;
  answer = ap node_end (sym e);
}
ended_so id domain past t (Failed cause) e = record {
  events = sym (append_assoc past.events t.past.events (escalation id domain (is_none domain.parent))) ∙ ap (λ (x : TryEnd). (past.events ++ t.past.events) ++ last_events id domain x) (sym e);
  counts = refl;
  answer = ap node_end (sym e);
}
ended_so id domain past t (Broken cause over) e = record {
  events = sym (append_assoc past.events t.past.events (escalation id domain (is_none domain.parent))) ∙ ap (λ (x : TryEnd). (past.events ++ t.past.events) ++ last_events id domain x) (sym e);
  counts = refl;
  answer = ap node_end (sym e);
}

-- the tries of a domain, with the end of the one in hand given beside it
abbrev tries_by : ℕ → NodeId → Domain → (Counts → Told TryEnd) → Told TryEnd → TryEnd → Told NodeEnd
tries_by zero id domain again t end = ended id domain t end
tries_by (suc spare) id domain again t end = unless_failed id domain t end (λ now. tries spare id domain again (again now))

by_its_end : (spare : ℕ) (id : NodeId) (domain : Domain) (again : Counts → Told TryEnd) (t : Told TryEnd)
    → tries spare id domain again t ≡ tries_by spare id domain again t t.answer
by_its_end zero id domain again t = refl
by_its_end (suc spare) id domain again t = refl

last_by : (id : NodeId) (domain : Domain) (past : Past) (again : Counts → Told TryEnd) (t : Told TryEnd) (spare : ℕ) (end : TryEnd)
    → t.answer ≡ end → IsLast spare end → EndsAfter id domain (after past t) (after past (tries_by spare id domain again t end))
last_by id domain past again t zero end e last = ended_so id domain past t end e
last_by id domain past again t (suc spare) (Passed leak) e last = ended_so id domain past t (Passed leak) e
last_by id domain past again t (suc spare) (Failed cause) e last = absurd (cc)
last_by id domain past again t (suc spare) (Broken cause over) e last = ended_so id domain past t (Broken cause over) e

-- what comes of a try that is the last
pub last_try : (id : NodeId) (domain : Domain) (past : Past) (again : Counts → Told TryEnd) (t : Told TryEnd) (spare : ℕ)
    → IsLast spare t.answer → EndsAfter id domain (after past t) (after past (tries spare id domain again t))
last_try id domain past again t spare last =
    let Q : Told NodeEnd → Type 0 = λ u. EndsAfter id domain (after past t) (after past u) in
    subst Q (sym (by_its_end spare id domain again t)) (last_by id domain past again t spare t.answer refl last)
