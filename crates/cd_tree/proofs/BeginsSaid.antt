-- What the states say of the events between two begins, read off from the second begin backwards.
use Rattle.std.proofs.Common.{◌≡◌, ◌⊎◌, ℕ, zero, suc, Bool, true, false, ◌==◌, List, [], ◌∷◌, ◌++◌, Option, None, Some, Contains, refl, ap, sym, subst, arith, inl, inr}
use Rattle.std.proofs.lemmas.Bool.{eqb-true, eqb-false, eq-eqb}
use Rattle.std.proofs.lemmas.List.Elements.{Contains-append_left, Contains-append_right, Contains-append_cases, Contains-push, Contains-push_cases}
use Rattle.cd_tree.specs.declared.domain.NodeId.{NodeId}
use Rattle.cd_tree.specs.declared.domain.Domain.{Domain}
use Rattle.cd_tree.specs.declared.event.Event.{Event}
use Rattle.cd_tree.specs.declared.event.Event.TheVariants.{Begin, Saved, Fell, Lapsed, Refilled, Reached, Halted, Found, Complete, Escalate}
use Rattle.cd_tree.specs.Begins.{ParentBegins, TryFails, StaysOpen, DoesNotBegin, BeginsFollowFailures}
use Rattle.cd_tree.proofs.BeginsParts.{state_behind, state-append}
use Rattle.cd_tree.proofs.BeginsStates.{State, ready, trying, failed, over, wrong, renewed, hurt, ended, is_number, at_begin, at_found, at_complete, at_escalate, along, IsRight, IsFree}
use Rattle.cd_tree.proofs.BeginsTree.{parent_in, has_parent, record_right}

-- ---- elements of a list, from the front

first_there : (x : Event) (xs : List Event) → Contains (x ∷ xs) x
first_there x xs = Contains-append_left (x ∷ []) xs x (Contains-push [] x)

later_there : (x : Event) (xs : List Event) (y : Event) → Contains xs y → Contains (x ∷ xs) y
later_there x xs y there = Contains-append_right (x ∷ []) xs y there

none_there : (y : Event) → Contains [] y → ⊥
none_there y (k, below, is) = omega arith

not_there : (x : Event) (xs : List Event) (y : Event) → (x ≡ y → ⊥) → (Contains xs y → ⊥) → Contains (x ∷ xs) y → ⊥
not_there x xs y other none there =
    elim (Contains-append_cases (x ∷ []) xs y there) [
      | inl here ↦ elim (Contains-push_cases [] x y here) [ inl nothing ↦ none_there y nothing | inr same ↦ other same ]
      | inr later ↦ none later
    ]

-- ---- what a state says of the events up to the next begin of the domain

abbrev Says : List Domain → NodeId → State → List Event → Type 0
Says domains id ready events = Unit {0}
Says domains id trying events = ParentBegins domains id events ⊎ (TryFails domains id events × StaysOpen id events)
Says domains id failed events = ParentBegins domains id events ⊎ StaysOpen id events
Says domains id over events = ParentBegins domains id events
Says domains id wrong events = ⊥

begins_later : (domains : List Domain) (id : NodeId) (x : Event) (xs : List Event) → ParentBegins domains id xs
    → ParentBegins domains id (x ∷ xs)
begins_later domains id x xs (parent, number, up, there) = (parent, number, up, later_there x xs (Begin parent number) there)

fails_later : (domains : List Domain) (id : NodeId) (x : Event) (xs : List Event) → TryFails domains id xs → TryFails domains id (x ∷ xs)
fails_later domains id x xs (inl (kinds, some, there)) = inl (kinds, some, later_there x xs (Found id kinds) there)
fails_later domains id x xs (inr (m, up, there)) = inr (m, up, later_there x xs (Escalate m) there)

-- an event that does not end the domain
abbrev Ends : NodeId → Event → Type 0
Ends id x = (x ≡ Complete id) ⊎ (x ≡ Escalate id)

open_later : (id : NodeId) (x : Event) (xs : List Event) → (Ends id x → ⊥) → StaysOpen id xs → StaysOpen id (x ∷ xs)
open_later id x xs other (complete, escalate) = (
  not_there x xs (Complete id) (λ e. other (inl e)) complete,
  not_there x xs (Escalate id) (λ e. other (inr e)) escalate,
)

says_later : (domains : List Domain) (id : NodeId) (x : Event) (xs : List Event) (s : State) → (Ends id x → ⊥) → Says domains id s xs
    → Says domains id s (x ∷ xs)
says_later domains id x xs ready other said = tt
says_later domains id x xs trying other (inl begins) = inl (begins_later domains id x xs begins)
says_later domains id x xs trying other (inr (fails, stays)) =
    inr (fails_later domains id x xs fails, open_later id x xs other stays)
says_later domains id x xs failed other (inl begins) = inl (begins_later domains id x xs begins)
says_later domains id x xs failed other (inr stays) = inr (open_later id x xs other stays)
says_later domains id x xs over other said = begins_later domains id x xs said
says_later domains id x xs wrong other said = said

says_renewed : (domains : List Domain) (id : NodeId) (x : Event) (xs : List Event) (s : State) → ParentBegins domains id (x ∷ xs)
    → Says domains id (renewed s) xs → Says domains id s (x ∷ xs)
says_renewed domains id x xs ready begins said = tt
says_renewed domains id x xs trying begins said = inl begins
says_renewed domains id x xs failed begins said = inl begins
says_renewed domains id x xs over begins said = begins
says_renewed domains id x xs wrong begins said = said

says_hurt : (domains : List Domain) (id : NodeId) (x : Event) (xs : List Event) (s : State) → (Ends id x → ⊥)
    → TryFails domains id (x ∷ xs) → Says domains id (hurt s) xs → Says domains id s (x ∷ xs)
says_hurt domains id x xs ready other fails said = tt
says_hurt domains id x xs trying other fails (inl begins) = inl (begins_later domains id x xs begins)
says_hurt domains id x xs trying other fails (inr stays) = inr (fails, open_later id x xs other stays)
says_hurt domains id x xs failed other fails (inl begins) = inl (begins_later domains id x xs begins)
says_hurt domains id x xs failed other fails (inr stays) = inr (open_later id x xs other stays)
says_hurt domains id x xs over other fails said = begins_later domains id x xs said
says_hurt domains id x xs wrong other fails said = said

says_ended : (domains : List Domain) (id : NodeId) (x : Event) (xs : List Event) (s : State) → Says domains id (ended s) xs
    → Says domains id s (x ∷ xs)
says_ended domains id x xs ready said = tt
says_ended domains id x xs trying said = inl (begins_later domains id x xs said)
says_ended domains id x xs failed said = inl (begins_later domains id x xs said)
says_ended domains id x xs over said = begins_later domains id x xs said
says_ended domains id x xs wrong said = said

-- ---- one event

same_id : (id other : NodeId) → (id.0 == other.0) ≡ true → other ≡ id
same_id id other e = let make : ℕ → NodeId = λ n. record { 0 = n } in ap make (sym (eqb-true id.0 other.0 e))

is_number_of : (o : Option NodeId) (id : NodeId) → is_number o id.0 ≡ true → o ≡ Some id
is_number_of None id e = absurd (cc)
is_number_of (Some other) id e = ap Some (same_id id other e)

says_begin : (domains : List Domain) (id node : NodeId) (number : ℕ) (xs : List Event) (s : State) (own parent : Bool)
    → (id.0 == node.0) ≡ own → is_number (parent_in domains id.0) node.0 ≡ parent → DoesNotBegin id (Begin node number ∷ xs)
    → Says domains id (at_begin own parent s) xs → Says domains id s (Begin node number ∷ xs)
says_begin domains id node number xs s true parent e f not_it said =
    let same : node ≡ id = same_id id node e in
    absurd (not_it number (subst (λ i. Contains (Begin node number ∷ xs) (Begin i number)) same (first_there (Begin node number) xs)))
says_begin domains id node number xs s false true e f not_it said =
    let up : parent_in domains id.0 ≡ Some node = is_number_of (parent_in domains id.0) node f in
    says_renewed domains id (Begin node number) xs s
    (node, number, has_parent domains id node up, first_there (Begin node number) xs) said
says_begin domains id node number xs s false false e f not_it said =
    says_later domains id (Begin node number) xs s
    (λ ends. elim ends [ inl c ↦ absurd (cc) | inr c ↦ absurd (cc) ]) said

says_found : (domains : List Domain) (id node : NodeId) (kinds : ℕ) (xs : List Event) (s : State) (own : Bool)
    → (id.0 == node.0) ≡ own → Says domains id (at_found kinds own s) xs → Says domains id s (Found node kinds ∷ xs)
says_found domains id node zero xs s own e said =
    says_later domains id (Found node zero) xs s (λ ends. elim ends [ inl c ↦ absurd (cc) | inr c ↦ absurd (cc) ]) said
says_found domains id node (suc kinds) xs s true e said =
    let same : node ≡ id = same_id id node e in
    says_hurt domains id (Found node (suc kinds)) xs s (λ ends. elim ends [ inl c ↦ absurd (cc) | inr c ↦ absurd (cc) ])
    (inl (
      suc kinds,
      λ none. omega arith,
      subst (λ i. Contains (Found node (suc kinds) ∷ xs) (Found i (suc kinds))) same (first_there (Found node (suc kinds)) xs),
    ))
    said
says_found domains id node (suc kinds) xs s false e said =
    says_later domains id (Found node (suc kinds)) xs s (λ ends. elim ends [ inl c ↦ absurd (cc) | inr c ↦ absurd (cc) ]) said

says_complete : (domains : List Domain) (id node : NodeId) (xs : List Event) (s : State) (own : Bool)
    → (id.0 == node.0) ≡ own → Says domains id (at_complete own s) xs → Says domains id s (Complete node ∷ xs)
says_complete domains id node xs s true e said = says_ended domains id (Complete node) xs s said
says_complete domains id node xs s false e said =
    says_later domains id (Complete node) xs s
    (λ ends.
    elim ends [
      | inl c ↦ eqb-false id.0 node.0 e (cc)
      | inr c ↦ absurd (cc)
    ])
    said

says_escalate : (domains : List Domain) (id node : NodeId) (xs : List Event) (s : State) (own member : Bool)
    → (id.0 == node.0) ≡ own → is_number (parent_in domains node.0) id.0 ≡ member
    → Says domains id (at_escalate own member s) xs → Says domains id s (Escalate node ∷ xs)
says_escalate domains id node xs s true member e f said = says_ended domains id (Escalate node) xs s said
says_escalate domains id node xs s false true e f said =
    let up : parent_in domains node.0 ≡ Some id = is_number_of (parent_in domains node.0) id f in
    says_hurt domains id (Escalate node) xs s
    (λ ends. elim ends [ inl c ↦ absurd (cc) | inr c ↦ eqb-false id.0 node.0 e (cc) ])
    (inr (node, has_parent domains node id up, first_there (Escalate node) xs)) said
says_escalate domains id node xs s false false e f said =
    says_later domains id (Escalate node) xs s
    (λ ends. elim ends [ inl c ↦ absurd (cc) | inr c ↦ eqb-false id.0 node.0 e (cc) ]) said

says_before : (domains : List Domain) (id : NodeId) (x : Event) (xs : List Event) (s : State) → DoesNotBegin id (x ∷ xs)
    → Says domains id (along (parent_in domains) id.0 s x) xs → Says domains id s (x ∷ xs)
says_before domains id (Begin node number) xs s not_it said =
    says_begin domains id node number xs s (id.0 == node.0) (is_number (parent_in domains id.0) node.0) refl refl not_it said
says_before domains id (Saved node entry how) xs s not_it said =
    says_later domains id (Saved node entry how) xs s (λ ends. elim ends [ inl c ↦ absurd (cc) | inr c ↦ absurd (cc) ]) said
says_before domains id (Fell node entry place wanted found) xs s not_it said =
    says_later domains id (Fell node entry place wanted found) xs s (λ ends. elim ends [ inl c ↦ absurd (cc) | inr c ↦ absurd (cc) ]) said
says_before domains id (Lapsed node entry seen found) xs s not_it said =
    says_later domains id (Lapsed node entry seen found) xs s (λ ends. elim ends [ inl c ↦ absurd (cc) | inr c ↦ absurd (cc) ]) said
says_before domains id (Refilled node entry) xs s not_it said =
    says_later domains id (Refilled node entry) xs s (λ ends. elim ends [ inl c ↦ absurd (cc) | inr c ↦ absurd (cc) ]) said
says_before domains id (Reached node point) xs s not_it said =
    says_later domains id (Reached node point) xs s (λ ends. elim ends [ inl c ↦ absurd (cc) | inr c ↦ absurd (cc) ]) said
says_before domains id (Halted node kinds) xs s not_it said =
    says_later domains id (Halted node kinds) xs s (λ ends. elim ends [ inl c ↦ absurd (cc) | inr c ↦ absurd (cc) ]) said
says_before domains id (Found node kinds) xs s not_it said = says_found domains id node kinds xs s (id.0 == node.0) refl said
says_before domains id (Complete node) xs s not_it said = says_complete domains id node xs s (id.0 == node.0) refl said
says_before domains id (Escalate node) xs s not_it said =
    says_escalate domains id node xs s (id.0 == node.0) (is_number (parent_in domains node.0) id.0) refl refl said

-- ---- the events up to a begin that is right

says_nothing : (domains : List Domain) (id : NodeId) (s : State) → IsFree s → Says domains id s []
says_nothing domains id ready free = tt
says_nothing domains id trying free = absurd free
says_nothing domains id failed free = inr (none_there (Complete id), none_there (Escalate id))
says_nothing domains id over free = absurd free
says_nothing domains id wrong free = absurd free

says_up_to : (domains : List Domain) (id : NodeId) (xs : List Event) (s : State) → DoesNotBegin id xs
    → IsFree (state_behind (along (parent_in domains) id.0) s xs) → Says domains id s xs
says_up_to domains id [] s not_it free = says_nothing domains id s free
says_up_to domains id (x ∷ xs) s not_it free =
    says_before domains id x xs s not_it
    (says_up_to domains id xs (along (parent_in domains) id.0 s x)
    (λ number there. not_it number (later_there x xs (Begin id number) there)) free)

-- a wrong begin stays one
wrong_stays : (up : ℕ → Option NodeId) (k : ℕ) (x : Event) → along up k wrong x ≡ wrong
wrong_stays up k (Begin id number) = by (k == id.0) (is_number (up k) id.0)
  where
    by : (own parent : Bool) → at_begin own parent wrong ≡ wrong
    by true parent = refl
    by false true = refl
    by false false = refl
wrong_stays up k (Saved id entry how) = refl
wrong_stays up k (Fell id entry place wanted found) = refl
wrong_stays up k (Lapsed id entry seen found) = refl
wrong_stays up k (Refilled id entry) = refl
wrong_stays up k (Reached id point) = refl
wrong_stays up k (Halted id kinds) = refl
wrong_stays up k (Found id kinds) = by kinds (k == id.0)
  where
    by : (kinds : ℕ) (own : Bool) → at_found kinds own wrong ≡ wrong
    by zero own = refl
    by (suc kinds) true = refl
    by (suc kinds) false = refl
wrong_stays up k (Complete id) = by (k == id.0)
  where
    by : (own : Bool) → at_complete own wrong ≡ wrong
    by true = refl
    by false = refl
wrong_stays up k (Escalate id) = by (k == id.0) (is_number (up id.0) k)
  where
    by : (own member : Bool) → at_escalate own member wrong ≡ wrong
    by true member = refl
    by false true = refl
    by false false = refl

wrong_never_right : (up : ℕ → Option NodeId) (k : ℕ) (xs : List Event) → IsRight (state_behind (along up k) wrong xs) → ⊥
wrong_never_right up k [] right = right
wrong_never_right up k (x ∷ xs) right =
    wrong_never_right up k xs (subst (λ s. IsRight (state_behind (along up k) s xs)) (wrong_stays up k x) right)

right_before : (up : ℕ → Option NodeId) (k : ℕ) (xs : List Event) (s : State) → IsRight (state_behind (along up k) s xs) → IsRight s
right_before up k xs ready right = tt
right_before up k xs trying right = tt
right_before up k xs failed right = tt
right_before up k xs over right = tt
right_before up k xs wrong right = wrong_never_right up k xs right

free_before_begin : (own parent : Bool) (s : State) → own ≡ true → IsRight (at_begin own parent s) → IsFree s
free_before_begin true parent ready own right = tt
free_before_begin true parent trying own right = right
free_before_begin true parent failed own right = tt
free_before_begin true parent over own right = right
free_before_begin true parent wrong own right = right
free_before_begin false parent s own right = absurd (cc)

said_behind_begin : (domains : List Domain) (id : NodeId) (xs : List Event) (own parent : Bool) (s : State) → own ≡ true
    → Says domains id (at_begin own parent s) xs
    → ParentBegins domains id xs ⊎ (TryFails domains id xs × StaysOpen id xs)
said_behind_begin domains id xs true parent ready own said = said
said_behind_begin domains id xs true parent trying own said = absurd said
said_behind_begin domains id xs true parent failed own said = said
said_behind_begin domains id xs true parent over own said = absurd said
said_behind_begin domains id xs true parent wrong own said = absurd said
said_behind_begin domains id xs false parent s own said = absurd (cc)

pub begins_follow_failures : BeginsFollowFailures
begins_follow_failures tree faults is id first second before between behind e not_it =
    let up : ℕ → Option NodeId = parent_in tree.domains in
    let step : State → Event → State = along up id.0 in
    let last : List Event = Begin id second ∷ behind in
    let start : State = state_behind step ready before in
    let opened_there : State = step start (Begin id first) in
    let closed_there : State = state_behind step opened_there between in
    let own : (id.0 == id.0) ≡ true = eq-eqb id.0 id.0 refl in
    let all : IsRight (state_behind step ready (before ++ Begin id first ∷ (between ++ last))) =
    subst (λ events. IsRight (state_behind step ready events)) e (record_right tree faults is id.0) in
    let from_first : IsRight (state_behind step opened_there (between ++ last)) =
    subst IsRight (state-append step ready before (Begin id first ∷ (between ++ last))) all in
    let from_second : IsRight (state_behind step (step closed_there (Begin id second)) behind) =
    subst IsRight (state-append step opened_there between last) from_first in
    let free : IsFree closed_there =
    free_before_begin (id.0 == id.0) (is_number (up id.0) id.0) closed_there own
    (right_before up id.0 behind (step closed_there (Begin id second)) from_second) in
    said_behind_begin tree.domains id between (id.0 == id.0) (is_number (up id.0) id.0) start own
    (says_up_to tree.domains id between opened_there not_it free)
