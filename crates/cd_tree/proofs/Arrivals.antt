-- Each arrival of a domain in its record is one of its fronts: where an event stands in lists that are put together.
use Rattle.std.proofs.Common.{◌≡◌, ℕ, suc, ◌⊎◌, Bool, true, false, List, [], ◌∷◌, ◌++◌, refl, ap, sym, ◌∙◌, subst, append_assoc, inl, inr}
use Rattle.cd_tree.specs.declared.domain.NodeId.{NodeId}
use Rattle.cd_tree.specs.declared.domain.Entry.{Entry}
use Rattle.cd_tree.specs.declared.event.Event.{Event}
use Rattle.cd_tree.specs.declared.event.Event.TheVariants.{Begin, Reached}
use Rattle.cd_tree.specs.Reading.{saved_from, refilled_from, prepared}
use Rattle.cd_base.proofs.ListLemmas.{Each}

-- an event that is no arrival of this domain
abbrev pub NoArrival : NodeId → Event → Type 0
NoArrival id event = (point : ℕ) → event ≡ Reached id point → ⊥

-- an event of two lists together stands in the first or in the second
pub split : (xs ys before after : List Event) (event : Event) → xs ++ ys ≡ before ++ event ∷ after
    → ((rest : List Event) × (xs ≡ before ++ event ∷ rest))
    ⊎ ((between : List Event) × (before ≡ xs ++ between) × (ys ≡ between ++ event ∷ after))
split [] ys before after event e = inr (before, refl, e)
split (x ∷ xs) ys [] after event e =
    let first : x ≡ event = cc in
    inl (xs, ap (λ (y : Event). y ∷ xs) first)
split (x ∷ xs) ys (y ∷ before) after event e =
    let first : x ≡ y = cc in
    let rest : xs ++ ys ≡ before ++ event ∷ after = cc in
    elim (split xs ys before after event rest) [
      | inl (more, here) ↦ inl (more, ap (λ (z : Event). z ∷ xs) first ∙ ap (λ (zs : List Event). y ∷ zs) here)
      | inr (between, here, there) ↦
          inr (between, ap (λ (zs : List Event). y ∷ zs) here ∙ ap (λ (z : Event). z ∷ (xs ++ between)) (sym first), there)
    ]

every_at : (P : Event → Type 0) (before after : List Event) (event : Event) → Each P (before ++ event ∷ after) → P event
every_at P [] after event every = every.0
every_at P (x ∷ before) after event every = every_at P before after event every.1

-- an arrival does not stand among events that are none
pub not_among : {A : Type 0} (id : NodeId) (xs before after : List Event) (point : ℕ) → Each (NoArrival id) xs
    → xs ≡ before ++ Reached id point ∷ after → A
not_among id xs before after point none e =
    absurd (every_at (NoArrival id) before after (Reached id point) (subst (Each (NoArrival id)) e none) point refl)

one_event : (before after : List Event) (one event : Event) → one ∷ [] ≡ before ++ event ∷ after → (before ≡ []) × (one ≡ event)
one_event [] after one event e = let same : one ≡ event = cc in (refl, same)
one_event (x ∷ before) after one event e =
    let none : [] ≡ before ++ event ∷ after = cc in
    nothing_there before none
  where
    nothing_there : {A : Type 0} (xs : List Event) → [] ≡ xs ++ event ∷ after → A
    nothing_there [] e = absurd (cc)
    nothing_there (x ∷ xs) e = absurd (cc)

pub append_nil : (xs : List Event) → xs ++ [] ≡ xs
append_nil [] = refl
append_nil (x ∷ xs) = ap (λ (ys : List Event). x ∷ ys) (append_nil xs)

-- behind events F come some that are no arrivals, an arrival, and a rest: what holds of that arrival and of each in the
-- rest, by the events before it, holds of each
pub arrivals : (At : List Event → ℕ → Type 0) (id : NodeId) (F q rest : List Event) (point : ℕ) → Each (NoArrival id) q → At (F ++ q) point
    → ((before after : List Event) (k : ℕ) → rest ≡ before ++ Reached id k ∷ after → At ((F ++ (q ++ Reached id point ∷ [])) ++ before) k)
    → (before after : List Event) (k : ℕ) → (q ++ Reached id point ∷ []) ++ rest ≡ before ++ Reached id k ∷ after → At (F ++ before) k
arrivals At id F q rest point none here later before after k e =
    let one : List Event = Reached id point ∷ [] in
    elim (split (q ++ one) rest before after (Reached id k) e) [
      | inl (more, inside) ↦
          elim (split q one before more (Reached id k) inside) [
            | inl (less, first) ↦ not_among id q before less k none first
            | inr (between, is, last) ↦
                let both : (between ≡ []) × (Reached id point ≡ Reached id k) = one_event between more (Reached id point) (Reached id k) last in
                let empty : between ≡ [] = both.0 in
                let arrival : Reached id point ≡ Reached id k = both.1 in
                let same : point ≡ k = cc in
                let all : before ≡ q = is ∙ ap (λ (xs : List Event). q ++ xs) empty ∙ append_nil q in
                subst (λ (n : ℕ). At (F ++ before) n) same (subst (λ (xs : List Event). At (F ++ xs) point) (sym all) here)
          ]
      | inr (between, is, inside) ↦
          let at : At ((F ++ (q ++ one)) ++ between) k = later between after k inside in
          let same : (F ++ (q ++ one)) ++ between ≡ F ++ before =
          append_assoc F (q ++ one) between ∙ ap (λ (xs : List Event). F ++ xs) (sym is) in
          subst (λ (xs : List Event). At xs k) same at
    ]

saved_none : (id : NodeId) (at : ℕ) (entries : List Entry) → Each (NoArrival id) (saved_from id at entries)
saved_none id at [] = tt
saved_none id at (entry ∷ entries) = (λ point e. absurd (cc), saved_none id (suc at) entries)

pub refilled_none : (id : NodeId) (at : ℕ) (entries : List Entry) → Each (NoArrival id) (refilled_from id at entries)
refilled_none id at [] = tt
refilled_none id at (entry ∷ entries) = (λ point e. absurd (cc), refilled_none id (suc at) entries)

prepared_none : (id : NodeId) (first : Bool) (entries : List Entry) → Each (NoArrival id) (prepared first id entries)
prepared_none id true entries = saved_none id 0 entries
prepared_none id false entries = refilled_none id 0 entries

-- there is no arrival in a begin before the first point
pub begin_none : (id : NodeId) (number : ℕ) (first : Bool) (entries : List Entry) → Each (NoArrival id) (Begin id number ∷ prepared first id entries)
begin_none id number first entries = (λ point e. absurd (cc), prepared_none id first entries)
