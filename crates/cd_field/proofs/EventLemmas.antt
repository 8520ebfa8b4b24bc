-- Lists of events in parts: one part more, and events that stand together.
use Rattle.std.proofs.Common.{◌≡◌, ℕ, zero, suc, ◌+◌, ◌-◌, ◌*◌, ◌^◌, ◌<◌, ◌≤◌, List, [], ◌∷◌, ◌++◌, length, get_or, take, drop, None, Some, arith, refl, ap, subst, sym, ◌∙◌, inl, inr, append_assoc}
use Rattle.std.specs.Prelude.{slice_get, option_map, min}
use Rattle.std.proofs.Math.Seq.{take-append_seam, drop-append-add, take-add}
use Rattle.std.proofs.lemmas.Bool.{cases_lt}
use Rattle.std.proofs.lemmas.List.{length-append, length-drop, length-map, length-take, get_or_append_left, get_or_push, take_all, take-append-le, take-append-drop, take-map, take-take, take_more, drop_more, drop-append-le, drop-drop, drop-map, map-append, append-nil}
use Rattle.std.proofs.lemmas.Option.{none-some}
use Rattle.cd_base.proofs.ListLemmas.{drop-found}
use Rattle.cd_tree.specs.declared.event.Event.{Event}
use Rattle.cd_field.specs.declared.told.Told.{Told}
use Rattle.cd_field.specs.declared.event_list.Part.{Part}
use Rattle.cd_field.specs.EventLists.{event_told, events_told, events_in, before_part, IsNumbered}

pub events_in-append : (ps qs : List Part) → events_in (ps ++ qs) ≡ events_in ps ++ events_in qs
events_in-append [] qs = refl
events_in-append (p ∷ ps) qs =
    ap (λ (v : List Event). events_told p.events.items ++ v) (events_in-append ps qs)
    ∙ sym (append_assoc (events_told p.events.items) (events_in ps) (events_in qs))

-- one part more
pub events_pushed : (ps later : List Part) (p : Part) → later ≡ ps ++ p ∷ [] → events_in later ≡ events_in ps ++ events_told p.events.items
events_pushed ps later p is =
    ap events_in is ∙ events_in-append ps (p ∷ []) ∙ ap (λ (v : List Event). events_in ps ++ v) (append-nil (events_told p.events.items))

-- so many events more
length_pushed : (ps later : List Part) (p : Part) → later ≡ ps ++ p ∷ [] → length (events_in later) ≡ length (events_in ps) + length p.events.items
length_pushed ps later p is =
    ap length (events_pushed ps later p is) ∙ length-append (events_in ps) (events_told p.events.items)
    ∙ ap (λ (n : ℕ). length (events_in ps) + n) (length-map p.events.items event_told)

pub numbered_pushed : (ps later : List Part) (p : Part) (count more : ℕ) → later ≡ ps ++ p ∷ [] → IsNumbered ps count → p.first ≡ count
    → more ≡ count + length p.events.items → length p.events.items < 2 ^ 64 → IsNumbered later more
numbered_pushed ps later p count more is numbered first total short = record {
  first = λ i none short.
      let P : List Part → Type 0 = λ v. (get_or v i none).first ≡ before_part v i in
      let whole : count ≡ length (events_in ps) = numbered.whole in
      let Q : List Part → Type 0 = λ v. i < length v in
      let longer : i < length (ps ++ p ∷ []) = subst Q is short in
      subst P (sym is)
      (elim (cases_lt i (length ps)) [
        | inl l ↦
            ap (λ (v : Part). v.first) (get_or_append_left ps (p ∷ []) none i l) ∙ numbered.first i none l
            ∙ sym (ap (λ (v : List Part). length (events_in v)) (take-append-le i ps (p ∷ []) (omega arith)))
        | inr l ↦
            let e : length ps ≡ i = omega (arith, length-append ps (p ∷ [])) in
            ap (λ (v : Part). v.first) (get_or_push ps p none i e) ∙ first ∙ whole
            ∙ sym (ap (λ (v : List Part). length (events_in v)) (ap (λ (n : ℕ). take n (ps ++ p ∷ [])) (sym e) ∙ take-append_seam ps (p ∷ [])))
      ]);
  whole =
      let whole : count ≡ length (events_in ps) = numbered.whole in
      omega (arith, total, length_pushed ps later p is);
  few =
      let few : count ≤ length ps * 2 ^ 64 = numbered.few in
      let many : length later ≡ length ps + 1 = ap length is ∙ (let l : length (ps ++ p ∷ []) ≡ length ps + 1 = omega (arith, length-append ps (p ∷ [])) in l) in
      omega (arith, total);
}

-- the middle one of three lists in a row, from the k-th element of all on
middle_rest : (a b c : List Event) (j k : ℕ) → length a + j ≡ k → j ≤ length b
    → drop j b ≡ take (length (drop j b)) (drop k (a ++ (b ++ c)))
middle_rest a b c j k at short =
    sym (take-append_seam (drop j b) c)
    ∙ ap (take (length (drop j b)))
    (sym (drop-append-le j b c short) ∙ sym (drop-append-add a (b ++ c) j) ∙ ap (λ (n : ℕ). drop n (a ++ (b ++ c))) at)

-- what the part that has the k-th event has from it on
pub part_rest : (ps : List Part) (p : Part) (i k : ℕ) (rest : List Told) → i < length ps → p ≡ get_or ps i p → before_part ps i ≤ k
    → k < before_part ps (i + 1) → rest ≡ drop (k - before_part ps i) p.events.items
    → (0 < length rest) × (events_told rest ≡ take (length rest) (drop k (events_in ps)))
part_rest ps p i k rest short is from to cut =
    let told : List Told = p.events.items in
    let a : List Event = events_in (take i ps) in
    let b : List Event = events_told told in
    let c : List Event = events_in (drop (i + 1) ps) in
    let j : ℕ = k - length a in
    let here : drop i ps ≡ p ∷ drop (i + 1) ps = drop_more ps i p short ∙ ap (λ (v : Part). v ∷ drop (i + 1) ps) (sym is) in
    let all : events_in ps ≡ a ++ (b ++ c) =
    ap events_in (sym (take-append-drop i ps)) ∙ events_in-append (take i ps) (drop i ps) ∙ ap (λ (v : List Part). a ++ events_in v) here in
    let next : before_part ps (i + 1) ≡ length a + length told =
    length_pushed (take i ps) (take (i + 1) ps) p (take_more ps i p short ∙ ap (λ (v : Part). take i ps ++ v ∷ []) (sym is)) in
    let long : length b ≡ length told = length-map told event_told in
    let some : length rest ≡ length told - j = ap length cut ∙ length-drop j told in
    let same : events_told rest ≡ drop j b = ap events_told cut ∙ sym (drop-map event_told j told) in
    let count : length (drop j b) ≡ length rest = omega (arith, length-drop j b, some, long) in
    let at : length a + j ≡ k = omega (arith, from) in
    let within : j ≤ length b = omega (arith, to, next, long) in (
      omega (arith, to, next, some, from),
      same ∙ middle_rest a b c j k at within ∙ ap (λ (n : ℕ). take n (drop k (a ++ (b ++ c)))) count
          ∙ ap (λ (v : List Event). take (length rest) (drop k v)) (sym all),
    )

-- a front of a list from the k-th element on is one of a longer list
pub front_longer : (xs ys : List Event) (rest : List Told) (k : ℕ) → k < length xs → events_told rest ≡ take (length rest) (drop k xs)
    → events_told rest ≡ take (length rest) (drop k (xs ++ ys))
front_longer xs ys rest k within front =
    let long : length rest ≤ length (drop k xs) =
    omega (arith, sym (length-map rest event_told) ∙ ap length front ∙ length-take (length rest) (drop k xs)) in
    front
    ∙ sym (ap (take (length rest)) (drop-append-le k xs ys (omega (arith, within))) ∙ take-append-le (length rest) (drop k xs) ys long)

-- what the latest events have from the k-th of all on
pub latest_rest : (xs : List Event) (latest rest : List Told) (k count : ℕ) → count ≡ length xs → count ≤ k → rest ≡ drop (k - count) latest
    → drop k (xs ++ events_told latest) ≡ events_told rest
latest_rest xs latest rest k count is from cut =
    let at : k ≡ length xs + (k - count) = omega (arith, is, from) in
    ap (λ (n : ℕ). drop n (xs ++ events_told latest)) at ∙ drop-append-add xs (events_told latest) (k - count)
    ∙ drop-map event_told (k - count) latest ∙ ap events_told (sym cut)

-- all that is left, as a front of it
pub all_front : (left : List Event) (rest : List Told) → left ≡ events_told rest → events_told rest ≡ take (length rest) left
all_front left rest is =
    sym is ∙ sym (take_all (length rest) left (omega (arith, ap length is ∙ length-map rest event_told)))

pub none_left : (left : List Event) (rest : List Told) → left ≡ events_told rest → length rest ≡ 0 → left ≡ []
none_left left [] is e = is
none_left left (told ∷ rest) is e = absurd (omega (arith, e))

dropped_past : (events : List Event) (k : ℕ) → None ≡ slice_get events k → drop k events ≡ []
dropped_past [] zero e = refl
dropped_past [] (suc k) e = refl
dropped_past (event ∷ events) zero e = absurd (none-some event e)
dropped_past (event ∷ events) (suc k) e = dropped_past events k e

get_dropped : (events : List Event) (k : ℕ) → slice_get (drop k events) 0 ≡ slice_get events k
get_dropped events zero = refl
get_dropped [] (suc k) = refl
get_dropped (event ∷ events) (suc k) = get_dropped events k

get_taken : (events : List Event) (n : ℕ) → slice_get (take (suc n) events) 0 ≡ slice_get events 0
get_taken [] n = refl
get_taken (event ∷ events) n = refl

-- the k-th event is the first of those that stand together from it on
pub first_told : (events : List Event) (rest : List Told) (k : ℕ) → events_told rest ≡ take (length rest) (drop k events)
    → (length rest ≡ 0 → drop k events ≡ []) → option_map event_told (slice_get rest 0) ≡ slice_get events k
first_told events [] k front end = ap (λ (v : List Event). slice_get v 0) (sym (end refl)) ∙ get_dropped events k
first_told events (told ∷ rest) k front end =
    ap (λ (v : List Event). slice_get v 0) front ∙ get_taken (drop k events) (length rest) ∙ get_dropped events k

-- some events more behind the latest
pub latest_joined : (xs : List Event) (latest more later : List Told) → later ≡ latest ++ more
    → xs ++ events_told later ≡ (xs ++ events_told latest) ++ events_told more
latest_joined xs latest more later is =
    ap (λ (v : List Told). xs ++ events_told v) is ∙ ap (λ (v : List Event). xs ++ v) (map-append event_told latest more)
    ∙ sym (append_assoc xs (events_told latest) (events_told more))

-- ---- events from one on to below another, which are copied behind others

-- nothing is left to copy
pub all_copied : (list left whole : List Event) → left ≡ [] → list ++ left ≡ whole → list ≡ whole
all_copied list left whole none so_far = sym (append-nil list) ∙ ap (λ (v : List Event). list ++ v) (sym none) ∙ so_far

pub none_from : (events : List Event) (k n : ℕ) → None ≡ slice_get events k → take n (drop k events) ≡ []
none_from events k n e = ap (take n) (dropped_past events k e) ∙ take_all n [] (omega arith)

-- one event more was copied
pub next_copied : (events list longer whole : List Event) (event : Event) (k to : ℕ) → Some event ≡ slice_get events k → k < to
    → longer ≡ list ++ event ∷ [] → list ++ take (to - k) (drop k events) ≡ whole
    → longer ++ take (to - (k + 1)) (drop (k + 1) events) ≡ whole
next_copied events list longer whole event k to found within is so_far =
    let n : ℕ = to - (k + 1) in
    let left : List Event = drop (k + 1) events in
    let size : to - k ≡ suc n = omega (arith, within) in
    let next : take (to - k) (drop k events) ≡ event ∷ take n left =
    ap (λ (m : ℕ). take m (drop k events)) size ∙ ap (take (suc n)) (drop-found events k event (sym found)) in
    ap (λ (v : List Event). v ++ take n left) is ∙ append_assoc list (event ∷ []) (take n left)
    ∙ ap (λ (v : List Event). list ++ v) (sym next) ∙ so_far

-- the first of the events that stand together were copied
pub front_copied : (events list longer whole : List Event) (rest : List Told) (k to count : ℕ) → count ≡ min (to - k) (length rest)
    → events_told rest ≡ take (length rest) (drop k events) → longer ≡ list ++ events_told (take count rest)
    → list ++ take (to - k) (drop k events) ≡ whole → longer ++ take (to - (k + count)) (drop (k + count) events) ≡ whole
front_copied events list longer whole rest k to count is front items so_far =
    let left : List Event = drop k events in
    let n : ℕ = to - (k + count) in
    let size : to - k ≡ count + n = omega (arith, is) in
    let copied : events_told (take count rest) ≡ take count left =
    sym (take-map event_told count rest) ∙ ap (take count) front ∙ take-take count (length rest) left (omega (arith, is)) in
    let split : take (to - k) left ≡ take count left ++ take n (drop (k + count) events) =
    ap (λ (m : ℕ). take m left) size ∙ take-add count n left ∙ ap (λ (v : List Event). take count left ++ take n v) (drop-drop count k events) in
    ap (λ (v : List Event). v ++ take n (drop (k + count) events)) (items ∙ ap (λ (v : List Event). list ++ v) copied)
    ∙ append_assoc list (take count left) (take n (drop (k + count) events))
    ∙ ap (λ (v : List Event). list ++ v) (sym split) ∙ so_far
