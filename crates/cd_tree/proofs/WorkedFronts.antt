-- Worked cases of fronts: where the tries of a domain end, where kinds halt, where a domain waits; and of counts.
use Rattle.std.proofs.Common.{◌≡◌, ℕ, true, false, List, [], ◌∷◌, ◌++◌, Option, None, Some, refl}
use Rattle.std.specs.Option.{option_map}
use Rattle.cd_tree.specs.declared.domain.Item.TheVariants.{Run}
use Rattle.cd_tree.specs.declared.domain.Domain.{Domain}
use Rattle.cd_tree.specs.declared.document.Fault.{Fault}
use Rattle.cd_tree.specs.declared.event.Event.{Event}
use Rattle.cd_tree.specs.declared.operation.Op.TheVariants.{Fill}
use Rattle.cd_tree.specs.Domains.{Members, stop, run, node_of, root_of, members_by, body_of, body_behind}
use Rattle.cd_tree.specs.Reading.{Case, Counts, Told, SomeEscalated, blame, no_begins, counted, read_node}
use Rattle.cd_tree.specs.Fronts.{Front, front_of_node, WaitsAt}
use Rattle.cd_tree.specs.CountLaws.{counts_on, copies, read_each}
use Rattle.cd_tree.specs.Slices.{among}
use Rattle.cd_tree.proofs.WorkedForms.{number, root, copied, y, pair, strike, case_with, counts_of, begin, saved, refilled, reached, halted, found, complete, escalate, leaf, outcome}

abbrev events_of : Option (Told Front) → Option (List Event)
events_of front = option_map (λ (f : Told Front). f.past.events) front

abbrev spare_of : Option (Told Front) → Option ℕ
spare_of front = option_map (λ (f : Told Front). f.answer.spare) front

abbrev notes_of : Option (Told Front) → Option ℕ
notes_of front = option_map (λ (f : Told Front). f.answer.stand.notes) front

abbrev kinds_there : Option (Told Front) → Option ℕ
kinds_there front = option_map (λ (f : Told Front). f.answer.stand.kinds) front

-- a root with two tries, of which both fail at detection: it does not come to a third
abbrev spent : List Domain
spent = root 2 1 [] [] ∷ []

abbrev spent_at : ℕ → ℕ → Option (Told Front)
spent_at t point = front_of_node (case_with 0 (strike 0 1 0 0 0 1 ∷ strike 0 2 0 0 0 1 ∷ [])) (root_of spent) no_begins t point

spent_first : events_of (spent_at 1 0) ≡ Some (begin 0 1 ∷ reached 0 0 ∷ [])
unfolding read_node
spent_first = refl

spent_second : events_of (spent_at 2 0) ≡ Some (begin 0 1 ∷ reached 0 0 ∷ found 0 1 ∷ begin 0 2 ∷ reached 0 0 ∷ [])
unfolding read_node
spent_second = refl

spent_no_third : spent_at 3 0 ≡ None
unfolding read_node
spent_no_third = refl

-- one more try is to spare at the first try, none at the second
spent_spare : spare_of (spent_at 1 0) ∷ spare_of (spent_at 2 0) ∷ [] ≡ Some 1 ∷ Some 0 ∷ []
unfolding read_node
spent_spare = refl

-- a root that runs twice: struck by kind 1, which it does not declare, at its first item, and by kind 0 behind it
abbrev noting : List Domain
noting = root 2 1 (copied y ∷ []) (Run (Fill y 7) ∷ Run (Fill y 8) ∷ []) ∷ []

abbrev noted : List Fault
noted = strike 0 1 0 1 0 1 ∷ strike 0 1 1 0 0 1 ∷ []

abbrev noting_at : ℕ → ℕ → ℕ → Option (Told Front)
noting_at halts t point = front_of_node (case_with halts noted) (root_of noting) no_begins t point

-- where no kind halts all points are there, and the notes grow
noting_notes : notes_of (noting_at 0 1 0) ∷ notes_of (noting_at 0 1 1) ∷ notes_of (noting_at 0 1 2) ∷ notes_of (noting_at 0 1 3) ∷ []
    ≡ Some 2 ∷ Some 3 ∷ Some 3 ∷ None ∷ []
unfolding read_node
noting_notes = refl

-- the kinds of a front are those of its point alone
noting_kinds : kinds_there (noting_at 0 1 0) ∷ kinds_there (noting_at 0 1 1) ∷ kinds_there (noting_at 0 1 2) ∷ [] ≡ Some 2 ∷ Some 1 ∷ Some 0 ∷ []
unfolding read_node
noting_kinds = refl

-- where the first of them halts the first point is there, and no other
noting_halted : events_of (noting_at 2 1 0) ∷ events_of (noting_at 2 1 1) ∷ events_of (noting_at 2 2 0) ∷ []
    ≡ Some (begin 0 1 ∷ saved 0 0 ∷ reached 0 0 ∷ []) ∷ None ∷ None ∷ []
unfolding read_node
noting_halted = refl

-- where the second halts the next try follows from the point behind
noting_again : events_of (noting_at 1 2 0)
    ≡ Some (begin 0 1 ∷ saved 0 0 ∷ reached 0 0 ∷ reached 0 1 ∷ halted 0 1 ∷ found 0 1 ∷ begin 0 2 ∷ refilled 0 0 ∷ reached 0 0 ∷ [])
unfolding read_node
noting_again = refl

-- what is left behind items
left_behind : body_behind 1 (body_of (root_of noting)) ≡ run (Fill y 8) stop
left_behind = refl

none_left : body_behind 3 (body_of (root_of noting)) ≡ stop
none_left = refl

abbrev members : Members
members = members_by (node_of pair) (number 1 ∷ number 2 ∷ [])

-- the root waits at its first point for both, unless a kind halts there
abbrev Waits : ℕ → List Fault → Option (Told Front) → Type 0
Waits halts faults None = ⊥
Waits halts faults (Some f) = WaitsAt (case_with halts faults) f.answer members stop

pair_waits : Waits 2 (strike 0 1 0 0 0 1 ∷ []) (front_of_node (case_with 2 (strike 0 1 0 0 0 1 ∷ [])) (root_of pair) no_begins 1 0)
pair_waits = record { comes = refl; goes_on = refl }

pair_does_not_wait : Waits 1 (strike 0 1 0 0 0 1 ∷ []) (front_of_node (case_with 1 (strike 0 1 0 0 0 1 ∷ [])) (root_of pair) no_begins 1 0) → ⊥
pair_does_not_wait waits = let one : 1 ≡ 0 = waits.goes_on in cc

-- counts: two begins of domain 1 before, of which the reading of domain 2 knows nothing
abbrev before : Counts
before = counted 1 (counted 1 no_begins)

counts_put_in : counts_of (counts_on (2 ∷ []) (counted 2 no_begins) before) 3 ≡ 0 ∷ 2 ∷ 1 ∷ []
counts_put_in = refl

number_among : among (1 ∷ 2 ∷ []) 2 ∷ among (1 ∷ 2 ∷ []) 3 ∷ [] ≡ true ∷ false ∷ []
number_among = refl

number_copies : copies 2 (1 ∷ 2 ∷ 2 ∷ []) ≡ 2
number_copies = refl

-- the first member is struck at its third begin: each read from the counts at sending, the group ends as in order
abbrev third : Case
third = case_with 0 (strike 1 3 1 0 2 1 ∷ [])

each_outcome : outcome 3 (read_each third members before before)
    ≡ (leaf 1 3 1 (escalate 1) ++ leaf 2 1 0 (complete 2), SomeEscalated (blame (number 1) 1) 0, 0 ∷ 3 ∷ 1 ∷ [])
unfolding read_node
each_outcome = refl
