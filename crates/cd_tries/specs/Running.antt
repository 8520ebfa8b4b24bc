-- A try on a machine: its points up to a group, its judgement, and the tries that follow one that failed.
use Rattle.std.specs.Prelude.{ℕ, zero, suc, ◌+◌, ◌-◌, ◌^◌, min, Bool, true, false, ◌&&◌, nat_lt, ◌==◌, bit_and, List, [], ◌∷◌, drop}
use Rattle.cd_tree.specs.declared.domain.NodeId.{NodeId}
use Rattle.cd_tree.specs.declared.domain.Item.{Item}
use Rattle.cd_tree.specs.declared.domain.Item.TheVariants as item
use Rattle.cd_tree.specs.declared.domain.Domain.{Domain}
use Rattle.cd_tree.specs.declared.event.Event.TheVariants.{Halted, Found}
use Rattle.cd_tree.specs.KindSets.{no_kinds, kinds_without}
use Rattle.cd_field.specs.FieldModel.{FieldModel, told, begun, reached_point}
use Rattle.cd_kernel.specs.Computing.{computed}
use Rattle.cd_tries.specs.declared.keep.Keep.{Keep}
use Rattle.cd_tries.specs.declared.points.Arrival.{Arrival}
use Rattle.cd_tries.specs.declared.points.Arrival.TheVariants as at
use Rattle.cd_tries.specs.declared.tries.Course.{Course}
use Rattle.cd_tries.specs.declared.tries.Stop.{Stop}
use Rattle.cd_tries.specs.declared.tries.Stop.TheVariants.{Group, Passed, Failed, Broken}
use Rattle.cd_tries.specs.Keeping.{Known}
use Rattle.cd_tries.specs.Refilling.{refilled_all}

-- ---- points

-- a machine, and where the points of its try have come to
pub record Run : Type 0 where
  pub field : FieldModel
  pub arrival : Arrival

abbrev pub run_ends : FieldModel → Arrival → Run
run_ends m arrival = record { field = m; arrival = arrival }

-- no kind that was noted halts
abbrev pub is_quiet : ℕ → FieldModel → Bool
is_quiet halts m = bit_and m.notes halts == no_kinds

abbrev pub where_quiet : Bool → FieldModel → (FieldModel → Run) → Run
where_quiet true m next = next m
where_quiet false m next = run_ends m at.Halt

-- a try from a point on: at each point its faults strike, then its item runs; it stops where a kind halts it, at a group, and
-- after the last point
abbrev pub run_to : ℕ → FieldModel → ℕ → List Item → Run
run_to halts m point [] =
    where_quiet (is_quiet halts (reached_point m point)) (reached_point m point) (λ now. run_ends now at.End)
run_to halts m point (item.Run op ∷ items) =
    where_quiet (is_quiet halts (reached_point m point)) (reached_point m point) (λ now. run_to halts (computed now op) (suc point) items)
run_to halts m point (item.Group ids ∷ items) =
    where_quiet (is_quiet halts (reached_point m point)) (reached_point m point) (λ now. run_ends now (at.Group point))

-- ---- judging

-- a machine, and what stops its domain there
pub record Trial : Type 0 where
  pub field : FieldModel
  pub stop : Stop

abbrev pub stops : FieldModel → Stop → Trial
stops m stop = record { field = m; stop = stop }

abbrev pub by_found : ℕ → ℕ → Bool → Stop
by_found notes found true = Passed notes
by_found notes found false = Failed found

-- after the last point the notes that the domain declares are found
abbrev pub detected : ℕ → FieldModel → Trial
detected detects m =
    stops (told m (Found m.node (bit_and m.notes detects))) (by_found m.notes (bit_and m.notes detects) (bit_and m.notes detects == no_kinds))

-- at a halt they are found where the domain declares each halting kind; else it breaks off
abbrev pub halted : ℕ → FieldModel → ℕ → Bool → Trial
halted detects m halts true =
    stops (told (told m (Halted m.node halts)) (Found m.node (bit_and m.notes detects))) (Failed (bit_and m.notes detects))
halted detects m halts false = stops (told m (Halted m.node halts)) (Broken halts (kinds_without halts detects))

abbrev pub judged_at : ℕ → ℕ → FieldModel → Arrival → Trial
judged_at halts detects m (at.Group point) = stops m (Group point)
judged_at halts detects m at.Halt =
    halted detects m (bit_and m.notes halts) (kinds_without (bit_and m.notes halts) detects == no_kinds)
judged_at halts detects m at.End = detected detects m

abbrev pub judged : ℕ → ℕ → Run → Trial
judged halts detects run = judged_at halts detects run.field run.arrival

-- the rest of a try, from a point on
abbrev pub tried_from : ℕ → Domain → FieldModel → ℕ → Trial
tried_from halts domain m point = judged halts domain.detects (run_to halts m point (drop point domain.items))

-- ---- tries

-- what a domain tries with: its number, what it is, the kinds that halt, the words that its pass knows, its keeps
pub record Means : Type 0 where
  pub node : NodeId
  pub domain : Domain
  pub halts : ℕ
  pub known : Known
  pub keeps : List Keep

abbrev pub means : NodeId → Domain → ℕ → Known → List Keep → Means
means id domain halts known keeps = record { node = id; domain = domain; halts = halts; known = known; keeps = keeps }

-- the number of the next begin: one more, as far as a word holds it
abbrev pub next_begin : ℕ → ℕ
next_begin begin = min (begin + 1) (2 ^ 64 - 1)

-- a later try: the domain begins, its entries are put back, and its points run
abbrev pub tried_again : Means → ℕ → FieldModel → Trial
tried_again with begin m =
    tried_from with.halts with.domain (refilled_all with.known with.domain.entries with.keeps (begun m with.node begin)) 0

-- a machine, and how far the tries of its domain have come
pub record Tried : Type 0 where
  pub field : FieldModel
  pub course : Course

abbrev pub comes_to : ℕ → ℕ → Trial → Tried
comes_to spare begin t = record { field = t.field; course = record { spare = spare; begin = begin; stop = t.stop } }

abbrev pub unless_failed : Stop → Tried → (ℕ → Tried) → Tried
unless_failed (Group point) here next = here
unless_failed (Passed leak) here next = here
unless_failed (Failed kinds) here next = next kinds
unless_failed (Broken kinds over) here next = here

-- whether a try has failed
abbrev pub has_failed : Stop → Bool
has_failed (Group point) = false
has_failed (Passed leak) = false
has_failed (Failed kinds) = true
has_failed (Broken kinds over) = false

-- a further try comes where the last has failed and one is to spare
abbrev pub has_next : Course → Bool
has_next course = nat_lt 0 course.spare && has_failed course.stop

-- a try that failed is followed by another, while one is to spare
abbrev pub tries_from : Means → ℕ → ℕ → Trial → Tried
tries_from with zero begin t = comes_to 0 begin t
tries_from with (suc spare) begin t =
    unless_failed t.stop (comes_to (suc spare) begin t)
    (λ kinds. tries_from with spare (next_begin begin) (tried_again with (next_begin begin) t.field))
