-- The steps of a try, and what is left of the reading where its events are not told.
use Rattle.std.specs.Prelude.{ℕ}
use Rattle.cd_tree.specs.Reading.{Counts, Told, told, silence, TryEnd}
use Rattle.cd_tree.specs.Reading as reading
use Rattle.cd_reading.specs.declared.steps.Try.{Try}
use Rattle.cd_reading.specs.declared.steps.Step.{Step}
use Rattle.cd_reading.specs.declared.steps.Step.TheVariants.{On, Over}
use Rattle.cd_reading.specs.Ends.{try_end, TryFits}

-- a part of the reading without its events: the counts after it, and its answer
abbrev pub quiet : {A : Type 0} → Told A → Counts × A
quiet t = (t.counts, t.answer)

-- the try in hand, as the reading has it
abbrev pub try_of : Try → reading.Try
try_of h = record { node = h.node; detects = h.detects; begin = h.begin }

-- what follows a step: the rest of the try, or its end
abbrev pub went : Step → Counts → (ℕ → Told TryEnd) → Told TryEnd
went (On notes) counts next = next notes
went (Over end) counts next = told silence counts (try_end end)

abbrev pub StepFits : ℕ → Step → Type 0
StepFits count (On notes) = Unit {0}
StepFits count (Over end) = TryFits count end
