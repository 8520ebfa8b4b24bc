-- Worked cases on which the tables compute: each is proved by computing both sides.
use Rattle.std.proofs.Common.{◌≡◌, ℕ, true, false, List, [], ◌∷◌, Some, None, codes, refl}
use Rattle.cd_tree.specs.declared.refusal.Refusal.TheVariants.{TooLong}
use Rattle.cd_app.specs.declared.status.Status.TheVariants.{Done, Usage, Refused, ReadFault, WriteFault}
use Rattle.cd_app.specs.Deeds.{one_document, runs, deed_in, intake_in}
use Rattle.cd_app.specs.Outcomes.{no_command}
use Rattle.cd_app.specs.Parts.{behind_fault}
use Rattle.cd_app.specs.Due.{IsDue}

-- what words ask for, and what they ask of an input
deeds : (deed_in (codes "run" ∷ codes "--record" ∷ []) ≡ Some (runs one_document true)) × (deed_in (codes "run" ∷ []) ≡ Some (runs one_document false))
    × (deed_in (codes "walk" ∷ []) ≡ None) × (intake_in (codes "lift" ∷ []) ≡ Some one_document) × (intake_in (codes "make" ∷ []) ≡ None)
deeds = (refl, refl, refl, refl, refl)

-- which statuses yield where the sink failed
yields : (behind_fault Done ≡ WriteFault) × (behind_fault Usage ≡ Usage) × (behind_fault (Refused TooLong) ≡ Refused TooLong)
    × (behind_fault ReadFault ≡ ReadFault)
yields = (refl, refl, refl, refl)

-- words that give no command come to that, whatever the bytes
nothing_asked : (bytes : List ℕ) → IsDue (codes "walk" ∷ []) bytes no_command
nothing_asked bytes = refl
