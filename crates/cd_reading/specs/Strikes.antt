-- The faults of a script by the domain and the begin at which they strike.
use Rattle.std.specs.Prelude.{◌≡◌, ◌≢◌, ℕ, Bool, false, ◌&&◌, ◌==◌, List, [], Some, All, filter, slice_get}
use Rattle.cd_tree.specs.declared.document.Fault.{Fault}
use Rattle.cd_reading.specs.declared.strikes.Struck.{Struck}

-- whether a fault strikes in this begin of this domain
abbrev pub strikes_in : ℕ → ℕ → Fault → Bool
strikes_in node begin fault = (fault.node.0 == node) && (fault.begin == begin)

-- the faults of each begin of a domain at which any strike
pub record AreStruck (faults : List Fault) (node : ℕ) (begins : List Struck) : Type 0 where
  pub each : All (λ (struck : Struck). struck.faults ≡ filter (strikes_in node struck.begin) faults) begins
  pub others : (begin : ℕ) → All (λ (struck : Struck). struck.begin ≢ begin) begins → filter (strikes_in node begin) faults ≡ []

-- and of each domain of a table
abbrev pub AreAllStruck : List Fault → List (List Struck) → Type 0
AreAllStruck faults domains = (node : ℕ) (begins : List Struck) → slice_get domains node ≡ Some begins → AreStruck faults node begins

-- a domain whose mark is not set is named by no fault
abbrev pub AreMarks : List Fault → List Bool → Type 0
AreMarks faults marks = (id : ℕ) → slice_get marks id ≡ Some false → All (λ (fault : Fault). fault.node.0 ≢ id) faults
