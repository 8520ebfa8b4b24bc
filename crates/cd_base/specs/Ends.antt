-- What goes in and out at the ends: what contracts see of a source and of a sink, what is taken from a source or given to a
-- sink, and counts of faults.
use Rattle.std.specs.Prelude.{◌≡◌, ℕ, ◌+◌, ◌-◌, ◌^◌, ◌<◌, ◌≤◌, ◌⊎◌, List, take, length, Option, Result, Ok, Err}
use Rattle.std.specs.Io.KnownBytes.{Consumes, Appends, IsAtEnd}
use Rattle.cd_base.specs.declared.sink.WriteStop.{WriteStop}
use Rattle.cd_base.specs.declared.sink.WriteStop.TheVariants as write
use Rattle.cd_base.specs.declared.transfer.ReadStop.{ReadStop}
use Rattle.cd_base.specs.declared.transfer.ReadStop.TheVariants as read

-- what contracts see of a source: the bytes that it has left, where they are known, and its count of faults
pub record SourceModel : Type 0 where
  pub left : Option (List ℕ)
  pub faults : ℕ

-- what contracts see of a sink: the bytes that it holds, where they are known, and its count of faults
pub record SinkModel : Type 0 where
  pub holds : Option (List ℕ)
  pub faults : ℕ

-- a count of faults grew, or stands at the end of its type and cannot grow
abbrev pub Rose : ℕ → ℕ → Type 0
Rose before after = (before < after) ⊎ (after ≡ 2 ^ 64 - 1)

-- P, where the answer is that a write failed
abbrev pub OnFailed : {T : Type 0} → Result T WriteStop → Type 0 → Type 0
OnFailed (Ok _) P = Unit {0}
OnFailed (Err write.Failed) P = P
OnFailed (Err write.NoMemory) P = Unit {0}

-- a source lost these bytes from the front of what it had left, and its count of faults did not fall
abbrev pub Took : SourceModel → SourceModel → List ℕ → Type 0
Took old new bytes = Consumes old.left new.left bytes × (old.faults ≤ new.faults)

-- a source lost n bytes
abbrev pub TookCount : SourceModel → SourceModel → ℕ → Type 0
TookCount old new n = (bytes : List ℕ) × Took old new bytes × (length bytes ≡ n)

-- a source lost at most n bytes
abbrev pub TookAtMost : SourceModel → SourceModel → ℕ → Type 0
TookAtMost old new n = (bytes : List ℕ) × Took old new bytes × (length bytes ≤ n)

-- what reading to the end does: the source before and after, the limit, the answer
abbrev pub ReadAll : SourceModel → SourceModel → ℕ → Result (List ℕ) ReadStop → Type 0
ReadAll old new limit (Ok bytes) = Took old new bytes × IsAtEnd new.left × (length bytes ≤ limit)
ReadAll old new limit (Err read.Failed) = TookAtMost old new limit × Rose old.faults new.faults
ReadAll old new limit (Err read.TooLong) = TookCount old new (limit + 1)
ReadAll old new limit (Err read.NoMemory) = TookAtMost old new limit

-- a sink grew by these bytes, and its count of faults did not fall
abbrev pub Grew : SinkModel → SinkModel → List ℕ → Type 0
Grew old new bytes = Appends old.holds new.holds bytes × (old.faults ≤ new.faults)

-- a sink grew by a front of these bytes, and not by all of them
abbrev pub GrewByFront : SinkModel → SinkModel → List ℕ → Type 0
GrewByFront old new bytes = (n : ℕ) × (n < length bytes) × Grew old new (take n bytes)

-- what writing all of some bytes does: the sink before and after, the bytes, the answer
abbrev pub WriteAll : {T : Type 0} → SinkModel → SinkModel → List ℕ → Result T WriteStop → Type 0
WriteAll old new bytes (Ok _) = Grew old new bytes
WriteAll old new bytes (Err write.Failed) = GrewByFront old new bytes × Rose old.faults new.faults
WriteAll old new bytes (Err write.NoMemory) = GrewByFront old new bytes
