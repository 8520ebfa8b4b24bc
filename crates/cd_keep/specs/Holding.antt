-- What a pass holds: one id for each hold.
use Rattle.std.specs.Prelude.{ℕ, ◌+◌, ◌<◌, List, [], ◌∷◌, Option, IsSome, if◌then◌else◌}
use Rattle.cd_keep.specs.declared.keep_id.KeepId.{KeepId}
use Rattle.cd_keep.specs.declared.holds.Change.{Change}
use Rattle.cd_keep.specs.declared.holds.Change.TheVariants.{Held, GaveUp}
use Rattle.cd_keep.specs.PassModel.{same_id}

-- how often an id is among these
abbrev pub times : List KeepId → KeepId → ℕ
times [] = λ q. 0
times (id ∷ ids) = λ q. if same_id id q then times ids q + 1 else times ids q

-- one of an id less
abbrev pub less : KeepId → List KeepId → List KeepId
less id [] = []
less id (q ∷ ids) = if same_id id q then ids else q ∷ less id ids

abbrev pub changed : List KeepId → Change → List KeepId
changed ids (Held id) = id ∷ ids
changed ids (GaveUp id) = less id ids

-- what is held is known
pub record AreKnown (known : KeepId → Option (List ℕ)) (ids : List KeepId) : Type 0 where
  pub each : (id : KeepId) → 0 < times ids id → IsSome (known id)
