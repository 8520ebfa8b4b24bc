-- What a pass over shared pointers knows.
use Rattle.std.specs.Prelude.{ℕ, List, Option}
use Rattle.cd_keep.specs.declared.keep_id.KeepId.{KeepId}
use Rattle.cd_keep.specs.declared.kept.Kept.{Kept}
use Rattle.cd_keep.specs.Layers.{layers_of}
use Rattle.cd_keep.specs.Known.{known_in}

abbrev pub known_of : Kept → KeepId → Option (List ℕ)
known_of kept = known_in (layers_of kept.layers) kept.latest
