-- What each id means in layers of which the latest may grow.
use Rattle.std.specs.Prelude.{ℕ, ◌==◌, List, length, get_or, Option, if◌then◌else◌}
use Rattle.cd_keep.specs.declared.keep_id.KeepId.{KeepId}
use Rattle.cd_keep.specs.LayerModel.{LayerModel, empty_layer, piece_in}

-- the layer of a serial
abbrev pub layer_at : List LayerModel → LayerModel → ℕ → LayerModel
layer_at layers latest serial = if serial == length layers then latest else get_or layers serial empty_layer

abbrev pub known_in : List LayerModel → LayerModel → KeepId → Option (List ℕ)
known_in layers latest = λ id. piece_in (layer_at layers latest id.serial) id.block
