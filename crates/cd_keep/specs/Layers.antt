-- The layers of a pass, its own or shared.
use Rattle.std.specs.Prelude.{Bool, true, false, List, map}
use Rattle.std.specs.Arc.{arc_value}
use Rattle.std.specs.declared.sync.Arc.{Arc}
use Rattle.cd_keep.specs.LayerModel.{LayerModel}
use Rattle.cd_keep.specs.declared.layers.Layers.{Layers}
use Rattle.cd_keep.specs.declared.layers.Layers.TheVariants.{Own, Shared}

-- what stands behind pointers
abbrev pub values : {Z : Type 0} → List (Arc LayerModel Z) → List LayerModel
values {Z} pointers = map (λ (p : Arc LayerModel Z). arc_value p) pointers

abbrev pub layers_of : Layers → List LayerModel
layers_of (Own list) = values list.items
layers_of (Shared list) = values (arc_value list).items

abbrev pub are_own : Layers → Bool
are_own (Own list) = true
are_own (Shared list) = false
