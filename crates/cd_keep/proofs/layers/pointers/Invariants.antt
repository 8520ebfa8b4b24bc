use Rattle.std.proofs.Common.{◌≡◌, take}
use Rattle.cd_keep.specs.Layers.{values}
use Rattle.cd_keep.proofs.layers.pointers.Given as goal

abbrev pub invariant-loop-layer : goal.invariant-loop-layer
invariant-loop-layer l = values l.list.items ≡ values (take l.layer-index l.layers)
