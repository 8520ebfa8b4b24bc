-- What contracts see of a pass over shared pointers.
use Rattle.std.specs.Prelude.{◌+◌, ◌≤◌, ◌<◌, ◌^◌, [], length}
use Rattle.cd_keep.specs.declared.arc_pass.ArcPass.{ArcPass}
use Rattle.cd_keep.specs.Holding.{times}
use Rattle.cd_keep.specs.Kept.{known_of}
use Rattle.cd_keep.specs.PassModel.{PassModel, AreShort}

-- all such passes are of one store, of number 0, and none gives a gone answer
unfoldable pub model_of : ArcPass → PassModel
model_of pass = record {
  known = known_of pass.kept;
  holds = times pass.holds.ids;
  held = length pass.holds.ids;
  room = pass.room;
  most = pass.most;
  store = 0;
  gone = [];
}

-- the laws of passes hold of it
pub held_within_most : (pass : ArcPass) → (model_of pass).held + (model_of pass).room ≤ (model_of pass).most
unfolding model_of
held_within_most pass = pass.within

pub most_is_few : (pass : ArcPass) → (model_of pass).most < 2 ^ 32
unfolding model_of
most_is_few pass = pass.few

pub words_are_short : (pass : ArcPass) → AreShort (model_of pass).known
unfolding model_of
words_are_short pass = pass.short
