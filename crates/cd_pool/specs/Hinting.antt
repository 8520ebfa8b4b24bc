-- What a deque refused.
use Rattle.std.specs.Prelude.{List, [], ◌∷◌, Result, Ok, Err}
use Rattle.cd_tree.specs.declared.domain.NodeId.{NodeId}

abbrev pub refused_of : {A : Type 0} → Result A NodeId → List NodeId
refused_of (Ok done) = []
refused_of (Err node) = node ∷ []
