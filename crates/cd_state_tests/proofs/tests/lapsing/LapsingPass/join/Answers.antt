use Rattle.std.proofs.Common.{◌≡◌, refl}
use Rattle.cd_keep.specs.Arcs.{model_of}
use Rattle.cd_keep.specs.declared.arc_pass.ArcPass.{ArcPass}
use Rattle.cd_state_tests.proofs.tests.lapsing.LapsingPass.join.Goals as goal

-- all such passes are of one store
one_store : (one other : ArcPass) → (model_of one).store ≡ (model_of other).store
unfolding model_of
one_store one other = refl

pub join-requires : goal.join-requires
join-requires c = record {
  store = one_store c.args.child.inner c.args.self.now.inner;
  nothing = record { none = c.requires.nothing.none; held = c.requires.nothing.held };
  few = c.requires.few;
}
