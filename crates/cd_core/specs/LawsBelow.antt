-- The laws of lower crates on which the laws of states rest, together, so that one function calls them all.
use Rattle.cd_tree.specs.FirstItems.{FirstThenRest, ItemsBehind, OneItemLess, RunComesNext}
use Rattle.cd_tree.specs.FrontLaws.{FirstPointIsThere, FrontCountsLieBetween, FrontsLead, FrontsStand, NextPointIsThere, NextTryIsThere, PassesGroups}
use Rattle.cd_tree.specs.LegalLaws.{LegalPieces}
use Rattle.cd_tree.specs.Locality.{CoveredInPrograms, OperationsActLocally}
use Rattle.cd_tries.specs.TryLaws.{PointsKeep, PuttingBack, TriesKeep, TryingAgainKeeps}
use Rattle.cd_tree.specs.CountLaws.{NumbersAreDistinct}
use Rattle.cd_tree.specs.Laws.{DetectableByPaths, NestedViewFollows, ReachIsEntries}
use Rattle.cd_cover.specs.OuterLaws.{OuterAreThese}
use Rattle.cd_cover.specs.PlanLaws.{ReferencesHaveLinks}
use Rattle.cd_tries.specs.KeepLaws.{LapsesAreAnswered, PreservedAreGiven, PreservedAreHeld, PreservedIsLegal}

-- those on the points and tries of one domain
pub record Laws : Type 0 where
  pub pieces : LegalPieces
  pub points : NextPointIsThere
  pub tries : NextTryIsThere
  pub stand : FrontsStand
  pub between : FrontCountsLieBetween
  pub comes : RunComesNext
  pub less : OneItemLess
  pub firsts : FirstThenRest
  pub keeps : OperationsActLocally
  pub back : PuttingBack
  pub stays : TryingAgainKeeps

-- and those on plans, views and what is preserved
pub record MoreLaws : Type 0 where
  pub laws : Laws
  pub first : FirstPointIsThere
  pub passes : PassesGroups
  pub lead : FrontsLead
  pub follows : NestedViewFollows
  pub reach : ReachIsEntries
  pub covered : CoveredInPrograms
  pub distinct : NumbersAreDistinct
  pub items : ItemsBehind
  pub detectable : DetectableByPaths
  pub outer : OuterAreThese
  pub links : ReferencesHaveLinks
  pub held : PreservedAreHeld
  pub given : PreservedAreGiven
  pub legal : PreservedIsLegal
  pub answered : LapsesAreAnswered
  pub points : PointsKeep
  pub tries : TriesKeep
