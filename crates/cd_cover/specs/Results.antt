-- What the call that plans a program answers.
use Rattle.std.specs.Prelude.{◌≡◌, List, None, Some, Result, Ok, Err}
use Rattle.cd_tree.specs.declared.refusal.Refusal.{Refusal}
use Rattle.cd_tree.specs.declared.refusal.Refuse.{Refuse}
use Rattle.cd_tree.specs.declared.refusal.Refuse.TheVariants.{Refused, NoMemory}
use Rattle.cd_tree.specs.TreeModel.{TreeModel}
use Rattle.cd_foot.specs.declared.footprints.Foot.{Foot}
use Rattle.cd_cover.specs.Checks.{FirstFlaw}
use Rattle.cd_cover.specs.Plans.{PlanModel}

-- a plan of this program, which has no flaw; or its first flaw
abbrev pub PlansOrRefuses : TreeModel → List Foot → Result PlanModel Refusal → Type 0
PlansOrRefuses tree feet (Ok plan) = (plan.tree ≡ tree) × (plan.feet ≡ feet) × FirstFlaw tree.domains None
PlansOrRefuses tree feet (Err refusal) = FirstFlaw tree.domains (Some refusal)

-- a plan of this program, which has no flaw; or its first flaw; or want of memory, which says nothing
abbrev pub Plans : TreeModel → List Foot → Result PlanModel Refuse → Type 0
Plans tree feet (Ok plan) = (plan.tree ≡ tree) × (plan.feet ≡ feet) × FirstFlaw tree.domains None
Plans tree feet (Err (Refused refusal)) = FirstFlaw tree.domains (Some refusal)
Plans tree feet (Err NoMemory) = Unit {0}
