-- The states of domains as the rule of the cells has them: when they answer an ask, whom they wait for, and what they ask of them.
use Rattle.std.specs.Prelude.{◌≡◌, ℕ, List, [], ◌∷◌, None, if◌then◌else◌, length, map, slice_get}
use Rattle.std.specs.Option.{option_map_or}
use Rattle.cd_base.specs.Words.{Words}
use Rattle.cd_tree.specs.declared.document.Fault.{Fault}
use Rattle.cd_tree.specs.declared.domain.Domain.{Domain}
use Rattle.cd_tree.specs.declared.domain.Item.{Item}
use Rattle.cd_tree.specs.declared.domain.Item.TheVariants.{Run, Group}
use Rattle.cd_tree.specs.declared.domain.NodeId.{NodeId}
use Rattle.cd_tree.specs.Domains.{node_of}
use Rattle.cd_tree.specs.Slices.{among}
use Rattle.cd_cover.specs.Plans.{PlanModel}
use Rattle.cd_core.specs.declared.ask.Ask.{Ask}
use Rattle.cd_core.specs.declared.state.Stage.TheVariants.{Ready}
use Rattle.cd_core.specs.Advancing.{members_at}
use Rattle.cd_core.specs.Asks.{Answers, member_ask, root_ask}
use Rattle.cd_core.specs.StateModel.{StateModel}
use Rattle.cd_core.specs.Steps.{IsEnded, IsWaiting, waits_at}
use Rattle.cd_cells.specs.Kinds.{Kind}

-- the numbers of domains
abbrev pub numbers_of : List NodeId → List ℕ
numbers_of ids = map (λ (id : NodeId). id.0) ids

-- the parent of a domain; 0 for the root and for what is no domain
abbrev pub parent_of : PlanModel → ℕ → ℕ
parent_of plan m =
    option_map_or (λ (domain : Domain). option_map_or (λ (id : NodeId). id.0) domain.parent 0) (slice_get plan.tree.domains m) 0

-- the first group among items in which a domain is a member
abbrev pub group_having : List Item → ℕ → List ℕ
group_having [] m = []
group_having (Run op ∷ items) m = group_having items m
group_having (Group ids ∷ items) m = if among (numbers_of ids) m then numbers_of ids else group_having items m

-- the group of its parent in which a domain is a member
abbrev pub siblings_of : PlanModel → ℕ → List ℕ
siblings_of plan m =
    option_map_or (λ (above : Domain). group_having above.items m) (slice_get plan.tree.domains (parent_of plan m)) []

-- the members of the group at which a state waits
abbrev pub group_of : PlanModel → StateModel → List ℕ
group_of plan s =
    option_map_or (λ (domain : Domain). numbers_of (members_at domain (waits_at s.stage))) (slice_get plan.tree.domains s.node.0) []

-- what a waiting state asks of a member; of what is no domain, nothing
abbrev pub ask_of : PlanModel → StateModel → ℕ → Ask
ask_of plan s m =
    option_map_or (member_ask plan s (record { 0 = m })) (node_of plan.tree.domains (record { 0 = m }))
    (record { node = record { 0 = m }; words = []; counts = []; links = []; store = None })

abbrev pub IsReady : PlanModel → List Fault → Words → Ask → StateModel → Type 0
IsReady plan faults loaded ask s = (s.stage ≡ Ready) × Answers plan faults loaded ask s

abbrev pub Rests : PlanModel → List Fault → Words → Ask → StateModel → Type 0
Rests plan faults loaded ask s = IsWaiting s.stage × Answers plan faults loaded ask s

abbrev pub HasEnded : PlanModel → List Fault → Words → Ask → StateModel → Type 0
HasEnded plan faults loaded ask s = IsEnded s.stage × Answers plan faults loaded ask s

abbrev pub states_of : {T : Type 0} → (T → StateModel) → PlanModel → List Fault → Words → Kind T
states_of model plan faults loaded = record {
  count = length plan.tree.domains;
  up = parent_of plan;
  siblings = siblings_of plan;
  root = root_ask plan loaded;
  Ready = λ ask t. IsReady plan faults loaded ask (model t);
  Waits = λ ask t. Rests plan faults loaded ask (model t);
  Ended = λ ask t. HasEnded plan faults loaded ask (model t);
  group = λ t. group_of plan (model t);
  asks = λ t m. ask_of plan (model t) m;
}
