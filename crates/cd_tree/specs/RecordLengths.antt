-- How long records are: a domain has a weight, and its reading tells at most so many events, and as many again for each repeat.
use Rattle.std.specs.Prelude.{ℕ, ◌+◌, ◌*◌, ◌^◌, ◌<◌, ◌≤◌, List, length}
use Rattle.cd_tree.specs.declared.document.Fault.{Fault}
use Rattle.cd_tree.specs.Limits.{domains_limit, items_limit, preserves_limit}
use Rattle.cd_tree.specs.Domains.{Node, Body, Members, node, stop, run, group, no_more, member, root_of}
use Rattle.cd_tree.specs.TreeModel.{TreeModel, IsTree}
use Rattle.cd_tree.specs.Scripts.{IsAccepted}
use Rattle.cd_tree.specs.Reading.{Case, Counts, read_node}
use Rattle.cd_tree.specs.Record.{record_of}

abbrev mutual
  -- the most events of a domain that tries once: its begin and its end, two for each entry, which is saved or refilled and
  -- may be refilled once more before the end, and those of its points
  pub node_weight : Node → ℕ
  node_weight (node id domain body) = 2 + 2 * length domain.entries + body_weight body

  -- at a point at most three: it is reached, and then kinds halt the try and are found, or at the last point are found; behind
  -- a point with a group stand the events of the members
  pub body_weight : Body → ℕ
  body_weight stop = 3
  body_weight (run op rest) = 3 + body_weight rest
  body_weight (group members rest) = 3 + (members_weight members + body_weight rest)

  pub members_weight : Members → ℕ
  members_weight no_more = 0
  members_weight (member first rest) = node_weight first + members_weight rest

-- a domain's reading tells at most as many events as it weighs, and as many again for each try that was repeated
abbrev pub EventsGrowByRepeats : Type 0
EventsGrowByRepeats =
    (w : Case) (d : Node) (counts : Counts)
    → length (read_node w d counts).past.events ≤ node_weight d * (1 + (read_node w d counts).past.repeats)

-- what a program weighs at most: its limits give it
abbrev pub weight_limit : ℕ
weight_limit = 5 * domains_limit + 3 * items_limit + 2 * preserves_limit

abbrev pub WeightsAreSmall : Type 0
WeightsAreSmall = (tree : TreeModel) → IsTree tree → node_weight (root_of tree.domains) ≤ weight_limit

-- no record of a program has more events than the weight limit, and as many again for each entry of its script
abbrev pub RecordsGrowByEntries : Type 0
RecordsGrowByEntries =
    (tree : TreeModel) (faults : List Fault) → IsTree tree → length (record_of tree faults) ≤ weight_limit * (1 + length faults)

-- under an accepted script a program's record has fewer than 2^49 events
abbrev pub RecordsAreShort : Type 0
RecordsAreShort =
    (tree : TreeModel) (faults : List Fault) → IsTree tree → IsAccepted tree faults → length (record_of tree faults) < 2 ^ 49
