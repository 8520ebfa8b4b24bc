-- Asks: what a domain is sent with, as plain data, and what the ask of a member is, read from the state that waits for it.
use Rattle.std.specs.Prelude.{◌≡◌, ℕ, ◌-◌, Bool, ◌&&◌, ◌==◌, if◌then◌else◌, List, [], ◌∷◌, Option, None, Some, drop, take, length, map, slice_get, slice_index, IsSomeAnd, unwrap_or}
use Rattle.std.specs.Option.{option_map_or}
use Rattle.std.specs.List.{flat_map}
use Rattle.cd_base.specs.declared.place.Range.{Range}
use Rattle.cd_base.specs.Words.{Words, in_range}
use Rattle.cd_tree.specs.declared.domain.NodeId.{NodeId}
use Rattle.cd_tree.specs.declared.domain.Entry.{Entry}
use Rattle.cd_tree.specs.declared.document.Fault.{Fault}
use Rattle.cd_tree.specs.declared.domain.Domain.{Domain}
use Rattle.cd_tree.specs.Domains.{Node, node_of, number_of, node_numbers}
use Rattle.cd_tree.specs.Legal.{entry_at}
use Rattle.cd_tree.specs.Operations.{length_of}
use Rattle.cd_tree.specs.Reading.{Counts}
use Rattle.cd_field.specs.FieldModel.{words_in}
use Rattle.cd_cover.specs.Links.{link_of}
use Rattle.cd_cover.specs.Outer.{outer_references}
use Rattle.cd_cover.specs.Plans.{PlanModel}
use Rattle.cd_foot.specs.declared.footprints.Foot.{Foot}
use Rattle.cd_tries.specs.declared.keep.Pieces.{Pieces}
use Rattle.cd_tries.specs.declared.shelf.Level.{Level}
use Rattle.cd_tries.specs.Keeping.{Known, piece_words, linked_by}
use Rattle.cd_core.specs.declared.ask.Ask.{Ask}
use Rattle.cd_core.specs.StateModel.{StateModel}
use Rattle.cd_core.specs.Tasks.{Task}
use Rattle.cd_core.specs.Stands.{Stands}

-- ---- from lists of words to words

-- these words laid over ranges, one range after another
abbrev pub laid_over : List Range → List ℕ → Words
laid_over [] words p = None
laid_over (r ∷ rs) words p = if in_range r p then slice_get words (p.index - r.low) else laid_over rs (drop (length_of r) words) p

-- the words of ranges, one range after another
abbrev pub words_over : List Range → Words → List ℕ
words_over ranges w = flat_map (words_in w) ranges

abbrev pub same_reference : NodeId × ℕ → NodeId × ℕ → Bool
same_reference (id, at) (other, entry) = (id.0 == other.0) && (at == entry)

-- the range of a reference
abbrev pub range_of : List Domain → NodeId × ℕ → List Range
range_of domains reference = option_map_or (λ (entry : Entry). entry.range ∷ []) (entry_at domains reference.0 reference.1) []

-- the words of each reference, from a list in their order
abbrev pub links_listed : List Domain → List (NodeId × ℕ) → List (List ℕ) → NodeId × ℕ → Words
links_listed domains [] words reference = λ p. None
links_listed domains (one ∷ references) [] reference = λ p. None
links_listed domains (one ∷ references) (first ∷ words) reference =
    if same_reference one reference then laid_over (range_of domains one) first else links_listed domains references words reference

-- the count of each domain of a subtree, from a list in preorder
abbrev pub counts_listed : Node → List ℕ → Counts
counts_listed d counts = λ n. slice_index counts (n - number_of d)

-- ---- what an ask sends a domain with

-- the ranges of a domain's reach, of those that it reads and of those that it writes
abbrev pub foot_of : PlanModel → NodeId → Foot
foot_of plan id = unwrap_or (slice_get plan.feet id.0) (record { reads = []; writes = []; reach = [] })

abbrev pub task_of : PlanModel → List Fault → Words → Ask → Node → Task
task_of plan faults loaded ask d = record {
  domain = d;
  faults = faults;
  loaded = loaded;
  words = laid_over (foot_of plan ask.node).reach ask.words;
  counts = counts_listed d ask.counts;
  links = links_listed plan.tree.domains (outer_references d) ask.links;
}

abbrev pub IsOfStore : Option ℕ → StateModel → Type 0
IsOfStore None s = Unit {0}
IsOfStore (Some store) s = s.pass.store ≡ store

-- a state answers an ask where it stands for it, with a pass of its store
pub record Answers (plan : PlanModel) (faults : List Fault) (loaded : Words) (ask : Ask) (s : StateModel) : Type 0 where
  pub domain : Node
  pub is : node_of plan.tree.domains ask.node ≡ Some domain
  pub stands : Stands plan (task_of plan faults loaded ask domain) s
  pub store : IsOfStore ask.store s

-- ---- the ask of a member

-- what is kept for those below: by this domain, then by the domains above
abbrev pub levels_below : StateModel → List Level
levels_below s = record { node = s.node; keeps = s.keeps } ∷ s.above

-- a part of a list in preorder: that of the domain `id` and of those below it, of a list that begins with domain `first`
abbrev pub counts_of : NodeId → List ℕ → NodeId → ℕ → List ℕ
counts_of first counts id size = take size (drop (id.0 - first.0) counts)

abbrev pub link_words : Known → Option Pieces → List Range → List ℕ
link_words known pieces ranges = option_map_or (λ pieces. words_over ranges (piece_words known pieces)) pieces []

abbrev pub member_ask : PlanModel → StateModel → NodeId → Node → Ask
member_ask plan s id d = record {
  node = id;
  words = words_over (foot_of plan id).reach s.field.words;
  counts = counts_of s.node s.counts id (length (node_numbers d));
  links = map (λ reference. link_words s.pass.known (linked_by (levels_below s) (link_of plan.tree.domains reference.0 reference.1))
      (range_of plan.tree.domains reference)) (outer_references d);
  store = Some s.pass.store;
}

-- each of these states answers what the waiting state asks of its domain
abbrev pub EachAnswers : PlanModel → List Fault → Words → StateModel → List StateModel → Type 0
EachAnswers plan faults loaded s [] = Unit {0}
EachAnswers plan faults loaded s (child ∷ children) =
    ((d : Node) → node_of plan.tree.domains child.node ≡ Some d → Answers plan faults loaded (member_ask plan s child.node d) child)
    × EachAnswers plan faults loaded s children

-- the root's ask: the words on its reach, no begins, no links, no store
abbrev pub root_ask : PlanModel → Words → Ask
root_ask plan loaded = record {
  node = record { 0 = 0 };
  words = words_over (foot_of plan (record { 0 = 0 })).reach loaded;
  counts = map (λ domain. 0) plan.tree.domains;
  links = [];
  store = None;
}
