-- What a domain was sent with, and what its keeps and counts say of it.
use Rattle.std.specs.Prelude.{◌≡◌, ℕ, suc, ◌<◌, ◌^◌, ◌==◌, List, [], ◌∷◌, Some, map, slice_index, Contains}
use Rattle.cd_base.specs.Words.{Words, in_range}
use Rattle.cd_tree.specs.declared.domain.NodeId.{NodeId}
use Rattle.cd_tree.specs.declared.domain.Entry.{Entry}
use Rattle.cd_tree.specs.declared.document.Fault.{Fault}
use Rattle.cd_tree.specs.Domains.{Node, number_of, node_of, node_numbers}
use Rattle.cd_tree.specs.Legal.{entry_at}
use Rattle.cd_tree.specs.Locality.{SameWords}
use Rattle.cd_tree.specs.Meaning.{node_reach}
use Rattle.cd_tree.specs.Reading.{Case, Counts, Told, NodeEnd, read_node}
use Rattle.cd_tree.specs.Record.{case_of}
use Rattle.cd_tree.specs.Scripts.{IsAccepted}
use Rattle.cd_cover.specs.Links.{link_of}
use Rattle.cd_cover.specs.Outer.{outer_references}
use Rattle.cd_cover.specs.Plans.{PlanModel}
use Rattle.cd_tries.specs.declared.keep.Keep.{Keep}
use Rattle.cd_tries.specs.declared.keep.Keep.TheVariants as by
use Rattle.cd_tries.specs.declared.shelf.Level.{Level}
use Rattle.cd_tries.specs.Keeping.{Known, piece_words, pattern_words, linked_by}
use Rattle.std.specs.Prelude.{IsSomeAnd}

-- what a domain was sent with: the script, the words that the root was loaded with, its own words, the counts, and the words that
-- the link of each of its outer references keeps
pub record Task : Type 0 where
  pub domain : Node
  pub faults : List Fault
  pub loaded : Words
  pub words : Words
  pub counts : Counts
  pub links : NodeId × ℕ → Words

abbrev pub task_case : PlanModel → Task → Case
task_case plan t = case_of plan.tree t.faults

-- what the one-thread reading gives for it
abbrev pub task_reading : PlanModel → Task → Told NodeEnd
task_reading plan t = read_node (task_case plan t) t.domain t.counts

-- a domain of the plan under an accepted script, the root with the words that it was loaded with; its counts are numbers of 64 bits
pub record IsTask (plan : PlanModel) (t : Task) : Type 0 where
  pub domain : node_of plan.tree.domains (record { 0 = number_of t.domain }) ≡ Some t.domain
  pub accepted : IsAccepted plan.tree t.faults
  pub root : number_of t.domain ≡ 0 → SameWords (node_reach t.domain) t.words t.loaded
  pub small : (n : ℕ) → (task_reading plan t).counts n < 2 ^ 64

-- the counts of a domain and of those below it, in preorder
abbrev pub counts_in : Node → Counts → List ℕ
counts_in d counts = map counts (node_numbers d)

-- the words of the links are the domain's own, on the range of each outer reference
abbrev pub LinksAgree : PlanModel → Task → Type 0
LinksAgree plan t =
    (reference : NodeId × ℕ) (entry : Entry) → Contains (outer_references t.domain) reference
    → entry_at plan.tree.domains reference.0 reference.1 ≡ Some entry
    → SameWords (in_range entry.range) t.words (t.links reference)

-- what is kept above gives the words of the links, on the range of each outer reference
abbrev pub LinksGive : PlanModel → Task → Known → List Level → Type 0
LinksGive plan t known above =
    (reference : NodeId × ℕ) (entry : Entry) → Contains (outer_references t.domain) reference
    → entry_at plan.tree.domains reference.0 reference.1 ≡ Some entry
    → IsSomeAnd (linked_by above (link_of plan.tree.domains reference.0 reference.1)) (λ pieces.
    SameWords (in_range entry.range) (piece_words known pieces) (t.links reference))

-- a keep of an entry gives the words with which the domain began; shared pieces give those of the link
abbrev pub KeepGives : Known → Task → NodeId → ℕ → Entry → Keep → Type 0
KeepGives known t id at entry (by.Copied pieces) = SameWords (in_range entry.range) (piece_words known pieces) t.words
KeepGives known t id at entry (by.Shared pieces) = SameWords (in_range entry.range) (piece_words known pieces) (t.links (id, at))
KeepGives known t id at entry by.Pattern = SameWords (in_range entry.range) (pattern_words entry.how) t.words

-- so do the keeps of entries, numbered from `at` on
abbrev pub KeepsGive : Known → Task → NodeId → ℕ → List Entry → List Keep → Type 0
KeepsGive known t id at [] keeps = Unit {0}
KeepsGive known t id at (entry ∷ entries) [] = ⊥
KeepsGive known t id at (entry ∷ entries) (keep ∷ keeps) =
    KeepGives known t id at entry keep × KeepsGive known t id (suc at) entries keeps
