-- The laws of preserving: what the keeps of a first try hold, and that what is told of them is legal. Each is a contract of `laws`.
use Rattle.std.specs.Prelude.{◌≡◌, ℕ, suc, ◌+◌, ◌≤◌, Bool, true, false, List, [], ◌∷◌, Option, Some, length, count_by, IsSomeAnd, slice_get}
use Rattle.cd_base.specs.Words.{Words, in_range}
use Rattle.cd_tree.specs.declared.domain.NodeId.{NodeId}
use Rattle.cd_tree.specs.declared.domain.Entry.{Entry}
use Rattle.cd_tree.specs.declared.domain.Domain.{Domain}
use Rattle.cd_tree.specs.declared.event.Event.{Event}
use Rattle.cd_tree.specs.declared.event.Event.TheVariants.{Lapsed}
use Rattle.cd_tree.specs.Legal.{Legal}
use Rattle.cd_tree.specs.Locality.{SameWords}
use Rattle.cd_tree.specs.Meaning.{in_entries}
use Rattle.cd_tree.specs.Reading.{saved_from}
use Rattle.cd_tree.specs.TreeModel.{TreeModel}
use Rattle.cd_field.specs.FieldModel.{FieldModel}
use Rattle.cd_keep.specs.declared.keep_id.KeepId.{KeepId}
use Rattle.cd_keep.specs.PassModel.{PassModel, HoldsNothing}
use Rattle.cd_tries.specs.declared.keep.Pieces.{Pieces}
use Rattle.cd_tries.specs.declared.keep.Keep.{Keep}
use Rattle.cd_tries.specs.declared.keep.Keep.TheVariants as by
use Rattle.cd_tries.specs.Fitting.{CanPreserve}
use Rattle.cd_tries.specs.Keeping.{Known, piece_words, pattern_words, KeepsFit, HoldsThese, all_ids}
use Rattle.cd_tries.specs.Preserving.{IsPreserved}

-- what is known stays known
abbrev pub KnowsMore : Known → Known → Type 0
KnowsMore known more = (id : KeepId) (words : List ℕ) → known id ≡ Some words → more id ≡ Some words

-- the pass behind a first try: it holds the keeps and nothing else, from its own room; store, opening and what it knew stay
pub record HoldsKeeps (domain : Domain) (keeps : List Keep) (p q : PassModel) : Type 0 where
  pub fit : KeepsFit q.known domain.entries keeps
  pub holds : HoldsThese q (all_ids keeps)
  pub room : q.room + q.held ≡ p.room
  pub store : q.store ≡ p.store
  pub most : q.most ≡ p.most
  pub knows : KnowsMore p.known q.known

abbrev pub PreservedAreHeld : Type 0
PreservedAreHeld =
    (id : NodeId) (domain : Domain) (links : ℕ → Option Pieces) (keeps : List Keep) (m n : FieldModel) (p q : PassModel)
    → CanPreserve domain links m p → HoldsNothing p → IsPreserved id domain links keeps m n p q → HoldsKeeps domain keeps p q

-- a keep gives the machine's words, or those of the pieces of the link
abbrev pub KeptAs : Known → Words → Option Pieces → Entry → Keep → Type 0
KeptAs known w link entry (by.Copied pieces) = SameWords (in_range entry.range) (piece_words known pieces) w
KeptAs known w link entry (by.Shared pieces) =
    IsSomeAnd link (λ (of : Pieces). SameWords (in_range entry.range) (piece_words known pieces) (piece_words known of))
KeptAs known w link entry by.Pattern = SameWords (in_range entry.range) (pattern_words entry.how) w

abbrev pub AllKeptAs : Known → Words → (ℕ → Option Pieces) → ℕ → List Entry → List Keep → Type 0
AllKeptAs known w links at [] keeps = Unit {0}
AllKeptAs known w links at (entry ∷ entries) [] = ⊥
AllKeptAs known w links at (entry ∷ entries) (keep ∷ keeps) =
    KeptAs known w (links at) entry keep × AllKeptAs known w links (suc at) entries keeps

-- copies and patterns give the words that the machine had, shared pieces those of the link
abbrev pub PreservedAreGiven : Type 0
PreservedAreGiven =
    (id : NodeId) (domain : Domain) (links : ℕ → Option Pieces) (keeps : List Keep) (m n : FieldModel) (p q : PassModel)
    → CanPreserve domain links m p → IsPreserved id domain links keeps m n p q → AllKeptAs q.known m.words links 0 domain.entries keeps

-- what is told is legal: for the root, which has the words that it was loaded with, too
abbrev pub PreservedIsLegal : Type 0
PreservedIsLegal =
    (tree : TreeModel) (loaded : Words) (id : NodeId) (domain : Domain) (links : ℕ → Option Pieces) (keeps : List Keep)
    (m n : FieldModel) (p q : PassModel)
    → slice_get tree.domains id.0 ≡ Some domain → (id.0 ≡ 0 → SameWords (in_entries domain.entries) m.words loaded)
    → (said : IsPreserved id domain links keeps m n p q) → Legal tree loaded said.events (saved_from id 0 domain.entries)

abbrev pub is_lapse : Event → Bool
is_lapse (Lapsed id entry seen found) = true
is_lapse _ = false

-- no more lapses are told than gone answers were given
abbrev pub LapsesAreAnswered : Type 0
LapsesAreAnswered =
    (id : NodeId) (domain : Domain) (links : ℕ → Option Pieces) (keeps : List Keep) (m n : FieldModel) (p q : PassModel)
    → (said : IsPreserved id domain links keeps m n p q) → count_by is_lapse said.events + length p.gone ≤ length q.gone
