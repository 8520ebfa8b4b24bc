-- What keeps hold: the words of pieces, how pieces are cut, and what a pass holds of them.
use Rattle.std.specs.Prelude.{◌≡◌, ℕ, suc, ◌+◌, ◌-◌, ◌*◌, ◌<◌, ◌≤◌, ◌==◌, nat_le, if◌then◌else◌, cond, List, [], ◌∷◌, ◌++◌, length, Option, None, Some, slice_get, unwrap_or, IsSomeAnd}
use Rattle.cd_base.specs.declared.place.Range.{Range}
use Rattle.cd_base.specs.Words.{Words, pattern_word}
use Rattle.cd_tree.specs.declared.domain.NodeId.{NodeId}
use Rattle.cd_tree.specs.declared.domain.How.{How}
use Rattle.cd_tree.specs.declared.domain.How.TheVariants.{Copy, Refer, Regen}
use Rattle.cd_tree.specs.declared.domain.Entry.{Entry}
use Rattle.cd_tree.specs.Legal.{OfPattern}
use Rattle.cd_keep.specs.declared.keep_id.KeepId.{KeepId}
use Rattle.cd_keep.specs.PassModel.{PassModel, IsPiece, same_id}
use Rattle.cd_tries.specs.declared.keep.Pieces.{Pieces}
use Rattle.cd_tries.specs.declared.keep.Keep.{Keep}
use Rattle.cd_tries.specs.declared.keep.Keep.TheVariants.{Copied, Shared, Pattern as ByPattern}
use Rattle.cd_tries.specs.declared.shelf.Level.{Level}

-- the words of each id that a pass knows
abbrev pub Known : Type 0
Known = KeepId → Option (List ℕ)

-- the words of these ids, one piece behind another
abbrev pub text : Known → List KeepId → List ℕ
text known [] = []
text known (id ∷ ids) = unwrap_or (known id) [] ++ text known ids

-- the words that pieces give, from their first index on
abbrev pub piece_words : Known → Pieces → Words
piece_words known pieces = λ p. if nat_le pieces.begin p.index then slice_get (text known pieces.ids) (p.index - pieces.begin) else None

-- the words that a pattern gives; what is no pattern gives none
abbrev pub pattern_words : How → Words
pattern_words Copy = λ p. None
pattern_words Refer = λ p. None
pattern_words (Regen pattern) = λ p. Some (pattern_word pattern p.index)

-- the words that a keep gives for an entry
abbrev pub keep_words : Known → How → Keep → Words
keep_words known how (Copied pieces) = piece_words known pieces
keep_words known how (Shared pieces) = piece_words known pieces
keep_words known how ByPattern = pattern_words how

-- pieces as they are cut: each is known, all but the last have 64 words, and the last ends where they end
pub record AreCut (known : Known) (pieces : Pieces) : Type 0 where
  pub each : (k : ℕ) (id : KeepId) → slice_get pieces.ids k ≡ Some id → IsSomeAnd (known id) IsPiece
  pub whole : (k : ℕ) (id : KeepId) → slice_get pieces.ids k ≡ Some id → suc k < length pieces.ids
      → length (unwrap_or (known id) []) ≡ 64
  pub size : pieces.begin + length (text known pieces.ids) ≡ pieces.end

-- pieces that have the words of a range, and more
pub record Cover (known : Known) (pieces : Pieces) (r : Range) : Type 0 where
  pub cut : AreCut known pieces
  pub low : pieces.begin ≤ r.low
  pub high : r.high ≤ pieces.end

-- each of these pieces meets the range
pub record EachMeets (pieces : Pieces) (r : Range) : Type 0 where
  pub first : r.low < pieces.begin + 64
  pub last : pieces.begin + 64 * (length pieces.ids - 1) < r.high

-- a keep as an entry has it: a copy begins with the range, and shared pieces each meet it
abbrev pub KeepFits : Known → Entry → Keep → Type 0
KeepFits known entry (Copied pieces) = Cover known pieces entry.range × (pieces.begin ≡ entry.range.low) × EachMeets pieces entry.range
KeepFits known entry (Shared pieces) = Cover known pieces entry.range × (entry.how ≡ Refer) × EachMeets pieces entry.range
KeepFits known entry ByPattern = OfPattern (λ r pattern. Unit {0}) entry entry.how

-- one keep for each entry
abbrev pub KeepsFit : Known → List Entry → List Keep → Type 0
KeepsFit known [] [] = Unit {0}
KeepsFit known [] (keep ∷ keeps) = ⊥
KeepsFit known (entry ∷ entries) [] = ⊥
KeepsFit known (entry ∷ entries) (keep ∷ keeps) = KeepFits known entry keep × KeepsFit known entries keeps

-- the ids of a keep, and of keeps in order
abbrev pub keep_ids : Keep → List KeepId
keep_ids (Copied pieces) = pieces.ids
keep_ids (Shared pieces) = pieces.ids
keep_ids ByPattern = []

abbrev pub all_ids : List Keep → List KeepId
all_ids [] = []
all_ids (keep ∷ keeps) = keep_ids keep ++ all_ids keeps

-- how often an id stands among these
abbrev pub times_in : KeepId → List KeepId → ℕ
times_in id [] = 0
times_in id (one ∷ ids) = cond (same_id one id) 1 0 + times_in id ids

-- a pass holds these ids, each as often as it stands there, and nothing else
pub record HoldsThese (p : PassModel) (ids : List KeepId) : Type 0 where
  pub each : (id : KeepId) → p.holds id ≡ times_in id ids
  pub held : p.held ≡ length ids

-- what a keep has for those below: pieces, where it has some
abbrev pub pieces_of : Keep → Option Pieces
pieces_of (Copied pieces) = Some pieces
pieces_of (Shared pieces) = Some pieces
pieces_of ByPattern = None

abbrev pub pieces_in : Option Keep → Option Pieces
pieces_in None = None
pieces_in (Some keep) = pieces_of keep

-- the pieces of an entry of a domain above, both by their numbers
abbrev pub linked : List Level → NodeId × ℕ → Option Pieces
linked [] (up, at) = None
linked (level ∷ levels) (up, at) = if level.node.0 == up.0 then pieces_in (slice_get level.keeps at) else linked levels (up, at)

abbrev pub linked_by : List Level → Option (NodeId × ℕ) → Option Pieces
linked_by levels None = None
linked_by levels (Some link) = linked levels link
