-- A layer of a pass as contracts see it.
use Rattle.std.specs.Prelude.{◌≡◌, ℕ, zero, suc, ◌+◌, ◌-◌, ◌<◌, ◌≤◌, List, [], ◌∷◌, ◌++◌, length, take, drop, Option, option_map, get_or}
use Rattle.std.specs.List.{slice_get}

-- the words of all pieces, and where each piece ends
pub record LayerModel : Type 0 where
  pub words : List ℕ
  pub ends : List ℕ

-- a layer without pieces
abbrev pub empty_layer : LayerModel
empty_layer = record { words = []; ends = [] }

-- where the piece of a block begins: where the one before ends
abbrev pub begin_at : List ℕ → ℕ → ℕ
begin_at ends zero = 0
begin_at ends (suc block) = get_or ends block 0

-- each piece ends in the words and not before it begins, and the next one begins where they end
pub record AreEnds (words ends : List ℕ) : Type 0 where
  pub ordered : (block : ℕ) → block < length ends → begin_at ends block ≤ get_or ends block 0
  pub within : (block : ℕ) → block < length ends → get_or ends block 0 ≤ length words
  pub all : begin_at ends (length ends) ≡ length words

-- a piece put last
abbrev pub pushed : LayerModel → List ℕ → LayerModel
pushed layer piece = record { words = layer.words ++ piece; ends = layer.ends ++ (length layer.words + length piece) ∷ [] }

-- the words from one place to another
abbrev pub between : List ℕ → ℕ → ℕ → List ℕ
between words begin end = take (end - begin) (drop begin words)

-- the words of a block's piece
abbrev pub piece_in : LayerModel → ℕ → Option (List ℕ)
piece_in layer block = option_map (λ end. between layer.words (begin_at layer.ends block) end) (slice_get layer.ends block)
