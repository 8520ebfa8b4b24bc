-- A worked case of 21 domains in three layers: a root, four parts of it, and four blocks of rows in each part.
use Rattle.std.proofs.Common.{◌≡◌, ℕ, ◌+◌, ◌*◌, List, [], ◌∷◌, ◌++◌, refl}
use Rattle.cd_tree.specs.declared.domain.Item.TheVariants.{Run, Group}
use Rattle.cd_tree.specs.declared.domain.Domain.{Domain}
use Rattle.cd_tree.specs.declared.document.Fault.{Fault}
use Rattle.cd_base.specs.declared.place.Range.{Range}
use Rattle.cd_tree.specs.declared.operation.Op.TheVariants.{Spmv}
use Rattle.cd_tree.specs.Domains.{node_numbers, node_depth, numbers_from, root_of}
use Rattle.cd_tree.specs.Meaning.{node_need}
use Rattle.cd_tree.specs.Scripts.{path_of}
use Rattle.cd_tree.specs.Reading.{Done, read_node}
use Rattle.cd_tree.proofs.WorkedForms.{number, root, inner, part, copied, referred, strike, read_all, counts_of}

abbrev starts : ℕ → ℕ → Range
starts low high = part 0 low high

-- what no block writes: columns, values and the vector
abbrev shared : ℕ → Range
shared region = part region 0 512

abbrev y : ℕ → ℕ → Range
y low high = part 4 low high

-- block b of part a: 16 rows, three tries, finds flip (kind 0)
abbrev rows : ℕ → ℕ → Domain
rows a b =
    let low : ℕ = 64 * a + 16 * b in
    inner (1 + 5 * a) 3 1
    (referred (starts low (low + 17)) ∷ referred (shared 1) ∷ referred (shared 2) ∷ referred (shared 3) ∷ referred (y low (low + 16)) ∷ [])
    (Run (Spmv (y low (low + 16)) (starts low (low + 17)) (shared 1) (shared 2) (shared 3)) ∷ [])

-- part a: 64 rows, two tries, finds lost and link (kinds 1 and 2)
abbrev part_with_rows : ℕ → List Domain
part_with_rows a =
    let at : ℕ = 1 + 5 * a in
    inner 0 2 6
    (referred (starts (64 * a) (64 * a + 65)) ∷ referred (shared 1) ∷ referred (shared 2) ∷ referred (shared 3) ∷ copied (y (64 * a) (64 * a + 64)) ∷ [])
    (Group (number (at + 1) ∷ number (at + 2) ∷ number (at + 3) ∷ number (at + 4) ∷ []) ∷ [])
    ∷ rows a 0 ∷ rows a 1 ∷ rows a 2 ∷ rows a 3 ∷ []

-- the root: three tries, finds node (kind 3)
abbrev grid : List Domain
grid =
    root 3 8 (copied (starts 0 257) ∷ copied (shared 1) ∷ copied (shared 2) ∷ copied (shared 3) ∷ copied (y 0 256) ∷ [])
    (Group (number 1 ∷ number 6 ∷ number 11 ∷ number 16 ∷ []) ∷ [])
    ∷ part_with_rows 0 ++ part_with_rows 1 ++ part_with_rows 2 ++ part_with_rows 3

-- twelve faults, by domain, begin, point and kind; which words they strike the reading does not ask
abbrev faults : List Fault
faults =
    strike 2 1 1 0 0 1 ∷ strike 2 2 1 0 1 2 ∷ strike 3 1 0 0 0 4 ∷ strike 9 1 1 2 96 8
    ∷ strike 6 2 0 1 5 16 ∷ strike 11 1 1 2 128 32 ∷ strike 20 1 0 3 511 64 ∷ strike 2 4 1 0 2 128
    ∷ strike 0 2 1 3 255 1 ∷ strike 13 9 1 0 150 1 ∷ strike 16 3 0 1 7 0 ∷ strike 9 4 1 0 100 255 ∷ []

grid_preorder : node_numbers (root_of grid) ≡ numbers_from 0 21
grid_preorder = refl

grid_depth : node_depth (root_of grid) ≡ 3
grid_depth = refl

-- 33 blocks for the root's entries, 31 for each part's and for each block of rows
grid_need : node_need (root_of grid) ≡ 653
grid_need = refl

grid_path : path_of grid (number 9) ≡ number 0 ∷ number 6 ∷ number 9 ∷ []
grid_path = refl

grid_answer : (read_all 0 faults grid).answer ≡ Done 0
unfolding read_node
grid_answer = refl

-- the root and, part by part, the part and its four blocks
grid_counts : counts_of (read_all 0 faults grid).counts 21
    ≡ 3
    ∷ 3 ∷ 6 ∷ 4 ∷ 3 ∷ 3
    ∷ 4 ∷ 4 ∷ 4 ∷ 5 ∷ 4
    ∷ 4 ∷ 4 ∷ 4 ∷ 4 ∷ 4
    ∷ 4 ∷ 4 ∷ 4 ∷ 4 ∷ 4 ∷ []
unfolding read_node
grid_counts = refl

-- eleven of the twelve faults strike
grid_strikes : (read_all 0 faults grid).past.strikes ≡ 11
unfolding read_node
grid_strikes = refl
