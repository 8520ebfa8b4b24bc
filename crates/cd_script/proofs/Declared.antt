-- The kinds that are declared for a domain: those for its parent, and its own.
use Rattle.std.proofs.Common.{◌≡◌, ℕ, List, [], ◌∷◌, ◌++◌, Option, None, Some, slice_get, bit_or, ap, sym, ◌∙◌, arith}
use Rattle.std.specs.Option.{option_map_or}
use Rattle.std.proofs.lemmas.Nat.Bits.{bit_at_or, bit_at-zero, same_from_bits}
use Rattle.cd_tree.specs.declared.domain.NodeId.{NodeId}
use Rattle.cd_tree.specs.declared.domain.Domain.{Domain}
use Rattle.cd_tree.specs.KindSets.{no_kinds}
use Rattle.cd_tree.specs.TreeModel.{TreeModel, IsTree}
use Rattle.cd_tree.specs.Scripts.{path_of, declared_by, declared_for}
use Rattle.cd_tree.specs.Laws.{PathsGoDown}

or_assoc : (a b c : ℕ) → bit_or (bit_or a b) c ≡ bit_or a (bit_or b c)
or_assoc a b c =
    same_from_bits _ _ (λ i.
    omega (arith, bit_at_or (bit_or a b) c i, bit_at_or a b i, bit_at_or a (bit_or b c) i, bit_at_or b c i))

or_none : (a : ℕ) → bit_or a no_kinds ≡ a
or_none a = same_from_bits _ _ (λ i. omega (arith, bit_at_or a 0 i, bit_at-zero i))

none_or : (a : ℕ) → bit_or no_kinds a ≡ a
none_or a = same_from_bits _ _ (λ i. omega (arith, bit_at_or 0 a i, bit_at-zero i))

abbrev own : List Domain → NodeId → ℕ
own domains id = option_map_or (λ (domain : Domain). domain.detects) (slice_get domains id.0) no_kinds

declared_last : (domains : List Domain) (ids : List NodeId) (id : NodeId)
    → declared_by domains (ids ++ id ∷ []) ≡ bit_or (declared_by domains ids) (own domains id)
declared_last domains [] id = or_none (own domains id) ∙ sym (none_or (own domains id))
declared_last domains (first ∷ ids) id =
    ap (bit_or (own domains first)) (declared_last domains ids id)
    ∙ sym (or_assoc (own domains first) (declared_by domains ids) (own domains id))

-- the kinds for the domain above, where there is one
abbrev pub declared_above : List Domain → Option NodeId → ℕ
declared_above domains parent = declared_by domains (option_map_or (path_of domains) parent [])

pub declared_step : PathsGoDown → (tree : TreeModel) → IsTree tree → (id : NodeId) (domain : Domain) → slice_get tree.domains id.0 ≡ Some domain
    → declared_for tree.domains id ≡ bit_or (declared_above tree.domains domain.parent) domain.detects
declared_step down tree is id domain there =
    ap (declared_by tree.domains) (down tree is id domain there)
    ∙ declared_last tree.domains (option_map_or (path_of tree.domains) domain.parent []) id
    ∙ ap (λ (found : Option Domain). bit_or (declared_above tree.domains domain.parent) (option_map_or (λ (d : Domain). d.detects) found no_kinds)) there

-- the root has its own kinds
pub declared_root : PathsGoDown → (tree : TreeModel) → IsTree tree → (id : NodeId) (domain : Domain) → slice_get tree.domains id.0 ≡ Some domain
    → domain.parent ≡ None → domain.detects ≡ declared_for tree.domains id
declared_root down tree is id domain there up =
    sym (declared_step down tree is id domain there
    ∙ ap (λ (p : Option NodeId). bit_or (declared_above tree.domains p) domain.detects) up
    ∙ none_or domain.detects)

-- any other domain has its parent's and its own
pub declared_child : PathsGoDown → (tree : TreeModel) → IsTree tree → (id : NodeId) (domain : Domain) → slice_get tree.domains id.0 ≡ Some domain
    → (parent : NodeId) → domain.parent ≡ Some parent → (above : ℕ) → above ≡ declared_for tree.domains parent
    → bit_or above domain.detects ≡ declared_for tree.domains id
declared_child down tree is id domain there parent up above same =
    ap (λ (kinds : ℕ). bit_or kinds domain.detects) same
    ∙ sym (declared_step down tree is id domain there
    ∙ ap (λ (p : Option NodeId). bit_or (declared_above tree.domains p) domain.detects) up)
