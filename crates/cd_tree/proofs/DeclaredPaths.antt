-- Paths go down from parent to child, and with them the kinds that are declared.
use Rattle.std.proofs.Common.{◌≡◌, ℕ, List, [], ◌∷◌, ◌++◌, Option, None, Some, bit_or, slice_get, refl, ap, ◌∙◌, arith}
use Rattle.std.specs.Option.{option_map_or}
use Rattle.std.proofs.lemmas.Nat.{or_comm}
use Rattle.std.proofs.lemmas.Nat.Bits.{bit_at_or, same_from_bits}
use Rattle.cd_tree.specs.declared.domain.NodeId.{NodeId}
use Rattle.cd_tree.specs.declared.domain.Domain.{Domain}
use Rattle.cd_tree.specs.KindSets.{no_kinds}
use Rattle.cd_tree.specs.TreeModel.{TreeModel, IsTree}
use Rattle.cd_tree.specs.Scripts.{path_under, paths_from, path_of, declared_by, declared_for}
use Rattle.cd_tree.proofs.PathTexts.{path_step, earlier_parent}

under_is_path : (domains : List Domain) (parent : Option NodeId)
    → path_under (paths_from [] domains) parent ≡ option_map_or (path_of domains) parent []
under_is_path domains None = refl
under_is_path domains (Some parent) = refl

-- the path of a domain is its parent's, and then the domain
pub paths_go_down : (tree : TreeModel) → IsTree tree → (id : NodeId) (domain : Domain) → slice_get tree.domains id.0 ≡ Some domain
    → path_of tree.domains id ≡ option_map_or (path_of tree.domains) domain.parent [] ++ id ∷ []
paths_go_down tree is id domain there =
    path_step tree.domains id domain there (earlier_parent tree is id domain there domain.parent refl)
    ∙ ap (λ (path : List NodeId). path ++ id ∷ []) (under_is_path tree.domains domain.parent)

or_or : (a b c : ℕ) → bit_or a (bit_or b c) ≡ bit_or (bit_or a b) c
or_or a b c =
    same_from_bits (bit_or a (bit_or b c)) (bit_or (bit_or a b) c)
    (λ i. omega (arith, bit_at_or a (bit_or b c) i, bit_at_or b c i, bit_at_or (bit_or a b) c i, bit_at_or a b i))

-- the kinds that one domain declares
abbrev own_kinds : List Domain → NodeId → ℕ
own_kinds domains id = option_map_or (λ (domain : Domain). domain.detects) (slice_get domains id.0) no_kinds

declared_last : (domains : List Domain) (ids : List NodeId) (id : NodeId)
    → declared_by domains (ids ++ id ∷ []) ≡ bit_or (declared_by domains ids) (own_kinds domains id)
declared_last domains [] id = or_comm (own_kinds domains id) no_kinds
declared_last domains (first ∷ ids) id =
    ap (bit_or (own_kinds domains first)) (declared_last domains ids id)
    ∙ or_or (own_kinds domains first) (declared_by domains ids) (own_kinds domains id)

declared_above : (domains : List Domain) (parent : Option NodeId)
    → declared_by domains (option_map_or (path_of domains) parent []) ≡ option_map_or (declared_for domains) parent no_kinds
declared_above domains None = refl
declared_above domains (Some parent) = refl

-- the kinds that are declared for a domain: those for its parent, and its own
pub declared_down : (tree : TreeModel) → IsTree tree → (id : NodeId) (domain : Domain) → slice_get tree.domains id.0 ≡ Some domain
    → (parent : Option NodeId) → domain.parent ≡ parent
    → declared_for tree.domains id ≡ bit_or (option_map_or (declared_for tree.domains) parent no_kinds) domain.detects
declared_down tree is id domain there parent up =
    let above : List NodeId = option_map_or (path_of tree.domains) domain.parent [] in
    let own : own_kinds tree.domains id ≡ domain.detects =
    ap (λ (found : Option Domain). option_map_or (λ (d : Domain). d.detects) found no_kinds) there in
    ap (declared_by tree.domains) (paths_go_down tree is id domain there)
    ∙ declared_last tree.domains above id
    ∙ ap (bit_or (declared_by tree.domains above)) own
    ∙ ap (λ (kinds : ℕ). bit_or kinds domain.detects) (declared_above tree.domains domain.parent)
    ∙ ap (λ (p : Option NodeId). bit_or (option_map_or (declared_for tree.domains) p no_kinds) domain.detects) up
