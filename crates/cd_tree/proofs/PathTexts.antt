-- A domain's path is its parent's with its own number behind, and its text the parent's with `/` and its own name.
use Rattle.std.proofs.Common.{◌≡◌, ℕ, zero, suc, ◌+◌, ◌<◌, List, [], ◌∷◌, ◌++◌, Option, None, Some, IfSome, length, get_or, slice_get, unwrap_or, map, refl, ap, sym, ◌∙◌, subst, append_assoc, arith}
use Rattle.std.specs.List.{join_with_byte}
use Rattle.std.proofs.lemmas.Option.{slice_get_within, slice_get-get_or}
use Rattle.std.proofs.lemmas.List.{map-append, length-append}
use Rattle.cd_base.proofs.ListLemmas.{slice_get-before_last, slice_get-last}
use Rattle.cd_tree.specs.declared.domain.NodeId.{NodeId}
use Rattle.cd_tree.specs.declared.domain.Domain.{Domain}
use Rattle.cd_tree.specs.TreeModel.{TreeModel, IsTree}
use Rattle.cd_tree.specs.Scripts.{path_under, paths_from, path_of}
use Rattle.cd_tree.specs.Paths.{name_of, path_text_of}
use Rattle.cd_tree.proofs.PathParents.{parent_before}

-- the path of the next domain, given the paths so far
abbrev next_path : List (List NodeId) → Domain → List NodeId
next_path paths domain = path_under paths domain.parent ++ record { 0 = length paths } ∷ []

paths_kept : (paths : List (List NodeId)) (domains : List Domain) (k : ℕ) → k < length paths
    → slice_get (paths_from paths domains) k ≡ slice_get paths k
paths_kept paths [] k below = refl
paths_kept paths (domain ∷ domains) k below =
    paths_kept (paths ++ next_path paths domain ∷ []) domains k (omega (arith, length-append paths (next_path paths domain ∷ [])))
    ∙ slice_get-before_last paths (next_path paths domain) k below

under_kept : (paths all : List (List NodeId)) (parent : Option NodeId) → IfSome parent (λ p. slice_get all p.0 ≡ slice_get paths p.0)
    → path_under paths parent ≡ path_under all parent
under_kept paths all None same = refl
under_kept paths all (Some parent) same = ap (λ found. unwrap_or found []) (sym same)

parent_kept : (paths : List (List NodeId)) (domains : List Domain) (parent : Option NodeId) → IfSome parent (λ p. p.0 < length paths)
    → IfSome parent (λ p. slice_get (paths_from paths domains) p.0 ≡ slice_get paths p.0)
parent_kept paths domains None below = tt
parent_kept paths domains (Some parent) below = paths_kept paths domains parent.0 below

path_at : (paths : List (List NodeId)) (domains : List Domain) (k : ℕ) (domain : Domain) → slice_get domains k ≡ Some domain
    → IfSome domain.parent (λ p. p.0 < length paths + k)
    → slice_get (paths_from paths domains) (length paths + k)
    ≡ Some (path_under (paths_from paths domains) domain.parent ++ record { 0 = length paths + k } ∷ [])
path_at paths [] k domain is earlier = absurd (cc)
path_at paths (first ∷ domains) zero domain is earlier =
    let same : first ≡ domain = cc in
    let sum : length paths + 0 ≡ length paths = omega arith in
    let one : List NodeId = next_path paths domain in
    let more : List (List NodeId) = paths ++ one ∷ [] in
    let under : path_under paths domain.parent ≡ path_under (paths_from more domains) domain.parent =
    under_kept paths (paths_from more domains) domain.parent
    (subst (λ (d : Domain). IfSome domain.parent (λ p. slice_get (paths_from (paths ++ next_path paths d ∷ []) domains) p.0 ≡ slice_get paths p.0))
    same (parent_kept paths (first ∷ domains) domain.parent (rw sum at earlier))) in
    let last : slice_get (paths_from more domains) (length paths) ≡ Some one =
    paths_kept more domains (length paths) (omega (arith, length-append paths (one ∷ []))) ∙ slice_get-last paths one in
    rw (sum, same) (last ∙ ap (λ (path : List NodeId). Some (path ++ record { 0 = length paths } ∷ [])) under)
path_at paths (first ∷ domains) (suc k) domain is earlier =
    let one : List NodeId = next_path paths first in
    let more : List (List NodeId) = paths ++ one ∷ [] in
    let size : length paths + suc k ≡ length more + k = omega (arith, length-append paths (one ∷ [])) in
    rw size (path_at more domains k domain is (rw size at earlier))

-- a path is its parent's with the domain's number behind
pub path_step : (domains : List Domain) (id : NodeId) (domain : Domain) → slice_get domains id.0 ≡ Some domain
    → IfSome domain.parent (λ p. p.0 < id.0) → path_of domains id ≡ path_under (paths_from [] domains) domain.parent ++ id ∷ []
path_step domains id domain is earlier =
    let sum : 0 + id.0 ≡ id.0 = omega arith in
    let there = path_at [] domains id.0 domain is (rw sum earlier) in
    ap (λ (found : Option (List NodeId)). unwrap_or found []) (rw sum at there)

joined_last : (c : ℕ) (names : List (List ℕ)) (above name : List ℕ)
    → join_with_byte c ((names ++ above ∷ []) ++ name ∷ []) ≡ join_with_byte c (names ++ above ∷ []) ++ c ∷ name
joined_last c [] above name = refl
joined_last c (first ∷ []) above name = sym (append_assoc first (c ∷ above) (c ∷ name))
joined_last c (first ∷ second ∷ names) above name =
    ap (λ (rest : List ℕ). first ++ c ∷ rest) (joined_last c (second ∷ names) above name)
    ∙ sym (append_assoc first (c ∷ join_with_byte c ((second ∷ names) ++ above ∷ [])) (c ∷ name))

pub earlier_parent : (tree : TreeModel) → IsTree tree → (id : NodeId) (domain : Domain) → slice_get tree.domains id.0 ≡ Some domain
    → (parent : Option NodeId) → domain.parent ≡ parent → IfSome parent (λ p. p.0 < id.0)
earlier_parent tree is id domain there None up = tt
earlier_parent tree is id domain there (Some parent) up = parent_before tree is id domain there parent up

name_there : (domains : List Domain) (id : NodeId) (domain : Domain) → slice_get domains id.0 ≡ Some domain → name_of domains id ≡ domain.name
name_there domains id domain there = rw there

-- the root's path is its name
pub text_of_root : (tree : TreeModel) → IsTree tree → (id : NodeId) (domain : Domain) → slice_get tree.domains id.0 ≡ Some domain
    → domain.parent ≡ None → path_text_of tree.domains id ≡ domain.name
text_of_root tree is id domain there up =
    let path : path_of tree.domains id ≡ id ∷ [] =
    path_step tree.domains id domain there (earlier_parent tree is id domain there domain.parent refl)
    ∙ ap (λ (p : Option NodeId). path_under (paths_from [] tree.domains) p ++ id ∷ []) up in
    ap (λ (ids : List NodeId). join_with_byte 47 (map (name_of tree.domains) ids)) path
    ∙ name_there tree.domains id domain there

-- any other domain's path is its parent's, `/` and its name
pub text_of_child : (tree : TreeModel) → IsTree tree → (id : NodeId) (domain : Domain) → slice_get tree.domains id.0 ≡ Some domain
    → (parent : NodeId) → domain.parent ≡ Some parent
    → path_text_of tree.domains id ≡ path_text_of tree.domains parent ++ 47 ∷ domain.name
text_of_child tree is id domain there parent up =
    let within : id.0 < length tree.domains = slice_get_within tree.domains id.0 domain there in
    let before : parent.0 < id.0 = parent_before tree is id domain there parent up in
    let upper : Domain = get_or tree.domains parent.0 domain in
    let upper_there : slice_get tree.domains parent.0 ≡ Some upper =
    slice_get-get_or tree.domains parent.0 domain (omega arith) in
    let above : List NodeId = path_under (paths_from [] tree.domains) upper.parent in
    let parent_path : path_of tree.domains parent ≡ above ++ parent ∷ [] =
    path_step tree.domains parent upper upper_there (earlier_parent tree is parent upper upper_there upper.parent refl) in
    let path : path_of tree.domains id ≡ path_of tree.domains parent ++ id ∷ [] =
    path_step tree.domains id domain there (earlier_parent tree is id domain there domain.parent refl)
    ∙ ap (λ (p : Option NodeId). path_under (paths_from [] tree.domains) p ++ id ∷ []) up in
    let named : List NodeId → List (List ℕ) = λ ids. map (name_of tree.domains) ids in
    let names : named (path_of tree.domains parent) ≡ named above ++ name_of tree.domains parent ∷ [] =
    ap named parent_path ∙ map-append (name_of tree.domains) above (parent ∷ []) in
    ap (λ (ids : List NodeId). join_with_byte 47 (named ids)) path
    ∙ ap (join_with_byte 47) (map-append (name_of tree.domains) (path_of tree.domains parent) (id ∷ []))
    ∙ ap (λ (n : List (List ℕ)). join_with_byte 47 (n ++ name_of tree.domains id ∷ [])) names
    ∙ joined_last 47 (named above) (name_of tree.domains parent) (name_of tree.domains id)
    ∙ ap (λ (n : List (List ℕ)). join_with_byte 47 n ++ 47 ∷ name_of tree.domains id) (sym names)
    ∙ ap (λ (name : List ℕ). path_text_of tree.domains parent ++ 47 ∷ name) (name_there tree.domains id domain there)

-- the root's name behind a text
pub at_root : (tree : TreeModel) → IsTree tree → (id : NodeId) (domain : Domain) → slice_get tree.domains id.0 ≡ Some domain
    → domain.parent ≡ None → (before text name : List ℕ) → before ≡ text → name ≡ domain.name
    → before ++ name ≡ text ++ path_text_of tree.domains id
at_root tree is id domain there up before text name same named =
    let path : path_text_of tree.domains id ≡ domain.name = text_of_root tree is id domain there up in
    cc

-- the parent's path, `/` and the name behind a text
pub below_parent : (tree : TreeModel) → IsTree tree → (id : NodeId) (domain : Domain) → slice_get tree.domains id.0 ≡ Some domain
    → (parent : NodeId) → domain.parent ≡ Some parent → (before text name : List ℕ)
    → before ≡ (text ++ path_text_of tree.domains parent) ++ 47 ∷ [] → name ≡ domain.name
    → before ++ name ≡ text ++ path_text_of tree.domains id
below_parent tree is id domain there parent up before text name same named =
    let path : path_text_of tree.domains id ≡ path_text_of tree.domains parent ++ 47 ∷ domain.name =
    text_of_child tree is id domain there parent up in
    let all : ((text ++ path_text_of tree.domains parent) ++ 47 ∷ []) ++ domain.name
    ≡ text ++ (path_text_of tree.domains parent ++ 47 ∷ domain.name) =
    append_assoc (text ++ path_text_of tree.domains parent) (47 ∷ []) domain.name
    ∙ append_assoc text (path_text_of tree.domains parent) (47 ∷ domain.name) in
    cc
