-- No two domains of a program have the same path: names have no `/`, and siblings have different names.
use Rattle.std.proofs.Common.{◌≡◌, ◌≢◌, ℕ, zero, suc, ◌<◌, List, [], ◌∷◌, ◌++◌, Option, None, Some, length, slice_get, get_or, refl, ap, sym, ◌∙◌, subst, arith}
use Rattle.std.specs.List.{Contains}
use Rattle.std.proofs.lemmas.List.Elements.{Contains-append_right}
use Rattle.std.proofs.lemmas.Option.{slice_get_within, slice_get-get_or}
use Rattle.cd_tree.specs.declared.domain.NodeId.{NodeId}
use Rattle.cd_tree.specs.declared.domain.Domain.{Domain}
use Rattle.cd_tree.specs.TreeModel.{TreeModel, IsTree}
use Rattle.cd_tree.specs.Paths.{path_text_of}
use Rattle.cd_tree.proofs.View.{domain_fits}
use Rattle.cd_tree.proofs.PathParents.{parent_before}
use Rattle.cd_tree.proofs.PathTexts.{text_of_root, text_of_child}

-- this list has no `/`
abbrev NoSlash : List ℕ → Type 0
NoSlash name = Contains name 47 → ⊥

no_slash_inside : (name front back : List ℕ) → NoSlash name → name ≢ front ++ 47 ∷ back
no_slash_inside name front back none same =
    let slash : Contains (47 ∷ back) 47 = (0, omega arith, refl) in
    none (subst (λ (text : List ℕ). Contains text 47) (sym same) (Contains-append_right front (47 ∷ back) 47 slash))

-- two texts that are equal are equal before and behind their last `/`
last_slash : (front other name rest : List ℕ) → NoSlash name → NoSlash rest → front ++ 47 ∷ name ≡ other ++ 47 ∷ rest
    → (front ≡ other) × (name ≡ rest)
last_slash [] [] name rest p q same = (refl, cc)
last_slash [] (x ∷ other) name rest p q same = absurd (no_slash_inside name other rest p (cc))
last_slash (x ∷ front) [] name rest p q same = absurd (no_slash_inside rest front name q (cc))
last_slash (x ∷ front) (y ∷ other) name rest p q same =
    let head : x ≡ y = cc in
    let tail : front ++ 47 ∷ name ≡ other ++ 47 ∷ rest = cc in
    let both : (front ≡ other) × (name ≡ rest) = last_slash front other name rest p q tail in
    let fronts : front ≡ other = both.0 in
    (cc, both.1)

name_has_no_slash : (tree : TreeModel) → IsTree tree → (id : NodeId) (domain : Domain) → slice_get tree.domains id.0 ≡ Some domain
    → NoSlash domain.name
name_has_no_slash tree is id domain there = (domain_fits tree is id domain there).name

-- the same number, the same domain
same_number : (id other : NodeId) → id.0 ≡ other.0 → id ≡ other
same_number id other e = let make : ℕ → NodeId = λ n. record { 0 = n } in ap make e

siblings_same : (tree : TreeModel) → IsTree tree → (id other : NodeId) (one two : Domain)
    → slice_get tree.domains id.0 ≡ Some one → slice_get tree.domains other.0 ≡ Some two
    → one.parent ≡ two.parent → one.name ≡ two.name → id ≡ other
siblings_same tree is id other one two here there parents names =
    same_number id other (is.siblings id.0 other.0 one two here there parents names)

-- induction over a bound on the first number
paths_differ : (n : ℕ) (tree : TreeModel) → IsTree tree → (id other : NodeId) (one two : Domain) (up above : Option NodeId) → id.0 < n
    → slice_get tree.domains id.0 ≡ Some one → slice_get tree.domains other.0 ≡ Some two → one.parent ≡ up → two.parent ≡ above
    → path_text_of tree.domains id ≡ path_text_of tree.domains other → id ≡ other
paths_differ zero tree is id other one two up above low here there p q same = absurd (omega arith)
paths_differ (suc n) tree is id other one two None None low here there p q same =
    siblings_same tree is id other one two here there (p ∙ sym q)
    (sym (text_of_root tree is id one here p) ∙ same ∙ text_of_root tree is other two there q)
paths_differ (suc n) tree is id other one two None (Some above) low here there p q same =
    absurd (no_slash_inside one.name (path_text_of tree.domains above) two.name (name_has_no_slash tree is id one here)
    (sym (text_of_root tree is id one here p) ∙ same ∙ text_of_child tree is other two there above q))
paths_differ (suc n) tree is id other one two (Some up) None low here there p q same =
    absurd (no_slash_inside two.name (path_text_of tree.domains up) one.name (name_has_no_slash tree is other two there)
    (sym (text_of_root tree is other two there q) ∙ sym same ∙ text_of_child tree is id one here up p))
paths_differ (suc n) tree is id other one two (Some up) (Some above) low here there p q same =
    let both : (path_text_of tree.domains up ≡ path_text_of tree.domains above) × (one.name ≡ two.name) =
    last_slash (path_text_of tree.domains up) (path_text_of tree.domains above) one.name two.name
    (name_has_no_slash tree is id one here) (name_has_no_slash tree is other two there)
    (sym (text_of_child tree is id one here up p) ∙ same ∙ text_of_child tree is other two there above q) in
    let up_before : up.0 < id.0 = parent_before tree is id one here up p in
    let above_before : above.0 < other.0 = parent_before tree is other two there above q in
    let within : id.0 < length tree.domains = slice_get_within tree.domains id.0 one here in
    let within_other : other.0 < length tree.domains = slice_get_within tree.domains other.0 two there in
    let up_there : slice_get tree.domains up.0 ≡ Some (get_or tree.domains up.0 one) =
    slice_get-get_or tree.domains up.0 one (omega arith) in
    let above_there : slice_get tree.domains above.0 ≡ Some (get_or tree.domains above.0 two) =
    slice_get-get_or tree.domains above.0 two (omega arith) in
    let parents : up ≡ above =
    paths_differ n tree is up above (get_or tree.domains up.0 one) (get_or tree.domains above.0 two)
    (get_or tree.domains up.0 one).parent (get_or tree.domains above.0 two).parent (omega arith)
    up_there above_there refl refl both.0 in
    siblings_same tree is id other one two here there (p ∙ ap Some parents ∙ sym q) both.1

pub no_two_share_a_path : (tree : TreeModel) → IsTree tree → (id other : NodeId) (one two : Domain)
    → slice_get tree.domains id.0 ≡ Some one → slice_get tree.domains other.0 ≡ Some two
    → path_text_of tree.domains id ≡ path_text_of tree.domains other → id ≡ other
no_two_share_a_path tree is id other one two here there same =
    paths_differ (suc id.0) tree is id other one two one.parent two.parent (omega arith) here there refl refl same
