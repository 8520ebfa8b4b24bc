-- A program's view as a list is the program's list of domains, and no name in it is taken.
use Rattle.std.proofs.Common.{◌≡◌, ℕ, zero, suc, ◌+◌, ◌<◌, Bool, true, false, ◌&&◌, ◌||◌, List, [], ◌∷◌, ◌++◌, length, slice_get, Option, Some, None, refl, sym, ap, ◌∙◌, subst, arith, append_assoc, length-append}
use Rattle.std.proofs.lemmas.Bool.{and_parts}
use Rattle.std.specs.Str.{bytes_eq}
use Rattle.std.proofs.lemmas.Option.{same_Some, slice_get_within}
use Rattle.std.proofs.lemmas.Slice.Eq.{bytes_eq-Decides}
use Rattle.std.proofs.lemmas.Bool.Decides.{nat_tests}
use Rattle.cd_tree.specs.declared.domain.NodeId.{NodeId}
use Rattle.cd_tree.specs.declared.domain.Item.{Item}
use Rattle.cd_tree.specs.declared.domain.Domain.{Domain}
use Rattle.cd_tree.specs.Laws.{NestedViewFollows}
use Rattle.cd_tree.specs.TreeModel.{TreeModel, IsTree, FitsDomain, SiblingsDiffer}
use Rattle.cd_tree.specs.Domains.{Node, node, Body, stop, run, group, Members, no_more, member, node_numbers, body_numbers, member_numbers, numbers_from}
use Rattle.cd_parse.specs.Draft.{is_parent, has_child_named}
use Rattle.cd_print.proofs.ProgramLemmas.{each_at}
use Rattle.cd_print.proofs.TreeViews.{last_found, AreFresh, flat_node, flat_body, flat_members}
use Rattle.cd_print.proofs.ViewBack.{Seen, ShowsBody, ShowsMembers, shows_body, GoUp, go_up, up_front, up_back, node_size, members_size}

-- ---- the view in order is the list

-- these domains stand in the list from a number on
abbrev AllAt : List Domain → ℕ → List Domain → Type 0
AllAt domains k [] = Unit {0}
AllAt domains k (it ∷ rest) = (slice_get domains k ≡ Some it) × AllAt domains (suc k) rest

all_both : (domains : List Domain) (k : ℕ) (front back : List Domain) (j : ℕ) → AllAt domains k front → AllAt domains j back → j ≡ k + length front
    → AllAt domains k (front ++ back)
all_both domains k [] back j p q e = let same : j ≡ k = omega (arith, e) in subst (λ (m : ℕ). AllAt domains m back) same q
all_both domains k (it ∷ front) back j p q e = (p.0, all_both domains (suc k) front back j p.1 q (omega (arith, e)))

mutual
  node_there : (n : Node) (tree : TreeModel) (k : ℕ) → NestedViewFollows → IsTree tree → Seen tree.domains n → GoUp k (node_numbers n) → AllAt tree.domains k (flat_node n)
  node_there (node id domain body) tree k view is seen up =
      let fits : FitsDomain tree.kinds tree.domains id.0 domain = each_at tree.kinds tree.domains 0 tree.domains id.0 domain id.0 is.each seen.0 (omega arith) in
      let shown : ShowsBody tree.domains body domain.items =
      subst (λ (b : Body). ShowsBody tree.domains b domain.items) (sym seen.1) (shows_body view tree is id.0 domain.items fits.items) in (
        subst (λ (m : ℕ). slice_get tree.domains m ≡ Some domain) up.0 seen.0,
        body_there body tree (suc k) domain.items view is shown up.1,
      )

  body_there : (b : Body) (tree : TreeModel) (k : ℕ) (items : List Item) → NestedViewFollows → IsTree tree → ShowsBody tree.domains b items → GoUp k (body_numbers b)
      → AllAt tree.domains k (flat_body b)
  body_there stop tree k items view is shown up = tt
  body_there (run op rest) tree k items view is shown up = body_there rest tree k shown.0 view is shown.2 up
  body_there (group ms rest) tree k items view is shown up =
      all_both tree.domains k (flat_members ms) (flat_body rest) (k + length (flat_members ms))
      (members_there ms tree k shown.0 view is shown.3 (up_front k (member_numbers ms) (body_numbers rest) up))
      (body_there rest tree (k + length (flat_members ms)) shown.1 view is shown.4
      (up_back k (member_numbers ms) (body_numbers rest) (k + length (flat_members ms)) up (omega (arith, members_size ms)))) refl

  members_there : (ms : Members) (tree : TreeModel) (k : ℕ) (ids : List NodeId) → NestedViewFollows → IsTree tree → ShowsMembers tree.domains ms ids → GoUp k (member_numbers ms)
      → AllAt tree.domains k (flat_members ms)
  members_there no_more tree k ids view is shown up = tt
  members_there (member first rest) tree k ids view is shown up =
      all_both tree.domains k (flat_node first) (flat_members rest) (k + length (flat_node first))
      (node_there first tree k view is shown.2 (up_front k (node_numbers first) (member_numbers rest) up))
      (members_there rest tree (k + length (flat_node first)) shown.0 view is shown.3
      (up_back k (node_numbers first) (member_numbers rest) (k + length (flat_node first)) up (omega (arith, node_size first)))) refl

same_list : (front domains others : List Domain) (k : ℕ) → k ≡ length front → AllAt (front ++ domains) k others → length others ≡ length domains → others ≡ domains
same_list front [] [] k here all size = refl
same_list front [] (it ∷ others) k here all size = absurd (omega (arith, size))
same_list front (one ∷ domains) [] k here all size = absurd (omega (arith, size))
same_list front (one ∷ domains) (it ∷ others) k here all size =
    let same : it ≡ one = same_Some it one (sym all.0 ∙ last_found front one domains k here) in
    ap (λ (d : Domain). d ∷ others) same
    ∙ ap (λ (ds : List Domain). one ∷ ds)
    (same_list (front ++ one ∷ []) domains others (suc k) (omega (arith, here, length-append front (one ∷ [])))
    (subst (λ (ds : List Domain). AllAt ds (suc k) others) (sym (append_assoc front (one ∷ []) domains)) all.1) (omega (arith, size)))

so_many : (k n : ℕ) → length (numbers_from k n) ≡ n
so_many k zero = refl
so_many k (suc n) = ap suc (so_many (suc k) n)

pub flat_is : (n : Node) (tree : TreeModel) → NestedViewFollows → IsTree tree → Seen tree.domains n → node_numbers n ≡ numbers_from 0 (length tree.domains)
    → flat_node n ≡ tree.domains
flat_is n tree view is seen numbers =
    let up : GoUp 0 (node_numbers n) = subst (GoUp 0) (sym numbers) (go_up 0 (length tree.domains)) in
    let size : length (flat_node n) ≡ length tree.domains =
    sym (node_size n) ∙ ap (λ (ns : List ℕ). length ns) numbers ∙ so_many 0 (length tree.domains) in
    same_list [] tree.domains (flat_node n) 0 refl (node_there n tree 0 view is seen up) size

-- ---- no name is taken

same_parent : (one other : Option NodeId) → is_parent one other ≡ true → one ≡ other
same_parent None None e = refl
same_parent None (Some b) e = absurd (cc)
same_parent (Some a) None e = absurd (cc)
same_parent (Some a) (Some b) e = let number : a.0 ≡ b.0 = grind (arith, nat_tests) in ap (λ (n : ℕ). Some (record { 0 = n })) number

no_child : (before : List Domain) (parent : Option NodeId) (name : List ℕ)
    → ((j : ℕ) (d : Domain) → slice_get before j ≡ Some d → d.parent ≡ parent → d.name ≡ name → ⊥) → has_child_named before parent name ≡ false
no_child [] parent name none = refl
no_child (one ∷ before) parent name none = by (is_parent one.parent parent && bytes_eq one.name name) refl (no_child before parent name (λ j d there. none (suc j) d there))
  where
    by : (t : Bool) → (is_parent one.parent parent && bytes_eq one.name name) ≡ t → has_child_named before parent name ≡ false → (t || has_child_named before parent name) ≡ false
    by true e rest =
        absurd (none 0 one refl (same_parent one.parent parent (and_parts (is_parent one.parent parent) (bytes_eq one.name name) e).0)
        ((bytes_eq-Decides one.name name).0 (and_parts (is_parent one.parent parent) (bytes_eq one.name name) e).1))
    by false e rest = rest

found_front : (before rest : List Domain) (j : ℕ) (d : Domain) → slice_get before j ≡ Some d → slice_get (before ++ rest) j ≡ Some d
found_front [] rest j d e = absurd (cc)
found_front (one ∷ before) rest zero d e = e
found_front (one ∷ before) rest (suc j) d e = found_front before rest j d e

pub siblings_fresh : (all before rest : List Domain) → SiblingsDiffer all → all ≡ before ++ rest → AreFresh before rest
siblings_fresh all before [] differ whole = tt
siblings_fresh all before (it ∷ rest) differ whole =
    let here : slice_get all (length before) ≡ Some it =
    ap (λ (ds : List Domain). slice_get ds (length before)) whole ∙ last_found before it rest (length before) refl in (
      no_child before it.parent it.name
          (λ (j : ℕ) (d : Domain) there parent name.
          let inside : j < length before = slice_get_within before j d there in
          let found : slice_get all j ≡ Some d = ap (λ (ds : List Domain). slice_get ds j) whole ∙ found_front before (it ∷ rest) j d there in
          let same : j ≡ length before = differ j (length before) d it found here parent name in
          absurd (omega arith)),
      siblings_fresh all (before ++ it ∷ []) rest differ (whole ∙ sym (append_assoc before (it ∷ []) rest)),
    )
