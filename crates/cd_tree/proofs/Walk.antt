-- Walks over a list of domains: of two walks one behind the other, and of a walk down a list.
use Rattle.std.proofs.Common.{◌≡◌, ◌≢◌, ◌↔◌, ◌⊎◌, inl, inr, ℕ, zero, suc, ◌+◌, ◌-◌, ◌<◌, ◌≤◌, max, List, [], ◌∷◌, ◌++◌, Option, None, Some, length, drop, get_or, slice_get, refl, sym, ap, subst, ◌∙◌, arith}
use Rattle.std.proofs.lemmas.List.{append-nil, drop_all, length-append}
use Rattle.cd_base.proofs.ListLemmas.{drop-read}
use Rattle.cd_tree.specs.declared.domain.NodeId.{NodeId}
use Rattle.cd_tree.specs.declared.domain.Item.{Item}
use Rattle.cd_tree.specs.declared.domain.Item.TheVariants.{Run, Group}
use Rattle.cd_tree.specs.declared.domain.Domain.{Domain}
use Rattle.cd_tree.specs.Domains.{Node, Body, Members, node, no_more, put_first, members_by, body_by, nodes_from, node_of, root_of, node_numbers, body_numbers, member_numbers, node_depth, body_depth, members_depth, numbers_from}
use Rattle.cd_tree.specs.declared.kinds.KindName.{KindName}
use Rattle.cd_tree.specs.TreeModel.{FitsDomain, EachFits}
use Rattle.cd_tree.specs.Parts.{AreFew, IsWalkable, WalkGives}
use Rattle.cd_tree.proofs.View.{items_name_later, fits_at, nested_view_follows_where}
use Rattle.cd_tree.proofs.EachDomain.{root_there}

pub length-numbers_from : (at n : ℕ) → length (numbers_from at n) ≡ n
length-numbers_from at zero = refl
length-numbers_from at (suc n) = ap suc (length-numbers_from (suc at) n)

-- a run of numbers is a run up to some place, and a run from there
numbers_joined : (at m n behind : ℕ) → behind ≡ at + m → numbers_from at m ++ numbers_from behind n ≡ numbers_from at (m + n)
numbers_joined at zero n behind is =
    let here : behind ≡ at = omega arith in
    let many : n ≡ 0 + n = omega arith in
    ap (λ (k : ℕ). numbers_from k n) here ∙ ap (numbers_from at) many
numbers_joined at (suc m) n behind is =
    let many : suc (m + n) ≡ suc m + n = omega arith in
    ap (λ (rest : List ℕ). at ∷ rest) (numbers_joined (suc at) m n behind (omega arith)) ∙ ap (numbers_from at) many

-- two lists that are a run of numbers together are as long as it
parts_long : (xs ys : List ℕ) (at n : ℕ) → xs ++ ys ≡ numbers_from at n → length xs + length ys ≡ n
parts_long xs ys at n is = sym (length-append xs ys) ∙ ap length is ∙ length-numbers_from at n

-- each of them is a run of numbers
pub record Parts (xs ys : List ℕ) (at n : ℕ) : Type 0 where
  pub long : length xs + length ys ≡ n
  pub front : xs ≡ numbers_from at (length xs)
  pub back : ys ≡ numbers_from (at + length xs) (n - length xs)

pub numbers_parted : (xs ys : List ℕ) (at n : ℕ) → xs ++ ys ≡ numbers_from at n → Parts xs ys at n
numbers_parted [] ys at n is =
    let here : at ≡ at + 0 = omega arith in
    let many : n ≡ n - 0 = omega arith in
    record { long = parts_long [] ys at n is; front = refl; back = is ∙ ap (λ (k : ℕ). numbers_from k n) here ∙ ap (numbers_from (at + 0)) many }
numbers_parted (x ∷ xs) ys at zero is = absurd (cc)
numbers_parted (x ∷ xs) ys at (suc n) is =
    let head : x ≡ at = cc in
    let tail : xs ++ ys ≡ numbers_from (suc at) n = cc in
    let rest : Parts xs ys (suc at) n = numbers_parted xs ys (suc at) n tail in
    let here : suc at + length xs ≡ at + suc (length xs) = omega arith in
    let many : n - length xs ≡ suc n - suc (length xs) = omega arith in
    record {
      long = parts_long (x ∷ xs) ys at (suc n) is;
      front =
          ap (λ (k : ℕ). k ∷ xs) head
          ∙ ap (λ (ks : List ℕ). at ∷ ks) rest.front;
      back =
          rest.back
          ∙ ap (λ (k : ℕ). numbers_from k (n - length xs)) here
          ∙ ap (numbers_from (at + suc (length xs))) many;
    }

pub walk_same : (ns ms : List ℕ) (d e at levels : ℕ) (end : Option ℕ) → ns ≡ ms → d ≡ e
    → WalkGives ns d at levels end → WalkGives ms e at levels end
walk_same ns ms d e at levels end numbers depth h =
    subst (λ (k : ℕ). WalkGives ms k at levels end) depth (subst (λ (ks : List ℕ). WalkGives ks d at levels end) numbers h)

pub walk_nothing : (at levels : ℕ) → WalkGives [] 0 at levels (Some at)
walk_nothing at levels =
    let none : 0 ≡ at - at = omega arith in
    (omega arith, ap (numbers_from at) none, omega arith)

-- a walk and then another
walk_joined : (ns ms : List ℕ) (d e at next levels : ℕ) (end : Option ℕ)
    → WalkGives ns d at levels (Some next) → WalkGives ms e next levels end → WalkGives (ns ++ ms) (max d e) at levels end
walk_joined ns ms d e at next levels None (up, front, low) none = λ n is.
    let parts : Parts ns ms at n = numbers_parted ns ms at n is in
    let long : length ns ≡ next - at = ap length front ∙ length-numbers_from at (next - at) in
    let here : at + length ns ≡ next = omega arith in
    let more : levels < e = none (n - length ns) (parts.back ∙ ap (λ (k : ℕ). numbers_from k (n - length ns)) here) in
    omega arith
walk_joined ns ms d e at next levels (Some behind) (up, front, low) (on, back, deep) =
    let many : next - at + (behind - next) ≡ behind - at = omega arith in
    let both : ns ++ ms ≡ numbers_from at (behind - at) =
    ap (λ (ks : List ℕ). ks ++ ms) front ∙ ap (λ (ks : List ℕ). numbers_from at (next - at) ++ ks) back
    ∙ numbers_joined at (next - at) (behind - next) next (omega arith) ∙ ap (numbers_from at) many in
    (omega arith, both, omega arith)

-- a walk that stops stops all
walk_stopped : (ns ms : List ℕ) (d e at levels : ℕ) → WalkGives ns d at levels None → WalkGives (ns ++ ms) (max d e) at levels None
walk_stopped ns ms d e at levels none n is =
    let more : levels < d = none (length ns) (numbers_parted ns ms at n is).front in
    omega arith

-- the numbers and the depth of a list are those of its elements joined
pub record Joins {X : Type 0} (numbers : List X → List ℕ) (depth : List X → ℕ) : Type 0 where
  pub no_numbers : numbers [] ≡ []
  pub no_depth : depth [] ≡ 0
  pub first : (x : X) (xs : List X) → numbers (x ∷ xs) ≡ numbers (x ∷ []) ++ numbers xs
  pub deeper : (x : X) (xs : List X) → depth (x ∷ xs) ≡ max (depth (x ∷ [])) (depth xs)

pub items_join : (find : NodeId → Option Node) → Joins (λ items. body_numbers (body_by find items)) (λ items. body_depth (body_by find items))
items_join find = record { no_numbers = refl; no_depth = refl; first = first; deeper = deeper }
  where
    first : (item : Item) (items : List Item) → body_numbers (body_by find (item ∷ items)) ≡ body_numbers (body_by find (item ∷ [])) ++ body_numbers (body_by find items)
    first (Run op) items = refl
    first (Group ids) items = ap (λ (ks : List ℕ). ks ++ body_numbers (body_by find items)) (sym (append-nil (member_numbers (members_by find ids))))

    deeper : (item : Item) (items : List Item) → body_depth (body_by find (item ∷ items)) ≡ max (body_depth (body_by find (item ∷ []))) (body_depth (body_by find items))
    deeper (Run op) items = omega arith
    deeper (Group ids) items = omega arith

first_numbers : (one : Option Node) (rest : Members) → member_numbers (put_first one rest) ≡ member_numbers (put_first one no_more) ++ member_numbers rest
first_numbers None rest = refl
first_numbers (Some d) rest = ap (λ (ks : List ℕ). ks ++ member_numbers rest) (sym (append-nil (node_numbers d)))

first_depth : (one : Option Node) (rest : Members) → members_depth (put_first one rest) ≡ max (members_depth (put_first one no_more)) (members_depth rest)
first_depth None rest = omega arith
first_depth (Some d) rest = omega arith

pub members_join : (find : NodeId → Option Node) → Joins (λ ids. member_numbers (members_by find ids)) (λ ids. members_depth (members_by find ids))
members_join find =
    record {
      no_numbers = refl;
      no_depth = refl;
      first = λ id ids. first_numbers (find id) (members_by find ids);
      deeper = λ id ids. first_depth (find id) (members_by find ids);
    }

-- what the walk over the rest of a list answers is the answer for the whole list
abbrev pub LeavesWhole : {X : Type 0} → (List X → List ℕ) → (List X → ℕ) → List X → ℕ → ℕ → ℕ → ℕ → Type 0
LeavesWhole numbers depth all i next at levels =
    (end : Option ℕ) → WalkGives (numbers (drop i all)) (depth (drop i all)) next levels end → WalkGives (numbers all) (depth all) at levels end

pub walk_on : {X : Type 0} (numbers : List X → List ℕ) (depth : List X → ℕ) → Joins numbers depth → (all : List X) (i : ℕ) (x : X)
    (at next behind levels : ℕ) → i < length all → x ≡ get_or all i x → WalkGives (numbers (x ∷ [])) (depth (x ∷ [])) next levels (Some behind)
    → LeavesWhole numbers depth all i next at levels → LeavesWhole numbers depth all (i + 1) behind at levels
walk_on numbers depth joins all i x at next behind levels within is here whole end rest =
    let left : List _ = drop (i + 1) all in
    let ahead : drop i all ≡ x ∷ left = drop-read all i x within is in
    whole end
    (walk_same (numbers (x ∷ []) ++ numbers left) (numbers (drop i all)) (max (depth (x ∷ [])) (depth left)) (depth (drop i all)) next levels end
    (sym (ap numbers ahead ∙ joins.first x left)) (sym (ap depth ahead ∙ joins.deeper x left))
    (walk_joined (numbers (x ∷ [])) (numbers left) (depth (x ∷ [])) (depth left) next behind levels end here rest))

pub walk_off : {X : Type 0} (numbers : List X → List ℕ) (depth : List X → ℕ) → Joins numbers depth → (all : List X) (i : ℕ) (x : X)
    (at next levels : ℕ) → i < length all → x ≡ get_or all i x → WalkGives (numbers (x ∷ [])) (depth (x ∷ [])) next levels None
    → LeavesWhole numbers depth all i next at levels → WalkGives (numbers all) (depth all) at levels None
walk_off numbers depth joins all i x at next levels within is here whole =
    let left : List _ = drop (i + 1) all in
    let ahead : drop i all ≡ x ∷ left = drop-read all i x within is in
    whole None
    (walk_same (numbers (x ∷ []) ++ numbers left) (numbers (drop i all)) (max (depth (x ∷ [])) (depth left)) (depth (drop i all)) next levels None
    (sym (ap numbers ahead ∙ joins.first x left)) (sym (ap depth ahead ∙ joins.deeper x left))
    (walk_stopped (numbers (x ∷ [])) (numbers left) (depth (x ∷ [])) (depth left) next levels here))

pub walk_over : {X : Type 0} (numbers : List X → List ℕ) (depth : List X → ℕ) → Joins numbers depth → (all : List X) (i at next levels : ℕ)
    → length all ≤ i → LeavesWhole numbers depth all i next at levels → WalkGives (numbers all) (depth all) at levels (Some next)
walk_over numbers depth joins all i at next levels past whole =
    let none : drop i all ≡ [] = drop_all i all past in
    whole (Some next)
    (walk_same [] (numbers (drop i all)) 0 (depth (drop i all)) next levels (Some next)
    (sym (ap numbers none ∙ joins.no_numbers)) (sym (ap depth none ∙ joins.no_depth))
    (walk_nothing next levels))

-- the numbers and the depth of a domain that is there, or of none
abbrev pub found_numbers : Option Node → List ℕ
found_numbers found = member_numbers (put_first found no_more)

abbrev pub found_depth : Option Node → ℕ
found_depth found = members_depth (put_first found no_more)

views_end : (at : ℕ) (domains : List Domain) (k : ℕ) → slice_get domains k ≡ None → slice_get (nodes_from at domains) k ≡ None
views_end at [] k none = refl
views_end at (domain ∷ domains) zero none = absurd (cc)
views_end at (domain ∷ domains) (suc k) none = views_end (suc at) domains k none

-- where there is no such domain
pub walk_none : (domains : List Domain) (id : NodeId) (at levels : ℕ) → slice_get domains id.0 ≡ None
    → WalkGives (found_numbers (node_of domains id)) (found_depth (node_of domains id)) at levels (Some at)
walk_none domains id at levels none =
    let found : node_of domains id ≡ None = views_end 0 domains id.0 none in
    walk_same [] (found_numbers (node_of domains id)) 0 (found_depth (node_of domains id)) at levels (Some at)
    (ap found_numbers (sym found)) (ap found_depth (sym found)) (walk_nothing at levels)

-- a domain and what is below it
walk_below : (first at d levels : ℕ) (ns : List ℕ) (end : Option ℕ) → first ≡ at → 0 < levels
    → WalkGives ns d (at + 1) (levels - 1) end → WalkGives (first ∷ ns) (suc d) at levels end
walk_below first at d levels ns None same some none = below
  where
    below : (n : ℕ) → first ∷ ns ≡ numbers_from at n → levels < suc d
    below zero is = absurd (cc)
    below (suc n) is =
        let tail : ns ≡ numbers_from (suc at) n = cc in
        let next : suc at ≡ at + 1 = omega arith in
        let more : levels - 1 < d = none n (tail ∙ ap (λ (k : ℕ). numbers_from k n) next) in
        omega arith
walk_below first at d levels ns (Some behind) same some (up, rest, low) =
    let many : suc (behind - (at + 1)) ≡ behind - at = omega arith in
    let next : at + 1 ≡ suc at = omega arith in (
      omega arith,
      ap (λ (k : ℕ). k ∷ ns) same
          ∙ ap (λ (ks : List ℕ). at ∷ ks) (rest ∙ ap (λ (k : ℕ). numbers_from k (behind - (at + 1))) next)
          ∙ ap (numbers_from at) many,
      omega arith,
    )

-- a domain that is there has its own number and those of its body, and one level more
there_numbers : (found : Option Node) (id : NodeId) (domain : Domain) (body : Body) → found ≡ Some (node id domain body)
    → found_numbers found ≡ id.0 ∷ body_numbers body
there_numbers found id domain body is = ap found_numbers is ∙ append-nil (id.0 ∷ body_numbers body)

there_depth : (found : Option Node) (id : NodeId) (domain : Domain) (body : Body) → found ≡ Some (node id domain body)
    → found_depth found ≡ suc (body_depth body)
there_depth found id domain body is =
    let deep : max (suc (body_depth body)) 0 ≡ suc (body_depth body) = omega arith in
    ap found_depth is ∙ deep

pub walk_in : (found : Option Node) (id : NodeId) (domain : Domain) (body : Body) (at levels : ℕ) (end : Option ℕ)
    → found ≡ Some (node id domain body) → id.0 ≡ at → 0 < levels → WalkGives (body_numbers body) (body_depth body) (at + 1) (levels - 1) end
    → WalkGives (found_numbers found) (found_depth found) at levels end
walk_in found id domain body at levels end is same some below =
    walk_same (id.0 ∷ body_numbers body) (found_numbers found) (suc (body_depth body)) (found_depth found) at levels end
    (sym (there_numbers found id domain body is)) (sym (there_depth found id domain body is))
    (walk_below id.0 at (body_depth body) levels (body_numbers body) end same some below)

walk_elsewhere : (first at d levels : ℕ) (ns : List ℕ) → first ≢ at → WalkGives (first ∷ ns) d at levels None
walk_elsewhere first at d levels ns other zero is = absurd (cc)
walk_elsewhere first at d levels ns other (suc n) is =
    let head : first ≡ at = cc in
    absurd (other head)

-- a domain with another number, or below the last level
pub walk_halts : (found : Option Node) (id : NodeId) (domain : Domain) (body : Body) (at levels : ℕ)
    → found ≡ Some (node id domain body) → (id.0 ≢ at) ⊎ (levels ≡ 0)
    → WalkGives (found_numbers found) (found_depth found) at levels None
walk_halts found id domain body at levels is (inl other) =
    walk_same (id.0 ∷ body_numbers body) (found_numbers found) (suc (body_depth body)) (found_depth found) at levels None
    (sym (there_numbers found id domain body is)) (sym (there_depth found id domain body is))
    (walk_elsewhere id.0 at (suc (body_depth body)) levels (body_numbers body) other)
walk_halts found id domain body at levels is (inr none) =
    walk_same (id.0 ∷ body_numbers body) (found_numbers found) (suc (body_depth body)) (found_depth found) at levels None
    (sym (there_numbers found id domain body is)) (sym (there_depth found id domain body is))
    (λ n same. omega arith)

-- in preorder, and few levels
abbrev pub InOrder : List Domain → Type 0
InOrder domains = (node_numbers (root_of domains) ≡ numbers_from 0 (length domains)) × (node_depth (root_of domains) ≤ 16)

root_walk : (domains : List Domain) (end : Option ℕ) → 0 < length domains
    → WalkGives (found_numbers (node_of domains (record { 0 = 0 }))) (found_depth (node_of domains (record { 0 = 0 }))) 0 16 end
    → WalkGives (node_numbers (root_of domains)) (node_depth (root_of domains)) 0 16 end
root_walk domains end some walk =
    let root : Node = root_of domains in
    let first : NodeId = record { 0 = 0 } in
    let there : node_of domains first ≡ Some root = root_there domains some in
    let deep : max (node_depth root) 0 ≡ node_depth root = omega arith in
    walk_same (found_numbers (node_of domains first)) (node_numbers root) (found_depth (node_of domains first)) (node_depth root) 0 16 end
    (ap found_numbers there ∙ append-nil (node_numbers root)) (ap found_depth there ∙ deep) walk

pub order_none : (domains : List Domain) → 0 < length domains
    → WalkGives (found_numbers (node_of domains (record { 0 = 0 }))) (found_depth (node_of domains (record { 0 = 0 }))) 0 16 None
    → InOrder domains → ⊥
order_none domains some walk (numbers, deep) =
    let deeper : 16 < node_depth (root_of domains) = root_walk domains None some walk (length domains) numbers in
    omega arith

pub order_some : (domains : List Domain) (count : ℕ) → 0 < length domains
    → WalkGives (found_numbers (node_of domains (record { 0 = 0 }))) (found_depth (node_of domains (record { 0 = 0 }))) 0 16 (Some count)
    → (count ≡ length domains) ↔ InOrder domains
order_some domains count some walk =
    let seen : WalkGives (node_numbers (root_of domains)) (node_depth (root_of domains)) 0 16 (Some count) =
    root_walk domains (Some count) some walk in (
      λ all.
          let many : count - 0 ≡ length domains = omega arith in
          (seen.1 ∙ ap (numbers_from 0) many, seen.2),
      λ (numbers, deep).
          let many : count - 0 ≡ length domains =
          sym (length-numbers_from 0 (count - 0)) ∙ ap length (sym seen.1 ∙ numbers) ∙ length-numbers_from 0 (length domains) in
          omega arith,
    )

-- domains that fit can be walked
pub walkable : (kinds : List KindName) (domains : List Domain) → AreFew kinds domains → EachFits kinds domains 0 domains → IsWalkable domains
walkable kinds domains few fits =
    record {
      few = few.few;
      view =
          λ id domain there.
          let sum : 0 + id.0 ≡ id.0 = omega arith in
          let here : FitsDomain kinds domains id.0 domain = rw sum at (fits_at kinds domains 0 domains id.0 domain fits there) in
          nested_view_follows_where domains id domain there (items_name_later domains id.0 domain.items here.items);
    }
