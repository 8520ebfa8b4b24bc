-- A walk that has come to its end: the nested view meets each number once in order, and is at most 16 deep.
use Rattle.std.proofs.Common.{◌≡◌, ℕ, zero, suc, ◌+◌, ◌-◌, ◌<◌, ◌≤◌, max, List, [], ◌∷◌, ◌++◌, Option, None, Some, length, slice_get, refl, ap, sym, subst, arith, IsSomeAnd}
use Rattle.std.proofs.lemmas.Option.{slice_get_within}
use Rattle.cd_tree.specs.declared.domain.NodeId.{NodeId}
use Rattle.cd_tree.specs.declared.domain.Item.{Item}
use Rattle.cd_tree.specs.declared.domain.Item.TheVariants.{Run, Group}
use Rattle.cd_tree.specs.declared.domain.Domain.{Domain}
use Rattle.cd_tree.specs.declared.kinds.KindName.{KindName}
use Rattle.cd_tree.specs.Domains.{Node, put_first, members_by, body_by, nodes_from, root_of, node_numbers, body_numbers, member_numbers, node_depth, body_depth, members_depth, numbers_from}
use Rattle.cd_tree.specs.TreeModel.{NamesChildren, FitsItems, EachFits}
use Rattle.cd_parse.specs.Sound.{ids_of, Tiles, IsDeeper, IsWalk}
use Rattle.cd_parse.proofs.SoundLists.{each_at}

pub names_append : (domains : List Domain) (at : ℕ) (ids others : List NodeId) → NamesChildren domains at ids → NamesChildren domains at others
    → NamesChildren domains at (ids ++ others)
names_append domains at [] others p q = q
names_append domains at (id ∷ ids) others (above, child, p) q = (above, child, names_append domains at ids others p q)

-- all that items name are children
pub names_all : (domains : List Domain) (at : ℕ) (items : List Item) → FitsItems domains at items → NamesChildren domains at (ids_of items)
names_all domains at [] fits = tt
names_all domains at (Run op ∷ items) (full, shape, fits) = names_all domains at items fits
names_all domains at (Group ids ∷ items) (some, few, named, fits) =
    names_append domains at ids (ids_of items) named (names_all domains at items fits)

-- ---- numbers

pub tiles_up : (ends : ℕ → ℕ) (low : ℕ) (ids : List NodeId) (high : ℕ) → Tiles ends low ids high → low ≤ high
tiles_up ends low [] high tiles = omega arith
tiles_up ends low (id ∷ ids) high (here, some, tiles) =
    let rest : ends id.0 ≤ high = tiles_up ends (ends id.0) ids high tiles in
    omega arith

numbers_joined : (at m k n : ℕ) → m + k ≡ n → numbers_from at m ++ numbers_from (at + m) k ≡ numbers_from at n
numbers_joined at zero k n sum =
    let same : k ≡ n = omega arith in
    let here : at + 0 ≡ at = omega arith in
    rw (here, same)
numbers_joined at (suc m) k zero sum = absurd (omega arith)
numbers_joined at (suc m) k (suc n) sum =
    let here : at + suc m ≡ suc at + m = omega arith in
    rw here (ap (λ (xs : List ℕ). at ∷ xs) (numbers_joined (suc at) m k n (omega arith)))

-- two parts that follow each other
pub record Split (ends : ℕ → ℕ) (low : ℕ) (ids others : List NodeId) (high : ℕ) : Type 0 where
  pub middle : ℕ
  pub first : Tiles ends low ids middle
  pub then : Tiles ends middle others high

pub tiles_split : (ends : ℕ → ℕ) (low : ℕ) (ids others : List NodeId) (high : ℕ) → Tiles ends low (ids ++ others) high
    → Split ends low ids others high
tiles_split ends low [] others high tiles = record { middle = low; first = refl; then = tiles }
tiles_split ends low (id ∷ ids) others high (here, some, tiles) =
    let rest : Split ends (ends id.0) ids others high = tiles_split ends (ends id.0) ids others high tiles in
    record { middle = rest.middle; first = (here, some, rest.first); then = rest.then }

-- ---- views

-- a view after which as many numbers follow as `ends` says, and as deep as `deep` leaves
pub record Met (ends deep : ℕ → ℕ) (at : ℕ) (view : Node) : Type 0 where
  pub numbers : node_numbers view ≡ numbers_from at (ends at - at)
  pub depth : node_depth view + deep at ≤ 17

abbrev EachMet : (ℕ → ℕ) → (ℕ → ℕ) → ℕ → List Node → Type 0
EachMet ends deep at [] = Unit {0}
EachMet ends deep at (view ∷ views) = Met ends deep at view × EachMet ends deep (suc at) views

pub record Found (views : List Node) (k : ℕ) : Type 0 where
  pub view : Node
  pub is : slice_get views k ≡ Some view

found_at : (at : ℕ) (domains : List Domain) (k : ℕ) → k < length domains → Found (nodes_from at domains) k
found_at at [] k within = absurd (omega arith)
found_at at (domain ∷ domains) zero within =
    record { view = _; is = refl }
found_at at (domain ∷ domains) (suc k) within =
    let rest : Found (nodes_from (suc at) domains) k = found_at (suc at) domains k (omega arith) in
    record { view = rest.view; is = rest.is }

-- what the walk does in the members of a group, or in what is left of a body
pub record Walked (deep : ℕ → ℕ) (at low high : ℕ) (met : List ℕ) (most : ℕ) : Type 0 where
  pub numbers : met ≡ numbers_from low (high - low)
  pub depth : most + deep at ≤ 16

abbrev FindsDeeper : (ℕ → ℕ) → List Domain → Type 0
FindsDeeper deep domains = (k : ℕ) (domain : Domain) → slice_get domains k ≡ Some domain → IsDeeper deep k domain.parent

abbrev FindsViews : List Domain → ℕ → List Node → Type 0
FindsViews domains at views = (k : ℕ) → at + k < length domains → Found views k

joined : (ends deep : ℕ → ℕ) (at low high : ℕ) (id : NodeId) (first rest : List ℕ) (one other : ℕ)
    → id.0 ≡ low → id.0 < ends id.0 → ends id.0 ≤ high → deep id.0 ≡ suc (deep at)
    → first ≡ numbers_from id.0 (ends id.0 - id.0) → one + deep id.0 ≤ 17
    → Walked deep at (ends id.0) high rest other
    → Walked deep at low high (first ++ rest) (max one other)
joined ends deep at low high id first rest one other here some up deeper numbers depth walked =
    let sum : id.0 + (ends id.0 - id.0) ≡ ends id.0 = omega arith in
    let tail : rest ≡ numbers_from (id.0 + (ends id.0 - id.0)) (high - ends id.0) = rw sum walked.numbers in
    let whole : numbers_from id.0 (ends id.0 - id.0) ++ numbers_from (id.0 + (ends id.0 - id.0)) (high - ends id.0) ≡ numbers_from id.0 (high - id.0) =
    numbers_joined id.0 (ends id.0 - id.0) (high - ends id.0) (high - id.0) (omega arith) in
    let other_depth : other + deep at ≤ 16 = walked.depth in
    record {
      numbers = rw (numbers, tail, ← here) whole;
      depth = omega arith;
    }

pub record Child (found : Option Domain) (at : ℕ) : Type 0 where
  pub domain : Domain
  pub is : found ≡ Some domain
  pub parent : domain.parent ≡ Some (record { 0 = at })

pub child_of : (found : Option Domain) (at : ℕ) → IsSomeAnd found (λ child. child.parent ≡ Some (record { 0 = at })) → Child found at
child_of None at is = absurd is
child_of (Some domain) at is = record { domain = domain; is = refl; parent = is }

nothing_walked : (deep : ℕ → ℕ) (at low high : ℕ) → low ≡ high → deep at ≤ 16 → Walked deep at low high [] 0
nothing_walked deep at low high same depth =
    let none : high - low ≡ 0 = omega arith in
    record { numbers = rw none; depth = omega arith }

members_walked : (ends deep : ℕ → ℕ) (domains : List Domain) (at : ℕ) (views : List Node) (ids : List NodeId) (low high : ℕ)
    → EachMet ends deep (suc at) views → FindsViews domains (suc at) views → FindsDeeper deep domains → deep at ≤ 16
    → NamesChildren domains at ids → Tiles ends low ids high
    → Walked deep at low high (member_numbers (members_by (λ i. slice_get views (i.0 - suc at)) ids))
    (members_depth (members_by (λ i. slice_get views (i.0 - suc at)) ids))
members_walked ends deep domains at views [] low high met finds deeper depth named tiles =
    nothing_walked deep at low high tiles depth
members_walked ends deep domains at views (id ∷ ids) low high met finds deeper depth (above, child, named) (here, some, tiles) =
    let seek : NodeId → Option Node = λ i. slice_get views (i.0 - suc at) in
    let found : Child (slice_get domains id.0) at = child_of (slice_get domains id.0) at child in
    let within : id.0 < length domains = slice_get_within domains id.0 found.domain found.is in
    let there : Found views (id.0 - suc at) = finds (id.0 - suc at) (omega arith) in
    let view : Met ends deep id.0 there.view =
    each_at (EachMet ends deep) (Met ends deep) (λ n first rest all. all) (suc at) views (id.0 - suc at) id.0 there.view met (omega arith) there.is in
    let deeper_child : IsDeeper deep id.0 (Some (record { 0 = at })) =
    subst (IsDeeper deep id.0) found.parent (deeper id.0 found.domain found.is) in
    let rest : Walked deep at (ends id.0) high (member_numbers (members_by seek ids)) (members_depth (members_by seek ids)) =
    members_walked ends deep domains at views ids (ends id.0) high met finds deeper depth named tiles in
    subst (λ (first : Option Node). Walked deep at low high (member_numbers (put_first first (members_by seek ids)))
    (members_depth (put_first first (members_by seek ids)))) (sym there.is)
    (joined ends deep at low high id (node_numbers there.view) (member_numbers (members_by seek ids)) (node_depth there.view)
    (members_depth (members_by seek ids)) here some (tiles_up ends (ends id.0) ids high tiles) deeper_child.1 view.numbers view.depth rest)

both_walked : (deep : ℕ → ℕ) (at low middle high : ℕ) (first rest : List ℕ) (one other : ℕ) → low ≤ middle → middle ≤ high
    → Walked deep at low middle first one → Walked deep at middle high rest other
    → Walked deep at low high (first ++ rest) (max one other)
both_walked deep at low middle high first rest one other up up_more here there =
    let sum : low + (middle - low) ≡ middle = omega arith in
    let tail : rest ≡ numbers_from (low + (middle - low)) (high - middle) = rw sum there.numbers in
    let whole : numbers_from low (middle - low) ++ numbers_from (low + (middle - low)) (high - middle) ≡ numbers_from low (high - low) =
    numbers_joined low (middle - low) (high - middle) (high - low) (omega arith) in
    let one_depth : one + deep at ≤ 16 = here.depth in
    let other_depth : other + deep at ≤ 16 = there.depth in
    let first_is : first ≡ numbers_from low (middle - low) = here.numbers in
    record { numbers = rw (first_is, tail) whole; depth = omega arith }

body_walked : (ends deep : ℕ → ℕ) (domains : List Domain) (at : ℕ) (views : List Node) (items : List Item) (low high : ℕ)
    → EachMet ends deep (suc at) views → FindsViews domains (suc at) views → FindsDeeper deep domains → deep at ≤ 16
    → FitsItems domains at items → Tiles ends low (ids_of items) high
    → Walked deep at low high (body_numbers (body_by (λ i. slice_get views (i.0 - suc at)) items))
    (body_depth (body_by (λ i. slice_get views (i.0 - suc at)) items))
body_walked ends deep domains at views [] low high met finds deeper depth fits tiles =
    nothing_walked deep at low high tiles depth
body_walked ends deep domains at views (Run op ∷ items) low high met finds deeper depth (full, shape, fits) tiles =
    body_walked ends deep domains at views items low high met finds deeper depth fits tiles
body_walked ends deep domains at views (Group ids ∷ items) low high met finds deeper depth (some, few, named, fits) tiles =
    let seek : NodeId → Option Node = λ i. slice_get views (i.0 - suc at) in
    let parts : Split ends low ids (ids_of items) high = tiles_split ends low ids (ids_of items) high tiles in
    both_walked deep at low parts.middle high (member_numbers (members_by seek ids)) (body_numbers (body_by seek items))
    (members_depth (members_by seek ids)) (body_depth (body_by seek items))
    (tiles_up ends low ids parts.middle parts.first) (tiles_up ends parts.middle (ids_of items) high parts.then)
    (members_walked ends deep domains at views ids low parts.middle met finds deeper depth named parts.first)
    (body_walked ends deep domains at views items parts.middle high met finds deeper depth fits parts.then)

node_met : (ends deep : ℕ → ℕ) (at : ℕ) (numbers : List ℕ) (most : ℕ) → Walked deep at (suc at) (ends at) numbers most → suc at ≤ ends at
    → (at ∷ numbers ≡ numbers_from at (ends at - at)) × (suc most + deep at ≤ 17)
node_met ends deep at numbers most walked up =
    let sum : ends at - at ≡ suc (ends at - suc at) = omega arith in
    let depth : most + deep at ≤ 16 = walked.depth in
    (rw sum (ap (λ (xs : List ℕ). at ∷ xs) walked.numbers), omega arith)

views_met : (ends deep : ℕ → ℕ) (kinds : List KindName) (all : List Domain) (at : ℕ) (domains : List Domain)
    → EachFits kinds all at domains → at + length domains ≡ length all → FindsDeeper deep all → ((k : ℕ) → deep k ≤ 16)
    → ((k : ℕ) (domain : Domain) → slice_get domains k ≡ Some domain → Tiles ends (suc (at + k)) (ids_of domain.items) (ends (at + k)))
    → EachMet ends deep at (nodes_from at domains)
views_met ends deep kinds all at [] fits many deeper depth tiles = tt
views_met ends deep kinds all at (domain ∷ domains) (here, fits) many deeper depth tiles =
    let views : List Node = nodes_from (suc at) domains in
    let seek : NodeId → Option Node = λ i. slice_get views (i.0 - suc at) in
    let rest : EachMet ends deep (suc at) views =
    views_met ends deep kinds all (suc at) domains fits (omega arith) deeper depth
    (λ k next is.
    let sum : suc at + k ≡ at + suc k = omega arith in
    rw sum (tiles (suc k) next is)) in
    let sum : at + 0 ≡ at = omega arith in
    let mine : Tiles ends (suc at) (ids_of domain.items) (ends at) = rw sum at (tiles 0 domain refl) in
    let walked : Walked deep at (suc at) (ends at) (body_numbers (body_by seek domain.items)) (body_depth (body_by seek domain.items)) =
    body_walked ends deep all at views domain.items (suc at) (ends at) rest
    (λ k within. found_at (suc at) domains k (omega arith)) deeper (depth at) here.items mine in
    let met : (at ∷ body_numbers (body_by seek domain.items) ≡ numbers_from at (ends at - at)) × (suc (body_depth (body_by seek domain.items)) + deep at ≤ 17) =
    node_met ends deep at (body_numbers (body_by seek domain.items)) (body_depth (body_by seek domain.items)) walked
    (tiles_up ends (suc at) (ids_of domain.items) (ends at) mine) in
    (record { numbers = met.0; depth = met.1 }, rest)

root_met : (ends deep : ℕ → ℕ) (domains : List Domain) → 0 < length domains → EachMet ends deep 0 (nodes_from 0 domains)
    → Met ends deep 0 (root_of domains)
root_met ends deep [] some met = absurd (omega arith)
root_met ends deep (domain ∷ domains) some (here, met) = here

-- where no domain is open, the walk of the nested view is in preorder, at most 16 deep
pub walk_done : (ends deep : ℕ → ℕ) (kinds : List KindName) (domains : List Domain) → 0 < length domains → EachFits kinds domains 0 domains → IsWalk ends deep domains []
    → (node_numbers (root_of domains) ≡ numbers_from 0 (length domains)) × (node_depth (root_of domains) ≤ 16)
walk_done ends deep kinds domains some fits walk =
    let met : Met ends deep 0 (root_of domains) =
    root_met ends deep domains some
    (views_met ends deep kinds domains 0 domains fits (omega arith) walk.deeper (λ k. (walk.depth k).1)
    (λ k domain is.
    let sum : 0 + k ≡ k = omega arith in
    rw sum (walk.shut k domain is tt))) in
    let end : ends 0 ≡ length domains = walk.walked some in
    let all : ends 0 - 0 ≡ length domains = omega arith in
    let numbers : node_numbers (root_of domains) ≡ numbers_from 0 (ends 0 - 0) = met.numbers in
    let depth : node_depth (root_of domains) + deep 0 ≤ 17 = met.depth in
    let above : 0 < deep 0 = (walk.depth 0).0 in
    (rw all at numbers, omega arith)
