-- The domains of a program, each by its number: that it is there, what its view is, and what fits it.
use Rattle.std.proofs.Common.{◌≡◌, ℕ, zero, suc, ◌+◌, ◌<◌, ◌==◌, ◌||◌, List, [], ◌∷◌, ◌++◌, map, take, Option, None, Some, IsSomeAnd, length, slice_get, get_or, refl, sym, ap, ◌∙◌, subst, zero-add, arith}
use Rattle.std.specs.List.{list_any}
use Rattle.std.proofs.lemmas.List.{take_more, map_push}
use Rattle.std.proofs.lemmas.Option.{slice_get_within, get_or_from_slice_get}
use Rattle.cd_base.proofs.ListLemmas.{some_of}
use Rattle.cd_tree.specs.declared.domain.NodeId.{NodeId}
use Rattle.cd_tree.specs.declared.domain.Domain.{Domain}
use Rattle.cd_tree.specs.TreeModel.{NamesChildren}
use Rattle.cd_tree.specs.Domains.{Node, Members, members_by, put_first, nodes_from, node_of, number_of}
use Rattle.cd_cover.specs.Links.{has_member}

-- one element more of a list that is mapped from the front on
pub map_more : {A B : Type 0} (f : A → B) (xs : List A) (k : ℕ) (x : A) → slice_get xs k ≡ Some x → (so more : List B) (y : B)
    → y ≡ f x → so ≡ map f (take k xs) → more ≡ so ++ y ∷ [] → more ≡ map f (take (k + 1) xs)
map_more f xs k x there so more y value front is =
    let within : k < length xs = slice_get_within xs k x there in
    let last : get_or xs k x ≡ x = get_or_from_slice_get xs k x x there in
    let grown : take (k + 1) xs ≡ take k xs ++ x ∷ [] = take_more xs k x within ∙ ap (λ z. take k xs ++ z ∷ []) last in
    is ∙ ap (λ zs. zs ++ y ∷ []) front ∙ ap (λ z. map f (take k xs) ++ z ∷ []) value ∙ sym (ap (map f) grown ∙ map_push f (take k xs) x)

-- a domain that is there has a view of its number
view_at : (at : ℕ) (domains : List Domain) (k : ℕ) (domain : Domain) → slice_get domains k ≡ Some domain
    → IsSomeAnd (slice_get (nodes_from at domains) k) (λ d. number_of d ≡ at + k)
view_at at [] k domain there = absurd (cc)
view_at at (first ∷ rest) zero domain there = omega arith
view_at at (first ∷ rest) (suc k) domain there =
    let sum : at + suc k ≡ suc at + k = omega arith in
    rw sum (view_at (suc at) rest k domain there)

pub view_number : (domains : List Domain) (id : NodeId) (domain : Domain) → slice_get domains id.0 ≡ Some domain
    → IsSomeAnd (node_of domains id) (λ d. number_of d ≡ id.0)
view_number domains id domain there =
    subst (λ n. IsSomeAnd (node_of domains id) (λ d. number_of d ≡ n)) (zero-add id.0) (view_at 0 domains id.0 domain there)

has_member-put_first : (n m : ℕ) (found : Option Node) (rest : Members) → IsSomeAnd found (λ d. number_of d ≡ m)
    → has_member n (put_first found rest) ≡ ((m == n) || has_member n rest)
has_member-put_first n m None rest is = absurd is
has_member-put_first n m (Some d) rest is = rw is

-- a group has the members that it names
pub has_member-members_by : (domains : List Domain) (at n : ℕ) (ids : List NodeId) → NamesChildren domains at ids
    → has_member n (members_by (node_of domains) ids) ≡ list_any (λ m. m.0 == n) ids
has_member-members_by domains at n [] named = refl
has_member-members_by domains at n (id ∷ ids) (above, child, named) =
    let found = some_of (slice_get domains id.0) (λ d. d.parent ≡ Some (record { 0 = at })) child in
    has_member-put_first n id.0 (node_of domains id) (members_by (node_of domains) ids) (view_number domains id found.0 found.1)
    ∙ ap (λ b. (id.0 == n) || b) (has_member-members_by domains at n ids named)
