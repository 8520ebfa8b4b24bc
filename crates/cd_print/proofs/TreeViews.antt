-- Domains in a list, and what the nested view of a program says of them.
use Rattle.std.proofs.Common.{◌≡◌, ℕ, zero, suc, ◌+◌, ◌^◌, ◌<◌, ◌≤◌, Bool, true, false, ◌&&◌, ◌||◌, List, [], ◌∷◌, ◌++◌, length, slice_get, Option, Some, refl, sym, ap, ◌∙◌, subst, arith, append_assoc, append-nil}
use Rattle.std.specs.Str.{bytes_eq}
use Rattle.cd_tree.specs.declared.document.Region.{Region}
use Rattle.cd_tree.specs.declared.domain.NodeId.{NodeId}
use Rattle.cd_tree.specs.declared.domain.Item.{Item}
use Rattle.cd_tree.specs.declared.domain.Item.TheVariants.{Run, Group}
use Rattle.cd_tree.specs.declared.domain.Domain.{Domain}
use Rattle.cd_tree.specs.declared.kinds.KindName.{KindName}
use Rattle.cd_tree.specs.Domains.{Node, node, Body, stop, run, group, Members, no_more, member}
use Rattle.cd_tokens.specs.Sums.{is_base}
use Rattle.cd_parse.specs.Draft.{changed, has_child_named, is_parent}
use Rattle.cd_parse.specs.Operations.{fits}
use Rattle.cd_parse.specs.WellRead.{IsReadOp, AreReadEntries}

-- ---- a domain in the middle of a list

pub last_changed : (change : Domain → Domain) (front : List Domain) (it : Domain) (back : List Domain) (at : ℕ) → at ≡ length front
    → changed at change (front ++ it ∷ back) ≡ front ++ change it ∷ back
last_changed change [] it back zero e = refl
last_changed change [] it back (suc at) e = absurd (omega (arith, e))
last_changed change (one ∷ front) it back zero e = absurd (omega (arith, e))
last_changed change (one ∷ front) it back (suc at) e = ap (λ (ds : List Domain). one ∷ ds) (last_changed change front it back at (omega (arith, e)))

pub last_found : (front : List Domain) (it : Domain) (back : List Domain) (at : ℕ) → at ≡ length front → slice_get (front ++ it ∷ back) at ≡ Some it
last_found [] it back zero e = refl
last_found [] it back (suc at) e = absurd (omega (arith, e))
last_found (one ∷ front) it back zero e = absurd (omega (arith, e))
last_found (one ∷ front) it back (suc at) e = last_found front it back at (omega (arith, e))

pub changed_front : (change : Domain → Domain) (front back : List Domain) (at : ℕ) → at < length front
    → changed at change (front ++ back) ≡ changed at change front ++ back
changed_front change [] back at h = absurd (omega arith)
changed_front change (one ∷ front) back zero h = refl
changed_front change (one ∷ front) back (suc at) h = ap (λ (ds : List Domain). one ∷ ds) (changed_front change front back at (omega (arith, h)))

pub changed_twice : (first second both : Domain → Domain) → ((d : Domain) → second (first d) ≡ both d) → (domains : List Domain) (at : ℕ)
    → changed at second (changed at first domains) ≡ changed at both domains
changed_twice first second both same [] at = refl
changed_twice first second both same (one ∷ domains) zero = ap (λ (d : Domain). d ∷ domains) (same one)
changed_twice first second both same (one ∷ domains) (suc at) = ap (λ (ds : List Domain). one ∷ ds) (changed_twice first second both same domains at)

pub changed_not : (change : Domain → Domain) → ((d : Domain) → change d ≡ d) → (domains : List Domain) (at : ℕ) → changed at change domains ≡ domains
changed_not change same [] at = refl
changed_not change same (one ∷ domains) zero = ap (λ (d : Domain). d ∷ domains) (same one)
changed_not change same (one ∷ domains) (suc at) = ap (λ (ds : List Domain). one ∷ ds) (changed_not change same domains at)

pub changed_length : (change : Domain → Domain) (domains : List Domain) (at : ℕ) → length (changed at change domains) ≡ length domains
changed_length change [] at = refl
changed_length change (one ∷ domains) zero = refl
changed_length change (one ∷ domains) (suc at) = ap suc (changed_length change domains at)

-- some items more
abbrev pub add_items : List Item → Domain → Domain
add_items items domain = record domain { items = domain.items ++ items }

pub children_stay : (items : List Item) (domains : List Domain) (at : ℕ) (parent : Option NodeId) (name : List ℕ)
    → has_child_named (changed at (add_items items) domains) parent name ≡ has_child_named domains parent name
children_stay items [] at parent name = refl
children_stay items (one ∷ domains) zero parent name = refl
children_stay items (one ∷ domains) (suc at) parent name =
    ap (λ (t : Bool). (is_parent one.parent parent && bytes_eq one.name name) || t) (children_stay items domains at parent name)

-- ---- names that are not taken

-- these domains behind others: none has a name that an earlier child of its parent has
abbrev pub AreFresh : List Domain → List Domain → Type 0
AreFresh before [] = Unit {0}
AreFresh before (it ∷ domains) = (has_child_named before it.parent it.name ≡ false) × AreFresh (before ++ it ∷ []) domains

pub fresh_front : (before front back : List Domain) → AreFresh before (front ++ back) → AreFresh before front
fresh_front before [] back h = tt
fresh_front before (it ∷ front) back h = (h.0, fresh_front (before ++ it ∷ []) front back h.1)

pub fresh_back : (before front back : List Domain) → AreFresh before (front ++ back) → AreFresh (before ++ front) back
fresh_back before [] back h = subst (λ (ds : List Domain). AreFresh ds back) (sym (append-nil before)) h
fresh_back before (it ∷ front) back h =
    subst (λ (ds : List Domain). AreFresh ds back) (append_assoc before (it ∷ []) front) (fresh_back (before ++ it ∷ []) front back h.1)

-- the same names are taken by both
abbrev pub SameChildren : List Domain → List Domain → Type 0
SameChildren one other = (parent : Option NodeId) (name : List ℕ) → has_child_named one parent name ≡ has_child_named other parent name

or_assoc : (a b c : Bool) → (a || (b || c)) ≡ ((a || b) || c)
or_assoc true b c = refl
or_assoc false b c = refl

children_both : (domains : List Domain) (last : Domain) (p : Option NodeId) (n : List ℕ)
    → has_child_named (domains ++ last ∷ []) p n ≡ (has_child_named domains p n || ((is_parent last.parent p && bytes_eq last.name n) || false))
children_both [] last p n = refl
children_both (first ∷ domains) last p n =
    ap (λ (t : Bool). (is_parent first.parent p && bytes_eq first.name n) || t) (children_both domains last p n)
    ∙ or_assoc (is_parent first.parent p && bytes_eq first.name n) (has_child_named domains p n) ((is_parent last.parent p && bytes_eq last.name n) || false)

pub same_more : (one other : List Domain) (it like : Domain) → it.parent ≡ like.parent → it.name ≡ like.name → SameChildren one other
    → SameChildren (one ++ it ∷ []) (other ++ like ∷ [])
same_more one other it like above called h parent name =
    children_both one it parent name
    ∙ ap (λ (t : Bool). t || ((is_parent it.parent parent && bytes_eq it.name name) || false)) (h parent name)
    ∙ ap (λ (p : Option NodeId). has_child_named other parent name || ((is_parent p parent && bytes_eq it.name name) || false)) above
    ∙ ap (λ (n : List ℕ). has_child_named other parent name || ((is_parent like.parent parent && bytes_eq n name) || false)) called
    ∙ sym (children_both other like parent name)

pub fresh_same : (one other domains : List Domain) → SameChildren one other → AreFresh other domains → AreFresh one domains
fresh_same one other [] same h = tt
fresh_same one other (it ∷ domains) same h =
    (same it.parent it.name ∙ h.0, fresh_same (one ++ it ∷ []) (other ++ it ∷ []) domains (same_more one other it it refl refl same) h.1)

-- ---- the nested view as a list

abbrev pub id_of : Node → NodeId
id_of (node id domain body) = id

abbrev pub ids_of : Members → List NodeId
ids_of no_more = []
ids_of (member first rest) = id_of first ∷ ids_of rest

abbrev pub items_of : Body → List Item
items_of stop = []
items_of (run op rest) = Run op ∷ items_of rest
items_of (group members rest) = Group (ids_of members) ∷ items_of rest

abbrev mutual
  -- the domains of the view in preorder
  pub flat_node : Node → List Domain
  flat_node (node id domain body) = domain ∷ flat_body body

  pub flat_body : Body → List Domain
  flat_body stop = []
  flat_body (run op rest) = flat_body rest
  flat_body (group members rest) = flat_members members ++ flat_body rest

  pub flat_members : Members → List Domain
  flat_members no_more = []
  flat_members (member first rest) = flat_node first ++ flat_members rest

abbrev mutual
  -- the items of all bodies
  pub node_items : Node → ℕ
  node_items (node id domain body) = body_items body

  pub body_items : Body → ℕ
  body_items stop = 0
  body_items (run op rest) = 1 + body_items rest
  body_items (group members rest) = 1 + (member_items members + body_items rest)

  pub member_items : Members → ℕ
  member_items no_more = 0
  member_items (member first rest) = node_items first + member_items rest

abbrev mutual
  -- the entries of all domains
  pub node_preserves : Node → ℕ
  node_preserves (node id domain body) = length domain.entries + body_preserves body

  pub body_preserves : Body → ℕ
  body_preserves stop = 0
  body_preserves (run op rest) = body_preserves rest
  body_preserves (group members rest) = member_preserves members + body_preserves rest

  pub member_preserves : Members → ℕ
  member_preserves no_more = 0
  member_preserves (member first rest) = node_preserves first + member_preserves rest

-- a domain as a text can give it, beside its body
pub record IsTold (regions : List Region) (kinds : List KindName) (parent : Option NodeId) (domain : Domain) (body : Body) : Type 0 where
  pub above : domain.parent ≡ parent
  pub name : is_base domain.name ≡ true
  pub short : length domain.name ≤ 32
  pub some : 0 < domain.retry
  pub most : domain.retry ≤ 100
  pub detects : domain.detects < 2 ^ length kinds
  pub few : length domain.entries ≤ 64
  pub entries : AreReadEntries regions domain.entries
  pub items : domain.items ≡ items_of body

abbrev mutual
  -- a view whose domains are numbered from a number on, each as a text can give it, with so many around it
  pub ToldNode : List Region → List KindName → ℕ → Option NodeId → ℕ → Node → Type 0
  ToldNode regions kinds number parent depth (node id domain body) =
      (id.0 ≡ number) × (depth < 16) × IsTold regions kinds parent domain body × ToldBody regions kinds id.0 (number + 1) (depth + 1) body

  pub ToldBody : List Region → List KindName → ℕ → ℕ → ℕ → Body → Type 0
  ToldBody regions kinds at number depth stop = Unit {0}
  ToldBody regions kinds at number depth (run op rest) = IsReadOp regions op × (fits op ≡ true) × ToldBody regions kinds at number depth rest
  ToldBody regions kinds at number depth (group members rest) =
      (0 < length (ids_of members)) × (length (ids_of members) ≤ 256) × ToldMembers regions kinds at number depth members
      × ToldBody regions kinds at (number + length (flat_members members)) depth rest

  pub ToldMembers : List Region → List KindName → ℕ → ℕ → ℕ → Members → Type 0
  ToldMembers regions kinds at number depth no_more = Unit {0}
  ToldMembers regions kinds at number depth (member first rest) =
      ToldNode regions kinds number (Some (record { 0 = at })) depth first
      × ToldMembers regions kinds at (number + length (flat_node first)) depth rest
