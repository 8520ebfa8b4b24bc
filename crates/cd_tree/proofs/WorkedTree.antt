-- A worked case of what a program and an accepted script are: a root with a group of two members.
use Rattle.std.proofs.Common.{◌≡◌, ◌≢◌, false, ℕ, zero, suc, ◌<◌, ◌≤◌, List, [], ◌∷◌, length, Option, None, Some, IsTrue, All, slice_get, get_or, refl, ap, sym, ◌∙◌, subst, arith}
use Rattle.std.specs.Option.{option_map_or}
use Rattle.std.specs.List.{Contains}
use Rattle.std.proofs.lemmas.List.Elements.{All-nil, All-cons}
use Rattle.cd_base.specs.declared.place.Range.{Range}
use Rattle.cd_tree.specs.declared.domain.Item.TheVariants.{Run, Group}
use Rattle.cd_tree.specs.declared.domain.Entry.{Entry}
use Rattle.cd_tree.specs.declared.domain.Domain.{Domain}
use Rattle.cd_tree.specs.declared.document.Fault.{Fault}
use Rattle.cd_tree.specs.declared.kinds.KindName.{KindName}
use Rattle.cd_tree.specs.declared.operation.Op.TheVariants.{Fill}
use Rattle.cd_tree.specs.KindSets.{has_kind}
use Rattle.cd_tree.specs.Operations.{IsFull}
use Rattle.cd_tree.specs.Limits.{retry_limit, entries_limit}
use Rattle.cd_tree.specs.TreeModel.{TreeModel, IsTree, FitsItems, FitsDomain, SiblingsDiffer, KindsDiffer}
use Rattle.cd_tree.specs.Scripts.{CanStrike, IsAccepted, DetectableMembers}
use Rattle.cd_tree.specs.Domains.{members_by, node_of, root_of, node_numbers, node_depth}
use Rattle.cd_tree.specs.Parts.{WalkGives}
use Rattle.cd_tree.specs.Paths.{path_text_of}
use Rattle.cd_tree.proofs.WorkedForms.{number, copied, y, z, strike}

-- named r, b and c; b and c find flip (kind 0), r finds node (kind 1)
abbrev first : Domain
first =
    record { name = 114 ∷ []; parent = None; retry = 2; detects = 2; entries = copied y ∷ copied z ∷ []; items = Group (number 1 ∷ number 2 ∷ []) ∷ [] }

abbrev leaf_of : ℕ → Range → ℕ → Domain
leaf_of letter range word =
    record { name = letter ∷ []; parent = Some (number 0); retry = 1; detects = 1; entries = copied range ∷ []; items = Run (Fill range word) ∷ [] }

abbrev left : Domain
left = leaf_of 98 y 7

abbrev right : Domain
right = leaf_of 99 z 9

abbrev kinds : List KindName
kinds = record { name = 102 ∷ []; halts = false } ∷ record { name = 110 ∷ []; halts = false } ∷ []

abbrev pair_tree : TreeModel
pair_tree = record { kinds = kinds; domains = first ∷ left ∷ right ∷ [] }

-- the path of the second member is r/c
path_of_right : path_text_of pair_tree.domains (number 2) ≡ 114 ∷ 47 ∷ 99 ∷ []
path_of_right = refl

one_letter : (letter : ℕ) → letter ≢ 47 → Contains (letter ∷ []) 47 → ⊥
one_letter letter other (zero, below, is) = other is
one_letter letter other (suc k, below, is) = absurd (omega arith)

full_y : IsFull y
full_y = omega arith

full_z : IsFull z
full_z = omega arith

abbrev FullEntry : Entry → Type 0
FullEntry entry = IsFull entry.range

-- a domain whose name is one letter fits where its numbers, its entries and its items do
abbrev NumbersFit : Domain → Type 0
NumbersFit domain = (0 < domain.retry) × (domain.retry ≤ retry_limit) × (domain.detects < 4) × (length domain.entries ≤ entries_limit)

one_fits : (at letter : ℕ) (domain : Domain) → domain.name ≡ letter ∷ [] → letter ≢ 47 → NumbersFit domain → All FullEntry domain.entries
    → FitsItems pair_tree.domains at domain.items → FitsDomain kinds pair_tree.domains at domain
one_fits at letter domain named other numbers entries items =
    record {
      name = subst (λ (name : List ℕ). Contains name 47 → ⊥) (sym named) (one_letter letter other);
      tries = numbers.0;
      retry = numbers.1;
      detects = numbers.2;
      entries = numbers.3;
      ranges = entries;
      items = items;
    }

first_fits : FitsDomain kinds pair_tree.domains 0 first
first_fits =
    one_fits 0 114 first refl (omega arith) (omega arith, omega arith, omega arith, omega arith)
    (All-cons FullEntry (copied y) (copied z ∷ []) full_y (All-cons FullEntry (copied z) [] full_z (All-nil FullEntry)))
    (omega arith, omega arith, (omega arith, refl, (omega arith, refl, tt)), tt)

leaf_fits : (at letter : ℕ) (range : Range) (word : ℕ) → letter ≢ 47 → IsFull range → FitsDomain kinds pair_tree.domains at (leaf_of letter range word)
leaf_fits at letter range word other full =
    one_fits at letter (leaf_of letter range word) refl other (omega arith, omega arith, omega arith, omega arith)
    (All-cons FullEntry (copied range) [] full (All-nil FullEntry)) (All-cons IsFull range [] full (All-nil IsFull), tt, tt)

-- the first letter of a name
abbrev letter : {A : Type 0} → (A → List ℕ) → Option A → ℕ
letter name found = option_map_or (λ x. get_or (name x) 0 0) found 0

letters_differ : {A : Type 0} (name : A → List ℕ) (found there : Option A) (one other : A) → found ≡ Some one → there ≡ Some other
    → letter name found ≢ letter name there → name one ≢ name other
letters_differ name found there one other p q differ names =
    differ (ap (letter name) p ∙ ap (λ (n : List ℕ). get_or n 0 0) names ∙ sym (ap (letter name) q))

abbrev domain_name : Domain → List ℕ
domain_name domain = domain.name

abbrev kind_name : KindName → List ℕ
kind_name kind = kind.name

siblings : SiblingsDiffer pair_tree.domains
siblings zero zero one other p q parents names = refl
siblings zero (suc zero) one other p q parents names = absurd (cc)
siblings zero (suc (suc zero)) one other p q parents names = absurd (cc)
siblings zero (suc (suc (suc j))) one other p q parents names = absurd (cc)
siblings (suc zero) zero one other p q parents names = absurd (cc)
siblings (suc zero) (suc zero) one other p q parents names = refl
siblings (suc zero) (suc (suc zero)) one other p q parents names =
    absurd (letters_differ domain_name (Some left) (Some right) one other p q (omega arith) names)
siblings (suc zero) (suc (suc (suc j))) one other p q parents names = absurd (cc)
siblings (suc (suc zero)) zero one other p q parents names = absurd (cc)
siblings (suc (suc zero)) (suc zero) one other p q parents names =
    absurd (letters_differ domain_name (Some right) (Some left) one other p q (omega arith) names)
siblings (suc (suc zero)) (suc (suc zero)) one other p q parents names = refl
siblings (suc (suc zero)) (suc (suc (suc j))) one other p q parents names = absurd (cc)
siblings (suc (suc (suc i))) j one other p q parents names = absurd (cc)

kinds_differ : KindsDiffer kinds
kinds_differ zero zero one other p q names = refl
kinds_differ zero (suc zero) one other p q names =
    absurd (letters_differ kind_name (slice_get kinds 0) (slice_get kinds 1) one other p q (omega arith) names)
kinds_differ zero (suc (suc j)) one other p q names = absurd (cc)
kinds_differ (suc zero) zero one other p q names =
    absurd (letters_differ kind_name (slice_get kinds 1) (slice_get kinds 0) one other p q (omega arith) names)
kinds_differ (suc zero) (suc zero) one other p q names = refl
kinds_differ (suc zero) (suc (suc j)) one other p q names = absurd (cc)
kinds_differ (suc (suc i)) j one other p q names = absurd (cc)

-- it is a program
pair_is_tree : IsTree pair_tree
pair_is_tree =
    record {
      some = omega arith;
      root = refl;
      preorder = refl;
      each = (first_fits, (leaf_fits 1 98 y 7 (omega arith) full_y, (leaf_fits 2 99 z 9 (omega arith) full_z, tt)));
      siblings = siblings;
      kinds = kinds_differ;
      few_kinds = omega arith;
      few = omega arith;
      depth = omega arith;
      items = omega arith;
      preserves = omega arith;
    }

-- a walk over it ends behind its third domain, within two levels and not within one
pair_is_walked : WalkGives (node_numbers (root_of pair_tree.domains)) (node_depth (root_of pair_tree.domains)) 0 2 (Some 3)
pair_is_walked = (omega arith, refl, omega arith)

pair_is_deeper : WalkGives (node_numbers (root_of pair_tree.domains)) (node_depth (root_of pair_tree.domains)) 0 1 None
pair_is_deeper n same = omega arith

not_from_one : WalkGives (node_numbers (root_of pair_tree.domains)) (node_depth (root_of pair_tree.domains)) 1 2 (Some 4) → ⊥
not_from_one (up, same, low) = absurd (cc)

-- a flip in the first member, and a node in the second, which its parent declares
abbrev flip : Fault
flip = strike 1 1 1 0 2 1

abbrev node : Fault
node = record { node = number 2; begin = 1; item = 0; kind = record { 0 = 1 }; place = record { region = 1; index = 3 }; mask = 1 }

abbrev faults : List Fault
faults = flip ∷ node ∷ []

-- the kinds of both faults are in a declared set, where they are of a domain
found_at : (id declared : ℕ) → (1 ≡ id → IsTrue (has_kind declared (record { 0 = 0 }))) → (2 ≡ id → IsTrue (has_kind declared (record { 0 = 1 })))
    → All (λ (fault : Fault). fault.node.0 ≡ id → IsTrue (has_kind declared fault.kind)) faults
found_at id declared p q =
    let P : Fault → Type 0 = λ fault. fault.node.0 ≡ id → IsTrue (has_kind declared fault.kind) in
    All-cons P flip (node ∷ []) p (All-cons P node [] q (All-nil P))

members_found : DetectableMembers faults 2 (members_by (node_of pair_tree.domains) (number 1 ∷ number 2 ∷ []))
members_found = (
  (found_at 1 3 (λ one. refl) (λ two. absurd (omega arith)), tt),
  ((found_at 2 3 (λ one. absurd (omega arith)) (λ two. refl), tt), tt),
)

-- the script is accepted for it
pair_accepts : IsAccepted pair_tree faults
pair_accepts =
    record {
      few = omega arith;
      strikes =
          All-cons (CanStrike pair_tree) flip (node ∷ []) (omega arith, refl)
          (All-cons (CanStrike pair_tree) node [] (omega arith, refl) (All-nil (CanStrike pair_tree)));
      found = (found_at 0 2 (λ one. absurd (omega arith)) (λ two. absurd (omega arith)), (members_found, tt));
    }
