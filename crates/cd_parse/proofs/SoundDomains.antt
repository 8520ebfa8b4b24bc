-- Each domain of a draft fits, siblings differ and sums are right, when one domain is changed or one is added.
use Rattle.std.proofs.Common.{◌≡◌, ℕ, zero, suc, ◌+◌, ◌<◌, ◌≤◌, All, ◌&&◌, Bool, true, false, List, [], ◌∷◌, ◌++◌, Option, None, Some, length, slice_get, sum_by, refl, ap, sym, ◌∙◌, subst, arith, inl, inr, eq-eqb}
use Rattle.std.specs.List.{list_any}
use Rattle.std.specs.Str.{bytes_eq}
use Rattle.std.proofs.lemmas.Bool.{or_parts, and_from, both_ways}
use Rattle.std.proofs.lemmas.Option.{slice_get_within}
use Rattle.std.proofs.lemmas.List.Sums.{sum_by-cons}
use Rattle.std.proofs.lemmas.Slice.Eq.{bytes_eq-Decides}
use Rattle.cd_tree.specs.declared.domain.NodeId.{NodeId}
use Rattle.cd_tree.specs.Limits.{entries_limit}
use Rattle.cd_tree.specs.declared.domain.Entry.{Entry}
use Rattle.cd_tree.specs.declared.domain.Item.{Item}
use Rattle.cd_tree.specs.declared.domain.Item.TheVariants.{Run, Group}
use Rattle.cd_tree.specs.declared.domain.Domain.{Domain}
use Rattle.cd_tree.specs.declared.kinds.KindName.{KindName}
use Rattle.cd_tree.specs.Operations.{IsFull}
use Rattle.cd_tree.specs.TreeModel.{FitsItems, FitsDomain, EachFits, SiblingsDiffer}
use Rattle.cd_parse.specs.Draft.{changed, is_parent, has_child_named}
use Rattle.cd_parse.proofs.SoundLists.{Grown, Head, head_before, push_cases}
use Rattle.cd_parse.proofs.SoundSteps.{children_kept}

pub items_append : (domains : List Domain) (at : ℕ) (items others : List Item) → FitsItems domains at items → FitsItems domains at others
    → FitsItems domains at (items ++ others)
items_append domains at [] others p q = q
items_append domains at (Run op ∷ items) others (full, shape, p) q = (full, shape, items_append domains at items others p q)
items_append domains at (Group ids ∷ items) others (some, few, named, p) q = (some, few, named, items_append domains at items others p q)

items_kept : (at : ℕ) (domains more : List Domain) → Grown at domains more → (k : ℕ) (items : List Item)
    → FitsItems domains k items → FitsItems more k items
items_kept at domains more grown k [] fits = tt
items_kept at domains more grown k (Run op ∷ items) (full, shape, fits) = (full, shape, items_kept at domains more grown k items fits)
items_kept at domains more grown k (Group ids ∷ items) (some, few, named, fits) =
    (some, few, children_kept at domains more grown k ids named, items_kept at domains more grown k items fits)

-- a domain fits with other entries and items, and among other domains
pub refitted : (kinds : List KindName) (all more : List Domain) (at : ℕ) (domain : Domain) (entries : List Entry) (items : List Item)
    → FitsDomain kinds all at domain → length entries ≤ entries_limit → All (λ (entry : Entry). IsFull entry.range) entries → FitsItems more at items
    → FitsDomain kinds more at (record domain { entries = entries; items = items })
refitted kinds all more at domain entries items fits few full fit =
    record {
      name = fits.name;
      tries = fits.tries;
      retry = fits.retry;
      detects = fits.detects;
      entries = few;
      ranges = full;
      items = fit;
    }

pub domain_kept : (kinds : List KindName) (at : ℕ) (domains more : List Domain) → Grown at domains more → (k : ℕ) (domain : Domain)
    → FitsDomain kinds domains k domain → FitsDomain kinds more k domain
domain_kept kinds at domains more grown k domain fits =
    refitted kinds domains more k domain domain.entries domain.items fits fits.entries fits.ranges
    (items_kept at domains more grown k domain.items fits.items)

pub each_kept : (kinds : List KindName) (at : ℕ) (domains more : List Domain) → Grown at domains more → (k : ℕ) (rest : List Domain)
    → EachFits kinds domains k rest → EachFits kinds more k rest
each_kept kinds at domains more grown k [] fits = tt
each_kept kinds at domains more grown k (domain ∷ rest) (here, fits) =
    (domain_kept kinds at domains more grown k domain here, each_kept kinds at domains more grown (suc k) rest fits)

pub each_changed : (kinds : List KindName) (all : List Domain) (change : Domain → Domain) (from at n : ℕ) (rest : List Domain)
    → EachFits kinds all from rest → from + at ≡ n → ((domain : Domain) → slice_get rest at ≡ Some domain → FitsDomain kinds all n domain → FitsDomain kinds all n (change domain))
    → EachFits kinds all from (changed at change rest)
each_changed kinds all change from at n [] fits sum gives = tt
each_changed kinds all change from zero n (domain ∷ rest) (here, fits) sum gives =
    let same : n ≡ from = omega arith in (
      subst (λ (k : ℕ). FitsDomain kinds all k (change domain)) same
          (gives domain refl (subst (λ (k : ℕ). FitsDomain kinds all k domain) (sym same) here)),
      fits,
    )
each_changed kinds all change from (suc at) n (domain ∷ rest) (here, fits) sum gives =
    (here, each_changed kinds all change (suc from) at n rest fits (omega arith) gives)

pub each_pushed : (kinds : List KindName) (all : List Domain) (from n : ℕ) (rest : List Domain) (new : Domain)
    → EachFits kinds all from rest → from + length rest ≡ n → FitsDomain kinds all n new → EachFits kinds all from (rest ++ new ∷ [])
each_pushed kinds all from n [] new fits sum is =
    let same : n ≡ from = omega arith in
    (subst (λ (k : ℕ). FitsDomain kinds all k new) same is, tt)
each_pushed kinds all from n (domain ∷ rest) new (here, fits) sum is =
    (here, each_pushed kinds all (suc from) n rest new fits (omega arith) is)

-- ---- siblings

pub siblings_kept : (at : ℕ) (domains more : List Domain) → Grown at domains more → length more ≡ length domains
    → SiblingsDiffer domains → SiblingsDiffer more
siblings_kept at domains more grown same differ i j one other one_is other_is parent name =
    let was : Head domains i one = head_before at domains more grown i one one_is (subst (λ (n : ℕ). i < n) same (slice_get_within more i one one_is)) in
    let were : Head domains j other = head_before at domains more grown j other other_is (subst (λ (n : ℕ). j < n) same (slice_get_within more j other other_is)) in
    differ i j was.other were.other was.is were.is (was.parent ∙ parent ∙ sym were.parent) (was.name ∙ name ∙ sym were.name)

pub siblings_pushed : (domains : List Domain) (new : Domain) → SiblingsDiffer domains
    → ((k : ℕ) (domain : Domain) → slice_get domains k ≡ Some domain → domain.parent ≡ new.parent → domain.name ≡ new.name → ⊥)
    → SiblingsDiffer (domains ++ new ∷ [])
siblings_pushed domains new differ none i j one other one_is other_is parent name =
    elim (push_cases domains new i one one_is) [
      | inl one_old ↦ elim (push_cases domains new j other other_is) [
        | inl other_old ↦ differ i j one other one_old other_old parent name
        | inr other_new ↦
            absurd (none i one one_old (parent ∙ ap (λ (d : Domain). d.parent) (sym other_new.1)) (name ∙ ap (λ (d : Domain). d.name) (sym other_new.1)))
      ]
      | inr one_new ↦ elim (push_cases domains new j other other_is) [
        | inl other_old ↦
            absurd (none j other other_old (sym parent ∙ ap (λ (d : Domain). d.parent) (sym one_new.1)) (sym name ∙ ap (λ (d : Domain). d.name) (sym one_new.1)))
        | inr other_new ↦ one_new.0 ∙ sym other_new.0
      ]
    ]

is_parent_same : (parent : Option NodeId) → is_parent parent parent ≡ true
is_parent_same None = refl
is_parent_same (Some id) = eq-eqb id.0 id.0 refl

pub none_passes : {X : Type 0} (test : X → Bool) (xs : List X) → list_any test xs ≡ false → (k : ℕ) (x : X) → slice_get xs k ≡ Some x
    → test x ≡ true → ⊥
none_passes test [] none k x is passes = absurd (cc)
none_passes test (first ∷ xs) none zero x is passes =
    let same : first ≡ x = cc in
    both_ways (test x) (ap test (sym same) ∙ (or_parts (test first) (list_any test xs) none).0) passes
none_passes test (first ∷ xs) none (suc k) x is passes = none_passes test xs (or_parts (test first) (list_any test xs) none).1 k x is passes

pub bytes_same : (xs ys : List ℕ) → xs ≡ ys → bytes_eq xs ys ≡ true
bytes_same xs ys same = (bytes_eq-Decides xs ys).1 same

pub no_child : (domains : List Domain) (parent : Option NodeId) (name : List ℕ) → has_child_named domains parent name ≡ false
    → (k : ℕ) (domain : Domain) → slice_get domains k ≡ Some domain → domain.parent ≡ parent → domain.name ≡ name → ⊥
no_child domains parent name none k domain is same_parent same_name =
    none_passes (λ (d : Domain). is_parent d.parent parent && bytes_eq d.name name) domains none k domain is
    (and_from (is_parent domain.parent parent) (bytes_eq domain.name name)
    (ap (λ (p : Option NodeId). is_parent p parent) same_parent ∙ is_parent_same parent) (bytes_same domain.name name same_name))

-- ---- sums

pub sum_changed : (f : Domain → ℕ) (at : ℕ) (change : Domain → Domain) (domains : List Domain) (domain : Domain) (more : ℕ)
    → slice_get domains at ≡ Some domain → f (change domain) ≡ f domain + more
    → sum_by f (changed at change domains) ≡ sum_by f domains + more
sum_changed f at change [] domain more is sum = absurd (cc)
sum_changed f zero change (first ∷ domains) domain more is sum =
    let same : first ≡ domain = cc in
    let here : f (change first) ≡ f first + more = subst (λ (d : Domain). f (change d) ≡ f d + more) (sym same) sum in
    let old : sum_by f (first ∷ domains) ≡ f first + sum_by f domains = sum_by-cons f first domains in
    let new : sum_by f (change first ∷ domains) ≡ f (change first) + sum_by f domains = sum_by-cons f (change first) domains in
    omega arith
sum_changed f (suc at) change (first ∷ domains) domain more is sum =
    let old : sum_by f (first ∷ domains) ≡ f first + sum_by f domains = sum_by-cons f first domains in
    let new : sum_by f (first ∷ changed at change domains) ≡ f first + sum_by f (changed at change domains) = sum_by-cons f first (changed at change domains) in
    let rest : sum_by f (changed at change domains) ≡ sum_by f domains + more = sum_changed f at change domains domain more is sum in
    omega arith
