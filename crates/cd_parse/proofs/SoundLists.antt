-- Lists of domains of which one is changed, or to which one is added.
use Rattle.std.proofs.Common.{◌≡◌, ℕ, zero, suc, ◌+◌, ◌<◌, ◌≤◌, List, [], ◌∷◌, ◌++◌, Some, length, slice_get, refl, ap, sym, ◌∙◌, arith, inl, inr, ◌⊎◌, append_assoc}
use Rattle.std.proofs.lemmas.Bool.{cases_eq}
use Rattle.std.proofs.lemmas.Option.{slice_get_within}
use Rattle.cd_tree.specs.declared.domain.NodeId.{NodeId}
use Rattle.cd_tree.specs.declared.domain.Item.{Item}
use Rattle.cd_tree.specs.declared.domain.Item.TheVariants.{Run, Group}
use Rattle.cd_tree.specs.declared.domain.Domain.{Domain}
use Rattle.cd_parse.specs.Draft.{changed}
use Rattle.cd_parse.specs.Sound.{ids_of, Tiles}

-- ---- one element more

pub push_old : {X : Type 0} (xs : List X) (x : X) (k : ℕ) → k < length xs → slice_get (xs ++ x ∷ []) k ≡ slice_get xs k
push_old [] x k within = absurd (omega arith)
push_old (first ∷ xs) x zero within = refl
push_old (first ∷ xs) x (suc k) within = push_old xs x k (omega arith)

pub push_new : {X : Type 0} (xs : List X) (x : X) → slice_get (xs ++ x ∷ []) (length xs) ≡ Some x
push_new [] x = refl
push_new (first ∷ xs) x = push_new xs x

pub push_length : {X : Type 0} (xs : List X) (x : X) → length (xs ++ x ∷ []) ≡ suc (length xs)
push_length [] x = refl
push_length (first ∷ xs) x = ap suc (push_length xs x)

pub push_cases : {X : Type 0} (xs : List X) (x : X) (k : ℕ) (y : X) → slice_get (xs ++ x ∷ []) k ≡ Some y
    → (slice_get xs k ≡ Some y) ⊎ ((k ≡ length xs) × (x ≡ y))
push_cases [] x zero y is = inr (refl, cc)
push_cases [] x (suc k) y is = absurd (cc)
push_cases (first ∷ xs) x zero y is = inl is
push_cases (first ∷ xs) x (suc k) y is =
    elim (push_cases xs x k y is) [
      | inl old ↦ inl old
      | inr new ↦ inr (ap suc new.0, new.1)
    ]

-- ---- one domain changed

pub changed_length : (at : ℕ) (change : Domain → Domain) (domains : List Domain) → length (changed at change domains) ≡ length domains
changed_length at change [] = refl
changed_length zero change (domain ∷ domains) = refl
changed_length (suc at) change (domain ∷ domains) = ap suc (changed_length at change domains)

pub changed_here : (at : ℕ) (change : Domain → Domain) (domains : List Domain) (domain : Domain) → slice_get domains at ≡ Some domain
    → slice_get (changed at change domains) at ≡ Some (change domain)
changed_here at change [] domain is = absurd (cc)
changed_here zero change (first ∷ domains) domain is =
    let same : first ≡ domain = cc in
    rw same
changed_here (suc at) change (first ∷ domains) domain is = changed_here at change domains domain is

pub changed_other : (at : ℕ) (change : Domain → Domain) (domains : List Domain) (k : ℕ) → (k ≡ at → ⊥)
    → slice_get (changed at change domains) k ≡ slice_get domains k
changed_other at change [] k other = refl
changed_other zero change (first ∷ domains) zero other = absurd (other refl)
changed_other zero change (first ∷ domains) (suc k) other = refl
changed_other (suc at) change (first ∷ domains) zero other = refl
changed_other (suc at) change (first ∷ domains) (suc k) other = changed_other at change domains k (λ same. other (ap suc same))

-- ---- a list that grows: one domain changed, and others after all

pub record Grown (at : ℕ) (domains more : List Domain) : Type 0 where
  pub others : (k : ℕ) → k < length domains → (k ≡ at → ⊥) → slice_get more k ≡ slice_get domains k
  pub before : Domain
  pub after : Domain
  pub was : slice_get domains at ≡ Some before
  pub is : slice_get more at ≡ Some after
  pub name : after.name ≡ before.name
  pub parent : after.parent ≡ before.parent
  pub longer : length domains ≤ length more

-- a domain as it was, by its name and its parent
pub record Head (domains : List Domain) (k : ℕ) (domain : Domain) : Type 0 where
  pub other : Domain
  pub is : slice_get domains k ≡ Some other
  pub name : other.name ≡ domain.name
  pub parent : other.parent ≡ domain.parent

-- what stands at place k of one list, as another list has it that differs at `at` alone
head_by : (at : ℕ) (from to : List Domain) (old new : Domain) → slice_get from at ≡ Some old → slice_get to at ≡ Some new → new.name ≡ old.name
    → new.parent ≡ old.parent → (k : ℕ) (domain : Domain) → slice_get from k ≡ Some domain → ((k ≡ at → ⊥) → slice_get to k ≡ Some domain) → Head to k domain
head_by at from to old new was is name parent k domain there away =
    elim (cases_eq k at) [
      | inl here ↦
          let same : old ≡ domain = let found : slice_get from at ≡ Some domain = ap (slice_get from) (sym here) ∙ there in cc in
          record {
            other = new;
            is = ap (slice_get to) here ∙ is;
            name = name ∙ ap (λ (d : Domain). d.name) same;
            parent = parent ∙ ap (λ (d : Domain). d.parent) same;
          }
      | inr other ↦ record { other = domain; is = away other; name = refl; parent = refl }
    ]

pub head_after : (at : ℕ) (domains more : List Domain) → Grown at domains more → (k : ℕ) (domain : Domain) → slice_get domains k ≡ Some domain
    → Head more k domain
head_after at domains more grown k domain is =
    head_by at domains more grown.before grown.after grown.was grown.is grown.name grown.parent k domain is
    (λ away. grown.others k (slice_get_within domains k domain is) away ∙ is)

pub head_before : (at : ℕ) (domains more : List Domain) → Grown at domains more → (k : ℕ) (domain : Domain) → slice_get more k ≡ Some domain
    → k < length domains → Head domains k domain
head_before at domains more grown k domain is within =
    head_by at more domains grown.after grown.before grown.is grown.was (sym grown.name) (sym grown.parent) k domain is
    (λ away. sym (grown.others k within away) ∙ is)

-- a change that keeps name and parent
abbrev pub KeepsHead : (Domain → Domain) → Type 0
KeepsHead change = (domain : Domain) → ((change domain).name ≡ domain.name) × ((change domain).parent ≡ domain.parent)

pub grown_by_change : (at : ℕ) (change : Domain → Domain) (domains : List Domain) (domain : Domain) → KeepsHead change
    → slice_get domains at ≡ Some domain → Grown at domains (changed at change domains)
grown_by_change at change domains domain keeps is =
    record {
      others = λ k within away. changed_other at change domains k away;
      before = domain;
      after = change domain;
      was = is;
      is = changed_here at change domains domain is;
      name = (keeps domain).0;
      parent = (keeps domain).1;
      longer = let size : length (changed at change domains) ≡ length domains = changed_length at change domains in omega arith;
    }

pub grown_by_one : (at : ℕ) (domains more : List Domain) (new : Domain) → Grown at domains more → length more ≡ length domains
    → Grown at domains (more ++ new ∷ [])
grown_by_one at domains more new grown same =
    let within : at < length domains = slice_get_within domains at grown.before grown.was in
    let size : length (more ++ new ∷ []) ≡ suc (length more) = push_length more new in
    record {
      others = λ k below away. push_old more new k (omega arith) ∙ grown.others k below away;
      before = grown.before;
      after = grown.after;
      was = grown.was;
      is = push_old more new at (omega arith) ∙ grown.is;
      name = grown.name;
      parent = grown.parent;
      longer = omega arith;
    }

pub grown_not : (at : ℕ) (domains : List Domain) (domain : Domain) → slice_get domains at ≡ Some domain → Grown at domains domains
grown_not at domains domain is =
    record { others = λ k within away. refl; before = domain; after = domain; was = is; is = is; name = refl; parent = refl; longer = omega arith }

-- ---- names

pub ids_append : (items others : List Item) → ids_of (items ++ others) ≡ ids_of items ++ ids_of others
ids_append [] others = refl
ids_append (Run op ∷ items) others = ids_append items others
ids_append (Group ids ∷ items) others =
    ap (λ (more : List NodeId). ids ++ more) (ids_append items others) ∙ sym (append_assoc ids (ids_of items) (ids_of others))

pub tiles_join : (ends : ℕ → ℕ) (low : ℕ) (ids others : List NodeId) (middle high : ℕ) → Tiles ends low ids middle → Tiles ends middle others high
    → Tiles ends low (ids ++ others) high
tiles_join ends low [] others middle high same tiles = rw same tiles
tiles_join ends low (id ∷ ids) others middle high (here, some, tiles) more =
    (here, some, tiles_join ends (ends id.0) ids others middle high tiles more)

-- ---- what holds of each

-- what holds of all of a list from place `at` on holds of the one at place n
pub each_at : {A : Type 0} (P : ℕ → List A → Type 0) (Q : ℕ → A → Type 0)
    → ((at : ℕ) (first : A) (rest : List A) → P at (first ∷ rest) → Q at first × P (suc at) rest)
    → (at : ℕ) (xs : List A) (k n : ℕ) (x : A) → P at xs → at + k ≡ n → slice_get xs k ≡ Some x → Q n x
each_at P Q parts at [] k n x holds sum is = absurd (cc)
each_at P Q parts at (first ∷ xs) zero n x holds sum is =
    let same : first ≡ x = cc in
    let number : at ≡ n = omega arith in
    rw (← same, ← number) (parts at first xs holds).0
each_at P Q parts at (first ∷ xs) (suc k) n x holds sum is = each_at P Q parts (suc at) xs k n x (parts at first xs holds).1 (omega arith) is
