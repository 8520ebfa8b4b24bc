-- The statements before the root and after it keep a draft sound.
use Rattle.std.proofs.Common.{◌≡◌, ℕ, suc, ◌<◌, ◌≤◌, Bool, true, false, List, [], ◌∷◌, ◌++◌, Some, codes, length, slice_get, refl, ap, sym, ◌∙◌, subst, arith, inl, inr, bytes_eq}
use Rattle.std.proofs.lemmas.List.Elements.{All-append, All-cons, All-nil}
use Rattle.cd_tree.specs.Limits.{kinds_limit, regions_limit, words_limit, faults_limit}
use Rattle.cd_tree.specs.declared.document.Region.{Region}
use Rattle.cd_tree.specs.declared.document.RawFault.{RawFault}
use Rattle.cd_tree.specs.declared.domain.Domain.{Domain}
use Rattle.cd_tree.specs.declared.kinds.KindName.{KindName}
use Rattle.cd_tree.specs.TreeModel.{EachFits, KindsDiffer}
use Rattle.cd_parse.specs.declared.draft.Stage.{Stage}
use Rattle.cd_parse.specs.declared.draft.Stage.TheVariants.{Kinds, Regions, Strikes}
use Rattle.cd_parse.specs.declared.draft.Level.{Level}
use Rattle.cd_parse.specs.Draft.{DraftModel, is_start, takes_kinds, takes_regions, is_closed, has_kind_named, kind_name, four_kinds}
use Rattle.cd_parse.specs.Sound.{IsStaged, AreHeads, IsSound}
use Rattle.cd_parse.proofs.Stages.{of_stage, never}
use Rattle.cd_parse.proofs.SoundLists.{push_cases, push_length}
use Rattle.cd_parse.proofs.SoundDomains.{none_passes, bytes_same}

-- ---- stages before the root

pub record Empty (domains : List Domain) (levels : List Level) : Type 0 where
  pub domains_are : domains ≡ []
  pub levels_are : levels ≡ []

empty : (domains : List Domain) (levels : List Level) → (domains ≡ []) × (levels ≡ []) → Empty domains levels
empty domains levels none = record { domains_are = none.0; levels_are = none.1 }

pub empty_at_start : (stage : Stage) (domains : List Domain) (levels : List Level) → is_start stage ≡ true → IsStaged stage domains levels
    → Empty domains levels
empty_at_start stage domains levels =
    of_stage is_start (λ s. IsStaged s domains levels → Empty domains levels) (λ _. empty domains levels) never never never never never stage

pub empty_at_kinds : (stage : Stage) (domains : List Domain) (levels : List Level) → takes_kinds stage ≡ true → IsStaged stage domains levels
    → Empty domains levels
empty_at_kinds stage domains levels =
    of_stage takes_kinds (λ s. IsStaged s domains levels → Empty domains levels) never (λ _. empty domains levels) never never never never stage

pub empty_at_regions : (stage : Stage) (domains : List Domain) (levels : List Level) → takes_regions stage ≡ true → IsStaged stage domains levels
    → Empty domains levels
empty_at_regions stage domains levels =
    of_stage takes_regions (λ s. IsStaged s domains levels → Empty domains levels) never (λ _. empty domains levels) (λ _. empty domains levels) never never never stage

-- what changes before the root
pub sound_before : (draft : DraftModel) (stage : Stage) (version : ℕ) (kinds : List KindName) (regions : List Region) (words : ℕ) → IsSound draft
    → draft.domains ≡ [] → IsStaged stage draft.domains draft.levels → AreHeads kinds regions words
    → IsSound (record draft { stage = stage; version = version; kinds = kinds; regions = regions; words = words })
sound_before draft stage version kinds regions words is none staged heads =
    record {
      staged = staged;
      heads = heads;
      tree = is.tree;
      each = subst (λ (domains : List Domain). EachFits kinds domains 0 domains) (sym none) tt;
      few_faults = is.few_faults;
    }

-- ---- kinds

pub kinds_pushed : (kinds : List KindName) (name : List ℕ) (halts : Bool) → KindsDiffer kinds → has_kind_named kinds name ≡ false
    → KindsDiffer (kinds ++ kind_name name halts ∷ [])
kinds_pushed kinds name halts differ none i j one other one_is other_is same =
    let new : KindName = kind_name name halts in
    let taken : (k : ℕ) (kind : KindName) → slice_get kinds k ≡ Some kind → kind.name ≡ name → ⊥ =
    λ k kind is e. none_passes (λ (kind : KindName). bytes_eq kind.name name) kinds none k kind is (bytes_same kind.name name e) in
    elim (push_cases kinds new i one one_is) [
      | inl one_old ↦ elim (push_cases kinds new j other other_is) [
        | inl other_old ↦ differ i j one other one_old other_old same
        | inr other_new ↦ absurd (taken i one one_old (same ∙ ap (λ (k : KindName). k.name) (sym other_new.1)))
      ]
      | inr one_new ↦ elim (push_cases kinds new j other other_is) [
        | inl other_old ↦ absurd (taken j other other_old (sym same ∙ ap (λ (k : KindName). k.name) (sym one_new.1)))
        | inr other_new ↦ one_new.0 ∙ sym other_new.0
      ]
    ]

four_kinds_differ : KindsDiffer four_kinds
four_kinds_differ =
    let none : KindsDiffer [] = λ i j one other is. absurd (cc) in
    let flip : KindsDiffer (kind_name (codes "flip") false ∷ []) = kinds_pushed [] (codes "flip") false none refl in
    let lost : KindsDiffer (kind_name (codes "flip") false ∷ kind_name (codes "lost") false ∷ []) =
    kinds_pushed (kind_name (codes "flip") false ∷ []) (codes "lost") false flip refl in
    let link : KindsDiffer (kind_name (codes "flip") false ∷ kind_name (codes "lost") false ∷ kind_name (codes "link") false ∷ []) =
    kinds_pushed (kind_name (codes "flip") false ∷ kind_name (codes "lost") false ∷ []) (codes "link") false lost refl in
    kinds_pushed (kind_name (codes "flip") false ∷ kind_name (codes "lost") false ∷ kind_name (codes "link") false ∷ []) (codes "node") false link refl

-- other kinds, before the same regions
kinds_in : (kinds : List KindName) (regions : List Region) (words : ℕ) → KindsDiffer kinds → length kinds ≤ kinds_limit → (old : List KindName)
    → AreHeads old regions words → AreHeads kinds regions words
kinds_in kinds regions words differ few old is =
    record { kinds_differ = differ; few_kinds = few; some_words = is.some_words; few_regions = is.few_regions; few_words = is.few_words }

-- version 1 and version 2
pub first_is_sound : (draft : DraftModel) → IsSound draft → is_start draft.stage ≡ true
    → IsSound (record draft { stage = Regions; version = 1; kinds = four_kinds })
first_is_sound draft is start =
    let none_open : Empty draft.domains draft.levels = empty_at_start draft.stage draft.domains draft.levels start is.staged in
    sound_before draft Regions 1 four_kinds draft.regions draft.words is none_open.domains_are (none_open.domains_are, none_open.levels_are)
    (kinds_in four_kinds draft.regions draft.words four_kinds_differ (omega arith) draft.kinds is.heads)

pub second_is_sound : (draft : DraftModel) → IsSound draft → is_start draft.stage ≡ true → IsSound (record draft { stage = Kinds; version = 2 })
second_is_sound draft is start =
    let none_open : Empty draft.domains draft.levels = empty_at_start draft.stage draft.domains draft.levels start is.staged in
    sound_before draft Kinds 2 draft.kinds draft.regions draft.words is none_open.domains_are (none_open.domains_are, none_open.levels_are)
    is.heads

-- a kind more
pub kind_is_sound : (draft : DraftModel) (name : List ℕ) (halts : Bool) → IsSound draft → takes_kinds draft.stage ≡ true
    → has_kind_named draft.kinds name ≡ false → length draft.kinds < kinds_limit
    → IsSound (record draft { kinds = draft.kinds ++ kind_name name halts ∷ [] })
kind_is_sound draft name halts is stage none room =
    let none_open : Empty draft.domains draft.levels = empty_at_kinds draft.stage draft.domains draft.levels stage is.staged in
    let size : length (draft.kinds ++ kind_name name halts ∷ []) ≡ suc (length draft.kinds) = push_length draft.kinds (kind_name name halts) in
    sound_before draft draft.stage draft.version (draft.kinds ++ kind_name name halts ∷ []) draft.regions draft.words is none_open.domains_are is.staged
    (kinds_in (draft.kinds ++ kind_name name halts ∷ []) draft.regions draft.words (kinds_pushed draft.kinds name halts is.heads.kinds_differ none) (omega arith)
    draft.kinds is.heads)

-- a region more
pub region_is_sound : (draft : DraftModel) (region : Region) (words : ℕ) → IsSound draft → takes_regions draft.stage ≡ true → 0 < region.length
    → length draft.regions < regions_limit → words ≤ words_limit
    → IsSound (record draft { stage = Regions; regions = draft.regions ++ region ∷ []; words = words })
region_is_sound draft region words is stage some room few =
    let none_open : Empty draft.domains draft.levels = empty_at_regions draft.stage draft.domains draft.levels stage is.staged in
    let size : length (draft.regions ++ region ∷ []) ≡ suc (length draft.regions) = push_length draft.regions region in
    sound_before draft Regions draft.version draft.kinds (draft.regions ++ region ∷ []) words is none_open.domains_are
    (none_open.domains_are, none_open.levels_are) (record {
      kinds_differ = is.heads.kinds_differ;
      few_kinds = is.heads.few_kinds;
      some_words = All-append (λ (r : Region). 0 < r.length) draft.regions (region ∷ []) is.heads.some_words
          (All-cons (λ (r : Region). 0 < r.length) region [] some (All-nil (λ (r : Region). 0 < r.length)));
      few_regions = omega arith;
      few_words = few;
    })

-- ---- after the root

staged_for_strikes : (stage : Stage) (domains : List Domain) (levels : List Level) → is_closed stage ≡ true → IsStaged stage domains levels
    → IsStaged Strikes domains levels
staged_for_strikes stage domains levels =
    of_stage is_closed (λ s. IsStaged s domains levels → IsStaged Strikes domains levels) never never never never (λ _ staged. staged) never stage

pub faults_are_sound : (draft : DraftModel) → IsSound draft → is_closed draft.stage ≡ true → IsSound (record draft { stage = Strikes })
faults_are_sound draft is closed =
    record {
      staged = staged_for_strikes draft.stage draft.domains draft.levels closed is.staged;
      heads = is.heads;
      tree = is.tree;
      each = is.each;
      few_faults = is.few_faults;
    }

-- a strike more
pub fault_is_sound : (draft : DraftModel) (fault : RawFault) → IsSound draft → length draft.faults < faults_limit
    → IsSound (record draft { faults = draft.faults ++ fault ∷ [] })
fault_is_sound draft fault is room =
    let size : length (draft.faults ++ fault ∷ []) ≡ suc (length draft.faults) = push_length draft.faults fault in
    record { staged = is.staged; heads = is.heads; tree = is.tree; each = is.each; few_faults = omega arith }
