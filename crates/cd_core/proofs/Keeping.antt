-- What the keeps of a domain that stands give: the words with which it began, where the links agree with them.
use Rattle.std.proofs.Common.{◌≡◌, ◌<◌, ℕ, zero, suc, ◌+◌, ◌-◌, true, false, List, [], ◌∷◌, ◌++◌, Option, Some, None, slice_get, unwrap_or, IsSomeAnd, Contains, refl, ap, subst, sym, ◌∙◌, arith}
use Rattle.std.specs.Option.{option_and_then}
use Rattle.cd_base.specs.declared.place.Place.{Place}
use Rattle.cd_base.specs.Words.{Words, in_range}
use Rattle.cd_tree.specs.declared.domain.NodeId.{NodeId}
use Rattle.cd_tree.specs.declared.domain.Entry.{Entry}
use Rattle.cd_tree.specs.declared.domain.How.TheVariants.{Refer}
use Rattle.cd_tree.specs.declared.domain.Domain.{Domain}
use Rattle.cd_tree.specs.Domains.{Node, node, node_of, node_numbers}
use Rattle.cd_tree.specs.Laws.{NestedViewFollows}
use Rattle.cd_tree.specs.Legal.{entry_at}
use Rattle.cd_tree.specs.Locality.{SameWords}
use Rattle.cd_cover.specs.Links.{link_of}
use Rattle.cd_cover.specs.Outer.{outer_references}
use Rattle.cd_cover.specs.OuterLaws.{OuterAreThese, IsOuter, LiesAbove}
use Rattle.cd_cover.specs.PlanLaws.{ReferencesHaveLinks, LinkHolds}
use Rattle.cd_cover.specs.Plans.{PlanModel, IsPlan}
use Rattle.cd_tries.specs.declared.keep.Keep.{Keep}
use Rattle.cd_tries.specs.declared.keep.Keep.TheVariants as by
use Rattle.cd_tries.specs.Keeping.{Known, keep_words, KeepFits, KeepsFit}
use Rattle.cd_tries.specs.TryLaws.{EachGives}
use Rattle.cd_core.specs.Tasks.{Task, LinksAgree, KeepGives, KeepsGive}
use Rattle.cd_core.proofs.Grounds.{view_in}

-- the entries of a domain by their numbers, from one on
abbrev pub StandAt : PlanModel → NodeId → ℕ → List Entry → Type 0
StandAt plan id at entries = (k : ℕ) (entry : Entry) → slice_get entries k ≡ Some entry → entry_at plan.tree.domains id (at + k) ≡ Some entry

pub all_stand : (plan : PlanModel) (id : NodeId) (domain : Domain) → slice_get plan.tree.domains id.0 ≡ Some domain
    → StandAt plan id 0 domain.entries
all_stand plan id domain listed k entry e =
    let z : 0 + k ≡ k = omega arith in
    ap (λ (d : Option Domain). option_and_then (λ (x : Domain). slice_get x.entries (0 + k)) d) listed
    ∙ ap (λ (n : ℕ). slice_get domain.entries n) z ∙ e

pub stand_behind : (plan : PlanModel) (id : NodeId) (at : ℕ) (entry : Entry) (entries : List Entry) → StandAt plan id at (entry ∷ entries)
    → StandAt plan id (suc at) entries
stand_behind plan id at entry entries stand k one e =
    let same : suc at + k ≡ at + suc k = omega arith in
    ap (λ (n : ℕ). entry_at plan.tree.domains id n) same ∙ stand (suc k) one e

pub stand_here : (plan : PlanModel) (id : NodeId) (at : ℕ) (entry : Entry) (entries : List Entry) → StandAt plan id at (entry ∷ entries)
    → entry_at plan.tree.domains id at ≡ Some entry
stand_here plan id at entry entries stand =
    let same : at ≡ at + 0 = omega arith in
    ap (λ (n : ℕ). entry_at plan.tree.domains id n) same ∙ stand 0 entry refl

some_and : {A : Type 0} {P Q : A → Type 0} (x : Option A) → IsSomeAnd x P → ((a : A) → P a → Q a) → IsSomeAnd x Q
some_and {A} {P} {Q} None h f = h
some_and {A} {P} {Q} (Some a) h f = f a h

contains_first : (n : ℕ) (rest : List ℕ) → Contains (n ∷ rest) n
contains_first n rest = (0, omega arith, refl)

-- a reference of a domain is an outer reference of it
pub own_is_outer : OuterAreThese → ReferencesHaveLinks → NestedViewFollows → (plan : PlanModel) (id : NodeId) (domain : Domain) (at : ℕ) (entry : Entry)
    → IsPlan plan → slice_get plan.tree.domains id.0 ≡ Some domain → entry_at plan.tree.domains id at ≡ Some entry → entry.how ≡ Refer
    → Contains (outer_references (view_in plan.tree id domain)) (id, at)
own_is_outer these have follows plan id domain at entry is_plan listed stands refers =
    let d : Node = view_in plan.tree id domain in
    let is : node_of plan.tree.domains id ≡ Some d = follows plan.tree is_plan.program id domain listed in
    let link : IsSomeAnd (link_of plan.tree.domains id at) (λ (l : NodeId × ℕ). LiesAbove plan.tree.domains id l.0) =
    some_and (link_of plan.tree.domains id at) (have plan is_plan id at entry stands refers) (λ l h. h.0) in
    (these plan is_plan id d is (id, at)).1 (contains_first id.0 _, link)

-- a keep that gives the task's words gives those with which the domain began, where the links agree
keep_gives : OuterAreThese → ReferencesHaveLinks → NestedViewFollows → (plan : PlanModel) (t : Task) (id : NodeId) (domain : Domain) (known : Known)
    (at : ℕ) (entry : Entry) (keep : Keep)
    → IsPlan plan → slice_get plan.tree.domains id.0 ≡ Some domain → t.domain ≡ view_in plan.tree id domain
    → entry_at plan.tree.domains id at ≡ Some entry → LinksAgree plan t
    → KeepFits known entry keep → KeepGives known t id at entry keep → SameWords (in_range entry.range) (keep_words known entry.how keep) t.words
keep_gives these have follows plan t id domain known at entry (by.Copied pieces) is_plan listed view stands agree fits gives = gives
keep_gives these have follows plan t id domain known at entry (by.Shared pieces) is_plan listed view stands agree fits gives =
    let Q : Node → Type 0 = λ d. Contains (outer_references d) (id, at) in
    let outer : Contains (outer_references t.domain) (id, at) =
    subst Q (sym view) (own_is_outer these have follows plan id domain at entry is_plan listed stands fits.1) in
    λ p h. gives p h ∙ sym (agree (id, at) entry outer stands p h)
keep_gives these have follows plan t id domain known at entry by.Pattern is_plan listed view stands agree fits gives = gives

keeps_give : OuterAreThese → ReferencesHaveLinks → NestedViewFollows → (plan : PlanModel) (t : Task) (id : NodeId) (domain : Domain) (known : Known)
    (at : ℕ) (entries : List Entry) (keeps : List Keep)
    → IsPlan plan → slice_get plan.tree.domains id.0 ≡ Some domain → t.domain ≡ view_in plan.tree id domain
    → StandAt plan id at entries → LinksAgree plan t
    → KeepsFit known entries keeps → KeepsGive known t id at entries keeps → EachGives known t.words entries keeps
keeps_give these have follows plan t id domain known at [] keeps is_plan listed view stand agree fits gives = tt
keeps_give these have follows plan t id domain known at (entry ∷ entries) [] is_plan listed view stand agree fits gives = absurd gives
keeps_give these have follows plan t id domain known at (entry ∷ entries) (keep ∷ keeps) is_plan listed view stand agree fits gives = (
  keep_gives these have follows plan t id domain known at entry keep is_plan listed view (stand_here plan id at entry entries stand) agree fits.0 gives.0,
  keeps_give these have follows plan t id domain known (suc at) entries keeps is_plan listed view (stand_behind plan id at entry entries stand) agree fits.1 gives.1,
)

-- the keeps of a domain that stands give the words with which it began, where the links agree
pub all_give : OuterAreThese → ReferencesHaveLinks → NestedViewFollows → (plan : PlanModel) (t : Task) (id : NodeId) (domain : Domain) (known : Known)
    (keeps : List Keep)
    → IsPlan plan → slice_get plan.tree.domains id.0 ≡ Some domain → t.domain ≡ view_in plan.tree id domain → LinksAgree plan t
    → KeepsFit known domain.entries keeps → KeepsGive known t id 0 domain.entries keeps → EachGives known t.words domain.entries keeps
all_give these have follows plan t id domain known keeps is_plan listed view agree fits gives =
    keeps_give these have follows plan t id domain known 0 domain.entries keeps is_plan listed view (all_stand plan id domain listed) agree fits gives
