-- The links of a member agree with the words that it is sent with, where those of its domain agreed with the words of its begin.
use Rattle.std.proofs.Common.{◌≡◌, ℕ, zero, suc, ◌<◌, ◌≤◌, ◌==◌, true, false, List, [], ◌∷◌, Option, None, Some, slice_get, IsSome, IsSomeAnd, Contains, All, refl, subst, sym, ◌∙◌, arith}
use Rattle.std.specs.Option.{option_and_then}
use Rattle.std.proofs.lemmas.Bool.{eq-eqb}
use Rattle.std.proofs.lemmas.Bool.Decides.{nat_tests}
use Rattle.cd_base.specs.declared.place.Place.{Place}
use Rattle.cd_base.specs.declared.place.Range.{Range}
use Rattle.cd_base.specs.Words.{Words, in_range}
use Rattle.cd_base.proofs.PlaceLemmas.{Inside, inside_from, inside_to}
use Rattle.cd_tree.specs.declared.domain.NodeId.{NodeId}
use Rattle.cd_tree.specs.declared.domain.Entry.{Entry}
use Rattle.cd_tree.specs.declared.domain.How.{How}
use Rattle.cd_tree.specs.declared.domain.How.TheVariants as how
use Rattle.cd_tree.specs.declared.domain.Domain.{Domain}
use Rattle.cd_tree.specs.Legal.{entry_at, OfPattern}
use Rattle.cd_tree.specs.Locality.{SameWords}
use Rattle.cd_cover.specs.Laws.{LinksLead, HoldsLink}
use Rattle.cd_cover.specs.Links.{link_of, is_kept, holds_range}
use Rattle.cd_cover.specs.Plans.{PlanModel, IsPlan}
use Rattle.cd_tries.specs.declared.keep.Keep.{Keep}
use Rattle.cd_tries.specs.declared.keep.Keep.TheVariants as by
use Rattle.cd_tries.specs.declared.keep.Pieces.{Pieces}
use Rattle.cd_tries.specs.Keeping.{Known, KeepFits, KeepsFit, keep_words, pieces_of, pieces_in, piece_words, linked, linked_by}
use Rattle.cd_tries.specs.TryLaws.{EachGives}
use Rattle.cd_core.specs.StateModel.{StateModel}
use Rattle.cd_core.specs.Asks.{laid_over, levels_below, link_words}
use Rattle.cd_core.proofs.AskedWords.{words_back}
use Rattle.cd_core.proofs.Choices.{chosen, other, or_left}

-- ---- what the keeps of an entry give

-- a property of each of a list holds of one that it contains
pub of_all : {A : Type 0} (P : A → Type 0) (xs : List A) (x : A) → All P xs → Contains xs x → P x
of_all {A} P xs x all contains = subst P contains.2 (all contains.0 x contains.1)

-- a range that holds another has its places
holds_place : (outer r : Range) (p : Place) → holds_range outer r ≡ true → in_range r p ≡ true → in_range outer p ≡ true
holds_place outer r p holds h =
    let i : Inside r p = inside_from r p h in
    let o : (outer.region ≡ r.region) × (outer.low ≤ r.low) × (r.high ≤ outer.high) = bounds outer r holds in
    inside_to outer p (record { region = o.0 ∙ i.region; low = omega (arith, o.1, i.low); high = omega (arith, o.2, i.high) })
  where
    bounds : (outer r : Range) → holds_range outer r ≡ true → (outer.region ≡ r.region) × (outer.low ≤ r.low) × (r.high ≤ outer.high)
    bounds outer r holds = (grind (arith, nat_tests), grind (arith, nat_tests), grind (arith, nat_tests))

-- a copy or a reference is kept in pieces that give what it should
kept_pieces : (known : Known) (w : Words) (entry : Entry) (keep : Keep) (way : How) → entry.how ≡ way → is_kept way ≡ true → KeepFits known entry keep
    → SameWords (in_range entry.range) (keep_words known entry.how keep) w
    → IsSomeAnd (pieces_of keep) (λ (pieces : Pieces). SameWords (in_range entry.range) (piece_words known pieces) w)
kept_pieces known w entry (by.Copied pieces) way is kept fits gives = gives
kept_pieces known w entry (by.Shared pieces) way is kept fits gives = gives
kept_pieces known w entry by.Pattern how.Copy is kept fits gives =
    let P : How → Type 0 = λ x. OfPattern (λ r pattern. Unit {0}) entry x in absurd (subst P is fits)
kept_pieces known w entry by.Pattern how.Refer is kept fits gives =
    let P : How → Type 0 = λ x. OfPattern (λ r pattern. Unit {0}) entry x in absurd (subst P is fits)
kept_pieces known w entry by.Pattern (how.Regen pattern) is kept fits gives = absurd (cc)

-- so does the keep at the place of an entry
kept_at : (known : Known) (w : Words) (k : ℕ) (entries : List Entry) (keeps : List Keep) (entry : Entry) → slice_get entries k ≡ Some entry
    → KeepsFit known entries keeps → EachGives known w entries keeps → is_kept entry.how ≡ true
    → IsSomeAnd (pieces_in (slice_get keeps k)) (λ (pieces : Pieces). SameWords (in_range entry.range) (piece_words known pieces) w)
kept_at known w k [] keeps entry e fit gives kept = absurd (cc)
kept_at known w k (first ∷ entries) [] entry e fit gives kept = absurd gives
kept_at known w zero (first ∷ entries) (keep ∷ keeps) entry e fit gives kept =
    let same : first ≡ entry = cc in
    let F : Entry → Type 0 = λ x. KeepFits known x keep in
    let G : Entry → Type 0 = λ x. SameWords (in_range x.range) (keep_words known x.how keep) w in
    kept_pieces known w entry keep entry.how refl kept (subst F same fit.0) (subst G same gives.0)
kept_at known w (suc k) (first ∷ entries) (keep ∷ keeps) entry e fit gives kept = kept_at known w k entries keeps entry e fit.1 gives.1 kept

pub some_within : (P Q : Pieces → Type 0) (x : Option Pieces) → IsSomeAnd x P → ((a : Pieces) → P a → Q a) → IsSomeAnd x Q
some_within P Q None h f = h
some_within P Q (Some a) h f = f a h

-- ---- links, on the levels that members see

-- a link to this domain leads to its own keeps
own_level : (s : StateModel) (k : ℕ) (P : Pieces → Type 0) → IsSomeAnd (pieces_in (slice_get s.keeps k)) P
    → IsSomeAnd (linked (levels_below s) (s.node, k)) P
own_level s k P h =
    let here : Option Pieces = pieces_in (slice_get s.keeps k) in
    let Q : Option Pieces → Type 0 = λ o. IsSomeAnd o P in
    subst Q (sym (chosen (s.node.0 == s.node.0) here (linked s.above (s.node, k)) (eq-eqb s.node.0 s.node.0 refl))) h

-- a link to a domain before it leads on
not_same : (a b : ℕ) → b < a → (a == b) ≡ false
not_same a b h = grind (arith, nat_tests)

above_levels : (s : StateModel) (link : NodeId × ℕ) (P : Pieces → Type 0) → link.0.0 < s.node.0
    → IsSomeAnd (linked s.above link) P → IsSomeAnd (linked (levels_below s) link) P
above_levels s (up, k) P before h =
    let here : Option Pieces = pieces_in (slice_get s.keeps k) in
    let Q : Option Pieces → Type 0 = λ o. IsSomeAnd o P in
    subst Q (sym (other (s.node.0 == up.0) here (linked s.above (up, k)) (not_same s.node.0 up.0 before))) h

-- the keep of an entry that holds a range gives the words of the range
held_at : (s : StateModel) (domain : Domain) (w : Words) (k : ℕ) (range : Range) (x : Option Entry) → slice_get domain.entries k ≡ x
    → KeepsFit s.pass.known domain.entries s.keeps → EachGives s.pass.known w domain.entries s.keeps
    → IsSomeAnd x (λ (e : Entry). HoldsLink range e)
    → IsSomeAnd (pieces_in (slice_get s.keeps k)) (λ (pieces : Pieces). SameWords (in_range range) (piece_words s.pass.known pieces) w)
held_at s domain w k range None e fit gives h = absurd h
held_at s domain w k range (Some kept) e fit gives h =
    some_within (λ pieces. SameWords (in_range kept.range) (piece_words s.pass.known pieces) w)
    (λ pieces. SameWords (in_range range) (piece_words s.pass.known pieces) w) (pieces_in (slice_get s.keeps k))
    (kept_at s.pass.known w k domain.entries s.keeps kept e fit gives h.0)
    (λ pieces same p i. same p (holds_place kept.range range p h.1 i))

-- a link of a member to an entry of its domain gives the words that the entry's keep gives
pub own_link : LinksLead → (plan : PlanModel) (s : StateModel) (domain : Domain) (w : Words) (reference : NodeId × ℕ) (entry : Entry) (link : Option (NodeId × ℕ))
    → IsPlan plan → slice_get plan.tree.domains s.node.0 ≡ Some domain
    → entry_at plan.tree.domains reference.0 reference.1 ≡ Some entry → link_of plan.tree.domains reference.0 reference.1 ≡ link
    → IsSomeAnd link (λ (l : NodeId × ℕ). l.0 ≡ s.node)
    → KeepsFit s.pass.known domain.entries s.keeps → EachGives s.pass.known w domain.entries s.keeps
    → IsSomeAnd (linked_by (levels_below s) link) (λ (pieces : Pieces). SameWords (in_range entry.range) (piece_words s.pass.known pieces) w)
own_link lead plan s domain w reference entry None is_plan listed stands is leads fit gives = absurd leads
own_link lead plan s domain w reference entry (Some (up, k)) is_plan listed stands is leads fit gives =
    let P : Range → Pieces → Type 0 = λ r pieces. SameWords (in_range r) (piece_words s.pass.known pieces) w in
    let H : NodeId → Type 0 = λ i. IsSomeAnd (entry_at plan.tree.domains i k) (λ (e : Entry). HoldsLink entry.range e) in
    let holds : IsSomeAnd (entry_at plan.tree.domains s.node k) (λ (e : Entry). HoldsLink entry.range e) =
    subst H leads (lead plan.tree is_plan.program reference.0 up reference.1 k entry stands is).2 in
    let K : Option Domain → Type 0 = λ o. IsSomeAnd (option_and_then (λ (x : Domain). slice_get x.entries k) o) (λ (e : Entry). HoldsLink entry.range e) in
    let L : NodeId → Type 0 = λ i. IsSomeAnd (linked (levels_below s) (i, k)) (P entry.range) in
    subst L (sym leads) (own_level s k (P entry.range) (held_at s domain w k entry.range (slice_get domain.entries k) refl fit gives (subst K listed holds)))

-- a link of a member beyond its domain gives what it gives the domain
pub outer_link : (s : StateModel) (link : Option (NodeId × ℕ)) (X : NodeId → Type 0) (P : Pieces → Type 0)
    → IsSomeAnd link (λ (l : NodeId × ℕ). X l.0 × (l.0.0 < s.node.0)) → IsSomeAnd (linked_by s.above link) P
    → IsSomeAnd (linked_by (levels_below s) link) P
outer_link s None X P before gives = gives
outer_link s (Some link) X P before gives = above_levels s link P before.1 gives

-- ---- the words of a link, as an ask lists them

pub listed_link : (known : Known) (link : Option Pieces) (range : Range) (words : Words) (p : Place) → in_range range p ≡ true → IsSome (words p)
    → IsSomeAnd link (λ (pieces : Pieces). SameWords (in_range range) (piece_words known pieces) words)
    → laid_over (range ∷ []) (link_words known link (range ∷ [])) p ≡ words p
listed_link known None range words p h some gives = absurd gives
listed_link known (Some pieces) range words p h some gives =
    let S : Option ℕ → Type 0 = λ o. IsSome o in
    words_back (range ∷ []) (piece_words known pieces) p (or_left (in_range range p) false h) (subst S (sym (gives p h)) some) ∙ gives p h
