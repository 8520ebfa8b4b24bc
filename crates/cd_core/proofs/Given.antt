-- What a first try keeps gives what its domain was sent with.
use Rattle.std.proofs.Common.{◌≡◌, ℕ, zero, suc, ◌+◌, ◌-◌, ◌<◌, ◌≤◌, Bool, true, false, nat_le, List, [], ◌∷◌, ◌++◌, Option, Some, None, length, slice_get, unwrap_or, IsSomeAnd, Contains, cond, refl, ap, subst, sym, ◌∙◌, arith, ◌||◌}
use Rattle.cd_base.specs.declared.place.Place.{Place}
use Rattle.cd_base.specs.Words.{Words, in_range}
use Rattle.cd_tree.specs.declared.domain.NodeId.{NodeId}
use Rattle.cd_tree.specs.declared.domain.Entry.{Entry}
use Rattle.cd_tree.specs.declared.domain.Domain.{Domain}
use Rattle.cd_tree.specs.Domains.{Node}
use Rattle.cd_tree.specs.Legal.{entry_at}
use Rattle.cd_tree.specs.Locality.{SameWords}
use Rattle.cd_cover.specs.Outer.{outer_references}
use Rattle.cd_tree.specs.Meaning.{in_entries}
use Rattle.cd_keep.specs.declared.keep_id.KeepId.{KeepId}
use Rattle.cd_keep.specs.PassModel.{IsPiece}
use Rattle.cd_cover.specs.Links.{link_of}
use Rattle.cd_cover.specs.Plans.{PlanModel, IsPlan}
use Rattle.cd_tries.specs.declared.keep.Keep.{Keep}
use Rattle.cd_tries.specs.declared.keep.Keep.TheVariants as by
use Rattle.cd_tries.specs.declared.keep.Pieces.{Pieces}
use Rattle.cd_tries.specs.declared.shelf.Level.{Level}
use Rattle.cd_tries.specs.Keeping.{Known, text, piece_words, AreCut, KeepFits, KeepsFit, linked_by, Cover}
use Rattle.cd_tries.specs.KeepLaws.{KnowsMore, KeptAs, AllKeptAs}
use Rattle.cd_tries.specs.Preserving.{links_for}
use Rattle.cd_core.specs.Fits.{LinksAreKept}
use Rattle.cd_core.specs.Tasks.{Task, LinksGive, KeepGives, KeepsGive}
use Rattle.cd_core.proofs.Choices.{or_left, or_right}
use Rattle.cd_core.specs.LawsBelow.{MoreLaws}
use Rattle.cd_core.proofs.Facts.{there_and}
use Rattle.cd_core.proofs.Grounds.{view_in}
use Rattle.cd_core.proofs.Keeping.{StandAt, all_stand, stand_here, stand_behind, own_is_outer}

-- each of these ids is known
abbrev AllKnown : Known → List KeepId → Type 0
AllKnown known ids = (k : ℕ) (id : KeepId) → slice_get ids k ≡ Some id → IsSomeAnd (known id) IsPiece

one_known : (known more : Known) (id : KeepId) → KnowsMore known more → (x : Option (List ℕ)) → known id ≡ x → IsSomeAnd x IsPiece → known id ≡ more id
one_known known more id knows None e h = absurd h
one_known known more id knows (Some words) e h = e ∙ sym (knows id words e)

-- what is known stays: the words of known pieces are the same
same_text : (known more : Known) (ids : List KeepId) → KnowsMore known more → AllKnown known ids → text known ids ≡ text more ids
same_text known more [] knows all = refl
same_text known more (id ∷ ids) knows all =
    ap (λ (x : Option (List ℕ)). unwrap_or x [] ++ text known ids) (one_known known more id knows (known id) refl (all 0 id refl))
    ∙ ap (λ (ws : List ℕ). unwrap_or (more id) [] ++ ws) (same_text known more ids knows (λ k one e. all (suc k) one e))

pub same_pieces : (known more : Known) (pieces : Pieces) (p : Place) → KnowsMore known more → AreCut known pieces
    → piece_words known pieces p ≡ piece_words more pieces p
same_pieces known more pieces p knows cut =
    ap (λ (ws : List ℕ). cond (nat_le pieces.begin p.index) (slice_get ws (p.index - pieces.begin)) None)
    (same_text known more pieces.ids knows cut.each)

-- pieces of a link, where the link has some
shared_gives : (known more : Known) (t : Task) (reference : NodeId × ℕ) (entry : Entry) (pieces : Pieces) (link : Option Pieces) → KnowsMore known more
    → IsSomeAnd link (λ (of : Pieces). Cover known of entry.range)
    → IsSomeAnd link (λ (of : Pieces). SameWords (in_range entry.range) (piece_words known of) (t.links reference))
    → IsSomeAnd link (λ (of : Pieces). SameWords (in_range entry.range) (piece_words more pieces) (piece_words more of))
    → SameWords (in_range entry.range) (piece_words more pieces) (t.links reference)
shared_gives known more t reference entry pieces None knows covers gives kept = absurd gives
shared_gives known more t reference entry pieces (Some of) knows covers gives kept =
    λ p h. kept p h ∙ sym (same_pieces known more of p knows covers.cut) ∙ gives p h

-- an entry, as it was kept
one_given : MoreLaws → (plan : PlanModel) (t : Task) (id : NodeId) (domain : Domain) (known more : Known) (above : List Level) (w : Words)
    (at : ℕ) (entry : Entry) (keep : Keep) → IsPlan plan → slice_get plan.tree.domains id.0 ≡ Some domain
    → t.domain ≡ view_in plan.tree id domain → KnowsMore known more
    → LinksAreKept plan known (view_in plan.tree id domain) above → LinksGive plan t known above
    → entry_at plan.tree.domains id at ≡ Some entry → SameWords (in_range entry.range) w t.words
    → KeepFits more entry keep → KeptAs more w (links_for plan.tree.domains id above at) entry keep → KeepGives more t id at entry keep
one_given l plan t id domain known more above w at entry (by.Copied pieces) is_plan listed view knows covers gives stands same fits kept =
    λ p h. kept p h ∙ same p h
one_given l plan t id domain known more above w at entry (by.Shared pieces) is_plan listed view knows covers gives stands same fits kept =
    let outer : Contains (outer_references (view_in plan.tree id domain)) (id, at) =
    own_is_outer l.outer l.links l.follows plan id domain at entry is_plan listed stands fits.1 in
    let Q : Node → Type 0 = λ d. Contains (outer_references d) (id, at) in
    shared_gives known more t (id, at) entry pieces (links_for plan.tree.domains id above at) knows (covers (id, at) entry outer stands)
    (gives (id, at) entry (subst Q (sym view) outer) stands) kept
one_given l plan t id domain known more above w at entry by.Pattern is_plan listed view knows covers gives stands same fits kept =
    λ p h. kept p h ∙ same p h

all_given : MoreLaws → (plan : PlanModel) (t : Task) (id : NodeId) (domain : Domain) (known more : Known) (above : List Level) (w : Words)
    (at : ℕ) (entries : List Entry) (keeps : List Keep) → IsPlan plan → slice_get plan.tree.domains id.0 ≡ Some domain
    → t.domain ≡ view_in plan.tree id domain → KnowsMore known more
    → LinksAreKept plan known (view_in plan.tree id domain) above → LinksGive plan t known above
    → StandAt plan id at entries → SameWords (in_entries entries) w t.words
    → KeepsFit more entries keeps → AllKeptAs more w (links_for plan.tree.domains id above) at entries keeps → KeepsGive more t id at entries keeps
all_given l plan t id domain known more above w at [] keeps is_plan listed view knows covers gives stand same fits kept = tt
all_given l plan t id domain known more above w at (entry ∷ entries) [] is_plan listed view knows covers gives stand same fits kept = absurd kept
all_given l plan t id domain known more above w at (entry ∷ entries) (keep ∷ keeps) is_plan listed view knows covers gives stand same fits kept = (
  one_given l plan t id domain known more above w at entry keep is_plan listed view knows covers gives (stand_here plan id at entry entries stand)
      (λ p h. same p (or_left (in_range entry.range p) (in_entries entries p) h)) fits.0 kept.0,
  all_given l plan t id domain known more above w (suc at) entries keeps is_plan listed view knows covers gives (stand_behind plan id at entry entries stand)
      (λ p h. same p (or_right (in_range entry.range p) (in_entries entries p) h)) fits.1 kept.1,
)

-- all that a domain keeps
pub keeps_given : MoreLaws → (plan : PlanModel) (t : Task) (id : NodeId) (domain : Domain) (known more : Known) (above : List Level) (w : Words)
    (keeps : List Keep) → IsPlan plan → slice_get plan.tree.domains id.0 ≡ Some domain
    → t.domain ≡ view_in plan.tree id domain → KnowsMore known more
    → LinksAreKept plan known (view_in plan.tree id domain) above → LinksGive plan t known above
    → SameWords (in_entries domain.entries) w t.words
    → KeepsFit more domain.entries keeps → AllKeptAs more w (links_for plan.tree.domains id above) 0 domain.entries keeps
    → KeepsGive more t id 0 domain.entries keeps
keeps_given l plan t id domain known more above w keeps is_plan listed view knows covers gives same fits kept =
    all_given l plan t id domain known more above w 0 domain.entries keeps is_plan listed view knows covers gives
    (all_stand plan id domain listed) same fits kept
