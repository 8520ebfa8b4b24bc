-- The way up to a reference's target: what one domain adds to it.
use Rattle.std.proofs.Common.{◌≡◌, ℕ, Bool, true, false, ◌&&◌, ◌||◌, List, ◌∷◌, Option, None, Some, IsSomeAnd, slice_get, refl, sym, ap, ◌∙◌, subst}
use Rattle.cd_base.specs.declared.place.Place.{Place}
use Rattle.cd_base.specs.declared.place.Range.{Range}
use Rattle.cd_base.specs.Words.{PlaceSet, in_range}
use Rattle.cd_base.specs.Places.{IsLeast}
use Rattle.cd_base.proofs.LeastLemmas.{IsLeast-of}
use Rattle.cd_base.proofs.BoolLemmas.{and-or}
use Rattle.cd_tree.specs.declared.domain.NodeId.{NodeId}
use Rattle.cd_tree.specs.declared.domain.How.{How}
use Rattle.cd_tree.specs.declared.domain.How.TheVariants.{Copy, Refer, Regen}
use Rattle.cd_tree.specs.declared.domain.Entry.{Entry}
use Rattle.cd_tree.specs.declared.domain.Domain.{Domain}
use Rattle.cd_tree.specs.TreeModel.{TreeModel, IsTree}
use Rattle.cd_tree.specs.Domains.{node, body_by, body_of, node_of}
use Rattle.cd_tree.specs.Laws.{NestedViewFollows}
use Rattle.cd_cover.specs.Least.{earlier_of}
use Rattle.cd_cover.specs.Laws.{FramesGoUp}
use Rattle.cd_cover.specs.Links.{Frame, frame_over, frames_of, by_way, by_holder, holder, written_before, written_since}
use Rattle.cd_cover.specs.Seeking.{sought_above, written_on_the_way}
use Rattle.cd_cover.proofs.LeastLemmas.{least_or}

-- what is written above a domain, where the way goes on there
abbrev above : Option Range → List Frame → PlaceSet
above None frames p = false
above (Some r) frames p = written_since r frames p

way_above : (how : How) (r outer : Range) (frames : List Frame) (p : Place)
    → by_way how false (λ s. written_since s frames p) (written_since r frames p) outer
    ≡ above (by_way how None (λ s. Some s) (Some r) outer) frames p
way_above Copy r outer frames p = refl
way_above Refer r outer frames p = refl
way_above (Regen pattern) r outer frames p = refl

holder_above : (h : Option (ℕ × Entry)) (r : Range) (frames : List Frame) (p : Place)
    → by_holder h (written_since r frames p) (λ at. false) (λ s. written_since s frames p)
    ≡ above (by_holder h (Some r) (λ at. None) (λ s. Some s)) frames p
holder_above None r frames p = refl
holder_above (Some (at, entry)) r frames p = way_above entry.how r entry.range frames p

and-or-false : (a b c : Bool) → c ≡ false → (a && b) ≡ (a && (b || c))
and-or-false true true c e = refl
and-or-false true false c e = sym e
and-or-false false b c e = refl

since : (own sought : Range) (frame : Frame) (frames : List Frame) (next : Option Range) (q : Place) → sought_above sought frame.entries ≡ next
    → written_on_the_way own sought (frame ∷ frames) q ≡ (in_range own q && (frame.before q || above next frames q))
since own sought frame frames next q is =
    ap (λ b. in_range own q && (frame.before q || b))
    (holder_above (holder sought 0 frame.entries) sought frames q ∙ ap (λ (o : Option Range). above o frames q) is)

way_ends : (own sought : Range) (frame : Frame) (frames : List Frame) (here : Option Place) → sought_above sought frame.entries ≡ None
    → IsLeast (λ q. in_range own q && frame.before q) here → IsLeast (written_on_the_way own sought (frame ∷ frames)) here
way_ends own sought frame frames here is least =
    IsLeast-of (λ q. in_range own q && frame.before q) (written_on_the_way own sought (frame ∷ frames)) here
    (λ q. and-or-false (in_range own q) (frame.before q) false refl ∙ sym (since own sought frame frames None q is))
    least

way_goes_on : (own sought outer : Range) (frame : Frame) (frames : List Frame) (here beyond : Option Place)
    → sought_above sought frame.entries ≡ Some outer
    → IsLeast (λ q. in_range own q && frame.before q) here → IsLeast (written_on_the_way own outer frames) beyond
    → IsLeast (written_on_the_way own sought (frame ∷ frames)) (earlier_of here beyond)
way_goes_on own sought outer frame frames here beyond is least rest =
    let S : PlaceSet = λ q. in_range own q && frame.before q in
    let T : PlaceSet = written_on_the_way own outer frames in
    IsLeast-of (λ q. S q || T q) (written_on_the_way own sought (frame ∷ frames)) (earlier_of here beyond)
    (λ q.
    sym
    (since own sought frame frames (Some outer) q is
    ∙ and-or (in_range own q) (frame.before q) (written_since outer frames q)))
    (least_or S T here beyond least rest)

-- what the view of a domain writes is what its frame has
in_view : (tree : TreeModel) → IsTree tree → NestedViewFollows → (id parent : NodeId) (domain : Domain) → slice_get tree.domains parent.0 ≡ Some domain
    → (own : Range) (here : Option Place)
    → IsSomeAnd (node_of tree.domains parent) (λ d. IsLeast (λ q. in_range own q && written_before id.0 (body_of d) q) here)
    → IsLeast (λ q. in_range own q && (frame_over id.0 (node parent domain (body_by (node_of tree.domains) domain.items))).before q) here
in_view tree is views id parent domain there own here least =
    subst (λ o. IsSomeAnd o (λ d. IsLeast (λ q. in_range own q && written_before id.0 (body_of d) q) here))
    (views tree is parent domain there) least

pub ends_here : (tree : TreeModel) → IsTree tree → NestedViewFollows → FramesGoUp → (id parent : NodeId) (domain over : Domain)
    → slice_get tree.domains id.0 ≡ Some domain → domain.parent ≡ Some parent → slice_get tree.domains parent.0 ≡ Some over
    → (own sought : Range) (entries : List Entry) → entries ≡ over.entries → (next : Option Range) → next ≡ sought_above sought entries → next ≡ None
    → (here : Option Place)
    → IsSomeAnd (node_of tree.domains parent) (λ d. IsLeast (λ q. in_range own q && written_before id.0 (body_of d) q) here)
    → IsLeast (written_on_the_way own sought (frames_of tree.domains id)) here
ends_here tree is views frames id parent domain over there up here own sought entries same next seeks none found least =
    let frame : Frame = frame_over id.0 (node parent over (body_by (node_of tree.domains) over.items)) in
    subst (λ fs. IsLeast (written_on_the_way own sought fs) found) (sym (frames tree is id parent domain over there up here))
    (way_ends own sought frame (frames_of tree.domains parent) found
    (ap (sought_above sought) (sym same) ∙ sym seeks ∙ none)
    (in_view tree is views id parent over here own found least))

pub goes_on : (tree : TreeModel) → IsTree tree → NestedViewFollows → FramesGoUp → (id parent : NodeId) (domain over : Domain)
    → slice_get tree.domains id.0 ≡ Some domain → domain.parent ≡ Some parent → slice_get tree.domains parent.0 ≡ Some over
    → (own sought outer : Range) (entries : List Entry) → entries ≡ over.entries → (next : Option Range) → next ≡ sought_above sought entries
    → next ≡ Some outer → (here beyond all : Option Place)
    → IsSomeAnd (node_of tree.domains parent) (λ d. IsLeast (λ q. in_range own q && written_before id.0 (body_of d) q) here)
    → IsLeast (written_on_the_way own outer (frames_of tree.domains parent)) beyond → all ≡ earlier_of here beyond
    → IsLeast (written_on_the_way own sought (frames_of tree.domains id)) all
goes_on tree is views frames id parent domain over there up here own sought outer entries same next seeks some found beyond all least rest joined =
    let frame : Frame = frame_over id.0 (node parent over (body_by (node_of tree.domains) over.items)) in
    subst (λ fs. IsLeast (written_on_the_way own sought fs) all) (sym (frames tree is id parent domain over there up here))
    (subst (IsLeast (written_on_the_way own sought (frame ∷ frames_of tree.domains parent))) (sym joined)
    (way_goes_on own sought outer frame (frames_of tree.domains parent) found beyond
    (ap (sought_above sought) (sym same) ∙ sym seeks ∙ some)
    (in_view tree is views id parent over here own found least) rest))
