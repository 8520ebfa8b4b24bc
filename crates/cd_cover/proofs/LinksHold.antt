-- Each reference of a plan has a link, which is kept and holds its range, and nothing else has one.
use Rattle.std.proofs.Common.{◌≡◌, ◌≢◌, ℕ, List, Option, None, Some, IsSome, refl, ap, ◌∙◌}
use Rattle.std.specs.Option.{option_and_then}
use Rattle.cd_base.specs.declared.place.Range.{Range}
use Rattle.cd_base.proofs.ListLemmas.{some_and}
use Rattle.cd_tree.specs.declared.domain.NodeId.{NodeId}
use Rattle.cd_tree.specs.declared.domain.How.{How}
use Rattle.cd_tree.specs.declared.domain.How.TheVariants.{Copy, Refer, Regen}
use Rattle.cd_cover.specs.Links.{Frame, frames_of, link_in, link_of, entry_link, by_way}
use Rattle.cd_cover.specs.PlanLaws.{LinkHolds, ReferencesHaveLinks, OnlyReferencesHaveLinks}
use Rattle.cd_cover.proofs.LinkLemmas.{links_lead}

-- a link that is there
some_link : (o : Option (NodeId × ℕ)) → IsSome o → (link : NodeId × ℕ) × (o ≡ Some link)
some_link None some = absurd (cc)
some_link (Some link) some = (link, refl)

pub references_have_links : ReferencesHaveLinks
references_have_links plan is id at entry there refers =
    let frames : List Frame = frames_of plan.tree.domains id in
    let found = some_link (link_in entry.range frames) (is.linked id at entry there refers).0 in
    let link : link_of plan.tree.domains id at ≡ Some (found.0.0, found.0.1) =
    ap (option_and_then (entry_link frames)) there
    ∙ ap (λ (how : How). by_way how None (λ r. link_in r frames) None entry.range) refers
    ∙ found.1 in
    let to = links_lead plan.tree is.program id found.0.0 at found.0.1 entry there link in
    some_and (link_of plan.tree.domains id at) (LinkHolds plan.tree.domains id entry.range) (found.0.0, found.0.1) link ((to.0, to.1), to.2)

no_way : (how : How) (r : Range) (frames : List Frame) → how ≢ Refer → by_way how None (λ s. link_in s frames) None r ≡ None
no_way Copy r frames differs = refl
no_way Refer r frames differs = absurd (differs refl)
no_way (Regen pattern) r frames differs = refl

pub only_references_have_links : OnlyReferencesHaveLinks
only_references_have_links domains id at entry there differs =
    ap (option_and_then (entry_link (frames_of domains id))) there ∙ no_way entry.how entry.range (frames_of domains id) differs
