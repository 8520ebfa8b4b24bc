-- Between a reference and its link nothing writes the range before the group in which the reference lies.
use Rattle.std.proofs.Common.{◌≡◌, inl, inr, ℕ, ◌<◌, ◌≤◌, Bool, true, false, ◌&&◌, List, ◌∷◌, Option, None, Some, slice_get, refl, sym, ap, ◌∙◌, subst, arith}
use Rattle.std.specs.Option.{option_and_then}
use Rattle.std.specs.List.{Contains}
use Rattle.std.proofs.lemmas.Bool.{or_parts}
use Rattle.cd_base.specs.declared.place.Place.{Place}
use Rattle.cd_base.specs.declared.place.Range.{Range}
use Rattle.cd_base.specs.Words.{in_range}
use Rattle.cd_tree.specs.declared.domain.NodeId.{NodeId}
use Rattle.cd_tree.specs.declared.domain.Entry.{Entry}
use Rattle.cd_tree.specs.declared.domain.Domain.{Domain}
use Rattle.cd_tree.specs.Domains.{Node, body_of}
use Rattle.cd_tree.specs.Legal.{entry_at}
use Rattle.cd_tree.specs.Scripts.{path_of}
use Rattle.cd_cover.specs.Links.{Frame, frame_over, frames_of, holder, link_in, link_of, entry_link, by_holder, written_before, written_since, stale}
use Rattle.cd_cover.specs.Outer.{outer_references}
use Rattle.cd_cover.specs.Plans.{PlanModel, IsPlan}
use Rattle.cd_cover.specs.OuterLaws.{FreshOnTheWay, OuterAreFresh}
use Rattle.cd_cover.proofs.Downward.{view_in, upward}
use Rattle.cd_cover.proofs.PathLemmas.{path_cases, path_before, top_on_path}
use Rattle.cd_cover.proofs.LinkLemmas.{link_by}
use Rattle.cd_cover.proofs.OuterLemmas.{PlanFacts, plan_facts}
use Rattle.cd_cover.proofs.OuterWhich.{reference_of}
use Rattle.cd_cover.proofs.OuterMembers.{OuterParts, outer_parts, link_over, Family, family, view_is, Kin, kin_of}

and_here : (a b : Bool) → (a && b) ≡ false → a ≡ true → b ≡ false
and_here true b is here = is
and_here false b is here = absurd (cc)

-- what is not written since: not in the nearest domain above, nor, where that has no link, further up
since_here : (r : Range) (frame : Frame) (frames : List Frame) (p : Place) → written_since r (frame ∷ frames) p ≡ false → frame.before p ≡ false
since_here r frame frames p none =
    (or_parts (frame.before p)
    (by_holder (holder r 0 frame.entries) (written_since r frames p) (λ at. false) (λ outer. written_since outer frames p)) none).0

since_above : (r : Range) (frame : Frame) (frames : List Frame) (p : Place) → written_since r (frame ∷ frames) p ≡ false
    → holder r 0 frame.entries ≡ None → written_since r frames p ≡ false
since_above r frame frames p none beyond =
    ap (λ (h : Option (ℕ × Entry)). by_holder h (written_since r frames p) (λ at. false) (λ outer. written_since outer frames p)) (sym beyond)
    ∙ (or_parts (frame.before p)
    (by_holder (holder r 0 frame.entries) (written_since r frames p) (λ at. false) (λ outer. written_since outer frames p)) none).1

-- a member and its parent on the way from a domain up to a link
abbrev LeavesAlone : List Domain → Range → Place → NodeId → NodeId → Type 0
LeavesAlone domains r p id up =
    (parent member : NodeId) (over last : Domain) → slice_get domains parent.0 ≡ Some over → slice_get domains member.0 ≡ Some last
    → last.parent ≡ Some parent → Contains (path_of domains id) member → up.0 ≤ parent.0
    → written_before member.0 (body_of (view_in domains parent over)) p ≡ false

way_left_alone : (domains : List Domain) (links : List (List (Option (NodeId × ℕ)))) → PlanFacts domains links → (r : Range) (p : Place)
    → (up : NodeId) (k : ℕ) (id : NodeId) (domain : Domain) → slice_get domains id.0 ≡ Some domain
    → written_since r (frames_of domains id) p ≡ false → link_in r (frames_of domains id) ≡ Some (up, k)
    → LeavesAlone domains r p id up
way_left_alone domains links facts r p up k =
    upward domains
    (λ id domain.
    written_since r (frames_of domains id) p ≡ false → link_in r (frames_of domains id) ≡ Some (up, k) → LeavesAlone domains r p id up)
    (λ id domain there rest none link parent member over last over_there last_there is on low.
    elim (path_cases domains facts.all id domain there member on) [
      | inl same ↦
          let other : slice_get domains id.0 ≡ Some last = subst (λ (i : NodeId). slice_get domains i.0 ≡ Some last) (sym same) last_there in
          let both : last ≡ domain = cc in
          let child : domain.parent ≡ Some parent = ap (λ (d : Domain). d.parent) (sym both) ∙ is in
          let frames : frames_of domains id ≡ frame_over id.0 (view_in domains parent over) ∷ frames_of domains parent =
          facts.up id parent domain over there child over_there in
          ap (λ (i : NodeId). written_before i.0 (body_of (view_in domains parent over)) p) (sym same)
          ∙ since_here r (frame_over id.0 (view_in domains parent over)) (frames_of domains parent) p
          (ap (λ (fs : List Frame). written_since r fs p) (sym frames) ∙ none)
      | inr above ↦
          let view : Node = view_in domains above.parent above.over in
          let frames : frames_of domains id ≡ frame_over id.0 view ∷ frames_of domains above.parent =
          facts.up id above.parent domain above.over there above.is_parent above.there in
          let next : link_in r (frame_over id.0 view ∷ frames_of domains above.parent) ≡ Some (up, k) = ap (link_in r) (sym frames) ∙ link in
          let before : above.parent.0 < id.0 = facts.all.before id above.parent domain there above.is_parent in
          elim (link_by r (frame_over id.0 view) (frames_of domains above.parent) (holder r 0 above.over.entries) refl up k next) [
            | inl beyond ↦
                rest above.parent above.over before above.there
                (since_above r (frame_over id.0 view) (frames_of domains above.parent) p
                (ap (λ (fs : List Frame). written_since r fs p) (sym frames) ∙ none) beyond.0)
                beyond.1 parent member over last over_there last_there is above.on_path low
            | inr here ↦
                let number : above.parent.0 ≡ up.0 = ap (λ (i : NodeId). i.0) here.2 in
                let first : parent.0 < member.0 = facts.all.before member parent last last_there is in
                let ahead : member.0 ≤ above.parent.0 =
                path_before domains facts.all above.parent above.over above.there member above.on_path in
                absurd (omega arith)
          ]
    ])

fresh_at : (plan : PlanModel) → IsPlan plan → PlanFacts plan.tree.domains plan.links → (id up : NodeId) (at k : ℕ) (entry : Entry)
    → entry_at plan.tree.domains id at ≡ Some entry → link_of plan.tree.domains id at ≡ Some (up, k)
    → (p : Place) → in_range entry.range p ≡ true → LeavesAlone plan.tree.domains entry.range p id up
fresh_at plan is facts id up at k entry here link p inside =
    let domains : List Domain = plan.tree.domains in
    let way = reference_of entry.how entry.range (frames_of domains id) (up, k)
    (ap (option_and_then (entry_link (frames_of domains id))) (sym here) ∙ link) in
    let fresh : stale entry.range (frames_of domains id) p ≡ false = (is.linked id at entry here way.0).1 p in
    let domain = domain_of_entry (slice_get domains id.0) here in
    way_left_alone domains plan.links facts entry.range p up k id domain.0 domain.1
    (and_here (in_range entry.range p) (written_since entry.range (frames_of domains id) p) fresh inside) way.1
  where
    domain_of_entry : (o : Option Domain) → option_and_then (λ (domain : Domain). slice_get domain.entries at) o ≡ Some entry
        → (domain : Domain) × (o ≡ Some domain)
    domain_of_entry None is_there = absurd (cc)
    domain_of_entry (Some domain) is_there = (domain, refl)

pub fresh_on_the_way : FreshOnTheWay
fresh_on_the_way plan is id up at k entry here link parent member d found child on low p inside =
    let domains : List Domain = plan.tree.domains in
    let facts : PlanFacts domains plan.links = plan_facts plan is in
    let kin : Family domains parent member = family plan.tree is.program facts.all parent member child in
    let view : d ≡ view_in domains parent kin.over = view_is domains facts.all parent kin.over kin.over_there d found in
    ap (λ (v : Node). written_before member.0 (body_of v) p) view
    ∙ fresh_at plan is facts id up at k entry here link p inside parent member kin.over kin.domain kin.over_there kin.there kin.is_parent on low

pub outer_are_fresh : OuterAreFresh
outer_are_fresh plan is parent id above d found_above found child reference entry among here p inside =
    let domains : List Domain = plan.tree.domains in
    let kin : Kin plan parent id above d = kin_of plan is parent id above d found_above found child in
    let parts : OuterParts domains id kin.family.domain reference =
    outer_parts domains plan.links kin.facts id kin.family.domain kin.family.there reference
    (subst (λ (v : Node). Contains (outer_references v) reference) kin.below_is among) in
    let last = kin.facts.here id kin.family.domain kin.family.there reference.0.0 parts.within in
    let low : parts.link.0.0 ≤ parent.0 =
    path_before domains kin.facts.all parent kin.family.over kin.family.over_there parts.link.0
    (link_over domains kin.facts.all id parent kin.family.domain kin.family.there kin.family.is_parent parts.link.0 parts.on parts.before) in
    ap (λ (v : Node). written_before id.0 (body_of v) p) kin.above_is
    ∙ fresh_at plan is kin.facts reference.0 parts.link.0 reference.1 parts.link.1 entry here parts.is p inside parent id kin.family.over kin.family.domain
    kin.family.over_there kin.family.there kin.family.is_parent
    (top_on_path domains kin.facts.all id kin.family.domain kin.family.there reference.0 last.0 last.1 parts.within) low
