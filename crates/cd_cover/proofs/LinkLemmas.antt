-- A link leads to an entry of a domain above, which holds the range and can be referred to.
use Rattle.std.proofs.Common.{◌≡◌, ℕ, zero, suc, ◌+◌, ◌<◌, true, ◌&&◌, List, [], ◌∷◌, ◌++◌, ◌⊎◌, Option, None, Some, IsSomeAnd, length, slice_get, zero-add, refl, sym, ap, ◌∙◌, subst, inl, inr, arith}
use Rattle.std.specs.Option.{option_and_then, option_map_or}
use Rattle.std.specs.List.{Contains}
use Rattle.std.proofs.lemmas.List.Elements.{Contains-append_left, Contains-push}
use Rattle.std.proofs.lemmas.Bool.{cases_Bool, and_parts}
use Rattle.std.proofs.lemmas.Option.{slice_get_within, some_pair_parts, none-some, option_and_then_some}
use Rattle.cd_base.specs.declared.place.Range.{Range}
use Rattle.cd_base.proofs.ListLemmas.{some_and}
use Rattle.cd_tree.specs.declared.domain.NodeId.{NodeId}
use Rattle.cd_tree.specs.declared.domain.How.{How}
use Rattle.cd_tree.specs.declared.domain.How.TheVariants.{Copy, Refer, Regen}
use Rattle.cd_tree.specs.declared.domain.Entry.{Entry}
use Rattle.cd_tree.specs.declared.domain.Domain.{Domain}
use Rattle.cd_tree.specs.TreeModel.{TreeModel, IsTree}
use Rattle.cd_tree.specs.Domains.{node, body_by, node_of}
use Rattle.cd_tree.specs.Scripts.{path_of}
use Rattle.cd_tree.specs.Legal.{entry_at}
use Rattle.cd_tree.proofs.View.{domain_here}
use Rattle.cd_cover.specs.Laws.{HoldsLink, LinksLead}
use Rattle.cd_cover.specs.Links.{Frame, frame_over, frames_of, is_kept, holds_range, holder, by_way, link_in, entry_link}
use Rattle.cd_cover.proofs.Grounds.{parents, paths}
use Rattle.cd_cover.proofs.Frames.{frames_go_up, frames_end}

-- an entry among others that holds a range
holder_is : (r : Range) (at : ℕ) (entries : List Entry) (k : ℕ) (entry : Entry) → holder r at entries ≡ Some (k, entry)
    → (i : ℕ) × (k ≡ at + i) × (slice_get entries i ≡ Some entry) × (is_kept entry.how && holds_range entry.range r) ≡ true
holder_is r at [] k entry is = absurd (cc)
holder_is r at (first ∷ entries) k entry is =
    elim (cases_Bool (is_kept first.how && holds_range first.range r)) [
      | inl kept ↦
          let same : (at ≡ k) × (first ≡ entry) = some_pair_parts at k first entry (rw kept at is) in
          (0, sym same.0 ∙ omega arith, ap Some same.1, rw (← same.1) kept)
      | inr other ↦
          let rest = holder_is r (suc at) entries k entry (rw other at is) in
          (suc rest.0, rest.1 ∙ omega arith, rest.2, rest.3)
    ]

pub link_by : (r : Range) (frame : Frame) (frames : List Frame) (h : Option (ℕ × Entry)) → holder r 0 frame.entries ≡ h
    → (up : NodeId) (k : ℕ) → link_in r (frame ∷ frames) ≡ Some (up, k)
    → ((h ≡ None) × (link_in r frames ≡ Some (up, k))) ⊎ ((entry : Entry) × (h ≡ Some (k, entry)) × (frame.node ≡ up))
link_by r frame frames None is up k link = inl (refl, rw is at link)
link_by r frame frames (Some (at, entry)) is up k link =
    let same : (frame.node ≡ up) × (at ≡ k) = some_pair_parts frame.node up at k (rw is at link) in
    inr (entry, ap (λ n. Some (n, entry)) same.1, same.0)

-- what a link of a range over a domain leads to
abbrev pub Leads : TreeModel → NodeId → Range → NodeId → ℕ → Type 0
Leads tree id r up k = Contains (path_of tree.domains id) up × (up.0 < id.0) × IsSomeAnd (entry_at tree.domains up k) (HoldsLink r)

entry_here : (domains : List Domain) (id up : NodeId) (k : ℕ) (domain : Domain) (entry : Entry) → slice_get domains id.0 ≡ Some domain → id ≡ up
    → slice_get domain.entries k ≡ Some entry → entry_at domains up k ≡ Some entry
entry_here domains id up k domain entry there same is =
    ap (λ i. entry_at domains i k) (sym same) ∙ ap (option_and_then (λ (d : Domain). slice_get d.entries k)) there ∙ is

path_below : (tree : TreeModel) → IsTree tree → (id parent : NodeId) (domain : Domain) → slice_get tree.domains id.0 ≡ Some domain
    → domain.parent ≡ Some parent → path_of tree.domains id ≡ path_of tree.domains parent ++ id ∷ []
path_below tree is id parent domain there some =
    paths tree is id domain there ∙ ap (λ (o : Option NodeId). option_map_or (path_of tree.domains) o [] ++ id ∷ []) some

above_itself : (tree : TreeModel) → IsTree tree → (id parent up : NodeId) (domain above : Domain)
    → slice_get tree.domains id.0 ≡ Some domain → domain.parent ≡ Some parent → slice_get tree.domains parent.0 ≡ Some above
    → Contains (path_of tree.domains parent) up → Contains (path_of tree.domains id) up
above_itself tree is id parent up domain above there some here among =
    subst (λ (ids : List NodeId). Contains ids up) (sym (path_below tree is id parent domain there some))
    (Contains-append_left (path_of tree.domains parent) (id ∷ []) up among)

on_its_path : (tree : TreeModel) → IsTree tree → (id : NodeId) (domain : Domain) → slice_get tree.domains id.0 ≡ Some domain
    → Contains (path_of tree.domains id) id
on_its_path tree is id domain there =
    subst (λ (ids : List NodeId). Contains ids id) (sym (paths tree is id domain there))
    (Contains-push (option_map_or (path_of tree.domains) domain.parent []) id)

leads_here : (tree : TreeModel) (id parent up : NodeId) (above : Domain) (r : Range) (k : ℕ) (entry : Entry)
    → Contains (path_of tree.domains id) parent → parent.0 < id.0
    → slice_get tree.domains parent.0 ≡ Some above → holder r 0 above.entries ≡ Some (k, entry) → parent ≡ up → Leads tree id r up k
leads_here tree id parent up above r k entry among before there holds same =
    let found = holder_is r 0 above.entries k entry holds in
    let number : k ≡ found.0 = found.1 ∙ zero-add found.0 in
    let here : entry_at tree.domains up k ≡ Some entry =
    entry_here tree.domains parent up k above entry there same (ap (slice_get above.entries) number ∙ found.2) in (
      subst (λ i. Contains (path_of tree.domains id) i) same among,
      subst (λ i. i.0 < id.0) same before,
      some_and (entry_at tree.domains up k) (HoldsLink r) entry here (and_parts (is_kept entry.how) (holds_range entry.range r) found.3),
    )

pub leads_at : (tree : TreeModel) → IsTree tree → (n : ℕ) (id : NodeId) (domain : Domain) → id.0 < n
    → slice_get tree.domains id.0 ≡ Some domain → (r : Range) (up : NodeId) (k : ℕ)
    → link_in r (frames_of tree.domains id) ≡ Some (up, k) → Leads tree id r up k
leads_at tree is zero id domain below there r up k link = absurd (omega arith)
leads_at tree is (suc n) id domain below there r up k link =
    by_parent (leads_at tree is n) domain.parent refl
  where
    by_parent : ((i : NodeId) (d : Domain) → i.0 < n → slice_get tree.domains i.0 ≡ Some d → (s : Range) (u : NodeId) (j : ℕ)
        → link_in s (frames_of tree.domains i) ≡ Some (u, j) → Leads tree i s u j)
        → (parent : Option NodeId) → domain.parent ≡ parent → Leads tree id r up k
    by_parent further None none =
        let end : frames_of tree.domains id ≡ [] = frames_end tree is id domain there none in
        let nothing : None ≡ Some (up, k) = ap (link_in r) (sym end) ∙ link in
        absurd (none-some (up, k) nothing)
    by_parent further (Some parent) some =
        let before : parent.0 < id.0 = parents tree is id parent domain there some in
        let within : id.0 < length tree.domains = slice_get_within tree.domains id.0 domain there in
        let above = domain_here tree.domains parent.0 (omega arith) in
        let frame : Frame = frame_over id.0 (node parent above.0 (body_by (node_of tree.domains) above.0.items)) in
        let next : link_in r (frame ∷ frames_of tree.domains parent) ≡ Some (up, k) =
        ap (link_in r) (sym (frames_go_up tree is id parent domain above.0 there some above.1)) ∙ link in
        elim (link_by r frame (frames_of tree.domains parent) (holder r 0 frame.entries) refl up k next) [
          | inl rest ↦
              let found = further parent above.0 (omega arith) above.1 r up k rest.1 in
              (above_itself tree is id parent up domain above.0 there some above.1 found.0, omega arith, found.2)
          | inr here ↦
              leads_here tree id parent up above.0 r k here.0
              (above_itself tree is id parent parent domain above.0 there some above.1 (on_its_path tree is parent above.0 above.1))
              before above.1 here.1 here.2
        ]

way_some : (how : How) (r : Range) (frames : List Frame) (up : NodeId) (k : ℕ)
    → by_way how None (λ s. link_in s frames) None r ≡ Some (up, k) → link_in r frames ≡ Some (up, k)
way_some Copy r frames up k link = absurd (none-some (up, k) link)
way_some Refer r frames up k link = link
way_some (Regen pattern) r frames up k link = absurd (none-some (up, k) link)

pub links_lead : LinksLead
links_lead tree is id up at k entry there link =
    let found : link_in entry.range (frames_of tree.domains id) ≡ Some (up, k) =
    way_some entry.how entry.range (frames_of tree.domains id) up k
    (ap (option_and_then (entry_link (frames_of tree.domains id))) (sym there) ∙ link) in
    option_and_then_some (λ (d : Domain). slice_get d.entries at) (slice_get tree.domains id.0) entry there
    (λ domain here rest. leads_at tree is (suc id.0) id domain (omega arith) here entry.range up k found)
