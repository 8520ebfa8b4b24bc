-- Where a reference leads: its link, its target, and the places that are written on the way from there.
use Rattle.std.specs.Prelude.{◌≡◌, ℕ, suc, Bool, true, false, ◌&&◌, ◌||◌, nat_le, ◌==◌, if◌then◌else◌, List, [], ◌∷◌, Option, None, Some, reverse}
use Rattle.std.specs.Option.{option_and_then}
use Rattle.cd_base.specs.declared.place.Range.{Range}
use Rattle.cd_base.specs.Words.{PlaceSet, in_range}
use Rattle.cd_tree.specs.declared.domain.NodeId.{NodeId}
use Rattle.cd_tree.specs.declared.domain.How.{How}
use Rattle.cd_tree.specs.declared.domain.How.TheVariants.{Copy, Refer, Regen}
use Rattle.cd_tree.specs.declared.domain.Entry.{Entry}
use Rattle.cd_tree.specs.declared.domain.Domain.{Domain}
use Rattle.cd_tree.specs.Operations.{op_writes}
use Rattle.cd_tree.specs.Domains.{Node, Body, Members, node, stop, run, group, no_more, member, number_of, node_of}
use Rattle.cd_tree.specs.Meaning.{member_writes}
use Rattle.cd_tree.specs.Legal.{entry_at}
use Rattle.cd_tree.specs.Scripts.{path_of}

-- a domain as one that lies in it sees it: its number, its entries, and the places that its items write before the item
-- in which that one lies
pub record Frame : Type 0 where
  pub node : NodeId
  pub entries : List Entry
  pub before : PlaceSet

abbrev pub has_member : ℕ → Members → Bool
has_member n no_more = false
has_member n (member first rest) = (number_of first == n) || has_member n rest

-- the places that items write before the group of which the domain of this number is a member
abbrev pub written_before : ℕ → Body → PlaceSet
written_before n stop p = false
written_before n (run op rest) p = in_range (op_writes op) p || written_before n rest p
written_before n (group members rest) p =
    if has_member n members then false else (member_writes members p || written_before n rest p)

abbrev pub frame_over : ℕ → Node → Frame
frame_over n (node id domain body) = record { node = id; entries = domain.entries; before = written_before n body }

abbrev pub put_frame : ℕ → Option Node → List Frame → List Frame
put_frame n None frames = frames
put_frame n (Some d) frames = frame_over n d ∷ frames

-- the frames over a domain, along the numbers of those above it
abbrev pub frames_over : List Domain → NodeId → List NodeId → List Frame
frames_over domains id [] = []
frames_over domains id (parent ∷ up) = put_frame id.0 (node_of domains parent) (frames_over domains parent up)

abbrev pub frames_up : List Domain → List NodeId → List Frame
frames_up domains [] = []
frames_up domains (id ∷ up) = frames_over domains id up

-- the frames over a domain, its parent's first and the root's last
abbrev pub frames_of : List Domain → NodeId → List Frame
frames_of domains id = frames_up domains (reverse (path_of domains id))

abbrev pub holds_range : Range → Range → Bool
holds_range outer r = (outer.region == r.region) && (nat_le outer.low r.low && nat_le r.high outer.high)

-- what a pattern gives anew is kept nowhere, so nothing can refer to it
abbrev pub is_kept : How → Bool
is_kept Copy = true
is_kept Refer = true
is_kept (Regen pattern) = false

-- the first copy or reference among entries, numbered from `at` on, that holds the range
abbrev pub holder : Range → ℕ → List Entry → Option (ℕ × Entry)
holder r at [] = None
holder r at (entry ∷ entries) =
    if is_kept entry.how && holds_range entry.range r then Some (at, entry) else holder r (suc at) entries

-- what comes of a holder: there is none; it is a copy; it is a reference, which leads on
abbrev pub by_way : {A : Type 0} → How → A → (Range → A) → A → Range → A
by_way Copy here through none r = here
by_way Refer here through none r = through r
by_way (Regen pattern) here through none r = none

abbrev pub by_holder : {A : Type 0} → Option (ℕ × Entry) → A → (ℕ → A) → (Range → A) → A
by_holder None beyond here through = beyond
by_holder (Some (at, entry)) beyond here through = by_way entry.how (here at) through beyond entry.range

-- the link of a reference: the first copy or reference that holds its range, in the nearest domain above that has one
abbrev pub link_in : Range → List Frame → Option (NodeId × ℕ)
link_in r [] = None
link_in r (frame ∷ frames) = by_holding (holder r 0 frame.entries) frame.node (link_in r frames)
  where
    by_holding : Option (ℕ × Entry) → NodeId → Option (NodeId × ℕ) → Option (NodeId × ℕ)
    by_holding None id beyond = beyond
    by_holding (Some (at, entry)) id beyond = Some (id, at)

-- its target: the link, followed while the link is itself a reference
abbrev pub target_in : Range → List Frame → Option (NodeId × ℕ)
target_in r [] = None
target_in r (frame ∷ frames) =
    by_holder (holder r 0 frame.entries) (target_in r frames) (λ at. Some (frame.node, at)) (λ outer. target_in outer frames)

-- the places that are written, in the target's domain and in those between, before the item in which the reference lies
abbrev pub written_since : Range → List Frame → PlaceSet
written_since r [] p = false
written_since r (frame ∷ frames) p =
    frame.before p
    || by_holder (holder r 0 frame.entries) (written_since r frames p) (λ at. false) (λ outer. written_since outer frames p)

-- the places at which a reference is stale
abbrev pub stale : Range → List Frame → PlaceSet
stale r frames p = in_range r p && written_since r frames p

abbrev pub IsFresh : Range → List Frame → Type 0
IsFresh r frames = (p : _) → stale r frames p ≡ false

-- the link of an entry, where it is a reference
abbrev pub entry_link : List Frame → Entry → Option (NodeId × ℕ)
entry_link frames entry = by_way entry.how None (λ r. link_in r frames) None entry.range

-- the link of an entry of a domain, both by their numbers
abbrev pub link_of : List Domain → NodeId → ℕ → Option (NodeId × ℕ)
link_of domains id entry = option_and_then (entry_link (frames_of domains id)) (entry_at domains id entry)
