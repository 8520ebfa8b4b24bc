-- What a program touches, what it computes where nothing fails, and how many blocks a run of it needs.
use Rattle.std.specs.Prelude.{◌≡◌, ℕ, ◌+◌, ◌&&◌, ◌||◌, not, true, false, List, [], ◌∷◌, if◌then◌else◌, max, sum_by, Option, Some, None, nat_lt, slice_get}
use Rattle.cd_base.specs.declared.place.Place.{Place}
use Rattle.cd_base.specs.declared.place.Range.{Range}
use Rattle.cd_base.specs.Words.{Words, PlaceSet, in_range, in_ranges, pattern_word}
use Rattle.cd_tree.specs.declared.domain.Entry.{Entry}
use Rattle.cd_tree.specs.declared.domain.How.{How}
use Rattle.cd_tree.specs.declared.domain.How.TheVariants.{Copy, Refer, Regen}
use Rattle.cd_tree.specs.declared.document.Region.{Region}
use Rattle.cd_tree.specs.Limits.{blocks_for}
use Rattle.cd_tree.specs.Operations.{op_reads, op_writes, op_meaning, length_of}
use Rattle.cd_tree.specs.Domains.{Node, Body, Members, node, stop, run, group, no_more, member, body_of, Throughout}

-- the word that a region begins with at an index
abbrev pub initial_word : Option Region → ℕ → Option ℕ
initial_word None i = None
initial_word (Some region) i = if nat_lt i region.length then Some (pattern_word region.pattern i) else None

-- the words that regions begin with
abbrev pub initial : List Region → Words
initial regions = λ p. initial_word (slice_get regions p.region) p.index

-- the places of a list of entries
abbrev pub in_entries : List Entry → PlaceSet
in_entries [] p = false
in_entries (entry ∷ entries) p = in_range entry.range p || in_entries entries p

abbrev mutual
  -- the places that a domain reads: its entries', its operations' sources, its members' reads
  pub node_reads : Node → PlaceSet
  node_reads (node id domain body) p = in_entries domain.entries p || body_reads body p

  pub body_reads : Body → PlaceSet
  body_reads stop p = false
  body_reads (run op rest) p = in_ranges (op_reads op) p || body_reads rest p
  body_reads (group members rest) p = member_reads members p || body_reads rest p

  pub member_reads : Members → PlaceSet
  member_reads no_more p = false
  member_reads (member first rest) p = node_reads first p || member_reads rest p

abbrev mutual
  -- the places that a domain writes: its operations' destinations, its members' writes
  pub node_writes : Node → PlaceSet
  node_writes (node id domain body) p = body_writes body p

  pub body_writes : Body → PlaceSet
  body_writes stop p = false
  body_writes (run op rest) p = in_range (op_writes op) p || body_writes rest p
  body_writes (group members rest) p = member_writes members p || body_writes rest p

  pub member_writes : Members → PlaceSet
  member_writes no_more p = false
  member_writes (member first rest) p = node_writes first p || member_writes rest p

-- the places that a domain reads or writes
abbrev pub node_reach : Node → PlaceSet
node_reach d p = node_reads d p || node_writes d p

-- these words, with others where a test holds
abbrev pub written : PlaceSet → Words → Words → Words
written places others w = λ p. if places p then others p else w p

abbrev mutual
  -- the words after a domain in which nothing fails
  pub node_meaning : Node → Words → Words
  node_meaning (node id domain body) w = body_meaning body w

  pub body_meaning : Body → Words → Words
  body_meaning stop w = w
  body_meaning (run op rest) w = body_meaning rest (op_meaning op w)
  body_meaning (group members rest) w = body_meaning rest (members_meaning members w w)

  -- each member starts from the words before the group, and gives the places that it writes
  pub members_meaning : Members → Words → Words → Words
  members_meaning no_more before after = after
  members_meaning (member first rest) before after =
      members_meaning rest before (written (node_writes first) (node_meaning first before) after)

-- the places at which two domains interfere: one of them writes there, and the other reaches there
abbrev pub clash : Node → Node → PlaceSet
clash one other p = (node_writes one p && node_reach other p) || (node_writes other p && node_reach one p)

abbrev pub DoNotClash : Node → Node → Type 0
DoNotClash one other = (p : Place) → clash one other p ≡ false

abbrev pub IsApartFrom : Node → Members → Type 0
IsApartFrom one no_more = Unit {0}
IsApartFrom one (member first rest) = DoNotClash one first × IsApartFrom one rest

-- no two members of a group interfere
abbrev pub MembersApart : Members → Type 0
MembersApart no_more = Unit {0}
MembersApart (member first rest) = IsApartFrom first rest × MembersApart rest

abbrev pub GroupsApart : Body → Type 0
GroupsApart stop = Unit {0}
GroupsApart (run op rest) = GroupsApart rest
GroupsApart (group members rest) = MembersApart members × GroupsApart rest

-- in each group of a domain and of those below it no two members interfere
abbrev pub IsDisjoint : Node → Type 0
IsDisjoint d = Throughout (λ e. GroupsApart (body_of e)) d

-- each place of the first set is in the second
abbrev pub LieIn : PlaceSet → PlaceSet → Type 0
LieIn inner outer = (p : Place) → inner p ≡ true → outer p ≡ true

abbrev mutual
  -- each place that a domain's operations touch, or that a member reaches, is in one of its entries; and so below it
  pub IsCovered : Node → Type 0
  IsCovered (node id domain body) = CoversBody (in_entries domain.entries) body

  pub CoversBody : PlaceSet → Body → Type 0
  CoversBody entries stop = Unit {0}
  CoversBody entries (run op rest) = LieIn (in_ranges (op_writes op ∷ op_reads op)) entries × CoversBody entries rest
  CoversBody entries (group members rest) = CoversMembers entries members × CoversBody entries rest

  pub CoversMembers : PlaceSet → Members → Type 0
  CoversMembers entries no_more = Unit {0}
  CoversMembers entries (member first rest) =
      LieIn (node_reach first) entries × IsCovered first × CoversMembers entries rest

-- the places that a domain's own body touches and its entries leave out
abbrev pub uncovered : Node → PlaceSet
uncovered (node id domain body) p = (body_reads body p || body_writes body p) && not (in_entries domain.entries p)

-- the blocks that a copy of a range takes
abbrev pub blocks_of : Range → ℕ
blocks_of r = blocks_for (length_of r)

-- a shared range may meet one block more, since it may begin inside one
abbrev pub blocks_kept : How → Range → ℕ
blocks_kept Copy r = blocks_of r
blocks_kept Refer r = blocks_of r + 1
blocks_kept (Regen pattern) r = blocks_of r

abbrev pub entry_need : Entry → ℕ
entry_need entry = blocks_kept entry.how entry.range

abbrev mutual
  -- the most blocks that a domain and those below it hold at once
  pub node_need : Node → ℕ
  node_need (node id domain body) = sum_by entry_need domain.entries + body_need body

  pub body_need : Body → ℕ
  body_need stop = 0
  body_need (run op rest) = body_need rest
  body_need (group members rest) = max (members_need members) (body_need rest)

  pub members_need : Members → ℕ
  members_need no_more = 0
  members_need (member first rest) = node_need first + members_need rest
