-- The first items of a body and the words after them: what a domain has where it waits for a group, and as it goes on.
use Rattle.std.specs.Prelude.{◌≡◌, ◌↔◌, ℕ, zero, suc, ◌-◌, ◌≤◌, min, false, List, length, take, drop, Option, Some, slice_get, IsSome}
use Rattle.cd_base.specs.declared.place.Place.{Place}
use Rattle.cd_base.specs.Words.{Words, PlaceSet}
use Rattle.cd_tree.specs.declared.domain.NodeId.{NodeId}
use Rattle.cd_tree.specs.declared.domain.Item.{Item}
use Rattle.cd_tree.specs.declared.domain.Item.TheVariants.{Run, Group}
use Rattle.cd_tree.specs.declared.operation.Op.{Op}
use Rattle.cd_tree.specs.Operations.{op_meaning}
use Rattle.cd_tree.specs.Domains.{Node, Body, Members, stop, run, group, domain_of, body_of, body_by, members_by, body_behind}
use Rattle.cd_tree.specs.Meaning.{in_entries, node_reads, node_writes, node_reach, body_reads, body_writes, body_meaning, members_meaning, GroupsApart, IsDisjoint, IsCovered, CoversBody, LieIn}
use Rattle.cd_tree.specs.Locality.{SameWords, in_either, AllShapesFit, BodyShapesFit}
use Rattle.cd_tree.specs.Absorbing.{IsMember, GiveMeanings, absorbed}

-- the first k items of a body
abbrev pub first_items : ℕ → Body → Body
first_items zero body = stop
first_items (suc k) stop = stop
first_items (suc k) (run op rest) = run op (first_items k rest)
first_items (suc k) (group members rest) = group members (first_items k rest)

-- the words after the first k items
abbrev pub meaning_of_first : ℕ → Body → Words → Words
meaning_of_first k body w = body_meaning (first_items k body) w

-- the words after the next item; where there is none, as they are
abbrev pub item_meaning : Body → Words → Words
item_meaning stop w = w
item_meaning (run op rest) w = op_meaning op w
item_meaning (group members rest) w = members_meaning members w w

-- how many items a body has
abbrev pub body_length : Body → ℕ
body_length stop = 0
body_length (run op rest) = suc (body_length rest)
body_length (group members rest) = suc (body_length rest)

-- the words of a domain that began with `begun` and waits for the group that is its item k, where nothing was noted
abbrev pub waiting_words : Node → ℕ → Words → Words
waiting_words d k begun = meaning_of_first k (body_of d) begun

-- its words as it goes on behind that group
abbrev pub resumed_words : Node → ℕ → Words → Words
resumed_words d k begun = meaning_of_first (suc k) (body_of d) begun

-- a member of the group that is item k of a domain
abbrev pub IsMemberAt : Node → ℕ → Node → Type 0
IsMemberAt d k one =
    (members : Members) × (rest : Body) × (body_behind k (body_of d) ≡ group members rest) × IsMember one members

-- the first items, and then those behind them, are all
abbrev pub FirstThenRest : Type 0
FirstThenRest = (k : ℕ) (body : Body) (w : Words) → body_meaning (body_behind k body) (meaning_of_first k body w) ≡ body_meaning body w

-- as many items as there are, are all
abbrev pub EnoughAreAll : Type 0
EnoughAreAll = (k : ℕ) (body : Body) (w : Words) → body_length body ≤ k → meaning_of_first k body w ≡ body_meaning body w

-- with one item more, that item's meaning comes last
abbrev pub OneItemMore : Type 0
OneItemMore =
    (k : ℕ) (body : Body) (w : Words) → meaning_of_first (suc k) body w ≡ item_meaning (body_behind k body) (meaning_of_first k body w)

-- where the next item is an operation, it has its meaning; where it is a group, its members have theirs
abbrev pub RunComesNext : Type 0
RunComesNext =
    (k : ℕ) (body : Body) (op : Op) (rest : Body) (w : Words) → body_behind k body ≡ run op rest
    → op_meaning op (meaning_of_first k body w) ≡ meaning_of_first (suc k) body w

abbrev pub GroupComesNext : Type 0
GroupComesNext =
    (k : ℕ) (body : Body) (members : Members) (rest : Body) (w : Words) → body_behind k body ≡ group members rest
    → members_meaning members (meaning_of_first k body w) (meaning_of_first k body w) ≡ meaning_of_first (suc k) body w

-- behind one item more is what stands behind the next item
abbrev pub OneItemLess : Type 0
OneItemLess = (k : ℕ) (body : Body) → body_behind (suc k) body ≡ body_behind 1 (body_behind k body)

-- the first items, and those behind them, as the list of items has them
abbrev pub ItemsBehind : Type 0
ItemsBehind =
    (k : ℕ) (find : NodeId → Option Node) (items : List Item) → body_behind k (body_by find items) ≡ body_by find (drop k items)

abbrev pub ItemsBefore : Type 0
ItemsBefore =
    (k : ℕ) (find : NodeId → Option Node) (items : List Item) → first_items k (body_by find items) ≡ body_by find (take k items)

-- item k of the list, or its end, is what stands behind the first k items
abbrev pub BehindIsRun : Type 0
BehindIsRun =
    (k : ℕ) (find : NodeId → Option Node) (items : List Item) (op : Op) → slice_get items k ≡ Some (Run op)
    → body_behind k (body_by find items) ≡ run op (body_behind (suc k) (body_by find items))

abbrev pub BehindIsGroup : Type 0
BehindIsGroup =
    (k : ℕ) (find : NodeId → Option Node) (items : List Item) (ids : List NodeId) → slice_get items k ≡ Some (Group ids)
    → body_behind k (body_by find items) ≡ group (members_by find ids) (body_behind (suc k) (body_by find items))

abbrev pub BehindIsNothing : Type 0
BehindIsNothing =
    (k : ℕ) (find : NodeId → Option Node) (items : List Item) → length items ≤ k → body_behind k (body_by find items) ≡ stop

-- the members of a group are the domains that are found by the numbers in its list
abbrev pub MembersAreNamed : Type 0
MembersAreNamed =
    (find : NodeId → Option Node) (ids : List NodeId) (d : Node)
    → IsMember d (members_by find ids) ↔ ((j : ℕ) × (id : NodeId) × (slice_get ids j ≡ Some id) × (find id ≡ Some d))

abbrev pub LengthOfItems : Type 0
LengthOfItems = (find : NodeId → Option Node) (items : List Item) → body_length (body_by find items) ≡ length items

abbrev pub LengthBehind : Type 0
LengthBehind = (k : ℕ) (body : Body) → body_length (body_behind k body) ≡ body_length body - k

abbrev pub LengthOfFirst : Type 0
LengthOfFirst = (k : ℕ) (body : Body) → body_length (first_items k body) ≡ min k (body_length body)

-- what holds of all items of a body, for the laws on meanings
pub record PartOf (part whole : Body) : Type 0 where
  pub reads : LieIn (body_reads part) (body_reads whole)
  pub writes : LieIn (body_writes part) (body_writes whole)
  pub shapes : BodyShapesFit whole → BodyShapesFit part
  pub covered : (entries : PlaceSet) → CoversBody entries whole → CoversBody entries part
  pub apart : GroupsApart whole → GroupsApart part

-- the first items are a part of a body, and so are those behind them
abbrev pub FirstArePart : Type 0
FirstArePart = (k : ℕ) (body : Body) → PartOf (first_items k body) body

abbrev pub BehindArePart : Type 0
BehindArePart = (k : ℕ) (body : Body) → PartOf (body_behind k body) body

-- the first items change no word but those that they write
abbrev pub FirstLeaveOthers : Type 0
FirstLeaveOthers =
    (k : ℕ) (body : Body) (w : Words) (p : Place) → body_writes (first_items k body) p ≡ false → meaning_of_first k body w p ≡ w p

-- the first items take no word away
abbrev pub FirstKeepWords : Type 0
FirstKeepWords = (k : ℕ) (body : Body) (w : Words) (p : Place) → IsSome (w p) → IsSome (meaning_of_first k body w p)

-- words that agree in places that hold what the first items read agree, after them, there and where they write
abbrev pub FirstKeepAgreement : Type 0
FirstKeepAgreement =
    (k : ℕ) (body : Body) (places : PlaceSet) (v w : Words) → BodyShapesFit body → LieIn (body_reads (first_items k body)) places
    → SameWords places v w → SameWords (in_either places (body_writes (first_items k body))) (meaning_of_first k body v) (meaning_of_first k body w)

-- words that agree in the entries of a covered domain agree there after its first items
abbrev pub FirstAgreeInEntries : Type 0
FirstAgreeInEntries =
    (k : ℕ) (d : Node) (v w : Words) → AllShapesFit d → IsCovered d → SameWords (in_entries (domain_of d).entries) v w
    → SameWords (in_entries (domain_of d).entries) (meaning_of_first k (body_of d) v) (meaning_of_first k (body_of d) w)

-- words that are right in places that hold what a domain reads are right there after its next item
abbrev pub NextItemAgrees : Type 0
NextItemAgrees =
    (d : Node) (k : ℕ) (places : PlaceSet) (begun now : Words) → AllShapesFit d → LieIn (node_reads d) places
    → SameWords places now (meaning_of_first k (body_of d) begun)
    → SameWords places (item_meaning (body_behind k (body_of d)) now) (meaning_of_first (suc k) (body_of d) begun)

-- at a group, what its members give is written into the words with which the domain waits, and it goes on with these
abbrev pub MembersResume : Type 0
MembersResume =
    (d : Node) (k : ℕ) (members : Members) (rest : Body) (begun : Words) (given : List Words)
    → body_behind k (body_of d) ≡ group members rest → GiveMeanings members (waiting_words d k begun) given
    → absorbed members given (waiting_words d k begun) ≡ resumed_words d k begun

-- the same where only the words in some places are known, which hold what the domain reads
abbrev pub MembersResumeIn : Type 0
MembersResumeIn =
    (d : Node) (k : ℕ) (members : Members) (rest : Body) (places : PlaceSet) (begun now : Words) (given : List Words)
    → AllShapesFit d → LieIn (node_reads d) places → body_behind k (body_of d) ≡ group members rest
    → SameWords places now (waiting_words d k begun) → GiveMeanings members now given
    → SameWords places (absorbed members given now) (resumed_words d k begun)

-- a member of a domain reads and writes no more than the domain does
abbrev pub MembersTouchLess : Type 0
MembersTouchLess =
    (d one : Node) (k : ℕ) → IsMemberAt d k one → LieIn (node_reads one) (node_reads d) × LieIn (node_writes one) (node_writes d)

-- a member of a covered domain is covered, and reaches places of the domain's entries alone
abbrev pub MembersAreCovered : Type 0
MembersAreCovered =
    (d one : Node) (k : ℕ) → IsMemberAt d k one → IsCovered d
    → IsCovered one × LieIn (node_reach one) (in_entries (domain_of d).entries)

-- shapes are right in a member, too, and siblings below it are apart
abbrev pub MembersShapesFit : Type 0
MembersShapesFit = (d one : Node) (k : ℕ) → IsMemberAt d k one → AllShapesFit d → AllShapesFit one

abbrev pub MembersAreDisjoint : Type 0
MembersAreDisjoint = (d one : Node) (k : ℕ) → IsMemberAt d k one → IsDisjoint d → IsDisjoint one
