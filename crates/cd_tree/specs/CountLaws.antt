-- How readings depend on counts and change them: laws over every case, every domain and every counts.
use Rattle.std.specs.Prelude.{◌≡◌, ℕ, ◌+◌, ◌*◌, ◌≤◌, Bool, true, false, cond, ◌==◌, ◌||◌, List, [], ◌∷◌, if◌then◌else◌}
use Rattle.cd_tree.specs.KindSets.{no_kinds}
use Rattle.cd_tree.specs.Domains.{Node, Body, Members, no_more, member, node_numbers, body_numbers, member_numbers}
use Rattle.cd_tree.specs.TreeModel.{TreeModel, IsTree}
use Rattle.cd_tree.specs.Reading.{Case, Counts, silence, Told, told, GroupEnd, AllDone, Try, with_member, read_node, read_points, read_members}
use Rattle.cd_tree.specs.Laws.{OfEach}
use Rattle.cd_tree.specs.Slices.{among}

-- how often n stands among these numbers
abbrev pub copies : ℕ → List ℕ → ℕ
copies n [] = 0
copies n (number ∷ numbers) = cond (n == number) 1 0 + copies n numbers

-- no number stands among these twice
abbrev pub AreDistinct : List ℕ → Type 0
AreDistinct numbers = (n : ℕ) → copies n numbers ≤ 1

-- the new counts of these numbers, and the old ones of all others
abbrev pub counts_on : List ℕ → Counts → Counts → Counts
counts_on numbers new old = λ n. if among numbers n then new n else old n

abbrev pub AgreeOn : List ℕ → Counts → Counts → Type 0
AgreeOn numbers counts other = (n : ℕ) → among numbers n ≡ true → counts n ≡ other n

-- a part of the reading as it is from other counts: the same, and the counts of other numbers stay as they were
abbrev pub from_other : {A : Type 0} → List ℕ → Counts → Told A → Told A
from_other numbers other t = record t { counts = counts_on numbers t.counts other }

-- a domain's reading knows, and changes, no counts but those of the domain and those below it
abbrev pub ReadsOwnCounts : Type 0
ReadsOwnCounts =
    (w : Case) (d : Node) (counts other : Counts) → AgreeOn (node_numbers d) counts other
    → read_node w d other ≡ from_other (node_numbers d) other (read_node w d counts)

-- the same of the rest of a try
abbrev pub ReadsPointsCounts : Type 0
ReadsPointsCounts =
    (w : Case) (body : Body) (h : Try) (point notes : ℕ) (counts other : Counts) → AgreeOn (body_numbers body) counts other
    → read_points w body h point notes other ≡ from_other (body_numbers body) other (read_points w body h point notes counts)

-- the same of the members of a group
abbrev pub ReadsMembersCounts : Type 0
ReadsMembersCounts =
    (w : Case) (members : Members) (counts other : Counts) → AgreeOn (member_numbers members) counts other
    → read_members w members other ≡ from_other (member_numbers members) other (read_members w members counts)

-- the members of a group, each read from the counts when all were sent, and its counts put in among those now
abbrev pub read_each : Case → Members → Counts → Counts → Told GroupEnd
read_each w no_more sent now = told silence now (AllDone no_kinds)
read_each w (member first rest) sent now =
    with_member (from_other (node_numbers first) now (read_node w first sent)) (λ more. read_each w rest sent more)

-- members that are read each by itself come to what they come to when they are read in order
abbrev pub EachIsInOrder : Type 0
EachIsInOrder =
    (w : Case) (members : Members) (sent : Counts) → AreDistinct (member_numbers members)
    → read_each w members sent sent ≡ read_members w members sent

-- a domain's reading adds to a count at most one for each time that its number stands in the domain, and as many again for
-- each try that was repeated
abbrev pub CountsGrowByRepeats : Type 0
CountsGrowByRepeats =
    (w : Case) (d : Node) (counts : Counts) (n : ℕ)
    → (read_node w d counts).counts n ≤ counts n + copies n (node_numbers d) * (1 + (read_node w d counts).past.repeats)

-- no count falls
abbrev pub CountsDoNotFall : Type 0
CountsDoNotFall = (w : Case) (d : Node) (counts : Counts) (n : ℕ) → counts n ≤ (read_node w d counts).counts n

abbrev pub MemberCountsDoNotFall : Type 0
MemberCountsDoNotFall = (w : Case) (members : Members) (counts : Counts) (n : ℕ) → counts n ≤ (read_members w members counts).counts n

-- a property of each member of a group
abbrev pub EachMember : (Node → Type 0) → Members → Type 0
EachMember P no_more = Unit {0}
EachMember P (member first rest) = P first × EachMember P rest

-- no count that a member comes to by itself is above that of the whole group
abbrev pub MembersStayBelow : Type 0
MembersStayBelow =
    (w : Case) (members : Members) (sent : Counts) (n : ℕ) → AreDistinct (member_numbers members)
    → EachMember (λ d. (read_node w d sent).counts n ≤ (read_members w members sent).counts n) members

-- the numbers in each domain of a program are distinct
abbrev pub NumbersAreDistinct : Type 0
NumbersAreDistinct = (tree : TreeModel) → IsTree tree → OfEach tree (λ d. AreDistinct (node_numbers d))
