-- The members of a group for which a domain waits: their numbers stand in the domain's, and their counts are bounded by its reading.
use Rattle.std.proofs.Common.{◌≡◌, ℕ, zero, suc, ◌+◌, ◌<◌, ◌≤◌, ◌^◌, List, length, Option, Some, None, arith, subst, sym}
use Rattle.cd_tree.specs.CountLaws.{copies, AreDistinct, EachMember, MembersStayBelow}
use Rattle.cd_tree.specs.Domains.{Node, Body, Members, node, stop, run, group, no_more, member, body_of, body_behind, number_of, put_first, node_numbers, body_numbers, member_numbers, numbers_from}
use Rattle.cd_tree.specs.FrontLaws.{MemberCountsLieBelow}
use Rattle.cd_tree.specs.Fronts.{Front, front_of_node, WaitsAt}
use Rattle.cd_tree.specs.Reading.{Case, Counts, Told, read_node, read_members}
use Rattle.cd_tree.specs.Slices.{IsSlice}
use Rattle.cd_tree.proofs.Numbers.{copies-append}
use Rattle.cd_tree.proofs.Slices.{Headed, headed}
use Rattle.cd_core.proofs.AskedCounts.{LiesBelow, run_inside}

-- ---- each member

pub each_all : {A : Type 0} (P : A → Node → Type 0) (members : Members) → ((a : A) → EachMember (P a) members) → EachMember (λ d. (a : A) → P a d) members
each_all {A} P no_more each = tt
each_all {A} P (member first rest) each = (λ a. (each a).0, each_all P rest (λ a. (each a).1))

pub each_both : (P Q R : Node → Type 0) (members : Members) → ((d : Node) → P d → Q d → R d) → EachMember P members → EachMember Q members → EachMember R members
each_both P Q R no_more joins one other = tt
each_both P Q R (member first rest) joins one other = (joins first one.0 other.0, each_both P Q R rest joins one.1 other.1)

-- the first member of a group that names it, and the others
pub each_first : (P : Node → Type 0) (found : Option Node) (rest : Members) (d : Node) → found ≡ Some d → EachMember P (put_first found rest) → P d
each_first P None rest d is each = absurd (cc)
each_first P (Some one) rest d is each =
    let same : one ≡ d = cc in
    subst P same each.0

pub each_later : (P : Node → Type 0) (found : Option Node) (rest : Members) → EachMember P (put_first found rest) → EachMember P rest
each_later P None rest each = each
each_later P (Some one) rest each = each.1

-- ---- numbers

-- the numbers of a group stand among those of its body
group_numbers : (k : ℕ) (body : Body) (members : Members) (rest : Body) (n : ℕ) → body_behind k body ≡ group members rest
    → copies n (member_numbers members) ≤ copies n (body_numbers body)
group_numbers zero body members rest n is =
    let P : Body → Type 0 = λ b. copies n (member_numbers members) ≤ copies n (body_numbers b) in
    subst P (sym is) (omega (arith, copies-append n (member_numbers members) (body_numbers rest)))
group_numbers (suc k) stop members rest n is = absurd (cc)
group_numbers (suc k) (run op left) members rest n is = group_numbers k left members rest n is
group_numbers (suc k) (group first left) members rest n is =
    omega (arith, copies-append n (member_numbers first) (body_numbers left), group_numbers k left members rest n is)

-- the numbers of a member stand among those of its group
each_inside : (numbers : List ℕ) (members : Members) → ((n : ℕ) → copies n (member_numbers members) ≤ copies n numbers)
    → EachMember (λ d. (n : ℕ) → copies n (node_numbers d) ≤ copies n numbers) members
each_inside numbers no_more inside = tt
each_inside numbers (member first rest) inside = (
  λ n. omega (arith, copies-append n (node_numbers first) (member_numbers rest), inside n),
  each_inside numbers rest (λ n. omega (arith, copies-append n (node_numbers first) (member_numbers rest), inside n)),
)

body_distinct : (d : Node) (n : ℕ) → AreDistinct (node_numbers d) → copies n (body_numbers (body_of d)) ≤ 1
body_distinct (node id domain body) n once = omega (arith, once n)

numbers_some : (d : Node) → 0 < length (node_numbers d)
numbers_some (node id domain body) = omega arith

-- a subtree whose numbers stand below another's lies below it
pub lies_below : (t d : Node) → IsSlice t → IsSlice d → ((n : ℕ) → copies n (node_numbers d) ≤ copies n (body_numbers (body_of t))) → LiesBelow t d
lies_below (node id domain body) d whole own inside =
    let many : ℕ = length (body_numbers body) in
    let head : Headed id.0 (body_numbers body) id.0 =
    headed id.0 (body_numbers body) id.0 (length (node_numbers (node id domain body))) whole in
    let A : List ℕ → Type 0 = λ numbers. (n : ℕ) → copies n numbers ≤ copies n (body_numbers body) in
    let B : List ℕ → Type 0 = λ numbers. (n : ℕ) → copies n (numbers_from (number_of d) (length (node_numbers d))) ≤ copies n numbers in
    let both : (suc id.0 ≤ number_of d) × (number_of d + length (node_numbers d) ≤ suc id.0 + many) =
    run_inside (suc id.0) many (number_of d) (length (node_numbers d)) (numbers_some d) (subst B head.rest (subst A own inside)) in
    record { below = omega (arith, both.0); within = omega (arith, both.1) }

-- ---- of a group at which a domain waits

-- a member, from these counts: its numbers stand in the domain's body, and no count that it comes to is large
pub record IsAsked (w : Case) (t : Node) (f : Counts) (d : Node) : Type 0 where
  pub inside : (n : ℕ) → copies n (node_numbers d) ≤ copies n (body_numbers (body_of t))
  pub small : (n : ℕ) → (read_node w d f).counts n < 2 ^ 64

pub all_asked : MembersStayBelow → MemberCountsLieBelow → (w : Case) (t : Node) (counts : Counts) (attempt point : ℕ) (f : Told Front)
    (members : Members) (behind : Body) → AreDistinct (node_numbers t) → front_of_node w t counts attempt point ≡ Some f → WaitsAt w f.answer members behind
    → body_behind point (body_of t) ≡ group members behind → ((n : ℕ) → (read_node w t counts).counts n < 2 ^ 64)
    → EachMember (IsAsked w t f.counts) members
all_asked below groups w t counts attempt point f members behind once is waits at few =
    let inside : (n : ℕ) → copies n (member_numbers members) ≤ copies n (body_numbers (body_of t)) =
    λ n. group_numbers point (body_of t) members behind n at in
    let distinct : AreDistinct (member_numbers members) = λ n. omega (arith, inside n, body_distinct t n once) in
    let all : Counts = (read_members w members f.counts).counts in
    let Inside : Node → Type 0 = λ d. (n : ℕ) → copies n (node_numbers d) ≤ copies n (body_numbers (body_of t)) in
    let Below : ℕ → Node → Type 0 = λ n d. (read_node w d f.counts).counts n ≤ all n in
    let Small : Node → Type 0 = λ d. (n : ℕ) → Below n d in
    each_both Inside Small (IsAsked w t f.counts) members
    (λ d within less. record { inside = within; small = λ n. omega (arith, less n, groups w t counts attempt point f members behind n is waits, few n) })
    (each_inside (body_numbers (body_of t)) members inside)
    (each_all Below members (λ n. below w members f.counts n distinct))
