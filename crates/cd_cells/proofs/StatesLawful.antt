-- The states of a plan's domains are as the rule of the cells wants them: groups name members once, and asks are of the members.
use Rattle.std.proofs.Common.{◌≡◌, ℕ, zero, suc, ◌+◌, ◌<◌, ◌==◌, Bool, true, List, [], ◌∷◌, Option, None, Some, IsSomeAnd, if◌then◌else◌, length, slice_get, inl, inr, refl, ap, subst, sym, ◌∙◌, arith}
use Rattle.std.specs.Option.{option_map_or}
use Rattle.std.proofs.lemmas.Bool.{eq-eqb, eqb-true, or_cases, or_left, or_right}
use Rattle.std.proofs.lemmas.List.{length-map}
use Rattle.std.proofs.lemmas.Option.{slice_get_within}
use Rattle.cd_base.specs.Words.{Words}
use Rattle.cd_base.proofs.BoolLemmas.{by_test}
use Rattle.cd_base.proofs.ListLemmas.{some_and, some_of}
use Rattle.cd_tree.specs.declared.document.Fault.{Fault}
use Rattle.cd_tree.specs.declared.domain.Domain.{Domain}
use Rattle.cd_tree.specs.declared.domain.Item.{Item}
use Rattle.cd_tree.specs.declared.domain.Item.TheVariants.{Run, Group}
use Rattle.cd_tree.specs.declared.domain.NodeId.{NodeId}
use Rattle.cd_tree.specs.declared.groups.GroupPlace.{GroupPlace}
use Rattle.cd_tree.specs.Domains.{Node, node_of, number_of}
use Rattle.cd_tree.specs.Groups.{HasMember, StandsAt, StandsIn}
use Rattle.cd_tree.specs.Laws.{NestedViewFollows}
use Rattle.cd_tree.specs.Slices.{among}
use Rattle.cd_tree.specs.SliceLaws.{ChildrenStand, ChildrenStandOnce, MembersAreChildren}
use Rattle.cd_tree.specs.TreeModel.{FitsItems}
use Rattle.cd_tree.proofs.EachDomain.{number_there}
use Rattle.cd_tree.proofs.View.{domain_fits}
use Rattle.cd_cover.specs.Plans.{PlanModel, IsPlan}
use Rattle.cd_core.specs.declared.ask.Ask.{Ask}
use Rattle.cd_core.specs.declared.state.Stage.{Stage}
use Rattle.cd_core.specs.declared.state.Stage.TheVariants.{Ready, Waiting, Resumed, Lost, Ended}
use Rattle.cd_core.specs.Advancing.{members_at}
use Rattle.cd_core.specs.Asks.{Answers, member_ask}
use Rattle.cd_core.specs.Fits.{FitsStage, FitsWaiting}
use Rattle.cd_core.specs.StateModel.{StateModel}
use Rattle.cd_core.specs.Steps.{IsWaiting, waits_at}
use Rattle.cd_core.proofs.FitsTaken.{FitsAs, fits_as, members_are}
use Rattle.cd_core.proofs.Grounds.{view_in}
use Rattle.cd_core.proofs.Members.{at_group}
use Rattle.cd_core.proofs.Viewed.{Viewed, viewed}
use Rattle.cd_cells.specs.Kinds.{IsMember, Lawful}
use Rattle.cd_cells.specs.Listing.{often, one_if}
use Rattle.cd_cells.specs.States.{Rests, ask_of, group_having, group_of, numbers_of, parent_of, siblings_of, states_of}

-- ---- numbers in lists

-- a number that is in the list of these domains' numbers is the number of one of them
at_number : (m : ℕ) (ids : List NodeId) → 0 < often m (numbers_of ids) → (k : ℕ) × (slice_get ids k ≡ Some (record { 0 = m }))
at_number m [] some = absurd (omega (arith, some))
at_number m (id ∷ ids) some =
    by_test (id.0 == m)
    (λ e. (0, ap (λ (n : ℕ). Some (record { 0 = n })) (eqb-true id.0 m e)))
    (λ e. (
    let none : one_if (id.0 == m) ≡ 0 = ap one_if e in
    let rest : (k : ℕ) × (slice_get ids k ≡ Some (record { 0 = m })) = at_number m ids (omega (arith, some, none)) in
    (suc rest.0, rest.1)
    ))

-- what is at no place is not there
never_there : (m : ℕ) (ids : List NodeId) → ((k : ℕ) → slice_get ids k ≡ Some (record { 0 = m }) → ⊥) → often m (numbers_of ids) ≡ 0
never_there m [] never = refl
never_there m (id ∷ ids) never =
    by_test (id.0 == m)
    (λ e. absurd (never 0 (ap (λ (n : ℕ). Some (record { 0 = n })) (eqb-true id.0 m e))))
    (λ e. (
    let none : one_if (id.0 == m) ≡ 0 = ap one_if e in
    let rest : often m (numbers_of ids) ≡ 0 = never_there m ids (λ k is. never (suc k) is) in
    omega (arith, none, rest)
    ))

-- what is at one place alone is there once
once_there : (m : ℕ) (ids : List NodeId) (k : ℕ) → slice_get ids k ≡ Some (record { 0 = m })
    → ((i j : ℕ) → slice_get ids i ≡ Some (record { 0 = m }) → slice_get ids j ≡ Some (record { 0 = m }) → i ≡ j) → often m (numbers_of ids) ≡ 1
once_there m [] k is alone = absurd (cc)
once_there m (id ∷ ids) zero is alone =
    let same : id ≡ record { 0 = m } = cc in
    let one : one_if (id.0 == m) ≡ 1 = ap one_if (eq-eqb id.0 m (ap (λ (x : NodeId). x.0) same)) in
    let rest : often m (numbers_of ids) ≡ 0 = never_there m ids (λ j there. (let z : 0 ≡ suc j = alone 0 (suc j) is there in omega (arith, z))) in
    omega (arith, one, rest)
once_there m (id ∷ ids) (suc k) is alone =
    by_test (id.0 == m)
    (λ e. (let z : 0 ≡ suc k = alone 0 (suc k) (ap (λ (n : ℕ). Some (record { 0 = n })) (eqb-true id.0 m e)) is in absurd (omega (arith, z))))
    (λ e. (
    let none : one_if (id.0 == m) ≡ 0 = ap one_if e in
    let rest : often m (numbers_of ids) ≡ 1 =
    once_there m ids k is (λ i j one other. (let z : suc i ≡ suc j = alone (suc i) (suc j) one other in omega (arith, z))) in
    omega (arith, none, rest)
    ))

-- ---- the groups of items

number_among : (ids : List NodeId) (k : ℕ) (id : NodeId) → slice_get ids k ≡ Some id → among (numbers_of ids) id.0 ≡ true
number_among [] k id is = absurd (cc)
number_among (first ∷ ids) zero id is =
    let same : id ≡ first = cc in
    or_left (id.0 == first.0) (among (numbers_of ids) id.0) (eq-eqb id.0 first.0 (ap (λ (x : NodeId). x.0) same))
number_among (first ∷ ids) (suc k) id is = or_right (id.0 == first.0) (among (numbers_of ids) id.0) (number_among ids k id is)

place_among : (ids : List NodeId) (m : ℕ) → among (numbers_of ids) m ≡ true → (k : ℕ) × (slice_get ids k ≡ Some (record { 0 = m }))
place_among [] m e = absurd (cc)
place_among (first ∷ ids) m e =
    elim (or_cases (m == first.0) (among (numbers_of ids) m) e) [
      | inl here ↦ (0, ap (λ (n : ℕ). Some (record { 0 = n })) (sym (eqb-true m first.0 here)))
      | inr later ↦ (let rest : (k : ℕ) × (slice_get ids k ≡ Some (record { 0 = m })) = place_among ids m later in (suc rest.0, rest.1))
    ]

-- the first group with a member that stands in one group alone is that group
group_is : (items : List Item) (k : ℕ) (ids : List NodeId) (m : ℕ) → slice_get items k ≡ Some (Group ids) → among (numbers_of ids) m ≡ true
    → ((j : ℕ) (others : List NodeId) → slice_get items j ≡ Some (Group others) → among (numbers_of others) m ≡ true → j ≡ k)
    → group_having items m ≡ numbers_of ids
group_is [] k ids m is has alone = absurd (cc)
group_is (Run op ∷ items) zero ids m is has alone = absurd (cc)
group_is (Run op ∷ items) (suc k) ids m is has alone =
    group_is items k ids m is has (λ j others there too. (let z : suc j ≡ suc k = alone (suc j) others there too in omega (arith, z)))
group_is (Group first ∷ items) zero ids m is has alone =
    let same : first ≡ ids = cc in
    let G : List NodeId → Type 0 = λ named. (if among (numbers_of named) m then numbers_of named else group_having items m) ≡ numbers_of ids in
    subst G (sym same) (ap (λ (b : Bool). if b then numbers_of ids else group_having items m) has)
group_is (Group first ∷ items) (suc k) ids m is has alone =
    by_test (among (numbers_of first) m)
    (λ e. (let z : 0 ≡ suc k = alone 0 first refl e in absurd (omega (arith, z))))
    (λ e. ap (λ (b : Bool). if b then numbers_of first else group_having items m) e
    ∙ group_is items k ids m is has (λ j others there too. (let z : suc j ≡ suc k = alone (suc j) others there too in omega (arith, z))))

some_members : (domains : List Domain) (at : ℕ) (items : List Item) (k : ℕ) (ids : List NodeId) → slice_get items k ≡ Some (Group ids)
    → FitsItems domains at items → 0 < length ids
some_members domains at items k ids e fits =
    at_group (FitsItems domains at) (λ (named : List NodeId). 0 < length named) (λ op rest h. h.2) (λ named rest h. (h.0, h.3)) items k ids e fits

-- ---- a state that waits

waiting_so : (stage : Stage) → IsWaiting stage → (spare : ℕ) × (point : ℕ) × (stage ≡ Waiting spare point)
waiting_so Ready waits = absurd waits
waiting_so (Waiting spare point) waits = (spare, point, refl)
waiting_so (Resumed spare point) waits = absurd waits
waiting_so (Lost spare cause over) waits = absurd waits
waiting_so (Ended ending) waits = absurd waits

-- the group at which it waits is one of its domain's items
pub record WaitsIn (plan : PlanModel) (s : StateModel) : Type 0 where
  pub domain : Domain
  pub listed : slice_get plan.tree.domains s.node.0 ≡ Some domain
  pub point : ℕ
  pub ids : List NodeId
  pub members : members_at domain (waits_at s.stage) ≡ ids
  pub group : slice_get domain.items point ≡ Some (Group ids)

pub waits_in : NestedViewFollows → (plan : PlanModel) (faults : List Fault) (loaded : Words) (ask : Ask) (s : StateModel) → IsPlan plan
    → Rests plan faults loaded ask s → WaitsIn plan s
waits_in follows plan faults loaded ask s is_plan rests =
    let at : (spare : ℕ) × (point : ℕ) × (s.stage ≡ Waiting spare point) = waiting_so s.stage rests.0 in
    let st = rests.1.stands in
    let v : Viewed plan s.node _ = viewed follows plan s.node _ is_plan st.fits.is in
    let own : FitsAs plan s (view_in plan.tree s.node v.domain) v.domain = fits_as follows plan s v.domain is_plan v.listed st.fits in
    let S : Stage → Type 0 = λ x. FitsStage plan (view_in plan.tree s.node v.domain) v.domain s x in
    let fits : FitsWaiting plan (view_in plan.tree s.node v.domain) v.domain s at.0 at.1 = subst S at.2 own.view.stage in
    record {
      domain = v.domain;
      listed = v.listed;
      point = at.1;
      ids = fits.ids;
      members = ap (λ (stage : Stage). members_at v.domain (waits_at stage)) at.2 ∙ members_are v.domain at.1 fits.ids fits.group;
      group = fits.group;
    }

-- its domain is the ask's
pub of_ask : (plan : PlanModel) (faults : List Fault) (loaded : Words) (ask : Ask) (s : StateModel) → Answers plan faults loaded ask s → s.node.0 ≡ ask.node.0
of_ask plan faults loaded ask s a =
    let number : number_of a.domain ≡ 0 + ask.node.0 = number_there 0 plan.tree.domains ask.node.0 a.domain a.is in
    let own : number_of a.domain ≡ s.node.0 = a.stands.domain in
    omega (arith, number, own)

pub group_as : (plan : PlanModel) (s : StateModel) (w : WaitsIn plan s) → group_of plan s ≡ numbers_of w.ids
group_as plan s w =
    ap (λ (o : Option Domain). option_map_or (λ (domain : Domain). numbers_of (members_at domain (waits_at s.stage))) o []) w.listed
    ∙ ap numbers_of w.members

-- a group among the items of a domain
pub record IsGroup (plan : PlanModel) (parent : NodeId) (ids : List NodeId) : Type 0 where
  pub domain : Domain
  pub listed : slice_get plan.tree.domains parent.0 ≡ Some domain
  pub point : ℕ
  pub group : slice_get domain.items point ≡ Some (Group ids)

stands_in : (plan : PlanModel) (parent : NodeId) (ids : List NodeId) (w : IsGroup plan parent ids) (item : ℕ) (others : List NodeId) (k : ℕ) (id : NodeId)
    → slice_get w.domain.items item ≡ Some (Group others) → slice_get others k ≡ Some id
    → StandsIn plan.tree.domains parent id (record { item = item; member = k })
stands_in plan parent ids w item others k id there is =
    some_and (slice_get plan.tree.domains parent.0) (λ (above : Domain). StandsAt above.items id item k) w.domain w.listed
    (some_and (slice_get w.domain.items item) (λ (it : Item). HasMember it k id) (Group others) there is)

-- a member of it is a child, there once
pub member_so : ChildrenStandOnce → MembersAreChildren → (plan : PlanModel) (parent : NodeId) (ids : List NodeId) → IsPlan plan
    → (w : IsGroup plan parent ids) (m : ℕ) → 0 < often m (numbers_of ids)
    → (0 < m) × (m < length plan.tree.domains) × (parent_of plan m ≡ parent.0) × (often m (numbers_of ids) ≡ 1) × (siblings_of plan m ≡ numbers_of ids)
member_so once children plan parent ids is_plan w m some =
    let id : NodeId = record { 0 = m } in
    let at : (k : ℕ) × (slice_get ids k ≡ Some id) = at_number m ids some in
    let here : StandsIn plan.tree.domains parent id (record { item = w.point; member = at.0 }) = stands_in plan parent ids w w.point ids at.0 id w.group at.1 in
    let child : (parent.0 < m) × IsSomeAnd (slice_get plan.tree.domains m) (λ (d : Domain). d.parent ≡ Some parent) =
    children plan.tree is_plan.program parent id (record { item = w.point; member = at.0 }) here in
    let found : (d : Domain) × (slice_get plan.tree.domains m ≡ Some d) × (d.parent ≡ Some parent) =
    some_of (slice_get plan.tree.domains m) (λ (d : Domain). d.parent ≡ Some parent) child.1 in
    let up : parent_of plan m ≡ parent.0 =
    ap (λ (o : Option Domain). option_map_or (λ (d : Domain). option_map_or (λ (x : NodeId). x.0) d.parent 0) o 0) found.1
    ∙ ap (λ (o : Option NodeId). option_map_or (λ (x : NodeId). x.0) o 0) found.2 in
    let alone : (i j : ℕ) → slice_get ids i ≡ Some id → slice_get ids j ≡ Some id → i ≡ j =
    λ i j one other. ap (λ (x : GroupPlace). x.member)
    (once plan.tree is_plan.program id parent parent (record { item = w.point; member = i }) (record { item = w.point; member = j })
    (stands_in plan parent ids w w.point ids i id w.group one) (stands_in plan parent ids w w.point ids j id w.group other)).1 in
    let one_group : (j : ℕ) (others : List NodeId) → slice_get w.domain.items j ≡ Some (Group others) → among (numbers_of others) m ≡ true → j ≡ w.point =
    λ j others there has. (
    let k : (k : ℕ) × (slice_get others k ≡ Some id) = place_among others m has in
    ap (λ (x : GroupPlace). x.item)
    (once plan.tree is_plan.program id parent parent (record { item = j; member = k.0 }) (record { item = w.point; member = at.0 })
    (stands_in plan parent ids w j others k.0 id there k.1) here).1
    ) in
    let above : 0 < m = (let later : parent.0 < m = child.0 in omega (arith, later)) in (
      above,
      slice_get_within plan.tree.domains m found.0 found.1,
      up,
      once_there m ids at.0 at.1 alone,
      ap (λ (p : ℕ). option_map_or (λ (d : Domain). group_having d.items m) (slice_get plan.tree.domains p) []) up
          ∙ ap (λ (o : Option Domain). option_map_or (λ (d : Domain). group_having d.items m) o []) w.listed
          ∙ group_is w.domain.items w.point ids m w.group (number_among ids at.0 id at.1) one_group,
    )

-- a parent is a domain
parent_below : ChildrenStand → (plan : PlanModel) (m : ℕ) → IsPlan plan → m < length plan.tree.domains → parent_of plan m < length plan.tree.domains
parent_below stand plan m is_plan within = by_parent (slice_get plan.tree.domains m) refl
  where
    by_up : (domain : Domain) → slice_get plan.tree.domains m ≡ Some domain → (up : Option NodeId) → domain.parent ≡ up
        → option_map_or (λ (id : NodeId). id.0) up 0 < length plan.tree.domains
    by_up domain is None none = is_plan.program.some
    by_up domain is (Some parent) has =
        let at : (at : GroupPlace) × StandsIn plan.tree.domains parent (record { 0 = m }) at =
        stand plan.tree is_plan.program (record { 0 = m }) parent domain is has in
        let found = some_of (slice_get plan.tree.domains parent.0) (λ (above : Domain). StandsAt above.items (record { 0 = m }) at.0.item at.0.member) at.1 in
        slice_get_within plan.tree.domains parent.0 found.0 found.1

    by_parent : (o : Option Domain) → slice_get plan.tree.domains m ≡ o
        → option_map_or (λ (d : Domain). option_map_or (λ (id : NodeId). id.0) d.parent 0) o 0 < length plan.tree.domains
    by_parent None none = is_plan.program.some
    by_parent (Some domain) is = by_up domain is domain.parent refl

pub ask_named : (plan : PlanModel) (s : StateModel) (m : ℕ) → (ask_of plan s m).node.0 ≡ m
ask_named plan s m = by_node (node_of plan.tree.domains (record { 0 = m }))
  where
    by_node : (o : Option Node)
        → (option_map_or (member_ask plan s (record { 0 = m })) o (record { node = record { 0 = m }; words = []; counts = []; links = []; store = None })).node.0 ≡ m
    by_node None = refl
    by_node (Some d) = refl

-- ---- all of it

pub lawful : {T : Type 0} (model : T → StateModel) → NestedViewFollows → ChildrenStand → ChildrenStandOnce → MembersAreChildren
    → (plan : PlanModel) (faults : List Fault) (loaded : Words) → IsPlan plan → Lawful (states_of model plan faults loaded)
lawful {T} model follows stand once children plan faults loaded is_plan = record {
  some = is_plan.program.some;
  root = refl;
  above = λ m above below. parent_below stand plan m is_plan below;
  length = λ a t rests. (
      let w : WaitsIn plan (model t) = waits_in follows plan faults loaded a (model t) is_plan rests in
      let more : 0 < length w.ids =
      some_members plan.tree.domains (model t).node.0 w.domain.items w.point w.ids w.group
      (domain_fits plan.tree is_plan.program (model t).node w.domain w.listed).items in
      let same : length (group_of plan (model t)) ≡ length (numbers_of w.ids) = ap length (group_as plan (model t) w) in
      let long : length (numbers_of w.ids) ≡ length w.ids = length-map w.ids (λ (id : NodeId). id.0) in
      omega (arith, more, same, long)
      );
  group = λ a t rests m some. (
      let s : StateModel = model t in
      let w : WaitsIn plan s = waits_in follows plan faults loaded a s is_plan rests in
      let same : group_of plan s ≡ numbers_of w.ids = group_as plan s w in
      let Some : List ℕ → Type 0 = λ g. 0 < often m g in
      let Is : List ℕ → Type 0 = λ g. IsMember (states_of model plan faults loaded) a.node.0 g m in
      let f =
      member_so once children plan s.node w.ids is_plan (record { domain = w.domain; listed = w.listed; point = w.point; group = w.group }) m
      (subst Some same some) in
      subst Is (sym same) (record {
        above = f.0;
        below = f.1;
        parent = f.2 ∙ of_ask plan faults loaded a s rests.1;
        once = f.3;
        same = f.4;
      })
      );
  asks = λ a t rests m some. ask_named plan (model t) m;
}
