-- What a plan says of one of its domains, for a run of it.
use Rattle.std.proofs.Common.{◌≡◌, ℕ, zero, suc, ◌+◌, ◌≤◌, ◌<◌, ◌==◌, ◌||◌, Bool, true, false, cond, List, [], ◌∷◌, Option, Some, None, All, length, slice_get, get_or, refl, ap, subst, sym, ◌∙◌, arith}
use Rattle.cd_base.specs.declared.place.Place.{Place}
use Rattle.cd_tree.specs.declared.domain.NodeId.{NodeId}
use Rattle.cd_tree.specs.declared.domain.Entry.{Entry}
use Rattle.cd_tree.specs.declared.domain.Item.{Item}
use Rattle.cd_tree.specs.declared.domain.Item.TheVariants.{Run, Group}
use Rattle.cd_tree.specs.declared.domain.Domain.{Domain}
use Rattle.cd_tree.specs.declared.kinds.KindName.{KindName}
use Rattle.cd_tree.specs.CountLaws.{copies, AreDistinct, NumbersAreDistinct}
use Rattle.cd_tree.specs.Slices.{among}
use Rattle.cd_tree.specs.Domains.{Node, Body, node, node_of, body_by, body_numbers, node_numbers}
use Rattle.cd_tree.specs.Laws.{NestedViewFollows}
use Rattle.cd_tree.specs.Locality.{CoveredInPrograms}
use Rattle.cd_tree.specs.Meaning.{in_entries, IsCovered, CoversBody}
use Rattle.cd_tree.specs.TreeModel.{TreeModel, IsTree, FitsDomain, EachFits, FitsItems}
use Rattle.cd_cover.specs.Plans.{PlanModel, IsPlan}
use Rattle.cd_tries.specs.Fitting.{IsSound, ItemStays}
use Rattle.std.proofs.lemmas.Bool.{eq-eqb}
use Rattle.cd_core.proofs.Choices.{by_test, chosen, other}

-- the nested view of a domain of a program
abbrev pub body_in : TreeModel → Domain → Body
body_in tree domain = body_by (node_of tree.domains) domain.items

abbrev pub view_in : TreeModel → NodeId → Domain → Node
view_in tree id domain = node id domain (body_in tree domain)

-- a domain that fits is one of those that each fit
each_at : (kinds : List KindName) (domains rest : List Domain) (at k : ℕ) (domain : Domain) → EachFits kinds domains at rest
    → slice_get rest k ≡ Some domain → FitsDomain kinds domains (at + k) domain
each_at kinds domains [] at k domain fits e = absurd (cc)
each_at kinds domains (first ∷ rest) at zero domain fits e =
    let P : Domain → Type 0 = λ x. FitsDomain kinds domains (at + 0) x in
    let Q : ℕ → Type 0 = λ n. FitsDomain kinds domains n first in
    let same : first ≡ domain = cc in
    let here : at ≡ at + 0 = omega arith in
    subst P same (subst Q here fits.0)
each_at kinds domains (first ∷ rest) at (suc k) domain fits e =
    let Q : ℕ → Type 0 = λ n. FitsDomain kinds domains n domain in
    let here : suc at + k ≡ at + suc k = omega arith in
    subst Q here (each_at kinds domains rest (suc at) k domain fits.1 e)

-- what a covered domain's items touch lies in its entries
stays_all : (domains : List Domain) (at : ℕ) (entries : List Entry) (find : NodeId → Option Node) (items : List Item)
    → FitsItems domains at items → CoversBody (in_entries entries) (body_by find items) → All (ItemStays entries) items
stays_all domains at entries find [] fits covers k x short = absurd (omega (arith, short))
stays_all domains at entries find (Run op ∷ items) fits covers zero x short = (fits.0, fits.1, covers.0)
stays_all domains at entries find (Run op ∷ items) fits covers (suc k) x short =
    stays_all domains at entries find items fits.2 covers.1 k x (omega (arith, short))
stays_all domains at entries find (Group ids ∷ items) fits covers zero x short = tt
stays_all domains at entries find (Group ids ∷ items) fits covers (suc k) x short =
    stays_all domains at entries find items fits.3 covers.1 k x (omega (arith, short))

-- a domain of a plan is sound
pub plan_sound : NestedViewFollows → CoveredInPrograms → (plan : PlanModel) (id : NodeId) (domain : Domain) → IsPlan plan
    → slice_get plan.tree.domains id.0 ≡ Some domain → IsSound domain
plan_sound follows covered plan id domain is_plan listed =
    let fits : FitsDomain plan.tree.kinds plan.tree.domains (0 + id.0) domain =
    each_at plan.tree.kinds plan.tree.domains plan.tree.domains 0 id.0 domain is_plan.program.each listed in
    let is : node_of plan.tree.domains id ≡ Some (view_in plan.tree id domain) = follows plan.tree is_plan.program id domain listed in
    let covers : IsCovered (view_in plan.tree id domain) = covered plan.tree is_plan.program is_plan.covered id (view_in plan.tree id domain) is in
    record {
      full = fits.ranges;
      stays = stays_all plan.tree.domains (0 + id.0) domain.entries (node_of plan.tree.domains) domain.items fits.items covers;
    }

-- a number that stands nowhere is not among these
no_copies : (numbers : List ℕ) (n : ℕ) → copies n numbers ≡ 0 → among numbers n ≡ false
no_copies [] n none = refl
no_copies (number ∷ numbers) n none =
    by_test (n == number)
    (λ e. (let one : ◌≡◌ {A = ℕ} (cond (n == number) 1 0) 1 = chosen (n == number) 1 0 e in absurd (omega (arith, one, none))))
    (λ e. ap (λ (b : Bool). b || among numbers n) e ∙ no_copies numbers n (omega (arith, none)))

-- a domain's number does not stand below it
pub plan_apart : NestedViewFollows → NumbersAreDistinct → (plan : PlanModel) (id : NodeId) (domain : Domain) → IsPlan plan
    → slice_get plan.tree.domains id.0 ≡ Some domain → among (body_numbers (body_in plan.tree domain)) id.0 ≡ false
plan_apart follows distinct plan id domain is_plan listed =
    let is : node_of plan.tree.domains id ≡ Some (view_in plan.tree id domain) = follows plan.tree is_plan.program id domain listed in
    let once : AreDistinct (node_numbers (view_in plan.tree id domain)) = distinct plan.tree is_plan.program id (view_in plan.tree id domain) is in
    let here : ◌≡◌ {A = ℕ} (cond (id.0 == id.0) 1 0) 1 = chosen (id.0 == id.0) 1 0 (eq-eqb id.0 id.0 refl) in
    no_copies (body_numbers (body_in plan.tree domain)) id.0 (omega (arith, here, once id.0))
