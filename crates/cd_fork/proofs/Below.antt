-- The members that a domain sends lie below it, are not too many, and can be run.
use Rattle.std.proofs.Common.{◌≡◌, ℕ, zero, suc, ◌+◌, ◌-◌, ◌*◌, ◌<◌, ◌≤◌, max, List, [], ◌∷◌, Some, length, slice_get, refl, sym, subst, ap, arith}
use Rattle.std.specs.Option.{option_map_or}
use Rattle.std.proofs.lemmas.Option.{slice_get_within}
use Rattle.cd_tree.specs.declared.domain.NodeId.{NodeId}
use Rattle.cd_tree.specs.declared.domain.Item.{Item}
use Rattle.cd_tree.specs.declared.domain.Item.TheVariants.{Run, Group}
use Rattle.cd_tree.specs.declared.domain.Domain.{Domain}
use Rattle.cd_tree.specs.Limits.{members_limit}
use Rattle.cd_tree.specs.TreeModel.{FitsDomain, FitsItems, NamesChildren}
use Rattle.cd_tree.proofs.View.{domain_fits}
use Rattle.cd_field.specs.FieldModel.{FieldModel, without}
use Rattle.cd_keep.specs.PassModel.{PassModel}
use Rattle.cd_keep.specs.PassModel as passes
use Rattle.cd_cover.specs.PlanLaws.{need_of}
use Rattle.cd_cover.specs.Plans.{PlanModel, IsPlan}
use Rattle.cd_core.specs.declared.verdict.Verdict.{Verdict}
use Rattle.cd_core.specs.declared.verdict.Verdict.TheVariants.{Waits, Completes, Escalates}
use Rattle.cd_core.specs.Advancing.{all_sent, members_at, members_of_item, state_sending}
use Rattle.cd_core.specs.Asks.{foot_of}
use Rattle.cd_core.specs.StateModel.{StateModel}
use Rattle.cd_core.specs.Steps.{Advances, AllFit, StepIs, sends}
use Rattle.cd_fork.specs.Onward.{EachCanRun, most_from, weight_of_all}

-- the members of the group at an item are later domains, and not too many
named_at : (domains : List Domain) (at : ℕ) (items : List Item) (k : ℕ) → FitsItems domains at items
    → NamesChildren domains at (option_map_or members_of_item (slice_get items k) [])
    × (length (option_map_or members_of_item (slice_get items k) []) ≤ members_limit)
named_at domains at [] k fits = (tt, omega arith)
named_at domains at (Run op ∷ items) zero fits = (tt, omega arith)
named_at domains at (Run op ∷ items) (suc k) (full, shape, fits) = named_at domains at items k fits
named_at domains at (Group ids ∷ items) zero (some, few, named, fits) = (named, few)
named_at domains at (Group ids ∷ items) (suc k) (some, few, named, fits) = named_at domains at items k fits

-- what is sent to later domains lies below
sent_below : (plan : PlanModel) (s : StateModel) (at : ℕ) (ids : List NodeId) (m : FieldModel) (p : PassModel)
    → at < length plan.tree.domains → NamesChildren plan.tree.domains at ids
    → most_from plan (all_sent plan s ids m p) < length plan.tree.domains - at
sent_below plan s at [] m p within named = omega arith
sent_below plan s at (id ∷ ids) m p within (later, child, named) =
    let rest : most_from plan (all_sent plan s ids (without m (foot_of plan id).writes) (passes.without p (need_of plan.tree.domains id)))
    < length plan.tree.domains - at =
    sent_below plan s at ids (without m (foot_of plan id).writes) (passes.without p (need_of plan.tree.domains id)) within named in
    omega (arith, rest, later, within)

sent_length : (plan : PlanModel) (s : StateModel) (ids : List NodeId) (m : FieldModel) (p : PassModel) → length (all_sent plan s ids m p) ≡ length ids
sent_length plan s [] m p = refl
sent_length plan s (id ∷ ids) m p =
    ap suc (sent_length plan s ids (without m (foot_of plan id).writes) (passes.without p (need_of plan.tree.domains id)))

-- what is sent is ready
sent_can_run : (plan : PlanModel) (s : StateModel) (ids : List NodeId) (m : FieldModel) (p : PassModel)
    → AllFit plan (all_sent plan s ids m p) → EachCanRun plan (all_sent plan s ids m p)
sent_can_run plan s [] m p fit = tt
sent_can_run plan s (id ∷ ids) m p fit = (
  record { fits = fit.0; moves = tt },
  sent_can_run plan s ids (without m (foot_of plan id).writes) (passes.without p (need_of plan.tree.domains id)) fit.1,
)

-- the members that a domain sent
pub record AreBelow (plan : PlanModel) (at : ℕ) (sent : List StateModel) : Type 0 where
  pub light : weight_of_all plan sent + 4 ≤ (length plan.tree.domains - at) * 1024
  pub can : EachCanRun plan sent

by_verdict : (plan : PlanModel) (domain : Domain) (s : StateModel) (verdict : Verdict) (sent : List StateModel) → IsPlan plan
    → slice_get plan.tree.domains s.node.0 ≡ Some domain → StepIs plan domain s verdict (sends sent) → AllFit plan sent → AreBelow plan s.node.0 sent
by_verdict plan domain s (Waits spare point) sent is_plan listed is fit =
    let fits : FitsDomain plan.tree.kinds plan.tree.domains s.node.0 domain = domain_fits plan.tree is_plan.program s.node domain listed in
    let named : NamesChildren plan.tree.domains s.node.0 (members_at domain point) × (length (members_at domain point) ≤ members_limit) =
    named_at plan.tree.domains s.node.0 domain.items point fits.items in
    let within : s.node.0 < length plan.tree.domains = slice_get_within plan.tree.domains s.node.0 domain listed in
    let many : length (all_sent plan s (members_at domain point) s.field s.pass) ≡ length (members_at domain point) =
    sent_length plan s (members_at domain point) s.field s.pass in
    let few : length (members_at domain point) ≤ members_limit = named.1 in
    let deep : most_from plan (all_sent plan s (members_at domain point) s.field s.pass) < length plan.tree.domains - s.node.0 =
    sent_below plan s s.node.0 (members_at domain point) s.field s.pass within named.0 in
    let A : List StateModel → Type 0 = λ xs. AllFit plan xs in
    let B : List StateModel → Type 0 = λ xs. AreBelow plan s.node.0 xs in
    subst B (sym is) (record {
      light = omega (arith, many, few, deep);
      can = sent_can_run plan s (members_at domain point) s.field s.pass (subst A is fit);
    })
by_verdict plan domain s (Completes leak) sent is_plan listed is fit = absurd is
by_verdict plan domain s (Escalates cause over) sent is_plan listed is fit = absurd is

pub are_below : (plan : PlanModel) (old new : StateModel) (sent : List StateModel) → IsPlan plan → Advances plan old new (sends sent)
    → AllFit plan sent → AreBelow plan old.node.0 sent
are_below plan old new sent is_plan by fit =
    by_verdict plan by.domain (state_sending old by.keeps by.judged.begin by.judged.field by.pass) by.judged.verdict sent is_plan by.is by.answer fit
