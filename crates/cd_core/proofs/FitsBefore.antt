-- What the stage of a domain that fits gives its tries.
use Rattle.std.proofs.Common.{◌≡◌, ℕ, ◌≤◌, ◌<◌, ◌^◌, List, Some, length, slice_get, sum_by, refl, subst, ◌∙◌, arith}
use Rattle.std.proofs.lemmas.List.Sums.{get_or-le-sum_by}
use Rattle.std.proofs.lemmas.Option.{slice_get_within, get_or_from_slice_get}
use Rattle.cd_tree.specs.declared.domain.Domain.{Domain}
use Rattle.cd_tree.specs.TreeModel.{FitsDomain}
use Rattle.cd_tree.proofs.View.{domain_fits}
use Rattle.cd_cover.specs.Plans.{PlanModel, IsPlan}
use Rattle.cd_tries.specs.Fitting.{ArePresentIn}
use Rattle.cd_tries.specs.Running.{next_begin}
use Rattle.cd_core.specs.declared.state.Stage.{Stage}
use Rattle.cd_core.specs.declared.state.Stage.TheVariants.{Ready, Waiting, Resumed, Lost, Ended}
use Rattle.cd_core.specs.Advancing.{own_count}
use Rattle.cd_core.specs.Fits.{Fits, FitsStage, HasBegun, IsHere}
use Rattle.cd_core.specs.LawsBelow.{MoreLaws}
use Rattle.cd_core.specs.StateLaws.{TriesCanBeMade}
use Rattle.cd_core.specs.StateModel.{StateModel}
use Rattle.cd_core.specs.Steps.{CanMove}
use Rattle.cd_core.specs.Trying.{CanBegin, CanGoOn, CanMakeTries}
use Rattle.cd_core.proofs.Facts.{reach_is, strikes_within}
use Rattle.cd_core.proofs.Grounds.{view_in, plan_sound}
use Rattle.cd_core.proofs.ReadyOnes.{can_preserve}
use Rattle.cd_core.proofs.Views.{FitsView, fits_view}

-- one of the numbers that are summed is at most the sum
within_sum : {A : Type 0} (f : A → ℕ) (xs : List A) (k : ℕ) (x : A) → slice_get xs k ≡ Some x → f x ≤ sum_by f xs
within_sum {A} f xs k x e =
    let P : A → Type 0 = λ y. f y ≤ sum_by f xs in
    subst P (get_or_from_slice_get xs k x x e) (get_or-le-sum_by f xs k x (slice_get_within xs k x e))

module _ (l : MoreLaws) (plan : PlanModel) (s : StateModel) (domain : Domain) (is_plan : IsPlan plan) (listed : slice_get plan.tree.domains s.node.0 ≡ Some domain) where
  -- a domain's items are few
  pub few_items : length domain.items < 2 ^ 32
  few_items =
      let some : length domain.items ≤ sum_by (λ (d : Domain). length d.items) plan.tree.domains =
      within_sum (λ (d : Domain). length d.items) plan.tree.domains s.node.0 domain listed in
      omega (arith, some, is_plan.program.items)

  -- what is here is present in the entries
  pub here_present : IsHere (view_in plan.tree s.node domain) s.field → ArePresentIn domain.entries s.field
  here_present here p h = here p (reach_is l plan s.node domain is_plan listed p ∙ h)

  begins : Fits plan s → FitsView plan s domain → FitsStage plan (view_in plan.tree s.node domain) domain s Ready → CanBegin plan domain s
  begins fits view ready =
      let own : FitsDomain plan.tree.kinds plan.tree.domains s.node.0 domain = domain_fits plan.tree is_plan.program s.node domain listed in
      record {
        counts = omega (arith, fits.counts);
        tries = own.tries;
        nothing = ready.nothing.holds;
        can = can_preserve l plan s domain is_plan listed s.field.words s.field.words (λ n. 0) (λ reference. s.field.words) view ready (next_begin (own_count s));
        strikes = strikes_within l plan s.node domain s.field.script is_plan listed fits.script;
      }

  pub goes_on : Fits plan s → FitsView plan s domain → HasBegun domain s → CanGoOn plan domain s
  goes_on fits view begun = record {
    counts = omega (arith, fits.counts);
    here = begun.here;
    few = few_items;
    can = record {
      sound = plan_sound l.follows l.covered plan s.node domain is_plan listed;
      words = λ p h. view.words p (reach_is l plan s.node domain is_plan listed p ∙ h);
      strikes = strikes_within l plan s.node domain s.field.script is_plan listed fits.script;
      known = refl;
      keeps = begun.keeps;
      holds = begun.holds;
    };
  }

  makes : Fits plan s → FitsView plan s domain → (stage : Stage) → FitsStage plan (view_in plan.tree s.node domain) domain s stage
      → CanMove stage → CanMakeTries plan domain s stage
  makes fits view Ready own moves = begins fits view own
  makes fits view (Waiting spare point) own moves = absurd moves
  makes fits view (Resumed spare point) own moves = (goes_on fits view own.begun, here_present own.present, own.group)
  makes fits view (Lost spare cause over) own moves = goes_on fits view own.begun
  makes fits view (Ended ending) own moves = absurd moves

-- the law: tries can be made
pub tries_made : MoreLaws → TriesCanBeMade
tries_made l plan s domain is_plan listed fits moves =
    let view : FitsView plan s domain = fits_view l.follows plan s domain is_plan listed fits in
    makes l plan s domain is_plan listed fits view s.stage view.stage moves
