-- A domain whose tries are done fits when it has completed or escalated: its pass holds nothing and has all its room again, and
-- a root has put its entries back.
use Rattle.std.proofs.Common.{◌≡◌, ◌⊎◌, inl, inr, ℕ, ◌+◌, ◌-◌, Bool, true, false, cond, is_none, List, [], ◌∷◌, Option, Some, slice_get, refl, ap, subst, sym, ◌∙◌, arith}
use Rattle.cd_tree.specs.declared.domain.NodeId.{NodeId}
use Rattle.cd_tree.specs.declared.domain.Domain.{Domain}
use Rattle.cd_tree.specs.declared.document.Fault.{Fault}
use Rattle.cd_tree.specs.declared.event.Cause.{Cause}
use Rattle.cd_tree.specs.declared.event.Event.TheVariants.{Complete}
use Rattle.cd_tree.specs.Domains.{Node}
use Rattle.cd_tree.specs.Scripts.{IsAccepted, path_of}
use Rattle.cd_tree.proofs.View.{first_has_none}
use Rattle.cd_field.specs.FieldModel.{FieldModel, IsPresent, gone_up, told}
use Rattle.cd_keep.specs.declared.keep_id.KeepId.{KeepId}
use Rattle.cd_keep.specs.PassModel.{PassModel, HoldsNothing, gave_up, same_id}
use Rattle.cd_cover.specs.Plans.{PlanModel, IsPlan}
use Rattle.cd_tries.specs.Fitting.{ArePresentIn, HasWords}
use Rattle.cd_tries.specs.Keeping.{Known, HoldsThese, all_ids, times_in}
use Rattle.cd_tries.specs.Refilling.{gave_up_each, refilled_all}
use Rattle.cd_tries.specs.TryLaws.{PutBack}
use Rattle.cd_core.specs.declared.state.Ending.{Ending}
use Rattle.cd_core.specs.declared.state.Ending.TheVariants.{Done, Escalated}
use Rattle.cd_core.specs.declared.state.Stage.TheVariants.{Ended}
use Rattle.cd_core.specs.declared.verdict.Verdict.{Verdict}
use Rattle.cd_core.specs.declared.verdict.Verdict.TheVariants.{Completes, Escalates}
use Rattle.cd_core.specs.Advancing.{put_back_at_root}
use Rattle.cd_core.specs.Fits.{BlamesOwn, Fits, IsHereAtEnd, LinksAreKept}
use Rattle.cd_core.specs.LawsBelow.{MoreLaws}
use Rattle.cd_core.specs.StateLaws.{CompletingFits, EscalatingFits, completed, escalated_by}
use Rattle.cd_core.specs.StateModel.{StateModel}
use Rattle.cd_core.specs.Trying.{FitsTried}
use Rattle.cd_core.proofs.Facts.{reach_is}
use Rattle.cd_core.proofs.Grounds.{body_in, view_in}
use Rattle.cd_core.proofs.Viewed.{view_is}

-- ---- what is given up

-- the pass after these ids were given up: it holds nothing, has their room, and knows what it knew
pub record GaveUp (p q : PassModel) : Type 0 where
  pub nothing : HoldsNothing q
  pub room : q.room ≡ p.room + p.held
  pub most : q.most ≡ p.most
  pub known : q.known ≡ p.known

one_less_held : (b : Bool) (n m : ℕ) → n ≡ cond b 1 0 + m → cond b (n - 1) n ≡ m
one_less_held true n m e = omega (arith, e)
one_less_held false n m e = omega (arith, e)

rest_held : (p : PassModel) (id : KeepId) (ids : List KeepId) → HoldsThese p (id ∷ ids) → HoldsThese (gave_up p id) ids
rest_held p id ids holds = record {
  each = λ q. one_less_held (same_id id q) (p.holds q) (times_in q ids) (holds.each q);
  held = omega (arith, holds.held);
}

gave_up_all : (p : PassModel) (ids : List KeepId) → HoldsThese p ids → GaveUp p (gave_up_each p ids)
gave_up_all p [] holds = record {
  nothing = record { none = holds.each; held = holds.held };
  room = omega (arith, holds.held);
  most = refl;
  known = refl;
}
gave_up_all p (id ∷ ids) holds =
    let rest : GaveUp (gave_up p id) (gave_up_each (gave_up p id) ids) = gave_up_all (gave_up p id) ids (rest_held p id ids holds) in
    record {
      nothing = rest.nothing;
      room = omega (arith, rest.room, holds.held);
      most = rest.most;
      known = rest.known;
    }

-- ---- what is put back

-- an escalating machine: whose it is, its script and its words, and that all is present where it was, or at the root
record Escalating (domain : Domain) (m n : FieldModel) : Type 0 where
  pub node : n.node ≡ m.node
  pub script : n.script ≡ m.script
  pub words : HasWords domain.entries n
  pub still : ArePresentIn domain.entries m → ArePresentIn domain.entries n
  pub root : is_none domain.parent ≡ true → ArePresentIn domain.entries n

module _ (l : MoreLaws) (plan : PlanModel) (s : StateModel) (domain : Domain) (is_plan : IsPlan plan) (listed : slice_get plan.tree.domains s.node.0 ≡ Some domain) where
  abbrev d : Node
  d = view_in plan.tree s.node domain

  has_words : (verdict : Verdict) → FitsTried plan d domain s verdict → HasWords domain.entries s.field
  has_words verdict f p h = f.words p (reach_is l plan s.node domain is_plan listed p ∙ h)

  escalating : (verdict : Verdict) → FitsTried plan d domain s verdict → (b : Bool) → is_none domain.parent ≡ b
      → Escalating domain s.field (cond b (refilled_all s.pass.known domain.entries s.keeps s.field) s.field)
  escalating verdict f true root =
      let n : FieldModel = refilled_all s.pass.known domain.entries s.keeps s.field in
      let back : PutBack s.pass.known domain.entries s.keeps s.field n =
      l.laws.back s.pass.known domain.entries s.keeps s.field (has_words verdict f) f.keeps in
      record {
        node = ap (λ (x : FieldModel). x.node) back.same;
        script = ap (λ (x : FieldModel). x.script) back.same;
        words = λ p h. (back.present p h).known;
        still = λ present. back.present;
        root = λ e. back.present;
      }
  escalating verdict f false root = record {
    node = refl;
    script = refl;
    words = has_words verdict f;
    still = λ present. present;
    root = λ e. absurd (cc);
  }

  -- a state that has ended
  ended_fits : (verdict : Verdict) (ending : Ending) (m : FieldModel) → FitsTried plan d domain s verdict → m.node ≡ s.node → m.script ≡ s.field.script
      → HasWords domain.entries m → BlamesOwn plan d ending
      → IsHereAtEnd plan d (record s { stage = Ended ending; keeps = []; field = m; pass = gave_up_each s.pass (all_ids s.keeps) }) ending
      → Fits plan (record s { stage = Ended ending; keeps = []; field = m; pass = gave_up_each s.pass (all_ids s.keeps) })
  ended_fits verdict ending m f node script words blamed present =
      let q : PassModel = gave_up_each s.pass (all_ids s.keeps) in
      let gave : GaveUp s.pass q = gave_up_all s.pass (all_ids s.keeps) f.holds in
      let S : List Fault → Type 0 = λ fs. IsAccepted plan.tree fs in
      let K : Known → Type 0 = λ known. LinksAreKept plan known d s.above in
      record {
        domain = domain;
        body = body_in plan.tree domain;
        is = f.is;
        counts = f.counts;
        script = subst S (sym script) f.script;
        words = λ p h. words p (sym (reach_is l plan s.node domain is_plan listed p) ∙ h);
        most = omega (arith, f.most, gave.most);
        links = subst K (sym gave.known) f.links;
        stage = record {
          blamed = blamed;
          nothing = record { keeps = refl; holds = gave.nothing; room = gave.room ∙ f.room };
          here = node;
          present = present;
        };
      }

  completed_fits : (leak : ℕ) → FitsTried plan d domain s (Completes leak) → Fits plan (completed s leak)
  completed_fits leak f =
      ended_fits (Completes leak) (Done leak) (told s.field (Complete s.node)) f f.here refl (has_words (Completes leak) f) tt
      (λ p h.
      (let there : IsPresent s.field p = f.leaves p (sym (reach_is l plan s.node domain is_plan listed p) ∙ h) in
      record { known = there.known; here = there.here }))

  -- all is present at its end where it escalates for its own sake, or is the root
  here_at_end : (cause : Cause) (over : ℕ) (n : FieldModel) → FitsTried plan d domain s (Escalates cause over) → Escalating domain s.field n
      → (cause.path ≡ path_of plan.tree.domains s.node) ⊎ (s.node.0 ≡ 0) → ArePresentIn domain.entries n
  here_at_end cause over n f e (inl own) = e.still (f.leaves.1 own)
  here_at_end cause over n f e (inr first) =
      e.root (ap (λ (o : Option NodeId). is_none o) (first_has_none plan.tree is_plan.program s.node domain listed (sym first)))

  escalated_fits : (cause : Cause) (over : ℕ) → FitsTried plan d domain s (Escalates cause over) → Fits plan (escalated_by domain s cause over)
  escalated_fits cause over f =
      let n : FieldModel = put_back_at_root domain s.pass.known s.keeps s.field in
      let e : Escalating domain s.field n = escalating (Escalates cause over) f (is_none domain.parent) refl in
      ended_fits (Escalates cause over) (Escalated cause over) (gone_up n) f (e.node ∙ f.here) e.script e.words f.leaves.0
      (λ why p h.
      (let there : IsPresent n p = here_at_end cause over n f e why p (sym (reach_is l plan s.node domain is_plan listed p) ∙ h) in
      record { known = there.known; here = there.here }))

-- the laws: what completes fits, and so does what escalates
pub ends_completed : MoreLaws → CompletingFits
ends_completed l plan s d domain leak is_plan listed f =
    let D : Node → Type 0 = λ x. FitsTried plan x domain s (Completes leak) in
    completed_fits l plan s domain is_plan listed leak (subst D (view_is l.follows plan s.node domain d is_plan listed f.is) f)

pub ends_escalated : MoreLaws → EscalatingFits
ends_escalated l plan s d domain cause over is_plan listed f =
    let D : Node → Type 0 = λ x. FitsTried plan x domain s (Escalates cause over) in
    escalated_fits l plan s domain is_plan listed cause over (subst D (view_is l.follows plan s.node domain d is_plan listed f.is) f)
