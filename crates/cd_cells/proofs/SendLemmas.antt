-- The turns of a worker, with the states of domains: what its calls want, and what lasts while it sends.
use Rattle.std.proofs.Common.{◌≡◌, ℕ, ◌<◌, List, [], ◌∷◌, ◌++◌, map, length, refl, ap, sym, subst, ◌∙◌}
use Rattle.std.proofs.lemmas.List.{append-nil}
use Rattle.std.proofs.lemmas.List.Elements.{All-push}
use Rattle.cd_base.specs.Words.{Words}
use Rattle.cd_tree.specs.declared.document.Fault.{Fault}
use Rattle.cd_tree.specs.declared.domain.NodeId.{NodeId}
use Rattle.cd_tree.proofs.EachDomain.{number_within}
use Rattle.cd_field.specs.FieldModel.{FieldModel}
use Rattle.cd_keep.specs.PassModel.{PassModel}
use Rattle.cd_cover.specs.Plans.{PlanModel}
use Rattle.cd_core.specs.declared.ask.Ask.{Ask}
use Rattle.cd_core.specs.declared.state.NodeState.{NodeState}
use Rattle.cd_core.specs.Asks.{Answers}
use Rattle.cd_core.specs.StateModel.{StateModel, state_model}
use Rattle.cd_cells.specs.declared.cell_pass.CellPass.{CellPass}
use Rattle.cd_cells.specs.declared.start.Start.{Start}
use Rattle.cd_cells.specs.Working.{Sends, SendsStill, Works, asked_of, kind_of, plan_of, was_of}
use Rattle.cd_cells.specs.Passes.{HasPosted, PostsNext, SameTable, WaitsHere, key_of}
use Rattle.cd_cells.specs.States.{IsReady, ask_of, group_of}
use Rattle.cd_cells.proofs.StatesLawful.{of_ask}

-- a state that answers an ask is of a domain of the program
pub domain_below : (plan : PlanModel) (faults : List Fault) (loaded : Words) (ask : Ask) (s : StateModel) → Answers plan faults loaded ask s
    → s.node.0 < length plan.tree.domains
domain_below plan faults loaded ask s a =
    subst (λ (n : ℕ). n < length plan.tree.domains) (sym (of_ask plan faults loaded ask s a))
    (number_within plan.tree.domains ask.node a.domain a.is)

-- ---- sending

-- what is asked of members is asked of the states that were sent for them
asked_as : {F P : Type 0} (plan : PlanModel) (s : StateModel) (children : List (NodeState F P))
    → map (ask_of plan s) (map (λ (child : NodeState F P). child.node.0) children) ≡ asked_of plan s children
asked_as plan s [] = refl
asked_as plan s (child ∷ children) = ap (λ (asks : List Ask). ask_of plan s child.node.0 ∷ asks) (asked_as plan s children)

module _ {F P : Type 0} (field : F → FieldModel) (pass : P → PassModel) (first : CellPass (Start F) (NodeState F P)) where
  pub sends_first : (now : CellPass (Start F) (NodeState F P)) (state : NodeState F P) (children : List (NodeState F P))
      → Sends field pass first state children → SameTable first now
      → Works field pass now [] (map (ask_of (plan_of now) (state_model field pass state)) (group_of (plan_of now) (state_model field pass state)) ++ [])
      → SendsStill field pass first now (state_model field pass state) children
  sends_first now state children sends same works =
      let s : StateModel = state_model field pass state in
      let W : List Ask → Type 0 = λ asks. Works field pass now [] asks in
      let asked : map (ask_of (plan_of now) s) (group_of (plan_of now) s) ++ [] ≡ asked_of (plan_of first) s children =
      append-nil (map (ask_of (plan_of now) s) (group_of (plan_of now) s))
      ∙ ap (λ (k : Start F). map (ask_of k.plan.value s) (group_of k.plan.value s)) same.key
      ∙ ap (map (ask_of (plan_of first) s)) (sym sends.group)
      ∙ asked_as (plan_of first) s children in
      record { same = same; works = subst W asked works; each = sends.ready }

  pub waits_here : (state : NodeState F P) (children : List (NodeState F P)) → (s : Sends field pass first state children)
      → WaitsHere (kind_of field pass) first s.ask [] state.node.0 state
  waits_here state children s = record {
    named = sym (of_ask (plan_of first) (was_of field first).script (was_of field first).words s.ask (state_model field pass state) s.rests.1);
    waits = s.rests;
    now = s.works;
  }

  -- the next one is of a domain of the program, may be posted and is ready
  pub next_below : (now : CellPass (Start F) (NodeState F P)) (s : StateModel) (child : NodeState F P) (rest : List (NodeState F P))
      → SendsStill field pass first now s (child ∷ rest) → child.node.0 < length (plan_of now).tree.domains
  next_below now s child rest st =
      let L : Start F → Type 0 = λ k. child.node.0 < length k.plan.value.tree.domains in
      subst L (sym st.same.key)
      (domain_below (plan_of first) (was_of field first).script (was_of field first).words (ask_of (plan_of first) s child.node.0)
      (state_model field pass child) st.each.0.1)

  pub next_posts : (now : CellPass (Start F) (NodeState F P)) (s : StateModel) (child : NodeState F P) (rest : List (NodeState F P))
      → SendsStill field pass first now s (child ∷ rest)
      → PostsNext (kind_of field pass) now [] (ask_of (plan_of first) s child.node.0) (asked_of (plan_of first) s rest) child.node.0 child
  next_posts now s child rest st =
      let R : Start F → Type 0 = λ k. IsReady k.plan.value (field k.field.value).script (field k.field.value).words (ask_of (plan_of first) s child.node.0)
      (state_model field pass child) in
      record {
        named = sym (of_ask (plan_of first) (was_of field first).script (was_of field first).words (ask_of (plan_of first) s child.node.0)
            (state_model field pass child) st.each.0.1);
        ready = subst R (sym st.same.key) st.each.0;
        now = st.works;
      }

  pub sends_on : (now later : CellPass (Start F) (NodeState F P)) (s : StateModel) (child : NodeState F P) (rest : List (NodeState F P))
      → SendsStill field pass first now s (child ∷ rest)
      → SameTable now later → HasPosted (kind_of field pass) now later [] (asked_of (plan_of first) s rest) child.node.0
      → SendsStill field pass first later s rest
  sends_on now later s child rest st same posted = record {
    same = record { key = same.key ∙ st.same.key; table = same.table ∙ st.same.table };
    works = posted.now;
    each = st.each.1;
  }
