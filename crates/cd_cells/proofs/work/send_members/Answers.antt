use Rattle.std.proofs.Common.{rules, ◌≡◌, List, [], ◌∷◌, sym, subst}
use Rattle.std.specs.Vec.Iter.{into_iter_items}
use Rattle.cd_core.specs.declared.state.NodeState.{NodeState}
use Rattle.cd_core.specs.StateModel.{StateModel, state_model}
use Rattle.cd_cells.specs.Working.{SendsStill, StillWorks, asked_of, plan_of, was_of}
use Rattle.cd_cells.specs.States.{ask_of}
use Rattle.cd_cells.proofs.SendLemmas.{domain_below, next_below, next_posts, sends_first, sends_on, waits_here}
use Rattle.cd_cells.proofs.StatesLawful.{of_ask}
use Rattle.cd_cells.proofs.work.send_members.Goals as goal

pub rest-requires-clause-below : goal.rest-requires-clause-below
rest-requires-clause-below g c =
    let s = c.requires.sends in
    domain_below (plan_of c.args.cells.now) (was_of g.F.Field.model c.args.cells.now).script (was_of g.F.Field.model c.args.cells.now).words s.ask
    (state_model g.F.Field.model g.P.Pass.model c.args.state) s.rests.1

pub rest-requires-clause-waits : goal.rest-requires-clause-waits
rest-requires-clause-waits g c =
    let s = c.requires.sends in (
      s.ask,
      [],
      record {
        named = sym (of_ask (plan_of c.args.cells.now) (was_of g.F.Field.model c.args.cells.now).script (was_of g.F.Field.model c.args.cells.now).words s.ask
            (state_model g.F.Field.model g.P.Pass.model c.args.state) s.rests.1);
        waits = s.rests;
        now = s.works;
      },
    )

pub loop-child-init : goal.loop-child-init
loop-child-init g c =
    let s = c.requires.sends in
    let items : into_iter_items c.into_iter-child-iterator.result ≡ c.args.children.items = search rules in
    let S : List (NodeState _ _) → Type 0 = λ children.
    SendsStill g.F.Field.model g.P.Pass.model c.args.cells.now c.rest.new.self (state_model g.F.Field.model g.P.Pass.model c.args.state) children in
    subst S (sym items)
    (sends_first g.F.Field.model g.P.Pass.model c.args.cells.now c.rest.new.self c.args.state c.args.children.items s
    c.rest.ensures.same (c.rest.ensures.now s.ask []
    (waits_here g.F.Field.model g.P.Pass.model c.args.cells.now c.args.state c.args.children.items s)))

pub post-requires-clause-below : goal.post-requires-clause-below
post-requires-clause-below g c =
    let items : into_iter_items c.loop-child.child-iterator ≡ c.in-Some.child ∷ into_iter_items c.next.new.self = search rules in
    let S : List (NodeState _ _) → Type 0 = λ children.
    SendsStill g.F.Field.model g.P.Pass.model c.args.cells.now c.loop-child.cells (state_model g.F.Field.model g.P.Pass.model c.args.state) children in
    next_below g.F.Field.model g.P.Pass.model c.args.cells.now c.loop-child.cells (state_model g.F.Field.model g.P.Pass.model c.args.state) c.in-Some.child
    (into_iter_items c.next.new.self) (subst S items c.loop-child.invariant)

pub loop-child-preserved : goal.loop-child-preserved
loop-child-preserved g c =
    let s : StateModel = state_model g.F.Field.model g.P.Pass.model c.args.state in
    let items : into_iter_items c.loop-child.child-iterator ≡ c.in-Some.child ∷ into_iter_items c.next.new.self = search rules in
    let S : List (NodeState _ _) → Type 0 = λ children.
    SendsStill g.F.Field.model g.P.Pass.model c.args.cells.now c.loop-child.cells s children in
    let still : S (c.in-Some.child ∷ into_iter_items c.next.new.self) = subst S items c.loop-child.invariant in
    let posts = next_posts g.F.Field.model g.P.Pass.model c.args.cells.now c.loop-child.cells s c.in-Some.child (into_iter_items c.next.new.self) still in
    sends_on g.F.Field.model g.P.Pass.model c.args.cells.now c.loop-child.cells c.post.new.self s c.in-Some.child (into_iter_items c.next.new.self)
    still c.post.ensures.same
    (c.post.ensures.posts [] (ask_of (plan_of c.args.cells.now) s c.in-Some.child.node.0) (asked_of (plan_of c.args.cells.now) s (into_iter_items c.next.new.self)) posts)

pub returns-in_err-note-clause-still : goal.returns-in_err-note-clause-still
returns-in_err-note-clause-still g c =
    let s : StateModel = state_model g.F.Field.model g.P.Pass.model c.args.state in
    let items : into_iter_items c.loop-child.child-iterator ≡ c.in-Some.child ∷ into_iter_items c.next.new.self = search rules in
    let S : List (NodeState _ _) → Type 0 = λ children.
    SendsStill g.F.Field.model g.P.Pass.model c.args.cells.now c.loop-child.cells s children in
    let still : S (c.in-Some.child ∷ into_iter_items c.next.new.self) = subst S items c.loop-child.invariant in
    let posts = next_posts g.F.Field.model g.P.Pass.model c.args.cells.now c.loop-child.cells s c.in-Some.child (into_iter_items c.next.new.self) still in
    let left = asked_of (plan_of c.args.cells.now) s (into_iter_items c.next.new.self) in
    let can : StillWorks g.F.Field.model g.P.Pass.model c.post.new.self = ([], left, (c.post.ensures.posts [] (ask_of (plan_of c.args.cells.now) s c.in-Some.child.node.0) left posts).now) in
    search (rules, can)
