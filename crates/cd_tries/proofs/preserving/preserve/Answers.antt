use Rattle.std.proofs.Common.{ℕ, Option, List, ◌≡◌, ◌≤◌, subst, sym, sum_by, arith}
use Rattle.std.proofs.lemmas.Result.{IfOk-weaker}
use Rattle.cd_tree.specs.Meaning.{entry_need}
use Rattle.cd_tree.specs.declared.domain.Entry.{Entry}
use Rattle.cd_tries.specs.declared.keep.Pieces.{Pieces}
use Rattle.cd_tries.specs.declared.keep.Keep.{Keep}
use Rattle.cd_tries.specs.Fitting.{ArePresentIn, LinksCover}
use Rattle.cd_tries.specs.Preserving.{IsSaved, IsPreserved, links_for, spot}
use Rattle.cd_tries.proofs.Preserved.{ArePreserved, nth_entry, none_preserved, one_preserved, all_preserved, entry_present, entry_room, entry_covered}
use Rattle.cd_tries.proofs.preserving.preserve.Goals as goal

pub loop-number-init : goal.loop-number-init
loop-number-init g c =
    let links : ℕ → Option Pieces = links_for c.args.plan.now.tree.domains c.args.node c.args.above.now in
    let e : c.args.domain.now.entries ≡ c.items-entry-items.result.now = sym c.items-entry-items.ensures.value in
    let A : List Entry → Type 0 = λ es. LinksCover (g.P.Pass.model c.args.pass.now).known links 0 es in
    let B : List Entry → Type 0 = λ es. sum_by entry_need es ≤ (g.P.Pass.model c.args.pass.now).room in
    let C : List Keep → Type 0 = λ ks. ArePreserved links 0 c.items-entry-items.result.now ks (g.F.Field.model c.args.field.now) (g.F.Field.model c.args.field.now)
    (g.P.Pass.model c.args.pass.now) (g.P.Pass.model c.args.pass.now) in
    subst C (sym c.new-keeps.ensures)
    (none_preserved links c.items-entry-items.result.now (g.F.Field.model c.args.field.now) (g.P.Pass.model c.args.pass.now)
    (subst A e c.requires.can.covered) (subst B e c.requires.can.room))

pub preserve_entry-requires-clause-present : goal.preserve_entry-requires-clause-present
preserve_entry-requires-clause-present g c = λ _ _.
    let A : List Entry → Type 0 = λ es. ArePresentIn es (g.F.Field.model c.args.field.now) in
    entry_present (g.F.Field.model c.args.field.now) (g.F.Field.model c.loop-number.field) c.items-entry-items.result.now c.loop-number.number
    c.loop-number-test.true c.loop-number.invariant.same (subst A (sym c.items-entry-items.ensures.value) c.requires.can.present)

pub preserve_entry-requires-clause-room : goal.preserve_entry-requires-clause-room
preserve_entry-requires-clause-room g c = λ _ _.
    entry_room c.items-entry-items.result.now c.loop-number.number (g.P.Pass.model c.loop-number.pass).room c.loop-number-test.true c.loop-number.invariant.room

pub preserve_entry-requires-clause-covers : goal.preserve_entry-requires-clause-covers
preserve_entry-requires-clause-covers g c = λ _ _.
    let links : ℕ → Option Pieces = links_for c.args.plan.now.tree.domains c.args.node c.args.above.now in
    entry_covered (g.P.Pass.model c.loop-number.pass).known links c.items-entry-items.result.now c.loop-number.number _ c.loop-number-test.true
    c.link_for-link.ensures c.loop-number.invariant.covered

pub loop-number-preserved : goal.loop-number-preserved
loop-number-preserved g c =
    let links : ℕ → Option Pieces = links_for c.args.plan.now.tree.domains c.args.node c.args.above.now in
    let k : ℕ = c.loop-number.number in
    let entry : Entry = nth_entry c.items-entry-items.result.now k in
    let A : Option Pieces → Type 0 = λ o. IsSaved (spot (g.F.Field.model c.loop-number.field) k entry.range o) entry.how c.in_ok-keep.keep
    (g.F.Field.model c.loop-number.field) (g.F.Field.model c.preserve_entry.new.field) (g.P.Pass.model c.loop-number.pass) (g.P.Pass.model c.preserve_entry.new.pass) in
    one_preserved links k c.items-entry-items.result.now c.in_ok-keep.keep c.loop-number.keeps c.push.new.self
    (g.F.Field.model c.args.field.now) (g.F.Field.model c.loop-number.field) (g.F.Field.model c.preserve_entry.new.field)
    (g.P.Pass.model c.args.pass.now) (g.P.Pass.model c.loop-number.pass) (g.P.Pass.model c.preserve_entry.new.pass)
    c.loop-number-test.true c.in_ok-push.ensures.ok (subst A c.link_for-link.ensures c.in_ok-keep.ensures) c.loop-number.invariant

pub returns : goal.returns
returns g c =
    let links : ℕ → Option Pieces = links_for c.args.plan.now.tree.domains c.args.node c.args.above.now in
    IfOk-weaker c.of.result (λ (shelf : List Keep). shelf ≡ c.loop-number.keeps)
    (λ (shelf : List Keep). IsPreserved c.args.node c.args.domain.now links shelf (g.F.Field.model c.args.field.now) (g.F.Field.model c.loop-number.field)
    (g.P.Pass.model c.args.pass.now) (g.P.Pass.model c.loop-number.pass))
    (λ shelf is.
    all_preserved c.args.node c.args.domain.now links c.loop-number.number c.items-entry-items.result.now c.loop-number.keeps shelf
    (g.F.Field.model c.args.field.now) (g.F.Field.model c.loop-number.field) (g.P.Pass.model c.args.pass.now) (g.P.Pass.model c.loop-number.pass)
    c.items-entry-items.ensures.value (omega (arith, c.loop-number-test.false)) c.requires.here is c.loop-number.invariant) c.of.ensures
