-- What a pass has after its calls, where the table behind its pointer is known by an equation.
use Rattle.std.proofs.Common.{◌≡◌, ℕ, List, [], ◌++◌, Option, subst, sym}
use Rattle.std.specs.Arc.{arc_value}
use Rattle.atomic_table.specs.Seated.{TableId}
use Rattle.atomic_table.specs.declared.badge.Badge.{Badge}
use Rattle.cd_core.specs.declared.ask.Ask.{Ask}
use Rattle.cd_cells.specs.declared.cell_pass.CellPass.{CellPass}
use Rattle.cd_cells.specs.declared.view.View.{View}
use Rattle.cd_cells.specs.Hands.{Has, WaitsInHand, members_asked}
use Rattle.cd_cells.specs.Kinds.{Kind}
use Rattle.cd_cells.specs.Passes.{WaitsHere, key_of}
use Rattle.cd_cells.specs.Steps.{Sat}

-- what is said of the table that was reached is said of the pass's own
pub rested_has : {K T : Type 0} (kind : K → Kind T) (old : CellPass K T) (key : K) (table seat : TableId) (me : Sat K T) (own : Option (Badge (View K)))
    (ask : Ask) (may : List Ask) (node : ℕ) (state : T) → key ≡ key_of old → table ≡ (arc_value old.table).shared.table_id → WaitsHere kind old ask may node state
    → (WaitsInHand (kind key) key table old.seat.table_id old.seat.me old.ticket ask may node state
    → Has (kind key) key table seat me own [] (members_asked (kind key) state ++ may))
    → Has (kind (key_of old)) (key_of old) (arc_value old.table).shared.table_id seat me own [] (members_asked (kind (key_of old)) state ++ may)
rested_has {K} {T} kind old key table seat me own ask may node state key_is table_is w gives =
    let W : K → TableId → Type 0 = λ k t. WaitsInHand (kind k) k t old.seat.table_id old.seat.me old.ticket ask may node state in
    let H : K → TableId → Type 0 = λ k t. Has (kind k) k t seat me own [] (members_asked (kind k) state ++ may) in
    let own_table : TableId = (arc_value old.table).shared.table_id in
    let here : W (key_of old) own_table = record { named = w.named; waits = w.waits; has = w.now.has } in
    let there : W key table = subst (λ (t : TableId). W key t) (sym table_is) (subst (λ (k : K). W k own_table) (sym key_is) here) in
    subst (λ (t : TableId). H (key_of old) t) table_is (subst (λ (k : K). H k table) key_is (gives there))
