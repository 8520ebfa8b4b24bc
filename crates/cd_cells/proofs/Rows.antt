-- Several steps in a row: a domain is sent. And what is in hand after a claim, and after the parent was taken.
use Rattle.std.proofs.Common.{◌≡◌, ℕ, ◌<◌, true, ◌==◌, List, [], ◌∷◌, Option, None, Some, sym, refl, ap, subst, ◌∙◌, arith, eq-eqb}
use Rattle.std.proofs.lemmas.Bool.{cond-true}
use Rattle.atomic_table.specs.Seated.{TableId}
use Rattle.cd_cells.specs.Asks.{Ask}
use Rattle.cd_cells.specs.declared.view.View.{View}
use Rattle.cd_cells.specs.declared.view.Cell.{Cell}
use Rattle.cd_cells.specs.Places.Sort.{turns, holds, names}
use Rattle.cd_cells.specs.Listing.{often, nodes, find, ask_out}
use Rattle.cd_cells.specs.Views.{tally, name_of, naming}
use Rattle.cd_cells.specs.Rule.{Ticketed}
use Rattle.cd_cells.specs.Steps.{turning, posting, unnaming, sending, Sat, claiming, Claimed, resuming, Resumed}
use Rattle.cd_cells.specs.Seats.{IsInHand}
use Rattle.cd_cells.specs.Kinds.{Kind}
use Rattle.cd_cells.proofs.Listed.{often_here, find_node}

module _ {K : Type 0} (v : View K) (d : ℕ) where
  module _ (named : 0 < tally names d v) where
    is_first : ((find d v.named).node.0 == d) ≡ true
    unfolding tally
    is_first = eq-eqb (find d v.named).node.0 d (find_node d v.named named)

    pub turned_there : 0 < tally turns d (turning v d)
    unfolding tally
    turned_there =
        let e : often d (nodes (turning v d).turns) ≡ often d (d ∷ nodes v.turns) = ap (λ (y : ℕ). often d (y ∷ nodes v.turns)) (find_node d v.named named) in
        let o = often_here d (nodes v.turns) in
        omega arith

    pub turned_after : 0 < tally turns d (unnaming (turning v d) d)
    unfolding tally
    turned_after = turned_there

    pub found_first : find d (turning v d).turns ≡ find d v.named
    found_first = cond-true ((find d v.named).node.0 == d) (find d v.named) (find d v.turns) is_first

    pub sent : posting (unnaming (turning v d) d) d ≡ sending v d
    sent = ap (λ (l : List Ask). record (sending v d) { turns = l }) (cond-true ((find d v.named).node.0 == d) v.turns (find d v.named ∷ ask_out d v.turns) is_first)

  pub still_named : 0 < tally names d v → 0 < tally names d (turning v d)
  unfolding tally
  still_named h = h

-- the ticket of a domain goes with its state
pub ticket_of : {K T : Type 0} (key : K) (v : View K) (d : ℕ) (t : TableId) (c : Cell K T) → 0 < tally names d v → v.key ≡ Some key → v.table ≡ name_of t
    → c.ticket.table_id ≡ t → c.ticket.views ≡ naming v.key v.table (find d v.named) ∷ []
    → Ticketed key v.table (find d (turning v d).turns) c
ticket_of {K} key v d t c named is_key known same views = record {
  views = views
      ∙ (ap (λ (o : Option K). naming o v.table (find d v.named) ∷ []) is_key
      ∙ ap (λ (a : Ask). naming (Some key) v.table a ∷ []) (sym (found_first v d named)));
  table = ap name_of same ∙ sym known;
}

-- ---- what is in hand after a claim, and after the parent was taken

held_first : {K : Type 0} (v : View K) (d : ℕ) (a : Ask) (asks : List Ask) → v.holds ≡ a ∷ asks → a.node.0 ≡ d → (0 < tally holds d v) × (find d v.holds ≡ a)
unfolding tally
held_first v d a asks is node = (
  (let e : often d (nodes v.holds) ≡ often d (d ∷ nodes asks) = ap (λ (l : List Ask). often d (nodes l)) is ∙ ap (λ (y : ℕ). often d (y ∷ nodes asks)) node in
      let o = often_here d (nodes asks) in
      omega arith),
  ap (find d) is ∙ cond-true (a.node.0 == d) a (find d asks) (eq-eqb a.node.0 d node),
)

module _ {K T : Type 0} (k : Kind T) (key : K) (m m' : Sat K T) (d : ℕ) (c : Cell K T) where
  in_hand_with : (a : Ask) (w : View K) → m' ≡ (w, (d, None) ∷ m.1) → w.holds ≡ a ∷ m.0.holds → w.table ≡ m.0.table → a.node.0 ≡ d → Ticketed key m.0.table a c → IsInHand key m' d c
  in_hand_with a w now holding table node ticket =
      subst (λ (n : Sat K T). IsInHand key n d c) (sym now) (record {
        held = (held_first w d a m.0.holds holding node).0;
        hand = refl;
        ticket = subst (λ (b : Ask). Ticketed key w.table b c) (sym (held_first w d a m.0.holds holding node).1)
            (subst (λ (l : List ℕ). Ticketed key l a c) (sym table) ticket);
      })

  pub claimed_in_hand : Claimed k key m d m' c None → IsInHand key m' d c
  claimed_in_hand r = in_hand_with r.ask (claiming m.0 d r.ask) r.now refl refl r.node r.ticket

  pub resumed_in_hand : Resumed k key m d m' c None → IsInHand key m' d c
  resumed_in_hand r = in_hand_with r.ask (resuming m.0 d r.ask (k.group c.state)) r.now refl refl r.node r.ticket
