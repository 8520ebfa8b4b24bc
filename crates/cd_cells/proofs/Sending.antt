-- A domain is turned, posted and claimed.
use Rattle.std.proofs.Common.{◌≡◌, ◌≢◌, ℕ, ◌+◌, ◌*◌, ◌/◌, ◌<◌, ◌≤◌, List, [], ◌∷◌, get_or, Option, None, Some, unwrap_or, sym, refl, ap, subst, ◌∙◌, arith, ⊎_elim, ◌==◌, eq-eqb, ne_eqb}
use Rattle.std.proofs.lemmas.Bool.{cases_eq}
use mathlib.Core.Option.{none}
use lib.ListN.{get_elem?}
use prog.Atomic.{either}
use Rattle.atomic_table.specs.Table.{rest, step, stepped, keeps, takes, gives, Allows}
use Rattle.atomic_table.specs.Seated.{TableId}
use Rattle.cd_cells.specs.Asks.{Ask}
use Rattle.cd_cells.specs.declared.view.Meeting.{Meeting}
use Rattle.cd_cells.specs.declared.view.View.{View}
use Rattle.cd_cells.specs.declared.view.Cell.{Cell}
use Rattle.cd_cells.specs.Places.{Where, Sort, mark, content}
use Rattle.cd_cells.specs.Places.Where.{due, turning as turning_place, ready, out}
use Rattle.cd_cells.specs.Places.Sort.{rights, turns, holds, names, posts, claims}
use Rattle.cd_cells.specs.Listing.{often, nodes, one_out, find, ask_out}
use Rattle.cd_cells.specs.Kinds.{Kind}
use Rattle.cd_cells.specs.Views.{tally, name_of}
use Rattle.cd_cells.specs.Rule.{phase_at, Fine, Ticketed, Keeps, Has, Ordered}
use Rattle.cd_cells.specs.Steps.{Sat, handed, homing, with_view, meeting, turning, Turns, posting, Posts, claiming, Claimed, Claims}
use Rattle.cd_cells.proofs.Listed.{often_here, often_else, often_one_less, often_out_else, often_out_most, nodes_out, find_node, knows_find, knows_out}
use Rattle.cd_cells.proofs.Placed.{in_due, in_turning, in_ready}
use Rattle.cd_cells.proofs.Framing.{within_mark, Alike}
use Rattle.cd_cells.proofs.Moving.{moved_out, moved_home, unmoved_at}

-- a word of a phase says which domain it is
pub domain_of_phase : (d : ℕ) → d ≡ (2 * d + 1) / 2
domain_of_phase d = omega arith

-- ---- what views list after each step

module _ {K : Type 0} (v : View K) (d : ℕ) where
  turn_off : (x : Sort) (e : ℕ) → e ≢ d → 0 < tally names d v → tally x e (turning v d) ≡ tally x e v
  unfolding tally
  turn_off rights e ne h = often_out_else e d v.rights ne
  turn_off turns e ne h = often_else (find d v.named).node.0 e (nodes v.turns) (λ q. ne (q ∙ find_node d v.named h))
  turn_off _ e ne h = refl

  turn_on : (x : Sort) (t : ℕ) → 0 < tally rights d v → 0 < tally names d v → tally x d (turning v d) + mark x due t ≡ tally x d v + mark x turning_place t
  unfolding tally
  turn_on rights t r n = let o = often_one_less d v.rights r in omega arith
  turn_on turns t r n =
      let e : often d (nodes (turning v d).turns) ≡ often d (d ∷ nodes v.turns) = ap (λ (y : ℕ). often d (y ∷ nodes v.turns)) (find_node d v.named n) in
      let o = often_here d (nodes v.turns) in
      omega arith
  turn_on _ t r n = refl

  post_off : (x : Sort) (e : ℕ) → e ≢ d → tally x e (posting v d) ≡ tally x e v
  unfolding tally
  post_off turns e ne = ap (often e) (nodes_out d v.turns) ∙ often_out_else e d (nodes v.turns) ne
  post_off posts e ne = often_else d e v.posts ne
  post_off _ e ne = refl

  post_on : (x : Sort) (t : ℕ) → 0 < tally turns d v → tally x d (posting v d) + mark x turning_place t ≡ tally x d v + mark x ready t
  unfolding tally
  post_on turns t r =
      let e : often d (nodes (ask_out d v.turns)) ≡ often d (one_out d (nodes v.turns)) = ap (often d) (nodes_out d v.turns) in
      let o = often_one_less d (nodes v.turns) r in
      omega arith
  post_on posts t r = let o = often_here d v.posts in omega arith
  post_on _ t r = refl

  module _ (a : Ask) (is : a.node.0 ≡ d) where
    claim_off : (x : Sort) (e : ℕ) → e ≢ d → tally x e (claiming v d a) ≡ tally x e v
    unfolding tally
    claim_off holds e ne = often_else a.node.0 e (nodes v.holds) (λ q. ne (q ∙ is))
    claim_off claims e ne = often_else d e v.claims ne
    claim_off _ e ne = refl

    claim_on : (x : Sort) (t : ℕ) → tally x d (claiming v d a) + mark x ready t ≡ tally x d v + mark x out t
    unfolding tally
    claim_on holds t =
        let e : often d (nodes (claiming v d a).holds) ≡ often d (d ∷ nodes v.holds) = ap (λ (y : ℕ). often d (y ∷ nodes v.holds)) is in
        let o = often_here d (nodes v.holds) in
        omega arith
    claim_on claims t = let o = often_here d v.claims in omega arith
    claim_on _ t = refl

module _ {K T : Type 0} (k : Kind T) (want : ℕ → Ask) (table : List ℕ) (v : View K) (f : Fine k want table v) (d : ℕ) where
  turn_fine : 0 < tally names d v → Fine k want table (turning v d)
  unfolding tally
  turn_fine h = record {
    table = f.table;
    named = f.named;
    turned = (ap want (find_node d v.named h) ∙ knows_find want d v.named f.named h, f.turned);
    held = f.held;
    names = λ e l.
        let m : often e (one_out d v.rights) ≤ often e v.rights = often_out_most e d v.rights in
        let o : often e v.rights + often e v.clears ≤ often e (nodes v.named) = f.names e l in
        omega arith;
    last = f.last;
  }

  post_fine : Fine k want table (posting v d)
  unfolding tally
  post_fine = record { table = f.table; named = f.named; turned = knows_out want d v.turns f.turned; held = f.held; names = f.names; last = f.last }

  claim_fine : (a : Ask) → want a.node.0 ≡ a → Fine k want table (claiming v d a)
  unfolding tally
  claim_fine a is = record { table = f.table; named = f.named; turned = f.turned; held = (is, f.held); names = f.names; last = f.last }

  pub meet_fine : (by : Meeting) (n : ℕ) → Fine k want table (meeting v by d n)
  unfolding tally
  meet_fine by n = record { table = f.table; named = f.named; turned = f.turned; held = f.held; names = f.names; last = f.last }

pub meet_off : {K : Type 0} (v : View K) (by : Meeting) (d n : ℕ) (x : Sort) (e : ℕ) → tally x e (meeting v by d n) ≡ tally x e v
unfolding tally
meet_off v by d n rights e = refl
meet_off v by d n turns e = refl
meet_off v by d n holds e = refl
meet_off v by d n _ e = refl

-- ---- the steps

due_turning : Alike due turning_place
due_turning = record { ahead_is = refl; rests_is = refl; ends_is = refl; side_is = refl; waits = λ e. absurd (cc) }

turning_ready : Alike turning_place ready
turning_ready = record { ahead_is = refl; rests_is = refl; ends_is = refl; side_is = refl; waits = λ e. absurd (cc) }

ready_out : Alike ready out
ready_out = record { ahead_is = refl; rests_is = refl; ends_is = refl; side_is = refl; waits = λ e. absurd (cc) }

-- what the pass turned a domain with is what is wanted of it
asked_of : {K T : Type 0} (k : Kind T) (want : ℕ → Ask) (table : List ℕ) (v : View K) (d : ℕ) → Fine k want table v → 0 < tally turns d v → want d ≡ find d v.turns
unfolding tally
asked_of k want table v d f t = knows_find want d v.turns f.turned t

-- a view's table is the table of the rule
pub table_is : {K T : Type 0} (k : Kind T) (want : ℕ → Ask) (table : List ℕ) (v : View K) → Fine k want table v → (t : TableId) → v.table ≡ name_of t → v.table ≡ table
table_is k want table v f t e = ⊎_elim (λ (z : v.table ≡ []). absurd (let w : ◌≡◌ {A = List ℕ} [] (name_of t) = sym z ∙ e in cc)) (λ z. z) f.table

pub by_self : {B : Type 0} (d e : ℕ) (P : ℕ → Type 0) → P d → (e ≢ d → P e) → (P e → B) → B
by_self d e P here other then_so = ⊎_elim
    (λ (q : e ≡ d). then_so (subst P (sym q) here))
    (λ ne. then_so (other ne))
    (cases_eq e d)

-- what is told for one key is told for the view's key
pub inside : {A : Type 0} (x y : A) → ◌≡◌ {A = Option A} (Some x) (Some y) → x ≡ y
inside x y e = ap (λ o. unwrap_or o x) e

pub of_key : {K T : Type 0} (key : K) (me : Sat K T) → me.0.key ≡ Some key → (P : K → Type 0) → P key → (other : K) → me.0.key ≡ Some other → P other
of_key key me at P p other e = subst P (inside key other (sym at ∙ e)) p

module _ {K T : Type 0} (kind : K → Kind T) (key : K) (slots id : ℕ) (me : Sat K T) where
  pub turn_allows : (d : ℕ) → d < (kind key).count → 0 < tally rights d me.0 → 0 < tally names d me.0
      → Allows (Ordered (kind key) key) slots id me (phase_at d) (λ _. 1) (λ _. Turns (step slots (phase_at d) 1 0 none) me 1)
  turn_allows d h right named s r len at small =
      let m = within_mark (kind key).count r.place r.times s.views r.counts id me.0 at rights d h in
      let is : r.place d ≡ due = in_due (r.place d) (r.times d) (omega arith) in
      let home : Has (kind key) key r.table r.want d (r.group d) (content due) (get_elem? s.homes d) =
      subst (λ (x : Where). Has (kind key) key r.table r.want d (r.group d) (content x) (get_elem? s.homes d)) is (r.homes d h).0 in (
        turning me.0 d,
        takes d None,
        home,
        moved_out (kind key) key s r id me.0 at d h due turning_place is due_turning refl refl refl (turning me.0 d)
            (λ x e ne. turn_off me.0 d x e ne named)
            (λ x t. turn_on me.0 d x t right named)
            (turn_fine (kind key) r.want r.table me.0 (r.fine id me.0 at) d named)
            refl refl me.1 None,
        ap (λ (x : ℕ). handed me (turning me.0 x) x None) (domain_of_phase d),
      )

  pub post_allows : (d : ℕ) → d < (kind key).count → (c : Cell K T) → me.1 ≡ (d, Some c) ∷ rest me.1
      → 0 < tally turns d me.0 → (t : TableId) → me.0.table ≡ name_of t
      → (kind key).Ready (find d me.0.turns) c.state → Ticketed key me.0.table (find d me.0.turns) c
      → Allows (Ordered (kind key) key) slots id me (phase_at d) (λ _. 2) (λ _. Posts (step slots (phase_at d) 2 0 none) me 2)
  post_allows d h c in_hand turned t known stands ticket s r len at small =
      let m = within_mark (kind key).count r.place r.times s.views r.counts id me.0 at turns d h in
      let is : r.place d ≡ turning_place = in_turning (r.place d) (r.times d) (omega arith) in
      let f = r.fine id me.0 at in
      let table : me.0.table ≡ r.table = table_is (kind key) r.want r.table me.0 f t known in
      let ask : find d me.0.turns ≡ r.want d = sym (asked_of (kind key) r.want r.table me.0 d f turned) in (
        posting me.0 d,
        gives,
        tt,
        moved_home (kind key) key s r id me.0 at d h turning_place ready is turning_ready refl refl (posting me.0 d)
            (λ x e ne. post_off me.0 d x e ne)
            (λ x t. post_on me.0 d x t turned)
            (post_fine (kind key) r.want r.table me.0 f d)
            refl refl me.1 (Some c) in_hand
            (record {
              cell = c;
              home = refl;
              answers = subst (λ (a : Ask). (kind key).Ready a c.state) ask stands;
              ticket = subst (λ (a : Ask). Ticketed key r.table a c) ask (subst (λ (l : List ℕ). Ticketed key l (find d me.0.turns) c) table ticket);
            }),
        ap (λ (x : ℕ). homing me (posting me.0 x)) (domain_of_phase d),
      )

  pub claim_allows : (d : ℕ) → d < (kind key).count → me.0.key ≡ Some key → (t : TableId) → me.0.table ≡ name_of t
      → Allows (Ordered (kind key) key) slots id me (phase_at d) (λ n. either (n == 2) 1 n) (Claims kind (step slots (phase_at d) 2 1 none) me)
  claim_allows d h is_key t known s r len at small =
      let n : ℕ = get_or s.words (phase_at d) 0 in
      let f = r.fine id me.0 at in
      let table : me.0.table ≡ r.table = table_is (kind key) r.want r.table me.0 f t known in
      let node : (r.want d).node.0 ≡ d = (r.homes d h).1 in
      ⊎_elim
      (λ (e : n ≡ 2).
      let is : r.place d ≡ ready = in_ready (r.place d) (sym (r.phases d h) ∙ e) in
      let kept : Keeps key r.table (r.want d) (kind key).Ready (get_elem? s.homes d) =
      subst (λ (x : Where). Has (kind key) key r.table r.want d (r.group d) (content x) (get_elem? s.homes d)) is (r.homes d h).0 in
      let w : View K = claiming me.0 d (r.want d) in (
        w,
        takes d (Some kept.cell),
        kept.home,
        subst (λ t. Ordered (kind key) key (stepped s (phase_at d) (either t 1 n) id me.1 w (takes d (Some kept.cell)))) (sym (eq-eqb n 2 e))
            (moved_out (kind key) key s r id me.0 at d h ready out is ready_out refl refl refl w
            (claim_off me.0 d (r.want d) node)
            (claim_on me.0 d (r.want d) node)
            (claim_fine (kind key) r.want r.table me.0 f d (r.want d) (ap r.want node))
            refl refl me.1 (Some kept.cell)),
        of_key key me is_key (λ z. (n ≡ 2 → (c : Cell K T) × Claimed (kind z) z me ((2 * d + 1) / 2) (w, (d, Some kept.cell) ∷ me.1) c (Some c))
            × (n ≢ 2 → (w, (d, Some kept.cell) ∷ me.1) ≡ with_view me (meeting me.0 Meeting.Claim ((2 * d + 1) / 2) n))) (
              (λ _. (
                kept.cell,
                subst (λ (x : ℕ). Claimed (kind key) key me x (w, (d, Some kept.cell) ∷ me.1) kept.cell (Some kept.cell)) (domain_of_phase d) (record {
                  ask = r.want d;
                  node = node;
                  now = refl;
                  ready = kept.answers;
                  ticket = subst (λ (l : List ℕ). Ticketed key l (r.want d) kept.cell) (sym table) kept.ticket;
                }),
              )),
              λ ne. absurd (ne e),
            ),
      ))
      (λ ne.
      let w : View K = meeting me.0 Meeting.Claim d n in (
        w,
        keeps,
        tt,
        subst (λ t. Ordered (kind key) key (stepped s (phase_at d) (either t 1 n) id me.1 w keeps)) (sym (ne_eqb n 2 ne))
            (unmoved_at (kind key) key s r id me.0 at (phase_at d) w (meet_off me.0 Meeting.Claim d n) (meet_fine (kind key) r.want r.table me.0 f d Meeting.Claim n) refl refl),
        (λ z e. ((λ q. absurd (ne q)), λ _. ap (λ (x : ℕ). with_view me (meeting me.0 Meeting.Claim x n)) (domain_of_phase d))),
      ))
      (cases_eq n 2)
