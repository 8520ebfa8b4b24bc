-- The root is closed; a pass stops and looks; the first pass learns which table it is at.
use Rattle.std.proofs.Common.{◌≡◌, ◌≢◌, ℕ, zero, suc, ◌+◌, ◌*◌, ◌%◌, ◌<◌, ◌≤◌, ◌==◌, inl, inr, List, [], ◌∷◌, length, get_or, set, Option, Some, bit_or, sym, refl, ap, subst, ◌∙◌, arith, ⊎_elim, eq-eqb, ne_eqb, length-set, get_or-set_same, get_or-set_other}
use Rattle.std.proofs.lemmas.Bool.{cases_eq}
use mathlib.Core.Option.{some, none}
use lib.ListN.{get_elem?}
use prog.Atomic.{either}
use Rattle.atomic_table.specs.Table.{State, step, stepped, keeps, takes as takes_slot, Allows}
use Rattle.atomic_table.specs.Seated.{TableId}
use Rattle.atomic_table.proofs.Lists.{set_here, set_else}
use Rattle.cd_cells.specs.Asks.{Ask}
use Rattle.cd_cells.specs.declared.view.Meeting.{Meeting}
use Rattle.cd_cells.specs.declared.view.View.{View}
use Rattle.cd_cells.specs.declared.view.Cell.{Cell}
use Rattle.cd_cells.specs.Places.{Where, Sort, Content, phase, mark, rests, ends, over, content}
use Rattle.cd_cells.specs.Places.Where.{arrived, gone}
use Rattle.cd_cells.specs.Places.Sort.{shuts}
use Rattle.cd_cells.specs.Places.Content.{nothing, away, fresh, waits, ended}
use Rattle.cd_cells.specs.Listing.{total}
use Rattle.cd_cells.specs.Kinds.{Kind}
use Rattle.cd_cells.specs.Views.{tally, name_of}
use Rattle.cd_cells.specs.Rule.{root_at, stop_of, fresh_of, Fine, Rooted, Ticketed, Slot, Keeps, Has, Ordered}
use Rattle.cd_cells.specs.Steps.{Sat, with_view, meeting, closing, Closed, Closes, stopping, Stops, Looks, knowing, Learns}
use Rattle.cd_cells.proofs.Listed.{often_here, often_else}
use Rattle.cd_cells.proofs.Sums.{total_set, total_at, put, put_here, put_each}
use Rattle.cd_cells.proofs.Placed.{in_arrived_root}
use Rattle.cd_cells.proofs.Framing.{counts_kept, counts_moved, phases_stay, groups_alike, alike_self, groups_at_root, homes_moved, fine_set}
use Rattle.cd_cells.proofs.Moving.{set_self, total_same, unmoved_at}
use Rattle.cd_cells.proofs.Sending.{meet_off, meet_fine, table_is, of_key}

-- ---- close

close_off : {K : Type 0} (v : View K) (x : Sort) (e : ℕ) → e ≢ 0 → tally x e (closing v) ≡ tally x e v
unfolding tally
close_off v shuts e ne = often_else 0 e v.shuts ne
close_off v _ e ne = refl

close_on : {K : Type 0} (v : View K) (x : Sort) (t : ℕ) → tally x 0 (closing v) + mark x arrived t ≡ tally x 0 v + mark x gone t
unfolding tally
close_on v shuts t = let o = often_here 0 v.shuts in omega arith
close_on v _ t = refl

close_fine : {K T : Type 0} (k : Kind T) (want : ℕ → Ask) (table : List ℕ) (v : View K) → Fine k want table v → Fine k want table (closing v)
unfolding tally
close_fine k want table v f = record { table = f.table; named = f.named; turned = f.turned; held = f.held; names = f.names; last = f.last }

module _ {K T : Type 0} (k : Kind T) (key : K) (s : State (Option (Cell K T)) (View K)) (r : Ordered k key s) (id : ℕ) (v : View K)
    (at : get_elem? s.views id ≡ some v) where
  close_kept : r.place 0 ≡ arrived → (c : List (ℕ × Option (Cell K T))) (y : Option (Cell K T))
      → Ordered k key (stepped s (root_at k.count) 2 id c (closing v) (takes_slot 0 y))
  close_kept is c y = record {
    lawful = r.lawful;
    place = put r.place 0 gone;
    times = r.times;
    group = r.group;
    want = r.want;
    table = r.table;
    words = length-set s.words (root_at k.count) 2 ∙ r.words;
    slots = length-set s.homes 0 none ∙ r.slots;
    counts = counts_moved k.count r.place r.times s.views r.counts id v at (closing v) 0 arrived gone is (close_off v) (close_on v);
    phases = phases_stay s.words k.count r.place (put r.place 0 gone) r.phases (root_at k.count) 2 (λ d l q. absurd (omega arith))
        (put_each r.place 0 gone (λ e x. phase x ≡ phase (r.place e)) (ap phase (sym is)) (λ e ne. refl));
    groups = groups_at_root k r.place gone r.group s.words (set s.words (root_at k.count) 2) r.groups (ap rests (sym is)) (ap ends (sym is))
        (λ q. absurd (cc)) (λ p l. get_or-set_other s.words (2 * k.count + 1) (2 * p + 2) 2 0 (λ q. absurd (omega arith)));
    root = subst (λ (x : Where). Rooted x (r.times 0) (get_or (set s.words (root_at k.count) 2) (root_at k.count) 0)) (sym (put_here r.place 0 gone)) (record {
      word = get_or-set_same s.words (2 * k.count + 1) 2 0 (let w : length s.words ≡ 2 * k.count + 2 = r.words in omega arith);
      never = omega arith;
      times = r.root.times ∙ ap over is;
    });
    asked = r.asked;
    homes = homes_moved k key r.table r.want r.group r.place s.homes r.homes (set s.homes 0 none) 0 gone r.lawful.some
        (λ e ne. set_else s.homes 0 e none ne) (set_here s.homes 0 none (subst (λ (n : ℕ). 0 < n) (sym r.slots) r.lawful.some));
    fine = fine_set k r.want r.table s.views id (closing v) r.fine (close_fine k r.want r.table v (r.fine id v at));
    stop = get_or-set_other s.words (2 * k.count + 1) 0 2 0 (λ q. absurd (omega arith)) ∙ (r.stop ∙ ap stop_of (sym (total_same (λ u. u.stops) s.views id v (closing v) at refl)));
    fresh = total_same (λ u. u.fresh) s.views id v (closing v) at refl ∙ r.fresh;
  }

  -- ---- stop

  stop_one : (n : ℕ) → 0 < n → stop_of n ≡ 1
  stop_one zero h = absurd (omega arith)
  stop_one (suc n) h = refl

  or_one : (n : ℕ) → bit_or (stop_of n) 1 ≡ 1
  or_one zero = refl
  or_one (suc n) = refl

  stop_fine : {table : List ℕ} {want : ℕ → Ask} → Fine k want table v → Fine k want table (stopping v)
  unfolding tally
  stop_fine f = record { table = f.table; named = f.named; turned = f.turned; held = f.held; names = f.names; last = f.last }

  stop_off : (x : Sort) (e : ℕ) → tally x e (stopping v) ≡ tally x e v
  unfolding tally
  stop_off Sort.rights e = refl
  stop_off Sort.turns e = refl
  stop_off _ e = refl

  stop_kept : Ordered k key (record { words = set s.words 0 1; homes = s.homes; views = set s.views id (stopping v) })
  stop_kept = record {
    lawful = r.lawful;
    place = r.place;
    times = r.times;
    group = r.group;
    want = r.want;
    table = r.table;
    words = length-set s.words 0 1 ∙ r.words;
    slots = r.slots;
    counts = counts_kept k.count r.place r.times s.views r.counts id v at (stopping v) r.place r.times (λ x e l. ap (λ (n : ℕ). n + mark x (r.place e) (r.times e)) (stop_off x e));
    phases = phases_stay s.words k.count r.place r.place r.phases 0 1 (λ d l q. absurd (omega arith)) (λ d. refl);
    groups = groups_alike k r.place r.place r.group s.words (set s.words 0 1) r.groups (λ d. alike_self (r.place d)) (λ p l. get_or-set_other s.words 0 (2 * p + 2) 1 0 (λ q. absurd (omega arith)));
    root = subst (Rooted (r.place 0) (r.times 0)) (sym (get_or-set_other s.words 0 (2 * k.count + 1) 1 0 (λ q. absurd (omega arith)))) r.root;
    asked = r.asked;
    homes = r.homes;
    fine = fine_set k r.want r.table s.views id (stopping v) r.fine (stop_fine (r.fine id v at));
    stop =
        get_or-set_same s.words 0 1 0 (let w : length s.words ≡ 2 * k.count + 2 = r.words in omega arith)
        ∙ sym (stop_one (total (λ u. u.stops) (set s.views id (stopping v))) (let t = total_set (λ (u : View K). u.stops) s.views id v (stopping v) at in omega arith));
    fresh = total_same (λ u. u.fresh) s.views id v (stopping v) at refl ∙ r.fresh;
  }

  stop_seen : 0 < v.stops → get_or s.words 0 0 ≡ 1
  stop_seen own = r.stop ∙ stop_one (total (λ u. u.stops) s.views) (let t = total_at (λ (u : View K). u.stops) s.views id v at in omega arith)

  -- ---- the first pass learns which table it is at

  no_name : (t : TableId) → name_of t ≡ [] → ⊥
  no_name t e = cc

  unnamed : (table : List ℕ) → 0 < fresh_of table → table ≡ []
  unnamed [] h = refl
  unnamed (x ∷ xs) h = absurd (omega arith)

  bare_has : (name : List ℕ) (want : ℕ → Ask) (d : ℕ) (g : List ℕ) (c : Content) (h : Slot K T) → Has k key [] want d g c h → Has k key name want d g c h
  bare_has name want d g nothing h is = is
  bare_has name want d g away h is = is
  bare_has name want d g fresh h is = absurd (no_name is.cell.ticket.table_id is.ticket.table)
  bare_has name want d g waits h is = absurd (no_name is.cell.ticket.table_id is.ticket.table)
  bare_has name want d g ended h is = absurd (no_name is.cell.ticket.table_id is.ticket.table)

  learn_off : (name : List ℕ) (x : Sort) (e : ℕ) → tally x e (knowing v name) ≡ tally x e v
  unfolding tally
  learn_off name Sort.rights e = refl
  learn_off name Sort.turns e = refl
  learn_off name _ e = refl

  learn_others : (name : List ℕ) (want : ℕ → Ask) (u : View K) → Fine k want [] u → Fine k want name u
  learn_others name want u f = record { table = ⊎_elim (λ e. inl e) (λ e. inl e) f.table; named = f.named; turned = f.turned; held = f.held; names = f.names; last = f.last }

  learn_self : (name : List ℕ) (want : ℕ → Ask) → Fine k want [] v → Fine k want name (knowing v name)
  unfolding tally
  learn_self name want f = record { table = inr refl; named = f.named; turned = f.turned; held = f.held; names = f.names; last = f.last }

  learn_kept : v.fresh ≡ 1 → (x : ℕ) (xs : List ℕ) → Ordered k key (record { words = s.words; homes = s.homes; views = set s.views id (knowing v (x ∷ xs)) })
  learn_kept first x xs =
      let name : List ℕ = x ∷ xs in
      let among : v.fresh ≤ total (λ u. u.fresh) s.views = total_at (λ (u : View K). u.fresh) s.views id v at in
      let all : total (λ u. u.fresh) s.views ≡ fresh_of r.table = r.fresh in
      let bare : r.table ≡ [] = unnamed r.table (omega arith) in
      record {
        lawful = r.lawful;
        place = r.place;
        times = r.times;
        group = r.group;
        want = r.want;
        table = name;
        words = r.words;
        slots = r.slots;
        counts = counts_kept k.count r.place r.times s.views r.counts id v at (knowing v name) r.place r.times (λ q e l. ap (λ (n : ℕ). n + mark q (r.place e) (r.times e)) (learn_off name q e));
        phases = r.phases;
        groups = r.groups;
        root = r.root;
        asked = r.asked;
        homes = λ d l. (
          bare_has name r.want d (r.group d) (content (r.place d)) (get_elem? s.homes d)
              (subst (λ (t : List ℕ). Has k key t r.want d (r.group d) (content (r.place d)) (get_elem? s.homes d)) bare (r.homes d l).0),
          (r.homes d l).1,
        );
        fine = fine_set k r.want name s.views id (knowing v name)
            (λ j u e. learn_others name r.want u (subst (λ (t : List ℕ). Fine k r.want t u) bare (r.fine j u e)))
            (learn_self name r.want (subst (λ (t : List ℕ). Fine k r.want t v) bare (r.fine id v at)));
        stop = r.stop ∙ ap stop_of (sym (total_same (λ u. u.stops) s.views id v (knowing v name) at refl));
        fresh =
            let one : fresh_of r.table ≡ 1 = ap fresh_of bare in
            let t = total_set (λ (u : View K). u.fresh) s.views id v (knowing v name) at in
            omega arith;
      }

module _ {K T : Type 0} (kind : K → Kind T) (key : K) (slots id : ℕ) (me : Sat K T) where
  pub close_allows : me.0.key ≡ Some key → (t : TableId) → me.0.table ≡ name_of t
      → Allows (Ordered (kind key) key) slots id me (root_at (kind key).count) (λ n. either (n == 0) 2 n) (Closes kind (step slots (root_at (kind key).count) 0 2 none) me)
  close_allows is_key t known s r len at small =
      let k : Kind T = kind key in
      let n : ℕ = get_or s.words (root_at k.count) 0 in
      let table : me.0.table ≡ r.table = table_is k r.want r.table me.0 (r.fine id me.0 at) t known in
      ⊎_elim
      (λ (e : n ≡ 0).
      let is : r.place 0 ≡ arrived = in_arrived_root (r.place 0) (sym r.root.word ∙ e) in
      let kept : Keeps key r.table (r.want 0) k.Ended (get_elem? s.homes 0) =
      subst (λ (x : Where). Has k key r.table r.want 0 (r.group 0) (content x) (get_elem? s.homes 0)) is (r.homes 0 r.lawful.some).0 in
      let w : View K = closing me.0 in (
        w,
        takes_slot 0 (Some kept.cell),
        kept.home,
        subst (λ t. Ordered k key (stepped s (root_at k.count) (either t 2 n) id me.1 w (takes_slot 0 (Some kept.cell)))) (sym (eq-eqb n 0 e))
            (close_kept k key s r id me.0 at is me.1 (Some kept.cell)),
        of_key key me is_key (λ z. (n ≡ 0 → (c : Cell K T) × Closed (kind z) z me (w, (0, Some kept.cell) ∷ me.1) c (Some c))
            × (n ≢ 0 → (w, (0, Some kept.cell) ∷ me.1) ≡ with_view me (meeting me.0 Meeting.Close 0 n))) (
              (λ _. (
                kept.cell,
                record {
                  now = refl;
                  ended = subst (λ (a : Ask). k.Ended a kept.cell.state) r.asked kept.answers;
                  ticket = subst (λ (a : Ask). Ticketed key me.0.table a kept.cell) r.asked (subst (λ (l : List ℕ). Ticketed key l (r.want 0) kept.cell) (sym table) kept.ticket);
                },
              )),
              λ ne. absurd (ne e),
            ),
      ))
      (λ ne.
      let w : View K = meeting me.0 Meeting.Close 0 n in (
        w,
        keeps,
        tt,
        subst (λ t. Ordered k key (stepped s (root_at k.count) (either t 2 n) id me.1 w keeps)) (sym (ne_eqb n 0 ne))
            (unmoved_at k key s r id me.0 at (root_at k.count) w (meet_off me.0 Meeting.Close 0 n) (meet_fine k r.want r.table me.0 (r.fine id me.0 at) 0 Meeting.Close n) refl refl),
        (λ z e. ((λ q. absurd (ne q)), λ _. refl)),
      ))
      (cases_eq n 0)

  pub stop_allows : Allows (Ordered (kind key) key) slots id me 0 (λ n. bit_or n 1) (Stops (step slots 0 1 0 none) me)
  stop_allows s r len at small =
      let one : bit_or (get_or s.words 0 0) 1 ≡ 1 = ap (λ (n : ℕ). bit_or n 1) r.stop ∙ or_one (kind key) key s r id me.0 at (total (λ (u : View K). u.stops) s.views) in (
        stopping me.0,
        keeps,
        tt,
        subst (λ (n : ℕ). Ordered (kind key) key (record { words = set s.words 0 n; homes = s.homes; views = set s.views id (stopping me.0) })) (sym one)
            (stop_kept (kind key) key s r id me.0 at),
        refl,
      )

  pub look_allows : Allows (Ordered (kind key) key) slots id me 0 (λ n. n) (Looks (step slots 0 0 0 none) me)
  look_allows s r len at small =
      let n : ℕ = get_or s.words 0 0 in
      let w : View K = meeting me.0 Meeting.Look 0 n in (
        w,
        keeps,
        tt,
        unmoved_at (kind key) key s r id me.0 at 0 w (meet_off me.0 Meeting.Look 0 n) (meet_fine (kind key) r.want r.table me.0 (r.fine id me.0 at) 0 Meeting.Look n) refl refl,
        (refl, λ own. ap (λ (x : ℕ). x % 2) (stop_seen (kind key) key s r id me.0 at own)),
      )

  pub learn_allows : (x : ℕ) (xs : List ℕ) → me.0.fresh ≡ 1 → Allows (Ordered (kind key) key) slots id me 0 (λ n. n) (Learns (x ∷ xs) (step slots 0 0 0 none) me)
  learn_allows x xs first s r len at small = (
    knowing me.0 (x ∷ xs),
    keeps,
    tt,
    subst (λ (ws : List ℕ). Ordered (kind key) key (record { words = ws; homes = s.homes; views = set s.views id (knowing me.0 (x ∷ xs)) })) (sym (set_self s.words 0))
        (learn_kept (kind key) key s r id me.0 at first x xs),
    refl,
  )

  -- the number of domains by its number
  pub close_allows_at : (count : ℕ) → count ≡ (kind key).count → me.0.key ≡ Some key → (t : TableId) → me.0.table ≡ name_of t
      → Allows (Ordered (kind key) key) slots id me (root_at count) (λ n. either (n == 0) 2 n) (Closes kind (step slots (root_at count) 0 2 none) me)
  close_allows_at count e is_key t known =
      subst (λ (x : ℕ). Allows (Ordered (kind key) key) slots id me (root_at x) (λ n. either (n == 0) 2 n) (Closes kind (step slots (root_at x) 0 2 none) me))
      (sym e) (close_allows is_key t known)
