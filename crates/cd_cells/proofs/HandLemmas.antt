-- What a pass has in hand and may post, as the steps want it: first in its lists.
use Rattle.std.proofs.Common.{◌≡◌, ℕ, ◌+◌, ◌<◌, ◌==◌, Bool, if◌then◌else◌, List, [], ◌∷◌, ◌++◌, Option, map, refl, ap, subst, sym, ◌∙◌, arith}
use Rattle.std.proofs.lemmas.Bool.{eq-eqb}
use Rattle.atomic_table.specs.Seated.{TableId}
use Rattle.atomic_table.specs.Table.{rest}
use Rattle.atomic_table.specs.declared.badge.Badge.{Badge}
use Rattle.cd_core.specs.declared.ask.Ask.{Ask}
use Rattle.cd_cells.specs.declared.view.View.{View}
use Rattle.cd_cells.specs.Hands.{Has, WaitsInHand, members_asked}
use Rattle.cd_cells.specs.Kinds.{Kind, Lawful}
use Rattle.cd_cells.specs.Listing.{ask_out, find, nodes, often, one_if}
use Rattle.cd_cells.specs.Places.{Sort}
use Rattle.cd_cells.specs.Seats.{IsAt}
use Rattle.cd_cells.specs.Steps.{Sat, homing, resting}
use Rattle.cd_cells.specs.Views.{log, tally}

-- ---- what is first

pub first_there : {K : Type 0} (q : Sort) (d : ℕ) (v : View K) (more : List ℕ) → log q v ≡ d ∷ more → 0 < tally q d v
unfolding tally
first_there q d v more is =
    let one : one_if (d == d) ≡ 1 = ap one_if (eq-eqb d d refl) in
    let all : often d (log q v) ≡ one_if (d == d) + often d more = ap (often d) is in
    omega (arith, one, all)

pub find_first : (ask : Ask) (asks : List Ask) (node : ℕ) → ask.node.0 ≡ node → find node (ask ∷ asks) ≡ ask
find_first ask asks node e = ap (λ (b : Bool). if b then ask else find node asks) (eq-eqb ask.node.0 node e)

pub out_first : (ask : Ask) (asks : List Ask) (node : ℕ) → ask.node.0 ≡ node → ask_out node (ask ∷ asks) ≡ asks
out_first ask asks node e = ap (λ (b : Bool). if b then asks else ask ∷ ask_out node asks) (eq-eqb ask.node.0 node e)

-- ---- members asked

pub nodes-append : (asks more : List Ask) → nodes (asks ++ more) ≡ nodes asks ++ nodes more
nodes-append [] more = refl
nodes-append (ask ∷ asks) more = ap (λ (ns : List ℕ). ask.node.0 ∷ ns) (nodes-append asks more)

nodes_named : (asks : ℕ → Ask) (group : List ℕ) → ((m : ℕ) → 0 < often m group → (asks m).node.0 ≡ m) → nodes (map asks group) ≡ group
nodes_named asks [] named = refl
nodes_named asks (m ∷ group) named =
    let one : one_if (m == m) ≡ 1 = ap one_if (eq-eqb m m refl) in
    let first : (asks m).node.0 ≡ m = named m (omega (arith, one)) in
    ap (λ (n : ℕ). n ∷ nodes (map asks group)) first
    ∙ ap (λ (ns : List ℕ). m ∷ ns) (nodes_named asks group (λ n some. named n (omega (arith, some))))

pub nodes_asked : {T : Type 0} (k : Kind T) → Lawful k → (ask : Ask) (t : T) → k.Waits ask t → nodes (members_asked k t) ≡ k.group t
nodes_asked k law ask t waits = nodes_named (k.asks t) (k.group t) (λ m some. law.asks ask t waits m some)

-- ---- a domain is put to rest

pub rests_so : {K T : Type 0} (k : Kind T) (key : K) (table seat then_at : TableId) (old new : Sat K T) (own after : Option (Badge (View K))) (ask : Ask) (may : List Ask)
    (node : ℕ) (state : T) → Lawful k → WaitsInHand k key table seat old own ask may node state → IsAt k key table then_at new.0
    → new ≡ homing old (resting k old.0 node state) → Has k key table then_at new after [] (members_asked k state ++ may)
rests_so {K} {T} k key table seat then_at old new own after ask may node state law w at now =
    let M : Sat K T → Type 0 = λ m. IsAt k key table then_at m.0 → Has k key table then_at m after [] (members_asked k state ++ may) in
    subst M (sym now) (λ here. (
    let h = w.has in
    record {
      at = here;
      slots = ap rest h.slots;
      holds = ap (ask_out node) h.holds ∙ out_first ask [] node w.named;
      rights = ap (λ (ns : List ℕ). k.group state ++ ns) h.rights
          ∙ ap (λ (ns : List ℕ). ns ++ nodes may) (sym (nodes_asked k law ask state w.waits)) ∙ sym (nodes-append (members_asked k state) may);
      named = ap (λ (asks : List Ask). members_asked k state ++ asks) h.named;
      settled = record {
        turns = h.settled.turns;
        lasts = h.settled.lasts;
        owes = h.settled.owes;
        takes = h.settled.takes;
        clears = h.settled.clears;
      };
      ticket = tt;
    }
    )) at
