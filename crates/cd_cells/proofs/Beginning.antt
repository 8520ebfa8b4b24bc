-- A table that is opened keeps the rule: the root may be posted, all else is idle.
use Rattle.std.proofs.Common.{◌≡◌, ◌≢◌, ℕ, zero, suc, ◌+◌, ◌*◌, ◌<◌, inl, List, [], ◌∷◌, map, length, replicate, get_or, set, Option, None, Some, sym, refl, ap, subst, ◌∙◌, arith, length-set, get_or-set_same, get_or-set_other}
use mathlib.Core.Option.{Option as Maybe, some, some-injective, some-ne-none}
use lib.ListN.{get_elem?}
use Rattle.atomic_table.specs.Table.{opening}
use Rattle.cd_cells.specs.Asks.{Ask}
use Rattle.cd_cells.specs.declared.view.View.{View}
use Rattle.cd_cells.specs.declared.view.Cell.{Cell}
use Rattle.cd_cells.specs.Places.{Where, Sort, phase, mark, rests, side, content}
use Rattle.cd_cells.specs.Places.Where.{idle, due}
use Rattle.cd_cells.specs.Places.Sort.{rights, names}
use Rattle.cd_cells.specs.Listing.{often, no_ask}
use Rattle.cd_cells.specs.Kinds.{Kind, Lawful}
use Rattle.cd_cells.specs.Views.{tally, first_view}
use Rattle.cd_cells.specs.Rule.{Fine, Has, Ordered}
use Rattle.cd_cells.proofs.Listed.{one_at, one_off}

abbrev place_first : ℕ → Where
place_first zero = due
place_first (suc d) = idle

abbrev want_first : Ask → ℕ → Ask
want_first root zero = root
want_first root (suc d) = record no_ask { node = record { 0 = suc d } }

abbrev zeros : ℕ → List ℕ
zeros m = replicate m 0

abbrev empties : {A : Type 0} → ℕ → List (Option A)
empties n = replicate n None

zeros_long : (m : ℕ) → length (zeros m) ≡ m
zeros_long zero = refl
zeros_long (suc m) = ap suc (zeros_long m)

zeros_at : (m i : ℕ) → get_or (zeros m) i 0 ≡ 0
zeros_at zero i = refl
zeros_at (suc m) zero = refl
zeros_at (suc m) (suc i) = zeros_at m i

empties_long : (A : Type 0) (n : ℕ) → length (map {A = Option A} {B = Maybe (Option A)} some (empties {A = A} n)) ≡ n
empties_long A zero = refl
empties_long A (suc n) = ap suc (empties_long A n)

empties_at : (A : Type 0) (n d : ℕ) → d < n → get_elem? (map {A = Option A} {B = Maybe (Option A)} some (empties {A = A} n)) d ≡ some (some None)
empties_at A zero d h = absurd (omega arith)
empties_at A (suc n) zero h = refl
empties_at A (suc n) (suc d) h = empties_at A n d (omega arith)

phase_first : (d : ℕ) → phase (place_first d) ≡ 0
phase_first zero = refl
phase_first (suc d) = refl

rests_first : (d : ℕ) → rests (place_first d) ≡ 0
rests_first zero = refl
rests_first (suc d) = refl

side_first : (d : ℕ) → 0 < d → side (place_first d) ≡ 0
side_first zero h = absurd (omega arith)
side_first (suc d) h = refl

module _ {K T : Type 0} (k : Kind T) (key : K) (lawful : Lawful k) where
  abbrev first : View K
  first = first_view (Some key) k.root

  first_counts : (q : Sort) (d : ℕ) → tally q d first + 0 ≡ mark q (place_first d) 0
  unfolding tally
  first_counts rights zero = refl
  first_counts rights (suc d) = let o = one_off 0 (suc d) (λ e. absurd (omega arith)) in omega arith
  first_counts names zero = let o = one_at k.root.node.0 0 lawful.root in omega arith
  first_counts names (suc d) = let o = one_off k.root.node.0 (suc d) (λ e. absurd (let z = lawful.root in omega arith)) in omega arith
  first_counts _ zero = refl
  first_counts _ (suc d) = refl

  first_fine : Fine k (want_first k.root) [] first
  unfolding tally
  first_fine = record {
    table = inl refl;
    named = (ap (want_first k.root) lawful.root, tt);
    turned = tt;
    held = tt;
    names = λ d l. let e : often d (k.root.node.0 ∷ []) ≡ often d (0 ∷ []) = ap (λ (x : ℕ). often d (x ∷ [])) lawful.root in omega arith;
    last = λ d a b. omega arith;
  }

  first_only : (j : ℕ) (u : View K) → get_elem? (first ∷ []) j ≡ some u → Fine k (want_first k.root) [] u
  first_only zero u e = subst (Fine k (want_first k.root) []) (some-injective first u e) first_fine
  first_only (suc j) u e = absurd (some-ne-none u (sym e))

  module _ (words : List ℕ) (is : words ≡ set (zeros (2 * k.count + 2)) (2 * k.count + 1) 1) where
    word_zero : (i : ℕ) → i ≢ 2 * k.count + 1 → get_or words i 0 ≡ 0
    word_zero i ne = ap (λ (ws : List ℕ). get_or ws i 0) is ∙ (get_or-set_other (zeros (2 * k.count + 2)) (2 * k.count + 1) i 1 0 ne ∙ zeros_at (2 * k.count + 2) i)

    first_homes : (d : ℕ) → d < k.count → Has k key [] (want_first k.root) d [] (content (place_first d)) (get_elem? (map some (empties {A = Cell K T} k.count)) d) × ((want_first k.root d).node.0 ≡ d)
    first_homes zero h = (empties_at (Cell K T) k.count zero h, lawful.root)
    first_homes (suc d) h = (empties_at (Cell K T) k.count (suc d) h, refl)

    pub opens : Ordered k key (opening words (empties {A = Cell K T} k.count) first)
    opens = record {
      lawful = lawful;
      place = place_first;
      times = λ d. 0;
      group = λ d. [];
      want = want_first k.root;
      table = [];
      words = ap length is ∙ (length-set (zeros (2 * k.count + 2)) (2 * k.count + 1) 1 ∙ zeros_long (2 * k.count + 2));
      slots = empties_long (Cell K T) k.count;
      counts = λ q d l. first_counts q d;
      phases = λ d l. word_zero (2 * d + 1) (λ e. absurd (omega arith)) ∙ sym (phase_first d);
      groups = record {
        word = λ p l e. absurd (let z = rests_first p in omega arith);
        above = λ p l e. absurd (let z = rests_first p in let y : rests (place_first p) ≡ 1 = ap rests e in omega arith);
        member = λ p l m i. absurd (omega arith);
        sides = λ p l m i. absurd (omega arith);
        grouped = λ m above below sent. absurd (let z = side_first m above in omega arith);
        none = λ p l e. refl;
      };
      root = record {
        word = ap (λ (ws : List ℕ). get_or ws (2 * k.count + 1) 0) is
            ∙ get_or-set_same (zeros (2 * k.count + 2)) (2 * k.count + 1) 1 0 (let z = zeros_long (2 * k.count + 2) in omega arith);
        never = omega arith;
        times = refl;
      };
      asked = refl;
      homes = first_homes;
      fine = first_only;
      stop = word_zero 0 (λ e. absurd (omega arith));
      fresh = refl;
    }

-- with the number of domains by its number
pub opens_at : {K T : Type 0} (k : Kind T) (key : K) → Lawful k → (count : ℕ) → count ≡ k.count → (words : List ℕ) → words ≡ set (zeros (2 * count + 2)) (2 * count + 1) 1
    → Ordered k key (opening words (empties {A = Cell K T} count) (first_view (Some key) k.root))
opens_at {K} {T} k key lawful count e words is =
    subst (λ (n : ℕ). words ≡ set (zeros (2 * n + 2)) (2 * n + 1) 1 → Ordered k key (opening words (empties {A = Cell K T} n) (first_view (Some key) k.root))) (sym e)
    (opens k key lawful words) is
