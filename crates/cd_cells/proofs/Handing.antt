-- The cell in hand.
use Rattle.std.proofs.Common.{◌≡◌, ℕ, List, [], ◌∷◌, Option, sym, ap, ◌∙◌}
use Rattle.atomic_table.specs.Table.{rest}
use Rattle.atomic_table.specs.Seated.{TableId}
use Rattle.cd_cells.specs.declared.view.View.{View}
use Rattle.cd_cells.specs.declared.view.Cell.{Cell}
use Rattle.cd_cells.specs.Kinds.{Kind}
use Rattle.cd_cells.specs.Views.{name_of}
use Rattle.cd_cells.specs.Steps.{Sat}
use Rattle.cd_cells.specs.Seats.{IsAt}

pub taken_in_hand : {K T : Type 0} (n : Sat K T) {v : View K} {l : List (ℕ × Option (Cell K T))} (d : ℕ) (o : Option (Cell K T)) → n ≡ (v, (d, o) ∷ l) → n.1 ≡ (d, o) ∷ rest n.1
taken_in_hand {K} {T} n d o e = ap (λ (m : Sat K T). m.1) e ∙ sym (ap (λ (m : Sat K T). (d, o) ∷ rest m.1) e)

pub in_hand : {K T : Type 0} (m n : Sat K T) (d : ℕ) (o : Option (Cell K T)) → n ≡ (m.0, (d, o) ∷ rest m.1) → n.1 ≡ (d, o) ∷ rest n.1
in_hand m n d o e = taken_in_hand n d o e

-- a seat stays at its table where its view keeps key and table
pub still_at : {K T : Type 0} (k : Kind T) (key : K) (table seat : TableId) (v : View K) → IsAt k key table seat v → (now : TableId) → now ≡ seat → (w : View K)
    → w.key ≡ v.key → w.table ≡ v.table → IsAt k key table now w
still_at k key table seat v r now e w f t = record { same = e ∙ r.same; long = r.long; slots = r.slots; key_is = f ∙ r.key_is; named = t ∙ r.named }

-- a table by its numbers
abbrev tail_of : List ℕ → List ℕ
tail_of [] = []
tail_of (x ∷ xs) = xs

abbrev head_of : List ℕ → ℕ
head_of [] = 0
head_of (x ∷ xs) = x

pub same_table : (a b : TableId) → name_of a ≡ name_of b → a ≡ b
same_table a b e = λ i. record {
  words = head_of (e i);
  slots = head_of (tail_of (e i));
  views_name = head_of (tail_of (tail_of (e i)));
  atom = head_of (tail_of (tail_of (tail_of (e i))));
  block = head_of (tail_of (tail_of (tail_of (tail_of (e i)))));
  offset = head_of (tail_of (tail_of (tail_of (tail_of (tail_of (e i))))));
  slot_names = tail_of (tail_of (tail_of (tail_of (tail_of (tail_of (e i))))));
}

abbrev one_of : {A : Type 0} → A → List A → A
one_of x [] = x
one_of x (y ∷ ys) = y

pub only_of : {A : Type 0} (x y : A) → ◌≡◌ {A = List A} (x ∷ []) (y ∷ []) → x ≡ y
only_of x y e = ap (one_of x) e
