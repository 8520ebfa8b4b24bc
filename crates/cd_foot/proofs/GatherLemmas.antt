-- Ranges gathered from a list, one element after another.
use Rattle.std.proofs.Common.{◌≡◌, ℕ, ◌+◌, ◌<◌, ◌≤◌, List, [], ◌∷◌, ◌++◌, length, drop, get_or, map, All, refl, sym, ap, subst, ◌∙◌, append_assoc}
use Rattle.std.specs.List.{flat_map}
use Rattle.std.proofs.lemmas.List.{drop_all, append-nil}
use Rattle.std.proofs.lemmas.List.Elements.{All-nil, All-cons, All-head, All-tail, All-append}
use Rattle.std.proofs.lemmas.Option.{slice_get_read}
use Rattle.std.specs.Option.{option_map_or}
use Rattle.cd_base.specs.declared.place.Range.{Range}
use Rattle.cd_base.specs.Places.{IsOrdered}
use Rattle.cd_tree.specs.declared.domain.NodeId.{NodeId}
use Rattle.cd_tree.specs.declared.domain.Entry.{Entry}
use Rattle.cd_tree.specs.declared.operation.Op.{Op}
use Rattle.cd_tree.specs.Operations.{op_reads, op_writes, IsFull}
use Rattle.cd_foot.specs.declared.footprints.Foot.{Foot}
use Rattle.cd_foot.specs.declared.gathered.Side.{Side}
use Rattle.cd_foot.specs.declared.gathered.Side.TheVariants.{Reads, Writes}
use Rattle.cd_foot.specs.Gathered.{op_side, foot_side, entry_side, side_at}

-- the ranges of a set in order have places
pub full_where_ordered : (rs : List Range) → IsOrdered rs → All IsFull rs
full_where_ordered [] order = All-nil IsFull
full_where_ordered (r ∷ rs) order = All-cons IsFull r rs order.0 (full_where_ordered rs order.2)

-- a list of ranges to which those of the first i elements were added, from what it was before: with those of the others it is
-- whole, and each range has places where the others do
pub record Gathers {X : Type 0} (f : X → List Range) (xs : List X) (i : ℕ) (before now : List Range) : Type 0 where
  pub whole : now ++ flat_map f (drop i xs) ≡ before ++ flat_map f xs
  pub full : All IsFull (flat_map f (drop i xs)) → All IsFull (flat_map f xs)

-- no element yet
pub gathers_none : {X : Type 0} (f : X → List Range) (xs : List X) (before : List Range) → Gathers f xs 0 before before
gathers_none f xs before = record { whole = refl; full = λ full. full }

-- one element more
pub gathers_more : {X : Type 0} (f : X → List Range) (xs : List X) (i : ℕ) (x : X) (before old own new : List Range)
    → drop i xs ≡ x ∷ drop (i + 1) xs → own ≡ f x → All IsFull own → new ≡ old ++ own
    → Gathers f xs i before old → Gathers f xs (i + 1) before new
gathers_more f xs i x before old own new ahead is full grown so =
    let rest : List Range = flat_map f (drop (i + 1) xs) in
    let left : flat_map f (drop i xs) ≡ f x ++ rest = ap (flat_map f) ahead in
    let joined : (old ++ f x) ++ rest ≡ before ++ flat_map f xs =
    append_assoc old (f x) rest ∙ ap (λ (rs : List Range). old ++ rs) (sym left) ∙ so.whole in
    record {
      whole = ap (λ (rs : List Range). rs ++ rest) (grown ∙ ap (λ (rs : List Range). old ++ rs) is) ∙ joined;
      full = λ after. so.full (subst (All IsFull) (sym left) (All-append IsFull (f x) rest (subst (All IsFull) is full) after));
    }

-- all elements
pub gathers_all : {X : Type 0} (f : X → List Range) (xs : List X) (i : ℕ) (before now : List Range) → length xs ≤ i → Gathers f xs i before now
    → (now ≡ before ++ flat_map f xs) × All IsFull (flat_map f xs)
gathers_all f xs i before now past so =
    let none : flat_map f (drop i xs) ≡ [] = ap (flat_map f) (drop_all i xs past) in (
      sym (append-nil now) ∙ ap (λ (rs : List Range). now ++ rs) (sym none) ∙ so.whole,
      so.full (subst (All IsFull) (sym none) (All-nil IsFull)),
    )

-- what is found of a member
pub side_found : (side : Side) (feet : List Foot) (id : NodeId) (foot : Foot) (set : List Range)
    → id.0 < length feet → foot ≡ get_or feet id.0 foot → set ≡ foot_side side foot → set ≡ side_at side feet id
side_found side feet id foot set within read is =
    is ∙ ap (λ o. option_map_or (foot_side side) o []) (sym (slice_get_read feet (length feet) id.0 foot refl within read))

pub full_operation : (side : Side) (op : Op) → All IsFull (op_writes op ∷ op_reads op) → All IsFull (op_side side op)
full_operation Reads op full = All-tail IsFull (op_writes op) (op_reads op) full
full_operation Writes op full = All-cons IsFull (op_writes op) [] (All-head IsFull (op_writes op) (op_reads op) full) (All-nil IsFull)

pub full_entries : (side : Side) (entries : List Entry) → All (λ entry. IsFull entry.range) entries → All IsFull (entry_side side entries)
full_entries Writes entries full = All-nil IsFull
full_entries Reads [] full = All-nil IsFull
full_entries Reads (entry ∷ entries) full =
    let P : Entry → Type 0 = λ e. IsFull e.range in
    All-cons IsFull entry.range (map (λ e. e.range) entries) (All-head P entry entries full) (full_entries Reads entries (All-tail P entry entries full))

-- all that was gathered has places
pub full_whole : (entries items all : List Range) → all ≡ entries ++ items → All IsFull entries → All IsFull items → All IsFull all
full_whole entries items all is some more = subst (All IsFull) (sym is) (All-append IsFull entries items some more)

pub full_gathered : (side : Side) (entries seen : List Entry) (start preserved items all : List Range)
    → seen ≡ entries → start ≡ [] → preserved ≡ start ++ entry_side side seen → all ≡ preserved ++ items
    → All (λ entry. IsFull entry.range) entries → All IsFull items → All IsFull all
full_gathered side entries seen start preserved items all same none first then full more =
    let P : Entry → Type 0 = λ e. IsFull e.range in
    full_whole preserved items all then
    (full_whole start (entry_side side seen) preserved first (subst (All IsFull) (sym none) (All-nil IsFull))
    (full_entries side seen (subst (All P) (sym same) full))) more
