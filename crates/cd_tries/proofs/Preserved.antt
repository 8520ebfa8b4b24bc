-- Entries preserved one by one: what is preserved so far and the rest give the whole.
use Rattle.std.proofs.Common.{◌≡◌, ℕ, zero, suc, ◌+◌, ◌-◌, ◌/◌, ◌<◌, ◌≤◌, min, true, List, [], ◌∷◌, ◌++◌, length, take, drop, get_or, Option, None, Some, IsSomeAnd, sum_by, arith, refl, ap, sym, subst, ◌∙◌, append_assoc, add-one}
use Rattle.std.proofs.lemmas.Bool.{or_left, or_right}
use Rattle.std.proofs.lemmas.List.{append-nil, length_push, drop_more, drop_all, length-take}
use Rattle.std.proofs.lemmas.List.Sums.{sum_by-drop_more}
use Rattle.cd_base.specs.declared.place.Place.{Place}
use Rattle.cd_base.specs.declared.place.Range.{Range}
use Rattle.cd_base.specs.Words.{Words, in_range}
use Rattle.cd_tree.specs.declared.domain.NodeId.{NodeId}
use Rattle.cd_tree.specs.declared.domain.How.{How}
use Rattle.cd_tree.specs.declared.domain.How.TheVariants.{Copy, Refer, Regen}
use Rattle.cd_tree.specs.declared.domain.Entry.{Entry}
use Rattle.cd_tree.specs.declared.domain.Domain.{Domain}
use Rattle.cd_tree.specs.declared.event.Event.{Event}
use Rattle.cd_tree.specs.Meaning.{in_entries, blocks_of, blocks_kept, entry_need}
use Rattle.cd_field.specs.FieldModel.{FieldModel, IsPresent, ArePresent}
use Rattle.cd_keep.specs.declared.keep_id.KeepId.{KeepId}
use Rattle.cd_keep.specs.PassModel.{PassModel, lapsed}
use Rattle.cd_tries.specs.declared.keep.Pieces.{Pieces}
use Rattle.cd_tries.specs.declared.keep.Keep.{Keep}
use Rattle.cd_tries.specs.declared.keep.Keep.TheVariants as by
use Rattle.cd_tries.specs.Fitting.{ArePresentIn, LinksCover}
use Rattle.cd_tries.specs.Keeping.{Known, Cover}
use Rattle.cd_tries.specs.KeepLaws.{KnowsMore}
use Rattle.cd_tries.specs.Preserving.{IsCopy, SavedAs, SavedAll, IsSaved, IsPreserved, Spot, met, first_met, count_met, shared_each, spot, told_all}
use Rattle.cd_tries.proofs.Cutting.{copies_know, copies_room, stays_covered}
use Rattle.cd_tries.proofs.Holding.{known_then, room_then}
use Rattle.cd_tries.proofs.Ranges.{of_one}

-- ---- what an entry takes of a pass

pub record Spent (need : ℕ) (p q : PassModel) : Type 0 where
  pub knows : KnowsMore p.known q.known
  pub room : p.room ≤ q.room + need

pub spent_copy : (w : Words) (r : Range) (pieces : Pieces) (p q : PassModel) → IsCopy w r pieces p q → Spent (blocks_of r) p q
spent_copy w r pieces p q copy = record {
  knows = copies_know w r 0 pieces.ids p q copy.keeps;
  room =
      let a : p.room ≤ q.room + length pieces.ids = copies_room w r 0 pieces.ids p q copy.keeps in
      let b : length pieces.ids ≡ blocks_of r = copy.count in
      omega (arith, a, b);
}

pub spent_shared : (n : ℕ) (ids : List KeepId) (p q : PassModel) → q ≡ shared_each p ids → length ids ≤ n → Spent n p q
spent_shared n ids p q is few = record {
  knows = λ id words h. ap (λ (k : Known). k id) (ap (λ (v : PassModel). v.known) is ∙ known_then p ids) ∙ h;
  room =
      let e : q.room ≡ p.room - length ids = ap (λ (v : PassModel). v.room) is ∙ room_then p ids in
      omega (arith, e, few);
}

spent_more : (n k : ℕ) (p q : PassModel) → n ≤ k → Spent n p q → Spent k p q
spent_more n k p q within s = record { knows = s.knows; room = (let a : p.room ≤ q.room + n = s.room in omega (arith, a, within)) }

spent_none : (n : ℕ) (p q : PassModel) → q ≡ p → Spent n p q
spent_none n p q is = record {
  knows = λ id words h. ap (λ (v : PassModel). v.known id) is ∙ h;
  room = (let e : q.room ≡ p.room = ap (λ (v : PassModel). v.room) is in omega (arith, e));
}

-- a range meets at most one piece more than it has blocks
count_short : (begin low high : ℕ) → (high - 1 - begin) / 64 + 1 - (low - begin) / 64 ≤ (high - low + 63) / 64 + 1
count_short begin low high = omega arith

pub met_short : (o : Option Pieces) (pieces : Pieces) (r : Range) → IsSomeAnd o (λ link. pieces ≡ met link r) → length pieces.ids ≤ blocks_of r + 1
met_short None pieces r h = absurd h
met_short (Some link) pieces r h =
    let is : length pieces.ids ≡ length (take (count_met link r) (drop (first_met link r) link.ids)) = ap (λ (v : Pieces). length v.ids) h in
    let long : length (take (count_met link r) (drop (first_met link r) link.ids)) ≡ min (count_met link r) (length (drop (first_met link r) link.ids)) =
    length-take (count_met link r) (drop (first_met link r) link.ids) in
    let few : count_met link r ≤ blocks_of r + 1 = count_short link.begin r.low r.high in
    at_most (length pieces.ids) (count_met link r) (length (drop (first_met link r) link.ids)) (blocks_of r + 1) (is ∙ long) few
  where
    at_most : (n c l b : ℕ) → n ≡ min c l → c ≤ b → n ≤ b
    at_most n c l b e few = omega (arith, e, few)

pub spent_by : (s : Spot) (how : How) (keep : Keep) (events : List Event) (p q : PassModel) → SavedAs s how keep events p q
    → Spent (blocks_kept how s.range) p q
spent_by s Copy (by.Copied pieces) events p q h = spent_copy s.words s.range pieces p q h.0
spent_by s Copy (by.Shared pieces) events p q h = absurd h
spent_by s Copy by.Pattern events p q h = absurd h
spent_by s Refer (by.Copied pieces) events p q h =
    let c : Spent (blocks_of s.range) (lapsed p h.gone.id h.gone.note) q = spent_copy s.words s.range pieces (lapsed p h.gone.id h.gone.note) q h.copy in
    record {
      knows = c.knows;
      room = (let a : p.room ≤ q.room + blocks_of s.range = c.room in omega (arith, a));
    }
spent_by s Refer (by.Shared pieces) events p q h =
    spent_shared (blocks_of s.range + 1) pieces.ids p q h.1 (met_short s.link pieces s.range h.0)
spent_by s Refer by.Pattern events p q h = absurd h
spent_by s (Regen pattern) (by.Copied pieces) events p q h = spent_copy s.words s.range pieces p q h.copy
spent_by s (Regen pattern) (by.Shared pieces) events p q h = absurd h
spent_by s (Regen pattern) by.Pattern events p q h = spent_none (blocks_of s.range) p q h.1

-- ---- what the links cover

link_stays : (known more : Known) (o : Option Pieces) (r : Range) → KnowsMore known more → IsSomeAnd o (λ pieces. Cover known pieces r)
    → IsSomeAnd o (λ pieces. Cover more pieces r)
link_stays known more None r knows h = absurd h
link_stays known more (Some pieces) r knows h = stays_covered known more pieces r knows h

pub links_stay : (known more : Known) (links : ℕ → Option Pieces) (at : ℕ) (entries : List Entry) → KnowsMore known more
    → LinksCover known links at entries → LinksCover more links at entries
links_stay known more links at [] knows h = tt
links_stay known more links at (entry ∷ entries) knows h =
    ((λ refers. link_stays known more (links at) entry.range knows (h.0 refers)), links_stay known more links (suc at) entries knows h.1)

-- ---- entries by their index

-- what stands for an entry that no list has
abbrev pub no_entry : Entry
no_entry = record { range = record { region = 0; low = 0; high = 0 }; how = Copy }

abbrev pub nth_entry : List Entry → ℕ → Entry
nth_entry entries k = get_or entries k no_entry

pub in_entry : (entries : List Entry) (n : ℕ) (p : Place) → n < length entries
    → in_range (nth_entry entries n).range p ≡ true → in_entries entries p ≡ true
in_entry [] n p short h = absurd (omega (arith, short))
in_entry (entry ∷ entries) zero p short h = or_left (in_range entry.range p) (in_entries entries p) h
in_entry (entry ∷ entries) (suc n) p short h =
    or_right (in_range entry.range p) (in_entries entries p) (in_entry entries n p (omega (arith, short)) h)

-- ---- the rest, and what is preserved so far

-- entries, numbered from one on, preserved: the machine before and behind, and the pass before and behind
pub record PreservedFrom (id : NodeId) (w : Words) (links : ℕ → Option Pieces) (at : ℕ) (entries : List Entry) (keeps : List Keep)
    (m n : FieldModel) (p q : PassModel) : Type 0 where
  pub events : List Event
  pub saved : SavedAll id w links at entries keeps events p q
  pub told : n ≡ told_all m events

-- the first k entries are preserved
pub record ArePreserved (links : ℕ → Option Pieces) (k : ℕ) (entries : List Entry) (keeps : List Keep) (m now : FieldModel) (p here : PassModel)
    : Type 0 where
  pub count : length keeps ≡ k
  pub same : now ≡ record m { events = now.events }
  pub covered : LinksCover here.known links k (drop k entries)
  pub room : sum_by entry_need (drop k entries) ≤ here.room
  pub whole : (more : List Keep) (n : FieldModel) (q : PassModel)
      → PreservedFrom m.node m.words links k (drop k entries) more now n here q
      → PreservedFrom m.node m.words links 0 entries (keeps ++ more) m n p q

pub none_preserved : (links : ℕ → Option Pieces) (entries : List Entry) (m : FieldModel) (p : PassModel)
    → LinksCover p.known links 0 entries → sum_by entry_need entries ≤ p.room → ArePreserved links 0 entries [] m m p p
none_preserved links entries m p covered room =
    record { count = refl; same = refl; covered = covered; room = room; whole = λ more n q h. h }

-- one entry and those behind it
first_and_rest : (m now next n : FieldModel) (links : ℕ → Option Pieces) (k : ℕ) (entry : Entry) (entries : List Entry) (keep : Keep)
    (keeps : List Keep) (here after q : PassModel) → now ≡ record m { events = now.events }
    → IsSaved (spot now k entry.range (links k)) entry.how keep now next here after
    → PreservedFrom m.node m.words links (suc k) entries keeps next n after q
    → PreservedFrom m.node m.words links k (entry ∷ entries) (keep ∷ keeps) now n here q
first_and_rest m now next n links k entry entries keep keeps here after q same one rest =
    let P : FieldModel → Type 0 = λ v. SavedAs (spot v k entry.range (links k)) entry.how keep one.events here after in
    record {
      events = one.events ++ rest.events;
      saved = record {
        told = one.events;
        more = rest.events;
        between = after;
        one = subst P same one.saved;
        rest = rest.saved;
        whole = refl;
      };
      told =
          rest.told ∙ ap (λ (v : FieldModel). told_all v rest.events) one.told
          ∙ ap (λ (es : List Event). record now { events = es }) (append_assoc now.events one.events rest.events);
    }

still_same : (m now next : FieldModel) (events : List Event) → now ≡ record m { events = now.events } → next ≡ told_all now events
    → next ≡ record m { events = next.events }
still_same m now next events same told =
    let e : next.events ≡ now.events ++ events = ap (λ (v : FieldModel). v.events) told in
    told ∙ ap (λ (v : FieldModel). record v { events = now.events ++ events }) same
    ∙ ap (λ (es : List Event). record m { events = es }) (sym e)

pub one_preserved : (links : ℕ → Option Pieces) (k : ℕ) (entries : List Entry) (keep : Keep) (keeps all : List Keep) (m now next : FieldModel)
    (p here after : PassModel) → k < length entries → all ≡ keeps ++ keep ∷ []
    → IsSaved (spot now k (nth_entry entries k).range (links k)) (nth_entry entries k).how keep now next here after
    → ArePreserved links k entries keeps m now p here → ArePreserved links (k + 1) entries all m next p after
one_preserved links k entries keep keeps all m now next p here after within pushed one s =
    let entry : Entry = nth_entry entries k in
    let left : drop k entries ≡ entry ∷ drop (k + 1) entries = drop_more entries k no_entry within in
    let spent : Spent (entry_need entry) here after = spent_by (spot now k entry.range (links k)) entry.how keep one.events here after one.saved in
    let P : List Keep → Type 0 = λ xs. ArePreserved links (k + 1) entries xs m next p after in
    let A : List Entry → Type 0 = λ es. LinksCover here.known links k es in
    let covered : LinksCover here.known links k (entry ∷ drop (k + 1) entries) = subst A left s.covered in
    let B : ℕ → Type 0 = λ n. LinksCover after.known links n (drop (k + 1) entries) in
    subst P (sym pushed) (record {
      count = length_push keeps keep ∙ ap (λ (n : ℕ). n + 1) s.count;
      same = still_same m now next one.events s.same one.told;
      covered = subst B (sym (add-one k)) (links_stay here.known after.known links (suc k) (drop (k + 1) entries) spent.knows covered.1);
      room =
          let sum : sum_by entry_need (drop k entries) ≡ entry_need entry + sum_by entry_need (drop (k + 1) entries) =
          sum_by-drop_more entry_need entries k no_entry within in
          let room : sum_by entry_need (drop k entries) ≤ here.room = s.room in
          let spent_room : here.room ≤ after.room + entry_need entry = spent.room in
          left_over (sum_by entry_need (drop k entries)) (entry_need entry) (sum_by entry_need (drop (k + 1) entries)) here.room after.room
          sum room spent_room;
      whole = λ more n q h.
          let C : ℕ → Type 0 = λ i. PreservedFrom m.node m.words links i (drop (k + 1) entries) more next n after q in
          let D : List Entry → Type 0 = λ es. PreservedFrom m.node m.words links k es (keep ∷ more) now n here q in
          let E : List Keep → Type 0 = λ xs. PreservedFrom m.node m.words links 0 entries xs m n p q in
          subst E (sym (append_assoc keeps (keep ∷ []) more)) (s.whole (keep ∷ more) n q (subst D (sym left)
          (first_and_rest m now next n links k entry (drop (k + 1) entries) keep more here after q s.same one (subst C (add-one k) h))));
    })
  where
    left_over : (all one rest room after : ℕ) → all ≡ one + rest → all ≤ room → room ≤ after + one → rest ≤ after
    left_over all one rest room after e within spent = omega (arith, e, within, spent)

pub all_preserved : (id : NodeId) (domain : Domain) (links : ℕ → Option Pieces) (k : ℕ) (entries : List Entry) (keeps shelf : List Keep)
    (m now : FieldModel) (p here : PassModel) → entries ≡ domain.entries → length entries ≤ k → m.node ≡ id → shelf ≡ keeps
    → ArePreserved links k entries keeps m now p here → IsPreserved id domain links shelf m now p here
all_preserved id domain links k entries keeps shelf m now p here of over node shelved s =
    let A : List Entry → Type 0 = λ es. PreservedFrom m.node m.words links k es [] now now here here in
    let last : PreservedFrom m.node m.words links k [] [] now now here here =
    record { events = []; saved = (refl, refl); told = ap (λ (es : List Event). record now { events = es }) (sym (append-nil now.events)) } in
    let B : List Keep → Type 0 = λ xs. PreservedFrom m.node m.words links 0 entries xs m now p here in
    let C : List Entry → Type 0 = λ es. PreservedFrom m.node m.words links 0 es shelf m now p here in
    let D : NodeId → Type 0 = λ i. PreservedFrom i m.words links 0 domain.entries shelf m now p here in
    let whole : PreservedFrom id m.words links 0 domain.entries shelf m now p here =
    subst D node (subst C of (subst B (append-nil keeps ∙ sym shelved)
    (s.whole [] now here (subst A (sym (drop_all k entries over)) last)))) in
    record { events = whole.events; saved = whole.saved; told = whole.told }

-- ---- what the next entry needs

pub entry_present : (m now : FieldModel) (entries : List Entry) (k : ℕ) → k < length entries → now ≡ record m { events = now.events }
    → ArePresentIn entries m → ArePresent now ((nth_entry entries k).range ∷ [])
entry_present m now entries k within same there p h =
    let P : FieldModel → Type 0 = λ v. IsPresent v p in
    let was : IsPresent m p = there p (in_entry entries k p within (of_one (nth_entry entries k).range p h)) in
    subst P (sym same) (record { known = was.known; here = was.here })

pub entry_room : (entries : List Entry) (k room : ℕ) → k < length entries → sum_by entry_need (drop k entries) ≤ room
    → entry_need (nth_entry entries k) ≤ room
entry_room entries k room within fits =
    let sum : sum_by entry_need (drop k entries) ≡ entry_need (nth_entry entries k) + sum_by entry_need (drop (k + 1) entries) =
    sum_by-drop_more entry_need entries k no_entry within in
    by_sum (sum_by entry_need (drop k entries)) (entry_need (nth_entry entries k)) (sum_by entry_need (drop (k + 1) entries)) sum fits
  where
    by_sum : (all one rest : ℕ) → all ≡ one + rest → all ≤ room → one ≤ room
    by_sum all one rest e within = omega (arith, e, within)

pub entry_covered : (known : Known) (links : ℕ → Option Pieces) (entries : List Entry) (k : ℕ) (link : Option Pieces) → k < length entries
    → link ≡ links k → LinksCover known links k (drop k entries) → (nth_entry entries k).how ≡ Refer
    → IsSomeAnd link (λ pieces. Cover known pieces (nth_entry entries k).range)
entry_covered known links entries k link within is covered refers =
    let A : List Entry → Type 0 = λ es. LinksCover known links k es in
    let now : LinksCover known links k (nth_entry entries k ∷ drop (k + 1) entries) = subst A (drop_more entries k no_entry within) covered in
    let B : Option Pieces → Type 0 = λ o. IsSomeAnd o (λ pieces. Cover known pieces (nth_entry entries k).range) in
    subst B (sym is) (now.0 refers)
