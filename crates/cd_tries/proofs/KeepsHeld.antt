-- What the keeps of a first try hold, and what the pass has then.
use Rattle.std.proofs.Common.{◌≡◌, ℕ, suc, ◌+◌, ◌-◌, ◌*◌, ◌/◌, ◌<◌, ◌≤◌, min, List, [], ◌∷◌, ◌++◌, length, take, drop, slice_get, Option, None, Some, IsSomeAnd, All, sum_by, arith, refl, ap, sym, subst, ◌∙◌, length-append}
use Rattle.std.proofs.lemmas.List.{length-take, length-drop, get_or-take, get_or-drop}
use Rattle.std.proofs.lemmas.List.Sums.{sum_by-cons}
use Rattle.std.proofs.lemmas.Option.{slice_get-get_or, slice_get_within}
use Rattle.cd_base.specs.declared.place.Range.{Range}
use Rattle.cd_base.specs.Words.{Words}
use Rattle.cd_tree.specs.declared.domain.NodeId.{NodeId}
use Rattle.cd_tree.specs.declared.domain.How.{How}
use Rattle.cd_tree.specs.declared.domain.How.TheVariants.{Copy, Refer, Regen}
use Rattle.cd_tree.specs.declared.domain.Entry.{Entry}
use Rattle.cd_tree.specs.declared.event.Event.{Event}
use Rattle.cd_tree.specs.Legal.{OfPattern}
use Rattle.cd_tree.specs.Meaning.{blocks_kept, entry_need}
use Rattle.cd_tree.specs.Operations.{IsFull}
use Rattle.cd_field.specs.FieldModel.{words_in}
use Rattle.cd_keep.specs.declared.keep_id.KeepId.{KeepId}
use Rattle.cd_keep.specs.PassModel.{PassModel, same_id, kept, lapsed}
use Rattle.cd_tries.specs.declared.keep.Pieces.{Pieces}
use Rattle.cd_tries.specs.declared.keep.Keep.{Keep}
use Rattle.cd_tries.specs.declared.keep.Keep.TheVariants as by
use Rattle.cd_tries.specs.Fitting.{LinksCover}
use Rattle.cd_tries.specs.Keeping.{Known, Cover, AreCut, EachMeets, KeepFits, KeepsFit, all_ids, keep_ids, times_in, text}
use Rattle.cd_tries.specs.KeepLaws.{KnowsMore, PreservedAreHeld}
use Rattle.cd_tries.specs.Preserving.{nth_piece, KeepsFrom, IsCopy, SavedAs, SavedAll, Spot, met, first_met, count_met, shared_each}
use Rattle.cd_tries.proofs.Holding.{counted_more, shared_all, times_in-append}
use Rattle.cd_tries.proofs.Cutting.{stays_covered}
use Rattle.cd_tries.proofs.Preserved.{Spent, spent_by, links_stay, met_short}
use Rattle.cd_tries.proofs.Rows.{copy_cut, text_part}

-- ---- what is held

-- a pass that holds these ids besides, from its own room
pub record HoldsMore (ids : List KeepId) (p q : PassModel) : Type 0 where
  pub each : (id : KeepId) → q.holds id ≡ p.holds id + times_in id ids
  pub held : q.held ≡ p.held + length ids
  pub room : q.room ≡ p.room - length ids
  pub store : q.store ≡ p.store
  pub most : q.most ≡ p.most

holds_none_more : (p q : PassModel) → q ≡ p → HoldsMore [] p q
holds_none_more p q is =
    let A : PassModel → Type 0 = λ v. HoldsMore [] p v in
    subst A (sym is) (record { each = λ id. omega arith; held = omega arith; room = omega arith; store = refl; most = refl })

pub copies_hold : (w : Words) (r : Range) (k : ℕ) (ids : List KeepId) (p q : PassModel) → KeepsFrom w r k ids p q → HoldsMore ids p q
copies_hold w r k [] p q h = holds_none_more p q h
copies_hold w r k (one ∷ ids) p q h =
    let now : PassModel = kept p one (words_in w (nth_piece r k)) in
    let rest : HoldsMore ids now q = copies_hold w r (suc k) ids now q h.1 in
    let held : q.held ≡ p.held + 1 + length ids = rest.held in
    let room : q.room ≡ p.room - 1 - length ids = rest.room in
    record {
      each = λ id. rest.each id ∙ counted_more (same_id one id) (p.holds id) (times_in id ids);
      held = omega (arith, held);
      room = omega (arith, room);
      store = rest.store;
      most = rest.most;
    }

shared_hold : (ids : List KeepId) (p q : PassModel) → q ≡ shared_each p ids → HoldsMore ids p q
shared_hold ids p q is =
    let A : PassModel → Type 0 = λ v. HoldsMore ids p v in
    subst A (sym (is ∙ shared_all p ids)) (record { each = λ id. refl; held = refl; room = refl; store = refl; most = refl })

pub entry_holds : (s : Spot) (how : How) (keep : Keep) (events : List Event) (p q : PassModel) → SavedAs s how keep events p q
    → HoldsMore (keep_ids keep) p q
entry_holds s Copy (by.Copied pieces) events p q h = copies_hold s.words s.range 0 pieces.ids p q h.0.keeps
entry_holds s Copy (by.Shared pieces) events p q h = absurd h
entry_holds s Copy by.Pattern events p q h = absurd h
entry_holds s Refer (by.Copied pieces) events p q h =
    let after : PassModel = lapsed p h.gone.id h.gone.note in
    let c : HoldsMore pieces.ids after q = copies_hold s.words s.range 0 pieces.ids after q h.copy.keeps in
    record { each = c.each; held = c.held; room = c.room; store = c.store; most = c.most }
entry_holds s Refer (by.Shared pieces) events p q h = shared_hold pieces.ids p q h.1
entry_holds s Refer by.Pattern events p q h = absurd h
entry_holds s (Regen pattern) (by.Copied pieces) events p q h = copies_hold s.words s.range 0 pieces.ids p q h.copy.keeps
entry_holds s (Regen pattern) (by.Shared pieces) events p q h = absurd h
entry_holds s (Regen pattern) by.Pattern events p q h = holds_none_more p q h.1

pub entry_few : (s : Spot) (how : How) (keep : Keep) (events : List Event) (p q : PassModel) → SavedAs s how keep events p q
    → length (keep_ids keep) ≤ blocks_kept how s.range
entry_few s Copy (by.Copied pieces) events p q h = omega (arith, h.0.count)
entry_few s Copy (by.Shared pieces) events p q h = absurd h
entry_few s Copy by.Pattern events p q h = absurd h
entry_few s Refer (by.Copied pieces) events p q h = omega (arith, h.copy.count)
entry_few s Refer (by.Shared pieces) events p q h = met_short s.link pieces s.range h.0
entry_few s Refer by.Pattern events p q h = absurd h
entry_few s (Regen pattern) (by.Copied pieces) events p q h = omega (arith, h.copy.count)
entry_few s (Regen pattern) (by.Shared pieces) events p q h = absurd h
entry_few s (Regen pattern) by.Pattern events p q h = omega arith

both_hold : (xs ys : List KeepId) (p between q : PassModel) → HoldsMore xs p between → HoldsMore ys between q → HoldsMore (xs ++ ys) p q
both_hold xs ys p between q first rest =
    let long : length (xs ++ ys) ≡ length xs + length ys = length-append xs ys in
    let held : between.held ≡ p.held + length xs = first.held in
    let held_then : q.held ≡ between.held + length ys = rest.held in
    let room : between.room ≡ p.room - length xs = first.room in
    let room_then : q.room ≡ between.room - length ys = rest.room in
    record {
      each = λ id.
          let a : between.holds id ≡ p.holds id + times_in id xs = first.each id in
          let b : q.holds id ≡ between.holds id + times_in id ys = rest.each id in
          let c : times_in id (xs ++ ys) ≡ times_in id xs + times_in id ys = times_in-append id xs ys in
          omega (arith, a, b, c);
      held = omega (arith, long, held, held_then);
      room = omega (arith, long, room, room_then);
      store = rest.store ∙ first.store;
      most = rest.most ∙ first.most;
    }

-- ---- how keeps fit

copy_begins : (low high n : ℕ) → low < high → n ≡ (high - low + 63) / 64 → low + 64 * (n - 1) < high
copy_begins low high n full count = omega (arith, full, count)

pub copy_fits : (w : Words) (entry : Entry) (pieces : Pieces) (p q : PassModel) → IsFull entry.range → IsCopy w entry.range pieces p q
    → KeepFits q.known entry (by.Copied pieces)
copy_fits w entry pieces p q full copy =
    let begin : pieces.begin ≡ entry.range.low = copy.begin in
    let end : pieces.end ≡ entry.range.high = copy.end in
    let last : entry.range.low + 64 * (length pieces.ids - 1) < entry.range.high =
    copy_begins entry.range.low entry.range.high (length pieces.ids) full copy.count in (
      record { cut = copy_cut w entry.range pieces p q full copy; low = omega (arith, begin); high = omega (arith, end) },
      begin,
      record { first = omega (arith, begin); last = omega (arith, begin, last) },
    )

-- numbers of pieces that meet a range
pub record MetNumbers (begin end low high first count : ℕ) : Type 0 where
  pub below : begin + 64 * first ≤ low
  pub near : low < begin + 64 * first + 64
  pub above : high ≤ begin + 64 * (first + count)
  pub last : begin + 64 * (first + count) < high + 64
  pub some : 0 < count

pub met_numbers : (begin end low high : ℕ) → begin ≤ low → low < high → high ≤ end
    → MetNumbers begin end low high ((low - begin) / 64) ((high - 1 - begin) / 64 + 1 - (low - begin) / 64)
met_numbers begin end low high a b c = record {
  below = omega (arith, a);
  near = omega (arith, a);
  above = omega (arith, a, b);
  last = omega (arith, a, b);
  some = omega (arith, a, b);
}

-- how many pieces meet a range
met_long : (link : Pieces) (r : Range) → length (met link r).ids ≡ min (count_met link r) (length link.ids - first_met link r)
met_long link r =
    length-take (count_met link r) (drop (first_met link r) link.ids) ∙ ap (min (count_met link r)) (length-drop (first_met link r) link.ids)

pub met_cut : (known : Known) (link : Pieces) (r : Range) → IsFull r → Cover known link r → AreCut known (met link r)
met_cut known link r full covers =
    let first : ℕ = first_met link r in
    let count : ℕ = count_met link r in
    let ids : List KeepId = take count (drop first link.ids) in
    let long : length ids ≡ min count (length link.ids - first) = met_long link r in
    let numbers : MetNumbers link.begin link.end r.low r.high first count = met_numbers link.begin link.end r.low r.high covers.low full covers.high in
    let there : (k : ℕ) (id : KeepId) → slice_get ids k ≡ Some id → slice_get link.ids (first + k) ≡ Some id = λ k id h.
    let within : k < length ids = slice_get_within ids k id h in
    sym (slice_get-get_or ids k id within
    ∙ ap (λ (v : KeepId). Some v) (get_or-take count (drop first link.ids) k id (omega (arith, within, long)) ∙ get_or-drop first link.ids k id)
    ∙ sym (slice_get-get_or link.ids (first + k) id (omega (arith, within, long)))) ∙ h in
    record {
      each = λ k id h. covers.cut.each (first + k) id (there k id h);
      whole = λ k id h short. covers.cut.whole (first + k) id (there k id h) (omega (arith, short, long));
      size =
          let t : List ℕ = text known link.ids in
          let size : link.begin + length t ≡ link.end = covers.cut.size in
          let part : length (text known ids) ≡ min (64 * count) (length t - 64 * first) =
          ap length (text_part known link first count covers.cut)
          ∙ length-take (64 * count) (drop (64 * first) t) ∙ ap (min (64 * count)) (length-drop (64 * first) t) in
          met_size link.begin link.end r.low r.high first count (length t) (length (text known ids)) size part numbers full covers.high;
    }
  where
    met_size : (begin end low high first count long part : ℕ) → begin + long ≡ end → part ≡ min (64 * count) (long - 64 * first)
        → MetNumbers begin end low high first count → low < high → high ≤ end
        → begin + 64 * first + part ≡ min (begin + 64 * (first + count)) end
    met_size begin end low high first count long part size is numbers full within =
        omega (arith, size, is, numbers.below, full, within)

pub met_covers : (known : Known) (link : Pieces) (r : Range) → IsFull r → Cover known link r
    → Cover known (met link r) r × EachMeets (met link r) r
met_covers known link r full covers =
    let first : ℕ = first_met link r in
    let count : ℕ = count_met link r in
    let numbers : MetNumbers link.begin link.end r.low r.high first count = met_numbers link.begin link.end r.low r.high covers.low full covers.high in
    let long : length (met link r).ids ≡ min count (length link.ids - first) = met_long link r in (
      record {
        cut = met_cut known link r full covers;
        low = numbers.below;
        high = (let a : r.high ≤ link.begin + 64 * (first + count) = numbers.above in let b : r.high ≤ link.end = covers.high in omega (arith, a, b));
      },
      record {
        first = numbers.near;
        last = met_last link.begin link.end r.low r.high first count (length (met link r).ids) (length link.ids - first) numbers long;
      },
    )
  where
    met_last : (begin end low high first count n more : ℕ) → MetNumbers begin end low high first count → n ≡ min count more
        → begin + 64 * first + 64 * (n - 1) < high
    met_last begin end low high first count n more numbers is = omega (arith, is, numbers.last, numbers.some, numbers.near, numbers.below)

link_fits : (known : Known) (o : Option Pieces) (pieces : Pieces) (r : Range) → IsFull r → IsSomeAnd o (λ link. pieces ≡ met link r)
    → IsSomeAnd o (λ link. Cover known link r) → Cover known pieces r × EachMeets pieces r
link_fits known None pieces r full is covers = absurd is
link_fits known (Some link) pieces r full is covers =
    let A : Pieces → Type 0 = λ v. Cover known v r × EachMeets v r in
    subst A (sym is) (met_covers known link r full covers)

-- the keep of an entry fits it
pub entry_fits : (w : Words) (id : NodeId) (at : ℕ) (entry : Entry) (how : How) (link : Option Pieces) (keep : Keep) (events : List Event)
    (p q : PassModel) → entry.how ≡ how → IsFull entry.range → (how ≡ Refer → IsSomeAnd link (λ pieces. Cover p.known pieces entry.range))
    → KnowsMore p.known q.known
    → SavedAs (record { node = id; at = at; range = entry.range; words = w; link = link }) how keep events p q → KeepFits q.known entry keep
entry_fits w id at entry Copy link (by.Copied pieces) events p q is full covers knows h = copy_fits w entry pieces p q full h.0
entry_fits w id at entry Copy link (by.Shared pieces) events p q is full covers knows h = absurd h
entry_fits w id at entry Copy link by.Pattern events p q is full covers knows h = absurd h
entry_fits w id at entry Refer link (by.Copied pieces) events p q is full covers knows h =
    copy_fits w entry pieces (lapsed p h.gone.id h.gone.note) q full h.copy
entry_fits w id at entry Refer link (by.Shared pieces) events p q is full covers knows h =
    let fits : Cover p.known pieces entry.range × EachMeets pieces entry.range = link_fits p.known link pieces entry.range full h.0 (covers refl) in
    (stays_covered p.known q.known pieces entry.range knows fits.0, is, fits.1)
entry_fits w id at entry Refer link by.Pattern events p q is full covers knows h = absurd h
entry_fits w id at entry (Regen pattern) link (by.Copied pieces) events p q is full covers knows h = copy_fits w entry pieces p q full h.copy
entry_fits w id at entry (Regen pattern) link (by.Shared pieces) events p q is full covers knows h = absurd h
entry_fits w id at entry (Regen pattern) link by.Pattern events p q is full covers knows h =
    let A : How → Type 0 = λ v. OfPattern (λ r pattern. Unit {0}) entry v in
    subst A (sym is) tt

pub fit_stays : (known more : Known) (entry : Entry) (keep : Keep) → KnowsMore known more → KeepFits known entry keep → KeepFits more entry keep
fit_stays known more entry (by.Copied pieces) knows fits = (stays_covered known more pieces entry.range knows fits.0, fits.1, fits.2)
fit_stays known more entry (by.Shared pieces) knows fits = (stays_covered known more pieces entry.range knows fits.0, fits.1, fits.2)
fit_stays known more entry by.Pattern knows fits = fits

-- ---- all entries

pub record Took (entries : List Entry) (keeps : List Keep) (p q : PassModel) : Type 0 where
  pub fit : KeepsFit q.known entries keeps
  pub more : HoldsMore (all_ids keeps) p q
  pub few : length (all_ids keeps) ≤ sum_by entry_need entries
  pub knows : KnowsMore p.known q.known

all_took : (id : NodeId) (w : Words) (links : ℕ → Option Pieces) (at : ℕ) (entries : List Entry) (keeps : List Keep) (events : List Event)
    (p q : PassModel) → All (λ (entry : Entry). IsFull entry.range) entries → LinksCover p.known links at entries
    → SavedAll id w links at entries keeps events p q → Took entries keeps p q
all_took id w links at [] [] events p q full covers h = record {
  fit = tt;
  more = holds_none_more p q h.1;
  few = omega arith;
  knows = λ one words known. ap (λ (v : PassModel). v.known one) h.1 ∙ known;
}
all_took id w links at [] (keep ∷ keeps) events p q full covers h = absurd h
all_took id w links at (entry ∷ entries) [] events p q full covers h = absurd h
all_took id w links at (entry ∷ entries) (keep ∷ keeps) events p q full covers h =
    let s : Spot = record { node = id; at = at; range = entry.range; words = w; link = links at } in
    let between : PassModel = h.between in
    let spent : Spent (entry_need entry) p between = spent_by s entry.how keep h.told p between h.one in
    let rest : Took entries keeps between q =
    all_took id w links (suc at) entries keeps h.more between q (λ k d short. full (suc k) d (omega (arith, short)))
    (links_stay p.known between.known links (suc at) entries spent.knows covers.1) h.rest in
    let fits : KeepFits between.known entry keep =
    entry_fits w id at entry entry.how (links at) keep h.told p between refl (full 0 entry (omega arith)) covers.0 spent.knows h.one in
    record {
      fit = (fit_stays between.known q.known entry keep rest.knows fits, rest.fit);
      more = both_hold (keep_ids keep) (all_ids keeps) p between q (entry_holds s entry.how keep h.told p between h.one) rest.more;
      few =
          let a : length (keep_ids keep ++ all_ids keeps) ≡ length (keep_ids keep) + length (all_ids keeps) = length-append (keep_ids keep) (all_ids keeps) in
          let b : sum_by entry_need (entry ∷ entries) ≡ entry_need entry + sum_by entry_need entries = sum_by-cons entry_need entry entries in
          let c : length (keep_ids keep) ≤ entry_need entry = entry_few s entry.how keep h.told p between h.one in
          at_most (length (keep_ids keep ++ all_ids keeps)) (length (keep_ids keep)) (length (all_ids keeps)) (sum_by entry_need (entry ∷ entries))
          (entry_need entry) (sum_by entry_need entries) a b c rest.few;
      knows = λ one words known. rest.knows one words (spent.knows one words known);
    }
  where
    at_most : (n a b m c d : ℕ) → n ≡ a + b → m ≡ c + d → a ≤ c → b ≤ d → n ≤ m
    at_most n a b m c d is sum first rest = omega (arith, is, sum, first, rest)

pub preserved_are_held : PreservedAreHeld
preserved_are_held id domain links keeps m n p q can nothing said =
    let took : Took domain.entries keeps p q =
    all_took id m.words links 0 domain.entries keeps said.events p q can.sound.full can.covered said.saved in
    let few : length (all_ids keeps) ≤ p.room = below (length (all_ids keeps)) (sum_by entry_need domain.entries) p.room took.few can.room in
    let held : q.held ≡ p.held + length (all_ids keeps) = took.more.held in
    let none : p.held ≡ 0 = nothing.held in
    let room : q.room ≡ p.room - length (all_ids keeps) = took.more.room in
    record {
      fit = took.fit;
      holds = record {
        each = λ one.
            let a : q.holds one ≡ p.holds one + times_in one (all_ids keeps) = took.more.each one in
            let b : p.holds one ≡ 0 = nothing.none one in
            omega (arith, a, b);
        held = omega (arith, held, none);
      };
      room = omega (arith, held, none, room, few);
      store = took.more.store;
      most = took.more.most;
      knows = took.knows;
    }
  where
    below : (a b c : ℕ) → a ≤ b → b ≤ c → a ≤ c
    below a b c first rest = omega (arith, first, rest)
