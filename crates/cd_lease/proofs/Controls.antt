-- Steps on a control word that leave its serial: look, a take that met another word, leave, share, the end of a try.
use Rattle.std.proofs.Common.{◌≡◌, ◌≢◌, ℕ, ◌+◌, ◌-◌, ◌*◌, ◌%◌, ◌^◌, ◌<◌, ◌≤◌, List, [], ◌∷◌, ◌++◌, length, get_or, set, None, Some, IsSome, refl, sym, ap, ◌∙◌, subst, ⊎_elim, arith, le_refl, le_of_eq, ◌==◌}
use Rattle.std.proofs.lemmas.Bool.{cases_eq}
use mathlib.Core.Option.{some, none}
use lib.ListN.{get_elem?}
use Rattle.atomic_table.specs.Table.{keeps, stepped, step, Allows}
use Rattle.cd_keep.specs.declared.keep_id.KeepId.{KeepId}
use Rattle.cd_lease.specs.declared.rule.Size.{Size}
use Rattle.cd_lease.specs.declared.view.View.{View}
use Rattle.cd_lease.specs.declared.view.Look.{Look}
use Rattle.cd_lease.specs.declared.view.Miss.{Miss}
use Rattle.cd_lease.specs.Control.{users_of, serial_of, control_at, users_in, serial_in}
use Rattle.cd_lease.specs.Views.{times, one_out, words_under, one_if, one_there, ids_of, tries_of, holds_in, fills_in, uses_in, spent_by, total}
use Rattle.cd_lease.specs.Rule.{fillers, IsHeld, IsMissed, AllMissed, Stands, Leased}
use Rattle.cd_lease.specs.Steps.{with_view, Sat, met, look_of, Looks, Leaves, leaving, Shares, sharing, missing, miss_of, Returns, giving_back}
use Rattle.cd_lease.proofs.Sums.{total_at}
use Rattle.cd_lease.proofs.Counting.{id_from, one_at, one_off, held_in_block, times_cases, times_fewer, length_one_out, ids_one_out, some_of}
use Rattle.cd_lease.proofs.TableWords.{control_now, control_else, words_stay, serials_stay}
use Rattle.cd_lease.proofs.Changing.{Change, stays, stands_on}
use Rattle.cd_lease.proofs.Stepping.{St, few_users, fillers_stay, alone_still, step_kept}

module _ (size : Size) (s : St) (r : Leased size s) (id : ℕ) (v : View) (at : get_elem? s.views id ≡ some v) where
  -- the control word of b becomes n, which has its serial
  module _ (w : View) (b n : ℕ) (h : b < size.blocks) (c : List (ℕ × Unit {0})) where
    within_words : control_at b < length s.words
    within_words = let l : length s.words ≡ 65 * size.blocks = r.long in omega arith

    counts_stay : users_of n + uses_in b v ≡ users_in s.words b + uses_in b w → ((d : ℕ) → d ≢ b → uses_in d w ≡ uses_in d v)
        → (d : ℕ) → users_in (set s.words (control_at b) n) d + uses_in d v ≡ users_in s.words d + uses_in d w
    counts_stay here other d = ⊎_elim
        (λ (q : d ≡ b). subst (λ (x : ℕ). users_in (set s.words (control_at b) n) x + uses_in x v ≡ users_in s.words x + uses_in x w) (sym q)
        (ap (λ (m : ℕ). users_of m + uses_in b v) (control_now s.words b n within_words) ∙ here))
        (λ ne.
        let e : uses_in d w ≡ uses_in d v = other d ne in
        ap (λ (m : ℕ). users_of m + uses_in d v) (control_else s.words b n d ne) ∙ ap (λ (m : ℕ). users_in s.words d + m) (sym e))
        (cases_eq d b)

    pub control_kept : serial_of n ≡ serial_in s.words b
        → spent_by w ≤ spent_by v
        → users_of n + uses_in b v ≡ users_in s.words b + uses_in b w
        → ((d : ℕ) → d ≢ b → uses_in d w ≡ uses_in d v)
        → ((d : ℕ) → fills_in d w ≡ fills_in d v)
        → ((d : ℕ) → 0 < fillers s.views d → holds_in d w ≤ holds_in d v)
        → (Stands size.blocks (set s.words (control_at b) n) (fillers (set s.views id w)) v → Stands size.blocks (set s.words (control_at b) n) (fillers (set s.views id w)) w)
        → Leased size (stepped s (control_at b) n id c w keeps)
    control_kept serial spends here other fills holds mine =
        let vs : List ℕ = set s.words (control_at b) n in
        let change : (u : View) (d : ℕ) → Change s.words vs (fillers s.views) (fillers (set s.views id w)) u d = λ u d. stays
        (serials_stay s.words b n within_words serial d)
        (fillers_stay size s r id v w at d (fills d))
        (λ i k. words_stay s.words b n d i k) in
        step_kept size s r id v w at (control_at b) n c
        spends
        (λ d k. counts_stay here other d)
        (λ d k. alone_still size s r id v w at d (fills d) (holds d) k)
        (mine (stands_on size.blocks s.words vs (fillers s.views) (fillers (set s.views id w)) v (r.each id v at) (λ d k. change v d)))
        (λ k u ne e d l. change u d)

  -- the word stays, and the view has met some words
  pub met_kept : (ls : List Look) (b : ℕ) → b < size.blocks → (c : List (ℕ × Unit {0}))
      → Leased size (stepped s (control_at b) (get_or s.words (control_at b) 0) id c (met v ls) keeps)
  met_kept ls b h c = control_kept (met v ls) b (get_or s.words (control_at b) 0) h c
      refl
      (le_refl (spent_by v))
      refl
      (λ d ne. refl)
      (λ d. refl)
      (λ d k. le_refl (holds_in d v))
      (λ is. record { held = is.held; seen = is.seen; filled = is.filled; missed = is.missed; tried = is.tried })

  -- a hold of b ends
  pub left_kept : (p : KeepId) → p.block < size.blocks → 0 < times v.holds p → (n : ℕ) → serial_of n ≡ serial_in s.words p.block
      → users_of n + 1 ≡ users_in s.words p.block → (c : List (ℕ × Unit {0}))
      → Leased size (stepped s (control_at p.block) n id c (leaving v p) keeps)
  left_kept p h held n serial users c =
      let out : (d : ℕ) → ids_of d (one_out p v.holds) + one_if (p.block == d) ≡ ids_of d v.holds = λ d. ids_one_out v.holds p d held in
      control_kept (leaving v p) p.block n h c
      serial
      (let l = length_one_out v.holds p held in omega arith)
      (let o = out p.block in let one : one_if (p.block == p.block) ≡ 1 = one_at p.block p.block refl in omega arith)
      (λ d ne. let o = out d in let none : one_if (p.block == d) ≡ 0 = one_off p.block d (λ e. ne (sym e)) in omega arith)
      (λ d. refl)
      (λ d k. let o = out d in omega arith)
      (λ is. record {
        held = λ q k. is.held q (let f = times_fewer v.holds p q held in omega arith);
        seen = is.seen;
        filled = is.filled;
        missed = is.missed;
        tried = let t : one_there v.trying ≤ v.room = is.tried in omega arith;
      })

  -- a known id whose serial is the control word's is held once more
  pub shared_kept : (p : KeepId) → p.block < size.blocks → IsSome (words_under v.known p) → 0 < v.room → v.trying ≡ None
      → p.serial ≡ serial_in s.words p.block → fillers s.views p.block ≡ 0
      → (n : ℕ) → serial_of n ≡ serial_in s.words p.block → users_of n ≡ users_in s.words p.block + 1 → (c : List (ℕ × Unit {0}))
      → Leased size (stepped s (control_at p.block) n id c (sharing v p) keeps)
  shared_kept p h known room idle same unfilled n serial users c =
      let none : one_there v.trying ≡ 0 = ap one_there idle in
      control_kept (sharing v p) p.block n h c
      serial
      (omega arith)
      (let one : one_if (p.block == p.block) ≡ 1 = one_at p.block p.block refl in omega arith)
      (λ d ne. let off : one_if (p.block == d) ≡ 0 = one_off p.block d (λ e. ne (sym e)) in omega arith)
      (λ d. refl)
      (λ d k. ⊎_elim
      (λ (e : d ≡ p.block). absurd (let f : fillers s.views d ≡ 0 = ap (fillers s.views) e ∙ unfilled in omega arith))
      (λ ne. let off : one_if (p.block == d) ≡ 0 = one_off p.block d (λ e. ne (sym e)) in omega arith)
      (cases_eq d p.block))
      (λ is. record {
        held = λ q k. times_cases p q v.holds k
            (λ e. subst (λ (x : KeepId). IsHeld size.blocks (set s.words (control_at p.block) n) v.known x) e (record {
              block = h;
              serial = serials_stay s.words p.block n (within_words (sharing v p) p.block n h c) serial p.block ∙ sym same;
              there = known;
            }))
            (λ more. is.held q more);
        seen = is.seen;
        filled = is.filled;
        missed = is.missed;
        tried = omega arith;
      })

  missed_last : (ws : List ℕ) (gs : List Miss) (g : Miss) → AllMissed size.blocks ws gs → IsMissed size.blocks ws g → AllMissed size.blocks ws (gs ++ g ∷ [])
  missed_last ws [] g all one = (one, tt)
  missed_last ws (x ∷ xs) g all one = (all.0, missed_last ws xs g all.1 one)

  -- a known id whose serial is past is tried in vain
  pub missed_kept : (p : KeepId) → p.block < size.blocks → 0 < v.room → v.trying ≡ None → p.serial < serial_in s.words p.block
      → (n : ℕ) → serial_of n ≡ serial_in s.words p.block → users_of n ≡ users_in s.words p.block + 1 → (c : List (ℕ × Unit {0}))
      → Leased size (stepped s (control_at p.block) n id c (missing v p (serial_in s.words p.block)) keeps)
  missed_kept p h room idle past n serial users c =
      let w : View = missing v p (serial_in s.words p.block) in
      let tries : (d : ℕ) → tries_of d v.trying ≡ 0 = λ d. ap (tries_of d) idle in
      control_kept w p.block n h c
      serial
      (le_refl (spent_by v))
      (let t = tries p.block in let one : one_if (p.block == p.block) ≡ 1 = one_at p.block p.block refl in omega arith)
      (λ d ne. let t = tries d in let off : one_if (p.block == d) ≡ 0 = one_off p.block d (λ e. ne (sym e)) in omega arith)
      (λ d. refl)
      (λ d k. le_refl (holds_in d v))
      (λ is. record {
        held = is.held;
        seen = is.seen;
        filled = is.filled;
        missed = missed_last (set s.words (control_at p.block) n) v.gone (miss_of p (serial_in s.words p.block)) is.missed (record {
          block = h;
          rose = past;
          past = le_of_eq (sym (serials_stay s.words p.block n (within_words w p.block n h c) serial p.block));
        });
        tried = room;
      })

  -- a try of b ends
  pub returned_kept : (b : ℕ) → b < size.blocks → v.trying ≡ Some b
      → (n : ℕ) → serial_of n ≡ serial_in s.words b → users_of n + 1 ≡ users_in s.words b → (c : List (ℕ × Unit {0}))
      → Leased size (stepped s (control_at b) n id c (giving_back v) keeps)
  returned_kept b h tries n serial users c =
      let tried : (d : ℕ) → tries_of d v.trying ≡ one_if (b == d) = λ d. ap (tries_of d) tries in
      control_kept (giving_back v) b n h c
      serial
      (le_refl (spent_by v))
      (let t = tried b in let one : one_if (b == b) ≡ 1 = one_at b b refl in omega arith)
      (λ d ne. let t = tried d in let off : one_if (b == d) ≡ 0 = one_off b d (λ e. ne (sym e)) in omega arith)
      (λ d. refl)
      (λ d k. le_refl (holds_in d v))
      (λ is. record { held = is.held; seen = is.seen; filled = is.filled; missed = is.missed; tried = omega arith })

-- ---- what the table asks of each step

one_more_of : (n : ℕ) → n < 18446744073709551616 → users_of n ≤ 65536
    → (serial_of ((n + 1) % 2 ^ 64) ≡ serial_of n) × (users_of ((n + 1) % 2 ^ 64) ≡ users_of n + 1)
one_more_of n small few = (omega arith, omega arith)

one_less_of : (n : ℕ) → n < 18446744073709551616 → 0 < users_of n
    → (serial_of ((n + (2 ^ 64 - 1)) % 2 ^ 64) ≡ serial_of n) × (users_of ((n + (2 ^ 64 - 1)) % 2 ^ 64) + 1 ≡ users_of n)
one_less_of n small some_users = (omega arith, omega arith)

pub block_from : (b d : ℕ) → control_at b ≡ control_at d → b ≡ d
block_from b d e = omega arith

module _ (size : Size) (slots id : ℕ) (me : Sat) where
  pub looks_allows : (b : ℕ) → b < size.blocks → Allows (Leased size) slots id me (control_at b) (λ n. n) (Looks (step slots (control_at b) 0 0 none) me)
  looks_allows b h s r homes at small =
      let n : ℕ = get_or s.words (control_at b) 0 in (
        met me.0 (look_of b n ∷ []),
        keeps,
        tt,
        met_kept size s r id me.0 at (look_of b n ∷ []) b h me.1,
        (λ d e. ap (λ (x : ℕ). with_view me (met me.0 (look_of x n ∷ []))) (block_from b d e)),
      )

  pub leaves_allows : (p : KeepId) → p.block < size.blocks → 0 < times me.0.holds p
      → Allows (Leased size) slots id me (control_at p.block) (λ n. (n + (2 ^ 64 - 1)) % 2 ^ 64) (Leaves (step slots (control_at p.block) 1 0 none) me)
  leaves_allows p h held s r homes at small =
      let n : ℕ = get_or s.words (control_at p.block) 0 in
      let stands = r.each id me.0 at in
      let some_held : 0 < ids_of p.block me.0.holds = held_in_block me.0.holds p held in
      let among : uses_in p.block me.0 ≤ total (uses_in p.block) s.views = total_at (uses_in p.block) s.views id me.0 at in
      let counted : users_of n ≡ total (uses_in p.block) s.views = r.counted p.block h in
      let after = one_less_of n small (omega arith) in
      let same_id_as : (q : KeepId) → 0 < times me.0.holds q → control_at p.block ≡ control_at q.block → p ≡ q = λ q k e.
      let b : p.block ≡ q.block = block_from p.block q.block e in
      let mine : serial_in s.words p.block ≡ p.serial = (stands.held p held).serial in
      let theirs : serial_in s.words q.block ≡ q.serial = (stands.held q k).serial in
      id_from p q b (sym mine ∙ (ap (serial_in s.words) b ∙ theirs)) in (
        leaving me.0 p,
        keeps,
        tt,
        left_kept size s r id me.0 at p h held ((n + (2 ^ 64 - 1)) % 2 ^ 64) after.0 after.1 me.1,
        (λ q k e. ap (λ (x : KeepId). with_view me (leaving me.0 x)) (same_id_as q k e)),
      )

  pub shares_allows : (p : KeepId) → p.block < size.blocks → IsSome (words_under me.0.known p) → 0 < me.0.room → me.0.trying ≡ None
      → Allows (Leased size) slots id me (control_at p.block) (λ n. (n + 1) % 2 ^ 64) (Shares p (step slots (control_at p.block) 1 0 none) me)
  shares_allows p h known room idle s r homes at small =
      let n : ℕ = get_or s.words (control_at p.block) 0 in
      let piece = some_of (words_under me.0.known p) known in
      let is = (r.each id me.0 at).seen p piece.0 piece.1 in
      let before : p.serial ≤ serial_of n = is.past in
      let after = one_more_of n small (few_users size s r p.block h) in
      ⊎_elim
      (λ (e : serial_of n ≡ p.serial). (
        sharing me.0 p,
        keeps,
        tt,
        shared_kept size s r id me.0 at p h known room idle (sym e) (is.alone (sym e)) ((n + 1) % 2 ^ 64) after.0 after.1 me.1,
        ((λ q. refl), λ ne. absurd (ne e)),
      ))
      (λ ne.
      let past : p.serial < serial_of n = omega arith in (
        missing me.0 p (serial_of n),
        keeps,
        tt,
        missed_kept size s r id me.0 at p h room idle past ((n + 1) % 2 ^ 64) after.0 after.1 me.1,
        ((λ e. absurd (ne e)), λ q. (past, refl)),
      ))
      (cases_eq (serial_of n) p.serial)

  pub returns_allows : (b : ℕ) → b < size.blocks → me.0.trying ≡ Some b
      → Allows (Leased size) slots id me (control_at b) (λ n. (n + (2 ^ 64 - 1)) % 2 ^ 64) (Returns (step slots (control_at b) 1 0 none) me)
  returns_allows b h tries s r homes at small =
      let n : ℕ = get_or s.words (control_at b) 0 in
      let tried : tries_of b me.0.trying ≡ 1 = ap (tries_of b) tries ∙ one_at b b refl in
      let among : uses_in b me.0 ≤ total (uses_in b) s.views = total_at (uses_in b) s.views id me.0 at in
      let counted : users_of n ≡ total (uses_in b) s.views = r.counted b h in
      let after = one_less_of n small (omega arith) in (
        giving_back me.0,
        keeps,
        tt,
        returned_kept size s r id me.0 at b h tries ((n + (2 ^ 64 - 1)) % 2 ^ 64) after.0 after.1 me.1,
        (λ d e q. refl),
      )
