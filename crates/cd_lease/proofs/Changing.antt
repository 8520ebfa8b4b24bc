-- What a step leaves of a pass that does not make it: three ways in which a block may change for it.
use Rattle.std.proofs.Common.{◌≡◌, ℕ, ◌<◌, ◌≤◌, List, [], ◌∷◌, length, Some, sym, ◌∙◌, subst, arith, le_of_lt, le_trans, le_of_eq}
use Rattle.cd_keep.specs.declared.keep_id.KeepId.{KeepId}
use Rattle.cd_lease.specs.declared.view.Piece.{Piece}
use Rattle.cd_lease.specs.declared.view.Miss.{Miss}
use Rattle.cd_lease.specs.declared.view.View.{View}
use Rattle.cd_lease.specs.Control.{serial_in, word_in, Begins}
use Rattle.cd_lease.specs.Views.{times, ids_of, holds_in, fills_in}
use Rattle.cd_lease.specs.Rule.{IsHeld, IsKnown, IsFilled, AllMissed, Stands}
use Rattle.cd_lease.proofs.Counting.{held_in_block, fills_self}

-- the block b for the pass u: nothing changes; it is taken, and u neither holds nor fills it; a word is written for another
pub data Change (ws vs : List ℕ) (fill now : ℕ → ℕ) (u : View) (b : ℕ) : Type 0 where
  stays : serial_in vs b ≡ serial_in ws b → now b ≡ fill b → ((i : ℕ) → i < 64 → word_in vs b i ≡ word_in ws b i) → Change ws vs fill now u b
  rises : serial_in ws b < serial_in vs b → holds_in b u ≡ 0 → fills_in b u ≡ 0 → Change ws vs fill now u b
  refills : serial_in vs b ≡ serial_in ws b → 0 < fill b → holds_in b u ≡ 0 → fills_in b u ≡ 0 → Change ws vs fill now u b

module _ (blocks : ℕ) (ws vs : List ℕ) where
  pub on_begins : (b : ℕ) (piece : List ℕ) → length piece ≤ 64 → ((i : ℕ) → i < 64 → word_in vs b i ≡ word_in ws b i) → Begins ws b piece → Begins vs b piece
  on_begins b piece few d is = record { each = λ i h. d i (omega arith) ∙ is.each i h }

  on_missed : (gs : List Miss) → AllMissed blocks ws gs → ((b : ℕ) → b < blocks → serial_in ws b ≤ serial_in vs b) → AllMissed blocks vs gs
  on_missed [] r h = tt
  on_missed (g ∷ gs) r h =
      let is = r.0 in
      (record { block = is.block; rose = is.rose; past = le_trans is.past (h g.id.block is.block) }, on_missed gs r.1 h)

  module _ (fill now : ℕ → ℕ) (u : View) where
    later : (b : ℕ) → Change ws vs fill now u b → serial_in ws b ≤ serial_in vs b
    later b (stays s f d) = le_of_eq (sym s)
    later b (rises s n f) = le_of_lt s
    later b (refills s f n e) = le_of_eq (sym s)

    on_held : (id : KeepId) → 0 < times u.holds id → IsHeld blocks ws u.known id → Change ws vs fill now u id.block → IsHeld blocks vs u.known id
    on_held id h is (stays s f d) = record { block = is.block; serial = s ∙ is.serial; there = is.there }
    on_held id h is (rises s n f) = absurd (let more : 0 < ids_of id.block u.holds = held_in_block u.holds id h in omega arith)
    on_held id h is (refills s f n e) = absurd (let more : 0 < ids_of id.block u.holds = held_in_block u.holds id h in omega arith)

    on_seen : (id : KeepId) (piece : List ℕ) → IsKnown blocks ws fill id piece → Change ws vs fill now u id.block → IsKnown blocks vs now id piece
    on_seen id piece is (stays s f d) = record {
      block = is.block;
      short = is.short;
      past = subst (λ (n : ℕ). id.serial ≤ n) (sym s) is.past;
      alone = λ e. f ∙ is.alone (e ∙ s);
      begins = λ e. on_begins id.block piece is.short d (is.begins (e ∙ s));
    }
    on_seen id piece is (rises s n f) =
        let never : id.serial ≡ serial_in vs id.block → ⊥ = λ e. let p : id.serial ≤ serial_in ws id.block = is.past in omega arith in
        record {
          block = is.block;
          short = is.short;
          past = le_trans is.past (le_of_lt s);
          alone = λ e. absurd (never e);
          begins = λ e. absurd (never e);
        }
    on_seen id piece is (refills s f n e) =
        let never : id.serial ≡ serial_in vs id.block → ⊥ = λ q. let none : fill id.block ≡ 0 = is.alone (q ∙ s) in omega arith in
        record {
          block = is.block;
          short = is.short;
          past = subst (λ (n : ℕ). id.serial ≤ n) (sym s) is.past;
          alone = λ q. absurd (never q);
          begins = λ q. absurd (never q);
        }

    on_filled : (p : Piece) → u.filling ≡ Some p → IsFilled blocks ws p → Change ws vs fill now u p.id.block → IsFilled blocks vs p
    on_filled p h is (stays s f d) = record {
      block = is.block;
      short = is.short;
      serial = s ∙ is.serial;
      begins = on_begins p.id.block p.words (le_of_lt is.short) d is.begins;
    }
    on_filled p h is (rises s n f) = absurd (let one : fills_in p.id.block u ≡ 1 = fills_self u p h in omega arith)
    on_filled p h is (refills s f n e) = absurd (let one : fills_in p.id.block u ≡ 1 = fills_self u p h in omega arith)

    pub stands_on : Stands blocks ws fill u → ((b : ℕ) → b < blocks → Change ws vs fill now u b) → Stands blocks vs now u
    stands_on r c = record {
      held = λ id h. let is = r.held id h in on_held id h is (c id.block is.block);
      seen = λ id piece e. let is = r.seen id piece e in on_seen id piece is (c id.block is.block);
      filled = λ p e. let is = r.filled p e in on_filled p e is (c p.id.block is.block);
      missed = on_missed u.gone r.missed (λ b h. later b (c b h));
      tried = r.tried;
    }
