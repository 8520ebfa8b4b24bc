-- The words of the table where one of them changes.
use Rattle.std.proofs.Common.{◌≡◌, ◌≢◌, ℕ, ◌+◌, ◌*◌, ◌<◌, List, length, get_or, set, sym, ap, ◌∙◌, ⊎_elim, arith, get_or-set_same, get_or-set_other}
use Rattle.std.proofs.lemmas.Bool.{cases_eq}
use Rattle.cd_lease.specs.Control.{serial_of, control_at, word_at, serial_in, word_in}

other_control : (b d : ℕ) → d ≢ b → 65 * d ≢ 65 * b
other_control b d n e = n (omega arith)

apart : (b d i : ℕ) → i < 64 → 65 * d + 1 + i ≢ 65 * b
apart b d i h e = omega arith

other_place : (b d i j : ℕ) → i < 64 → j < 64 → d ≢ b → 65 * d + 1 + j ≢ 65 * b + 1 + i
other_place b d i j h k n e = n (omega arith)

module _ (ws : List ℕ) (b n : ℕ) where
  -- the control word of b is n now

  pub control_now : control_at b < length ws → get_or (set ws (control_at b) n) (control_at b) 0 ≡ n
  control_now h = get_or-set_same ws (65 * b) n 0 h

  pub control_else : (d : ℕ) → d ≢ b → get_or (set ws (control_at b) n) (control_at d) 0 ≡ get_or ws (control_at d) 0
  control_else d ne = get_or-set_other ws (65 * b) (65 * d) n 0 (other_control b d ne)

  pub words_stay : (d i : ℕ) → i < 64 → word_in (set ws (control_at b) n) d i ≡ word_in ws d i
  words_stay d i h = get_or-set_other ws (65 * b) (65 * d + 1 + i) n 0 (apart b d i h)

  pub serials_stay : control_at b < length ws → serial_of n ≡ serial_in ws b → (d : ℕ) → serial_in (set ws (control_at b) n) d ≡ serial_in ws d
  serials_stay h e d = ⊎_elim
      (λ (q : d ≡ b). ap (serial_in (set ws (control_at b) n)) q ∙ (ap serial_of (control_now h) ∙ (e ∙ ap (serial_in ws) (sym q))))
      (λ ne. ap serial_of (control_else d ne))
      (cases_eq d b)

  -- the word i of b is n now
  module _ (i : ℕ) (h : i < 64) where
    pub controls_stay : (d : ℕ) → get_or (set ws (word_at b i) n) (control_at d) 0 ≡ get_or ws (control_at d) 0
    controls_stay d = get_or-set_other ws (65 * b + 1 + i) (65 * d) n 0 (λ e. apart d b i h (sym e))

    pub word_now : word_at b i < length ws → word_in (set ws (word_at b i) n) b i ≡ n
    word_now l = get_or-set_same ws (65 * b + 1 + i) n 0 l

    pub words_else : (d j : ℕ) → j < 64 → d ≢ b → word_in (set ws (word_at b i) n) d j ≡ word_in ws d j
    words_else d j k ne = get_or-set_other ws (65 * b + 1 + i) (65 * d + 1 + j) n 0 (other_place b d i j h k ne)

    pub words_before : (j : ℕ) → j < i → word_in (set ws (word_at b i) n) b j ≡ word_in ws b j
    words_before j k = get_or-set_other ws (65 * b + 1 + i) (65 * b + 1 + j) n 0 (λ e. omega arith)
