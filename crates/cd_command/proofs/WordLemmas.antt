-- What the parser reads of a word, by what the word is; and what it makes of a name.
use Rattle.std.proofs.Common.{◌≡◌, ◌==◌, ◌&&◌, cond, ℕ, Bool, true, false, refl, sym, ap, subst, List, [], ◌∷◌, Some, None, true≢false, eqb-true}
use Rattle.std.specs.Prelude.{IsUtf8, encode_utf8_all, slice_get, option_and_then}
use Rattle.std.specs.Char.{encode_utf8}
use Rattle.std.specs.Str.{bytes_eq, chars}
use Rattle.std.proofs.lemmas.Str.{IsUtf8-past_char, encodes-chars}
use Rattle.clap.specs.Lexer.{long_of, short_of, long_of_rest, short_of_rest, strip_byte}
use Rattle.cd_command.specs.CommandLine.{Bytes, Kind, dashes, named, hyphened, plain, kind_of}

pub by_test : {P : Type 0} (b : Bool) → (b ≡ true → P) → (b ≡ false → P) → P
by_test true yes_case no_case = yes_case refl
by_test false yes_case no_case = no_case refl

-- a word with a hyphen before its first character
abbrev pub HasFlags : Bytes → Type 0
HasFlags word = (f : ℕ) × (fs : Bytes) × (x : ℕ) × (short_of word ≡ Some (f ∷ fs)) × (slice_get (chars (f ∷ fs)) 0 ≡ Some x)

abbrev pub is_dashes : Bytes → Bool
is_dashes word = bytes_eq word (45 ∷ 45 ∷ [])

-- what the parser reads of a word of each kind
abbrev pub IsKind : Bytes → Kind → Type 0
IsKind word dashes = is_dashes word ≡ true
IsKind word (named name value) = (is_dashes word ≡ false) × (long_of word ≡ Some (name, value))
IsKind word hyphened = (is_dashes word ≡ false) × ((long_of word ≡ None) × HasFlags word)
IsKind word plain = (is_dashes word ≡ false) × ((long_of word ≡ None) × (short_of word ≡ None))

-- a text that is not empty has a first character
first_character : (f : ℕ) (fs : Bytes) → IsUtf8 (f ∷ fs) → (x : ℕ) × (slice_get (chars (f ∷ fs)) 0 ≡ Some x)
first_character f fs u = go (chars (f ∷ fs)) (encodes-chars (f ∷ fs) u)
  where
    is_empty_list : List ℕ → Bool
    is_empty_list [] = true
    is_empty_list (_ ∷ _) = false

    go : (cs : List ℕ) → encode_utf8_all cs ≡ f ∷ fs → (x : ℕ) × (slice_get cs 0 ≡ Some x)
    go [] e = absurd (true≢false (ap is_empty_list e))
    go (c ∷ cs) e = (c, refl)

-- what stands behind a hyphen is a text
behind_hyphen : (bytes : Bytes) → IsUtf8 (45 ∷ bytes) → IsUtf8 bytes
unfolding encode_utf8
behind_hyphen bytes u = IsUtf8-past_char (45 ∷ bytes) bytes 45 u refl

-- a word that does not begin with a hyphen
no_hyphen : (b : ℕ) (bytes : Bytes) → (b == 45) ≡ false → IsKind (b ∷ bytes) plain
no_hyphen b bytes e = (
  ap (λ t. t && bytes_eq bytes (45 ∷ [])) e,
  (
    ap (λ t. option_and_then long_of_rest (option_and_then (strip_byte 45) (cond t (Some bytes) None))) e,
    ap (λ t. option_and_then short_of_rest (cond t (Some bytes) None)) e,
  ),
)

-- a word that begins with one hyphen alone
one_hyphen : (c : ℕ) (bytes : Bytes) → IsUtf8 (c ∷ bytes) → (c == 45) ≡ false → IsKind (45 ∷ c ∷ bytes) hyphened
one_hyphen c bytes u f =
    let first = first_character c bytes u in (
      ap (λ t. t && bytes_eq bytes []) f,
      (
        ap (λ t. option_and_then long_of_rest (cond t (Some bytes) None)) f,
        (c, bytes, first.0, ap (λ t. cond t None (Some (c ∷ bytes))) f, first.1),
      ),
    )

sort_two : (bytes : Bytes) → IsKind (45 ∷ 45 ∷ bytes) (kind_of (45 ∷ 45 ∷ bytes))
sort_two [] = refl
sort_two (d ∷ bytes) = (refl, refl)

sort_one : (bytes : Bytes) → IsUtf8 bytes → IsKind (45 ∷ bytes) (kind_of (45 ∷ bytes))
sort_one [] u = (refl, (refl, refl))
sort_one (c ∷ bytes) u = by_test (c == 45)
    (λ e. subst (λ x. IsKind (45 ∷ x ∷ bytes) (kind_of (45 ∷ x ∷ bytes))) (sym (eqb-true c 45 e)) (sort_two bytes))
    (λ e. rw e (one_hyphen c bytes u e))

-- each text is of its kind
pub sort : (word : Bytes) → IsUtf8 word → IsKind word (kind_of word)
sort [] u = (refl, (refl, refl))
sort (b ∷ bytes) u = by_test (b == 45)
    (λ e. let same = eqb-true b 45 e in
    subst (λ x. IsKind (x ∷ bytes) (kind_of (x ∷ bytes))) (sym same) (sort_one bytes (behind_hyphen bytes (subst (λ x. IsUtf8 (x ∷ bytes)) same u))))
    (λ e. rw e (no_hyphen b bytes e))
