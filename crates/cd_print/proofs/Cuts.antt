-- Tokens cut at bytes.
use Rattle.std.proofs.Common.{◌≡◌, ℕ, suc, ◌+◌, ◌<◌, Bool, true, false, not, cond, nat_lt, List, [], ◌∷◌, ◌++◌, length, take, drop, Some, None, refl, ap, ◌∙◌, arith}
use Rattle.std.specs.List.{slice_split, onto_first, position, prefix_len}
use Rattle.std.proofs.lemmas.Bool.Decides.{nat_tests}

-- ---- choices by a test whose answer is known

pub chosen : {A : Type 0} (test : Bool) (one other : A) → test ≡ true → cond test one other ≡ one
chosen true one other e = refl
chosen false one other e = absurd (cc)

pub otherwise : {A : Type 0} (test : Bool) (one other : A) → test ≡ false → cond test one other ≡ other
otherwise true one other e = absurd (cc)
otherwise false one other e = refl

-- ---- bytes that no test passes

abbrev pub No : (ℕ → Bool) → List ℕ → Type 0
No test [] = Unit {0}
No test (b ∷ bytes) = (test b ≡ false) × No test bytes

pub no_both : (test : ℕ → Bool) (front back : List ℕ) → No test front → No test back → No test (front ++ back)
no_both test [] back p q = q
no_both test (b ∷ front) back p q = (p.0, no_both test front back p.1 q)

-- a token is cut at the first byte that passes
pub cut_at : (test : ℕ → Bool) (token : List ℕ) (sign : ℕ) (rest : List ℕ) → No test token → test sign ≡ true
    → slice_split test (token ++ sign ∷ rest) ≡ token ∷ slice_split test rest
cut_at test [] sign rest p e = chosen (test sign) ([] ∷ slice_split test rest) (onto_first sign (slice_split test rest)) e
cut_at test (b ∷ token) sign rest p e =
    otherwise (test b) ([] ∷ slice_split test (token ++ sign ∷ rest)) (onto_first b (slice_split test (token ++ sign ∷ rest))) p.0
    ∙ ap (onto_first b) (cut_at test token sign rest p.1 e)

pub uncut : (test : ℕ → Bool) (token : List ℕ) → No test token → slice_split test token ≡ token ∷ []
uncut test [] p = refl
uncut test (b ∷ token) p =
    otherwise (test b) ([] ∷ slice_split test token) (onto_first b (slice_split test token)) p.0
    ∙ ap (onto_first b) (uncut test token p.1)

-- ---- the place of the first byte that passes

before_len : (test : ℕ → Bool) (token rest : List ℕ) → No test token → prefix_len (λ b. not (test b)) (token ++ rest) ≡ length token + prefix_len (λ b. not (test b)) rest
before_len test [] rest p = omega arith
before_len test (b ∷ token) rest p =
    chosen (not (test b)) (1 + prefix_len (λ c. not (test c)) (token ++ rest)) 0 (ap not p.0)
    ∙ (let next : prefix_len (λ c. not (test c)) (token ++ rest) ≡ length token + prefix_len (λ c. not (test c)) rest = before_len test token rest p.1 in omega (arith, next))

stops_there : (test : ℕ → Bool) (sign : ℕ) (rest : List ℕ) → test sign ≡ true → prefix_len (λ b. not (test b)) (sign ∷ rest) ≡ 0
stops_there test sign rest e = otherwise (not (test sign)) (1 + prefix_len (λ c. not (test c)) rest) 0 (ap not e)

length_more : (token : List ℕ) (sign : ℕ) (rest : List ℕ) → length token < length (token ++ sign ∷ rest)
length_more [] sign rest = omega arith
length_more (b ∷ token) sign rest = omega (arith, length_more token sign rest)

pub found_at : (test : ℕ → Bool) (token : List ℕ) (sign : ℕ) (rest : List ℕ) → No test token → test sign ≡ true
    → position test (token ++ sign ∷ rest) ≡ Some (length token)
found_at test token sign rest p e =
    let at : prefix_len (λ b. not (test b)) (token ++ sign ∷ rest) ≡ length token =
    omega (arith, before_len test token (sign ∷ rest) p, stops_there test sign rest e) in
    ap (λ (n : ℕ). cond (nat_lt n (length (token ++ sign ∷ rest))) (Some n) None) at
    ∙ chosen (nat_lt (length token) (length (token ++ sign ∷ rest))) (Some (length token)) None
    (let more : length token < length (token ++ sign ∷ rest) = length_more token sign rest in grind (arith, nat_tests))

whole_len : (test : ℕ → Bool) (token : List ℕ) → No test token → prefix_len (λ b. not (test b)) token ≡ length token
whole_len test [] p = refl
whole_len test (b ∷ token) p =
    chosen (not (test b)) (1 + prefix_len (λ c. not (test c)) token) 0 (ap not p.0)
    ∙ (let next : prefix_len (λ c. not (test c)) token ≡ length token = whole_len test token p.1 in omega (arith, next))

pub found_nowhere : (test : ℕ → Bool) (token : List ℕ) → No test token → position test token ≡ None
found_nowhere test token p =
    ap (λ (n : ℕ). cond (nat_lt n (length token)) (Some n) None) (whole_len test token p)
    ∙ otherwise (nat_lt (length token) (length token)) (Some (length token)) None (grind (arith, nat_tests))

pub take_before : (token rest : List ℕ) → take (length token) (token ++ rest) ≡ token
take_before [] rest = refl
take_before (b ∷ token) rest = ap (λ (bytes : List ℕ). b ∷ bytes) (take_before token rest)

pub drop_behind : (token : List ℕ) (sign : ℕ) (rest : List ℕ) → drop (length token + 1) (token ++ sign ∷ rest) ≡ rest
drop_behind [] sign rest = refl
drop_behind (b ∷ token) sign rest =
    let next : length (b ∷ token) + 1 ≡ suc (length token + 1) = omega arith in
    ap (λ (n : ℕ). drop n (b ∷ (token ++ sign ∷ rest))) next ∙ drop_behind token sign rest
