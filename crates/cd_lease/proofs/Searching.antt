-- Searches for a free block that follow each other.
use Rattle.std.proofs.Common.{◌≡◌, ◌≢◌, ℕ, ◌+◌, List, [], ◌∷◌, ◌++◌, None, refl, sym, ap, ◌∙◌, subst, inl, append_assoc, append-nil, add-one}
use Rattle.cd_keep.specs.declared.keep_id.KeepId.{KeepId}
use Rattle.cd_lease.specs.declared.view.Look.{Look}
use Rattle.cd_lease.specs.declared.view.View.{View}
use Rattle.cd_lease.specs.Control.{IsOpen, IsShut}
use Rattle.cd_lease.specs.Views.{words_under}
use Rattle.cd_lease.specs.Steps.{with_view, Sat, met, look_of, next_id, taking}
use Rattle.cd_lease.specs.Trying.{PassedBy, none, shut, lost, Found, PassesBy, Finds, FindsAround}

pub passed_on : {a b c : ℕ} {ls ms : List Look} → PassedBy a b ls → PassedBy b c ms → PassedBy a c (ls ++ ms)
passed_on none q = q
passed_on (shut w p) q = shut w (passed_on p q)
passed_on (lost w d p) q = lost w d (passed_on p q)

-- what was met, and then more
met_more : (v : View) (ls ms : List Look) → met (met v ls) ms ≡ met v (ls ++ ms)
met_more v ls ms = ap (λ (xs : List Look). record v { looks = xs }) (append_assoc v.looks ls ms)

pub nothing_passed : (b : ℕ) (m : Sat) → PassesBy b b m m
nothing_passed b m = record { seen = []; now = ap (λ (xs : List Look). with_view m (record m.0 { looks = xs })) (sym (append-nil m.0.looks)); passed = none }

pub passes_on : (a b c : ℕ) (m n o : Sat) → PassesBy a b m n → PassesBy b c n o → PassesBy a c m o
passes_on a b c m n o p q = record {
  seen = p.seen ++ q.seen;
  now = q.now ∙ (ap (λ (x : Sat). with_view x (met x.0 q.seen)) p.now ∙ ap (λ (x : View). with_view m x) (met_more m.0 p.seen q.seen));
  passed = passed_on p.passed q.passed;
}

known_of : (low high : ℕ) (m n : Sat) → PassesBy low high m n → n.0.known ≡ m.0.known
known_of low high m n p = ap (λ (x : Sat). x.0.known) p.now

found_on : (a b : ℕ) (ls ms : List Look) (id : KeepId) → PassedBy a b ls → Found ms b id → Found (ls ++ ms) a id
found_on a b ls ms id p f = record {
  before = ls ++ f.before;
  word = f.word;
  whole = ap (λ (xs : List Look). ls ++ xs) f.whole ∙ sym (append_assoc ls f.before (look_of id.block f.word ∷ []));
  passed = passed_on p f.passed;
  is_open = f.is_open;
  next = f.next;
}

taking_more : (m n : Sat) (ls ms : List Look) (id : KeepId) → n ≡ (met m.0 ls, m.1) → with_view n (taking (met n.0 ms) id) ≡ with_view m (taking (met m.0 (ls ++ ms)) id)
taking_more m n ls ms id e =
    ap (λ (x : Sat). with_view x (taking (met x.0 ms) id)) e ∙ ap (λ (x : View). with_view m (taking x id)) (met_more m.0 ls ms)

pub finds_on : (a b : ℕ) (m n o : Sat) (id : KeepId) → PassesBy a b m n → Finds b n o id → Finds a m o id
finds_on a b m n o id p f = record {
  seen = p.seen ++ f.seen;
  now = f.now ∙ taking_more m n p.seen f.seen id p.now;
  found = found_on a b p.seen f.seen id p.passed f.found;
  fresh = ap (λ ps. words_under ps id) (sym (known_of a b m n p)) ∙ f.fresh;
}

-- one block: its word was shut, or another when it was to be exchanged, or it was taken

pub shut_block : (b word : ℕ) (m n : Sat) → IsShut word → n ≡ (met m.0 (look_of b word ∷ []), m.1) → PassesBy b (b + 1) m n
shut_block b word m n is e = record {
  seen = look_of b word ∷ [];
  now = e;
  passed = subst (λ (c : ℕ). PassedBy b c (look_of b word ∷ [])) (sym (add-one b)) (shut is none);
}

pub lost_block : (b word other : ℕ) (m n o : Sat) → IsOpen word → other ≢ word → n ≡ (met m.0 (look_of b word ∷ []), m.1) → o ≡ (met n.0 (look_of b other ∷ []), n.1)
    → PassesBy b (b + 1) m o
lost_block b word other m n o is ne e f = record {
  seen = look_of b word ∷ look_of b other ∷ [];
  now = f ∙ (ap (λ (x : Sat). with_view x (met x.0 (look_of b other ∷ []))) e ∙ ap (λ (x : View). with_view m x) (met_more m.0 (look_of b word ∷ []) (look_of b other ∷ [])));
  passed = subst (λ (c : ℕ). PassedBy b c (look_of b word ∷ look_of b other ∷ [])) (sym (add-one b)) (lost is ne none);
}

pub won_block : (b word : ℕ) (m n o : Sat) → IsOpen word → n ≡ (met m.0 (look_of b word ∷ []), m.1) → o ≡ (taking n.0 (next_id b word), n.1)
    → words_under n.0.known (next_id b word) ≡ None → Finds b m o (next_id b word)
won_block b word m n o is e f new = record {
  seen = look_of b word ∷ [];
  now = f ∙ ap (λ (x : Sat). with_view x (taking x.0 (next_id b word))) e;
  found = record { before = []; word = word; whole = refl; passed = none; is_open = is; next = refl };
  fresh = ap (λ ps. words_under ps (next_id b word)) (sym (ap (λ (x : Sat). x.0.known) e)) ∙ new;
}

-- a search that ends in its first half

pub found_first : (start blocks : ℕ) (m n : Sat) (id : KeepId) → Finds start m n id → FindsAround blocks m n id
found_first start blocks m n id f = record {
  seen = f.seen;
  now = f.now;
  found = record { start = start; first = []; second = f.seen; whole = refl; found = inl (refl, f.found) };
  fresh = f.fresh;
}
