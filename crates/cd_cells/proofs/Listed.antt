-- How often a number is listed, where numbers come and go.
use Rattle.std.proofs.Common.{◌≡◌, ◌≢◌, ℕ, ◌+◌, ◌<◌, ◌≤◌, Bool, true, false, ◌==◌, List, [], ◌∷◌, ◌++◌, map, length, sym, refl, ap, subst, ◌∙◌, arith, ⊎_elim, eq-eqb, ne_eqb, lit≤}
use Rattle.std.proofs.lemmas.Bool.{cases_eq, cond-true, cond-false}
use Rattle.cd_cells.specs.Asks.{Ask}
use Rattle.cd_cells.specs.Listing.{one_if, often, weigh, one_out, all_out, nodes, find, ask_out, asks_out}
use Rattle.cd_cells.specs.Rule.{Knows}

pub one_at : (a b : ℕ) → a ≡ b → one_if (a == b) ≡ 1
one_at a b e = ap one_if (eq-eqb a b e)

pub one_off : (a b : ℕ) → a ≢ b → one_if (a == b) ≡ 0
one_off a b n = ap one_if (ne_eqb a b n)

pub one_most : (t : Bool) → one_if t ≤ 1
one_most true = lit≤ tt
one_most false = lit≤ tt

pub often_here : (d : ℕ) (xs : List ℕ) → often d (d ∷ xs) ≡ 1 + often d xs
often_here d xs = let o : one_if (d == d) ≡ 1 = one_at d d refl in omega arith

pub often_else : (d e : ℕ) (xs : List ℕ) → e ≢ d → often e (d ∷ xs) ≡ often e xs
often_else d e xs n = let o : one_if (d == e) ≡ 0 = one_off d e (λ q. n (sym q)) in omega arith

pub often_append : (e : ℕ) (xs ys : List ℕ) → often e (xs ++ ys) ≡ often e xs + often e ys
often_append e [] ys = omega arith
often_append e (x ∷ xs) ys = let r = often_append e xs ys in omega arith

pub often_one_out : (e d : ℕ) (xs : List ℕ) → 0 < often d xs → often e (one_out d xs) + one_if (d == e) ≡ often e xs
often_one_out e d [] h = absurd (omega arith)
often_one_out e d (x ∷ xs) h = ⊎_elim
    (λ (q : x ≡ d).
    let r : often e (one_out d (x ∷ xs)) ≡ often e xs = ap (often e) (cond-true (x == d) xs (x ∷ one_out d xs) (eq-eqb x d q)) in
    let o : one_if (x == e) ≡ one_if (d == e) = ap (λ (y : ℕ). one_if (y == e)) q in
    omega arith)
    (λ ne.
    let r : often e (one_out d (x ∷ xs)) ≡ one_if (x == e) + often e (one_out d xs) = ap (often e) (cond-false (x == d) xs (x ∷ one_out d xs) (ne_eqb x d ne)) in
    let o : one_if (x == d) ≡ 0 = one_off x d ne in
    let s : often e (one_out d xs) + one_if (d == e) ≡ often e xs = often_one_out e d xs (omega arith) in
    omega arith)
    (cases_eq x d)

pub often_one_less : (d : ℕ) (xs : List ℕ) → 0 < often d xs → often d (one_out d xs) + 1 ≡ often d xs
often_one_less d xs h = let o : one_if (d == d) ≡ 1 = one_at d d refl in let r = often_one_out d d xs h in omega arith

pub often_out_else : (e d : ℕ) (xs : List ℕ) → e ≢ d → often e (one_out d xs) ≡ often e xs
often_out_else e d [] n = refl
often_out_else e d (x ∷ xs) n = ⊎_elim
    (λ (q : x ≡ d).
    let r : often e (one_out d (x ∷ xs)) ≡ often e xs = ap (often e) (cond-true (x == d) xs (x ∷ one_out d xs) (eq-eqb x d q)) in
    let o : one_if (x == e) ≡ 0 = one_off x e (λ z. n (sym z ∙ q)) in
    omega arith)
    (λ ne.
    let r : often e (one_out d (x ∷ xs)) ≡ one_if (x == e) + often e (one_out d xs) = ap (often e) (cond-false (x == d) xs (x ∷ one_out d xs) (ne_eqb x d ne)) in
    let s = often_out_else e d xs n in
    omega arith)
    (cases_eq x d)

pub often_out_most : (e d : ℕ) (xs : List ℕ) → often e (one_out d xs) ≤ often e xs
often_out_most e d [] = lit≤ tt
often_out_most e d (x ∷ xs) = ⊎_elim
    (λ (q : x ≡ d).
    let r : often e (one_out d (x ∷ xs)) ≡ often e xs = ap (often e) (cond-true (x == d) xs (x ∷ one_out d xs) (eq-eqb x d q)) in
    omega arith)
    (λ ne.
    let r : often e (one_out d (x ∷ xs)) ≡ one_if (x == e) + often e (one_out d xs) = ap (often e) (cond-false (x == d) xs (x ∷ one_out d xs) (ne_eqb x d ne)) in
    let s = often_out_most e d xs in
    omega arith)
    (cases_eq x d)

pub often_all_out : (g xs : List ℕ) → ((e : ℕ) → often e g ≤ often e xs) → (e : ℕ) → often e (all_out g xs) + often e g ≡ often e xs
often_all_out [] xs h e = omega arith
often_all_out (m ∷ ms) xs h e =
    let o : one_if (m == m) ≡ 1 = one_at m m refl in
    let hm : one_if (m == m) + often m ms ≤ often m xs = h m in
    let some_there : 0 < often m xs = omega arith in
    let r = often_all_out ms (one_out m xs) (λ i. let a = often_one_out i m xs some_there in let b : one_if (m == i) + often i ms ≤ often i xs = h i in omega arith) e in
    let a = often_one_out e m xs some_there in
    omega arith

-- ---- asks

pub nodes_append : (e : ℕ) (asks more : List Ask) → often e (nodes (asks ++ more)) ≡ often e (nodes asks) + often e (nodes more)
nodes_append e [] more = omega arith
nodes_append e (a ∷ asks) more = let r = nodes_append e asks more in omega arith

pub nodes_out : (d : ℕ) (asks : List Ask) → nodes (ask_out d asks) ≡ one_out d (nodes asks)
nodes_out d [] = refl
nodes_out d (a ∷ asks) = ⊎_elim
    (λ (q : a.node.0 ≡ d).
    ap nodes (cond-true (a.node.0 == d) asks (a ∷ ask_out d asks) (eq-eqb a.node.0 d q))
    ∙ sym (cond-true (a.node.0 == d) (nodes asks) (a.node.0 ∷ one_out d (nodes asks)) (eq-eqb a.node.0 d q)))
    (λ ne.
    ap nodes (cond-false (a.node.0 == d) asks (a ∷ ask_out d asks) (ne_eqb a.node.0 d ne))
    ∙ (ap (λ (l : List ℕ). a.node.0 ∷ l) (nodes_out d asks)
    ∙ sym (cond-false (a.node.0 == d) (nodes asks) (a.node.0 ∷ one_out d (nodes asks)) (ne_eqb a.node.0 d ne))))
    (cases_eq a.node.0 d)

pub nodes_all_out : (g : List ℕ) (asks : List Ask) → nodes (asks_out g asks) ≡ all_out g (nodes asks)
nodes_all_out [] asks = refl
nodes_all_out (m ∷ ms) asks = nodes_all_out ms (ask_out m asks) ∙ ap (all_out ms) (nodes_out m asks)

pub nodes_map : (f : ℕ → Ask) (g : List ℕ) → ((m : ℕ) → 0 < often m g → (f m).node.0 ≡ m) → nodes (map f g) ≡ g
nodes_map f [] h = refl
nodes_map f (x ∷ xs) h =
    ap (λ (y : ℕ). y ∷ nodes (map f xs)) (h x (let o : one_if (x == x) ≡ 1 = one_at x x refl in omega arith))
    ∙ ap (λ (l : List ℕ). x ∷ l) (nodes_map f xs (λ m k. h m (omega arith)))

pub find_node : (d : ℕ) (asks : List Ask) → 0 < often d (nodes asks) → (find d asks).node.0 ≡ d
find_node d [] h = absurd (omega arith)
find_node d (a ∷ asks) h = ⊎_elim
    (λ (q : a.node.0 ≡ d). ap (λ (b : Ask). b.node.0) (cond-true (a.node.0 == d) a (find d asks) (eq-eqb a.node.0 d q)) ∙ q)
    (λ ne.
    let o : one_if (a.node.0 == d) ≡ 0 = one_off a.node.0 d ne in
    ap (λ (b : Ask). b.node.0) (cond-false (a.node.0 == d) a (find d asks) (ne_eqb a.node.0 d ne)) ∙ find_node d asks (omega arith))
    (cases_eq a.node.0 d)

module _ (want : ℕ → Ask) where
  pub knows_find : (d : ℕ) (asks : List Ask) → Knows want asks → 0 < often d (nodes asks) → want d ≡ find d asks
  knows_find d [] k h = absurd (omega arith)
  knows_find d (a ∷ asks) k h = ⊎_elim
      (λ (q : a.node.0 ≡ d). ap want (sym q) ∙ (k.0 ∙ sym (cond-true (a.node.0 == d) a (find d asks) (eq-eqb a.node.0 d q))))
      (λ ne.
      let o : one_if (a.node.0 == d) ≡ 0 = one_off a.node.0 d ne in
      knows_find d asks k.1 (omega arith) ∙ sym (cond-false (a.node.0 == d) a (find d asks) (ne_eqb a.node.0 d ne)))
      (cases_eq a.node.0 d)

  pub knows_out : (d : ℕ) (asks : List Ask) → Knows want asks → Knows want (ask_out d asks)
  knows_out d [] k = tt
  knows_out d (a ∷ asks) k = ⊎_elim
      (λ (q : a.node.0 ≡ d). subst (Knows want) (sym (cond-true (a.node.0 == d) asks (a ∷ ask_out d asks) (eq-eqb a.node.0 d q))) k.1)
      (λ ne. subst (Knows want) (sym (cond-false (a.node.0 == d) asks (a ∷ ask_out d asks) (ne_eqb a.node.0 d ne))) (k.0, knows_out d asks k.1))
      (cases_eq a.node.0 d)

  pub knows_all_out : (g : List ℕ) (asks : List Ask) → Knows want asks → Knows want (asks_out g asks)
  knows_all_out [] asks k = k
  knows_all_out (m ∷ ms) asks k = knows_all_out ms (ask_out m asks) (knows_out m asks k)

  pub knows_append : (asks more : List Ask) → Knows want asks → Knows want more → Knows want (asks ++ more)
  knows_append [] more k l = l
  knows_append (a ∷ asks) more k l = (k.0, knows_append asks more k.1 l)

  pub knows_map : (f : ℕ → Ask) (g : List ℕ) → ((m : ℕ) → 0 < often m g → (f m).node.0 ≡ m) → ((m : ℕ) → 0 < often m g → want m ≡ f m) → Knows want (map f g)
  knows_map f [] h w = tt
  knows_map f (x ∷ xs) h w =
      let some_there : 0 < often x (x ∷ xs) = (let o : one_if (x == x) ≡ 1 = one_at x x refl in omega arith) in
      (ap want (h x some_there) ∙ w x some_there, knows_map f xs (λ m k. h m (omega arith)) (λ m k. w m (omega arith)))

  pub knows_else : (now : ℕ → Ask) (asks : List Ask) → Knows want asks → ((e : ℕ) → 0 < often e (nodes asks) → now e ≡ want e) → Knows now asks
  knows_else now [] k h = tt
  knows_else now (a ∷ asks) k h =
      (h a.node.0 (let o : one_if (a.node.0 == a.node.0) ≡ 1 = one_at a.node.0 a.node.0 refl in omega arith) ∙ k.0, knows_else now asks k.1 (λ e l. h e (omega arith)))

-- ---- what is weighed

pub weigh_same : (f h : ℕ → ℕ) (g : List ℕ) → ((m : ℕ) → 0 < often m g → f m ≡ h m) → weigh f g ≡ weigh h g
weigh_same f h [] e = refl
weigh_same f h (x ∷ xs) e =
    let a : f x ≡ h x = e x (let o : one_if (x == x) ≡ 1 = one_at x x refl in omega arith) in
    let r = weigh_same f h xs (λ m k. e m (omega arith)) in
    omega arith

-- where one of them weighs one less
pub weigh_less : (f h : ℕ → ℕ) (d : ℕ) (g : List ℕ) → ((m : ℕ) → m ≢ d → f m ≡ h m) → f d ≡ h d + 1 → weigh f g ≡ weigh h g + often d g
weigh_less f h d [] e c = omega arith
weigh_less f h d (x ∷ xs) e c =
    let r = weigh_less f h d xs e c in
    ⊎_elim
    (λ (q : x ≡ d). let a : f x ≡ h x + 1 = subst (λ (y : ℕ). f y ≡ h y + 1) (sym q) c in let o : one_if (x == d) ≡ 1 = one_at x d q in omega arith)
    (λ ne. let a : f x ≡ h x = e x ne in let o : one_if (x == d) ≡ 0 = one_off x d ne in omega arith)
    (cases_eq x d)

pub weigh_zero : (f : ℕ → ℕ) (g : List ℕ) → weigh f g ≡ 0 → (m : ℕ) → 0 < often m g → f m ≡ 0
weigh_zero f [] z m h = absurd (omega arith)
weigh_zero f (x ∷ xs) z m h = ⊎_elim
    (λ (q : x ≡ m). let a : f x ≡ f m = ap f q in omega arith)
    (λ ne. let o : one_if (x == m) ≡ 0 = one_off x m ne in weigh_zero f xs (omega arith) m (omega arith))
    (cases_eq x m)

pub weigh_none : (f : ℕ → ℕ) (g : List ℕ) → ((m : ℕ) → 0 < often m g → f m ≡ 0) → weigh f g ≡ 0
weigh_none f [] h = refl
weigh_none f (x ∷ xs) h =
    let a : f x ≡ 0 = h x (let o : one_if (x == x) ≡ 1 = one_at x x refl in omega arith) in
    let r = weigh_none f xs (λ m k. h m (omega arith)) in
    omega arith

pub weigh_all : (f : ℕ → ℕ) (g : List ℕ) → ((m : ℕ) → 0 < often m g → f m ≡ 1) → weigh f g ≡ length g
weigh_all f [] h = refl
weigh_all f (x ∷ xs) h =
    let a : f x ≡ 1 = h x (let o : one_if (x == x) ≡ 1 = one_at x x refl in omega arith) in
    let r = weigh_all f xs (λ m k. h m (omega arith)) in
    omega arith
