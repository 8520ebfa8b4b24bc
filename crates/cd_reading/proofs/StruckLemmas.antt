-- The table of faults: the begins of a domain at which any strike, gathered from the front of a script.
use Rattle.std.proofs.Common.{◌≡◌, ◌≢◌, ℕ, ◌+◌, ◌<◌, ◌≤◌, Bool, true, false, cond, ◌&&◌, ◌==◌, List, [], ◌∷◌, ◌++◌, Some, All, length, take, drop, get_or, filter, slice_get, refl, sym, ap, ◌∙◌, subst, arith, append-nil, inl, inr, ◌⊎◌, zero, suc, length-append}
use Rattle.std.proofs.lemmas.Bool.{cases_Bool, cond-false, and_parts, eqb-true}
use Rattle.std.proofs.lemmas.List.{take_all, drop_more}
use Rattle.std.proofs.lemmas.List.Elements.{filter_more, All-nil, All-cons}
use Rattle.std.proofs.lemmas.Option.{slice_get-get_or}
use Rattle.cd_tree.specs.declared.domain.NodeId.{NodeId}
use Rattle.cd_tree.specs.declared.document.Fault.{Fault}
use Rattle.cd_tree.specs.Scripts.{struck}
use Rattle.cd_reading.specs.declared.strikes.Struck.{Struck}
use Rattle.cd_reading.specs.Strikes.{strikes_in, AreStruck, AreAllStruck, AreMarks}

-- each begin of which a fault was seen so far is there, with all its faults
pub record StruckSo (faults : List Fault) (node i : ℕ) (begins : List Struck) : Type 0 where
  pub each : All (λ (struck : Struck). struck.faults ≡ filter (strikes_in node struck.begin) faults) begins
  pub others : (begin : ℕ) → All (λ (struck : Struck). struck.begin ≢ begin) begins → filter (strikes_in node begin) (take i faults) ≡ []
  pub few : length begins ≤ i

pub so_none : (faults : List Fault) (node : ℕ) → StruckSo faults node 0 []
so_none faults node = record {
  each = All-nil (λ (struck : Struck). struck.faults ≡ filter (strikes_in node struck.begin) faults);
  others = λ begin none. refl;
  few = omega arith;
}

-- a fault that does not strike in a begin
passed_over : (faults : List Fault) (node begin i : ℕ) (d : Fault) → i < length faults → strikes_in node begin (get_or faults i d) ≡ false
    → filter (strikes_in node begin) (take i faults) ≡ [] → filter (strikes_in node begin) (take (i + 1) faults) ≡ []
passed_over faults node begin i d within not none =
    filter_more (strikes_in node begin) faults i d within
    ∙ ap (λ (b : Bool). filter (strikes_in node begin) (take i faults) ++ cond b (get_or faults i d ∷ []) []) not
    ∙ ap (λ (fs : List Fault). fs ++ []) none

not_here : (a b n m : ℕ) → (a ≡ b → n ≡ m → ⊥) → ((a == b) && (n == m)) ≡ false
not_here a b n m other =
    elim (cases_Bool ((a == b) && (n == m))) [
      | inl e ↦ (let parts = and_parts (a == b) (n == m) e in absurd (other (eqb-true a b parts.0) (eqb-true n m parts.1)))
      | inr e ↦ e
    ]

-- a fault of another domain, or of a begin that is there
pub so_same : (faults : List Fault) (node i : ℕ) (begins : List Struck) (d : Fault) → i < length faults
    → ((get_or faults i d).node.0 ≡ node → All (λ (struck : Struck). struck.begin ≢ (get_or faults i d).begin) begins → ⊥)
    → StruckSo faults node i begins → StruckSo faults node (i + 1) begins
so_same faults node i begins d within known so = record {
  each = so.each;
  others = λ begin none.
      passed_over faults node begin i d within
      (not_here (get_or faults i d).node.0 node (get_or faults i d).begin begin
      (λ here same. known here (subst (λ (b : ℕ). All (λ (struck : Struck). struck.begin ≢ b) begins) (sym same) none)))
      (so.others begin none);
  few = (let few : length begins ≤ i = so.few in omega arith);
}

front_of : {A : Type 0} (P : A → Type 0) (xs : List A) (x : A) → All P (xs ++ x ∷ []) → All P xs × P x
front_of P [] x all = (All-nil P, all 0 x (omega arith))
front_of P (y ∷ ys) x all =
    let rest = front_of P ys x (λ k d short. all (suc k) d (omega arith)) in
    (All-cons P y ys (all 0 y (omega arith)) rest.0, rest.1)

behind : {A : Type 0} (P : A → Type 0) (xs : List A) (x : A) → All P xs → P x → All P (xs ++ x ∷ [])
behind P [] x all last = All-cons P x [] last (All-nil P)
behind P (y ∷ ys) x all last = All-cons P y (ys ++ x ∷ []) (all 0 y (omega arith)) (behind P ys x (λ k d short. all (suc k) d (omega arith)) last)

-- a fault of a begin that is not there yet
pub so_more : (faults : List Fault) (node i : ℕ) (begins : List Struck) (d : Fault) (one : Struck) → i < length faults
    → one.begin ≡ (get_or faults i d).begin → one.faults ≡ filter (strikes_in node (get_or faults i d).begin) faults
    → StruckSo faults node i begins → StruckSo faults node (i + 1) (begins ++ one ∷ [])
so_more faults node i begins d one within number own so = record {
  each =
      behind (λ (struck : Struck). struck.faults ≡ filter (strikes_in node struck.begin) faults) begins one so.each
      (own ∙ ap (λ (b : ℕ). filter (strikes_in node b) faults) (sym number));
  others = λ begin none.
      let parts = front_of (λ (struck : Struck). struck.begin ≢ begin) begins one none in
      passed_over faults node begin i d within
      (not_here (get_or faults i d).node.0 node (get_or faults i d).begin begin (λ here same. parts.1 (number ∙ same)))
      (so.others begin parts.0);
  few =
      (let few : length begins ≤ i = so.few in
      let sum : length (begins ++ one ∷ []) ≡ length begins + 1 = length-append begins (one ∷ []) in
      omega arith);
}

pub so_all : (faults : List Fault) (node i : ℕ) (begins : List Struck) → length faults ≤ i → StruckSo faults node i begins
    → AreStruck faults node begins
so_all faults node i begins past so = record {
  each = so.each;
  others = λ begin none. sym (ap (filter (strikes_in node begin)) (take_all i faults past)) ∙ so.others begin none;
}

-- ---- the faults of one begin

pub own_more : (test : Fault → Bool) (faults own more : List Fault) (i : ℕ) (d : Fault) → i < length faults → test (get_or faults i d) ≡ true
    → own ≡ filter test (take i faults) → more ≡ own ++ get_or faults i d ∷ [] → more ≡ filter test (take (i + 1) faults)
own_more test faults own more i d within passes so is =
    is ∙ ap (λ (fs : List Fault). fs ++ get_or faults i d ∷ []) so
    ∙ sym (filter_more test faults i d within ∙ ap (λ (b : Bool). filter test (take i faults) ++ cond b (get_or faults i d ∷ []) []) passes)

pub own_same : (test : Fault → Bool) (faults own : List Fault) (i : ℕ) (d : Fault) → i < length faults → test (get_or faults i d) ≡ false
    → own ≡ filter test (take i faults) → own ≡ filter test (take (i + 1) faults)
own_same test faults own i d within not so =
    so ∙ sym (append-nil (filter test (take i faults)))
    ∙ sym (filter_more test faults i d within ∙ ap (λ (b : Bool). filter test (take i faults) ++ cond b (get_or faults i d ∷ []) []) not)

pub own_all : (test : Fault → Bool) (faults own : List Fault) (i : ℕ) → length faults ≤ i → own ≡ filter test (take i faults) → own ≡ filter test faults
own_all test faults own i past so = so ∙ ap (filter test) (take_all i faults past)

-- ---- looking up

pub found_at : (faults : List Fault) (node : ℕ) (begins : List Struck) (k : ℕ) (one : Struck) (begin : ℕ) → k < length begins
    → one ≡ get_or begins k one → one.begin ≡ begin → AreStruck faults node begins → one.faults ≡ filter (strikes_in node begin) faults
found_at faults node begins k one begin within is number struck =
    ap (λ (s : Struck). s.faults) is ∙ struck.each k one within
    ∙ ap (λ (b : ℕ). filter (strikes_in node b) faults) (sym (ap (λ (s : Struck). s.begin) is) ∙ number)

pub found_none : (faults : List Fault) (node : ℕ) (begins : List Struck) (i begin : ℕ) → length begins ≤ i
    → ((k : ℕ) (d : Struck) → k < i → (get_or begins k d).begin ≡ begin → ⊥) → AreStruck faults node begins
    → [] ≡ filter (strikes_in node begin) faults
found_none faults node begins i begin past none struck =
    sym (struck.others begin (λ k d short. none k d (omega arith)))

-- ---- marks

no_strike : (faults : List Fault) (node begin : ℕ) → All (λ (fault : Fault). fault.node.0 ≢ node) faults → filter (strikes_in node begin) faults ≡ []
no_strike [] node begin none = refl
no_strike (fault ∷ faults) node begin none =
    cond-false (strikes_in node begin fault) (fault ∷ filter (strikes_in node begin) faults) (filter (strikes_in node begin) faults)
    (not_here fault.node.0 node fault.begin begin (λ here same. none 0 fault (omega arith) here))
    ∙ no_strike faults node begin (λ k d short. none (suc k) d (omega arith))

-- a domain that no fault names
pub never_struck : (faults : List Fault) (marks : List Bool) (node : ℕ) (d : Bool) (begins : List Struck) → AreMarks faults marks → node < length marks
    → get_or marks node d ≡ false → begins ≡ [] → AreStruck faults node begins
never_struck faults marks node d begins are within not none =
    let is : slice_get marks node ≡ Some false = slice_get-get_or marks node d within ∙ ap (λ (b : Bool). Some b) not in
    subst (AreStruck faults node) (sym none) (record {
      each = All-nil (λ (struck : Struck). struck.faults ≡ filter (strikes_in node struck.begin) faults);
      others = λ begin no_begin. no_strike faults node begin (are node is);
    })

-- a fault that does not name a domain, before others that do not
pub mark_more : (faults : List Fault) (id i : ℕ) (d : Fault) → i < length faults → (get_or faults i d).node.0 ≢ id
    → All (λ (fault : Fault). fault.node.0 ≢ id) (drop (i + 1) faults) → All (λ (fault : Fault). fault.node.0 ≢ id) (drop i faults)
mark_more faults id i d within other rest =
    subst (All (λ (fault : Fault). fault.node.0 ≢ id)) (sym (drop_more faults i d within))
    (All-cons (λ (fault : Fault). fault.node.0 ≢ id) (get_or faults i d) (drop (i + 1) faults) other rest)

-- ---- a table of all domains

all_at : {A : Type 0} (xs : List A) (x y : A) (k : ℕ) → slice_get (xs ++ x ∷ []) k ≡ Some y → ((k ≡ length xs) × (x ≡ y)) ⊎ (slice_get xs k ≡ Some y)
all_at [] x y zero is = inl (refl, cc)
all_at [] x y (suc k) is = absurd (cc)
all_at (z ∷ zs) x y zero is = inr is
all_at (z ∷ zs) x y (suc k) is =
    elim (all_at zs x y k is) [ inl last ↦ inl (ap suc last.0, last.1) | inr here ↦ inr here ]

pub table_more : (faults : List Fault) (domains : List (List Struck)) (n : ℕ) (begins : List Struck) → length domains ≡ n
    → AreStruck faults n begins → AreAllStruck faults domains → AreAllStruck faults (domains ++ begins ∷ [])
table_more faults domains n begins size struck all node other is =
    elim (all_at domains begins other node is) [
      | inl last ↦
          subst (λ (b : List Struck). AreStruck faults node b) last.1
          (subst (λ (m : ℕ). AreStruck faults m begins) (sym size ∙ sym last.0) struck)
      | inr here ↦ all node other here
    ]

-- ---- the faults at one point

filter_step : (p q : Fault → Bool) (fault : Fault) (xs ys : List Fault) (b : Bool) → filter q xs ≡ ys
    → filter q (cond b (fault ∷ xs) xs) ≡ cond (b && q fault) (fault ∷ ys) ys
filter_step p q fault xs ys true e = ap (λ (zs : List Fault). cond (q fault) (fault ∷ zs) zs) e
filter_step p q fault xs ys false e = e

filter_twice : (p q : Fault → Bool) (faults : List Fault) → filter q (filter p faults) ≡ filter (λ f. p f && q f) faults
filter_twice p q [] = refl
filter_twice p q (fault ∷ faults) =
    filter_step p q fault (filter p faults) (filter (λ f. p f && q f) faults) (p fault) (filter_twice p q faults)

pub struck_twice : (faults : List Fault) (id : NodeId) (begin point : ℕ)
    → filter (λ (fault : Fault). fault.item == point) (filter (strikes_in id.0 begin) faults) ≡ struck faults id begin point
struck_twice faults id begin point = filter_twice (strikes_in id.0 begin) (λ (fault : Fault). fault.item == point) faults
