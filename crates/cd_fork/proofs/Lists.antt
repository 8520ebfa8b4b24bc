-- Members that are run in two halves, or one after another: what is true of each part is true of the whole.
use Rattle.std.proofs.Common.{◌≡◌, ℕ, ◌+◌, ◌*◌, ◌<◌, ◌≤◌, max, List, [], ◌∷◌, ◌++◌, take, drop, length, map, refl, ap, sym, subst, ◌∙◌, append_assoc, arith}
use Rattle.std.proofs.lemmas.List.{append-nil, length-append, length-map, map-append, take-append-drop}
use Rattle.cd_cover.specs.Plans.{PlanModel}
use Rattle.cd_core.specs.Returning.{CameBack, EachCameBack}
use Rattle.cd_core.specs.StateModel.{StateModel}
use Rattle.cd_fork.specs.Onward.{CanRun, EachCanRun, most_from, domains_from, weight_of_all}

-- ---- halves

each_first : (plan : PlanModel) (xs ys : List StateModel) → EachCanRun plan (xs ++ ys) → EachCanRun plan xs
each_first plan [] ys each = tt
each_first plan (x ∷ xs) ys each = (each.0, each_first plan xs ys each.1)

each_last : (plan : PlanModel) (xs ys : List StateModel) → EachCanRun plan (xs ++ ys) → EachCanRun plan ys
each_last plan [] ys each = each
each_last plan (x ∷ xs) ys each = each_last plan xs ys each.1

most_both : (plan : PlanModel) (xs ys : List StateModel) → most_from plan (xs ++ ys) ≡ max (most_from plan xs) (most_from plan ys)
most_both plan [] ys = omega arith
most_both plan (x ∷ xs) ys = let rest : most_from plan (xs ++ ys) ≡ max (most_from plan xs) (most_from plan ys) = most_both plan xs ys in omega (arith, rest)

both_back : (plan : PlanModel) (xs ys first second : List StateModel) → EachCameBack plan xs first → EachCameBack plan ys second
    → EachCameBack plan (xs ++ ys) (first ++ second)
both_back plan [] ys [] second a b = b
both_back plan [] ys (one ∷ first) second a b = absurd a
both_back plan (x ∷ xs) ys [] second a b = absurd a
both_back plan (x ∷ xs) ys (one ∷ first) second a b = (a.0, both_back plan xs ys first second a.1 b)

-- a list in two halves, as its values and as what contracts see of them
halved : {A : Type 0} (f : A → StateModel) (n : ℕ) (xs low high : List A) → low ≡ take n xs → high ≡ drop n xs → map f xs ≡ map f low ++ map f high
halved {A} f n xs low high front back =
    ap (map f) (sym (take-append-drop n xs) ∙ ap (λ (ys : List A). ys ++ drop n xs) (sym front) ∙ ap (λ (ys : List A). low ++ ys) (sym back))
    ∙ map-append f low high

pub record Halves (plan : PlanModel) (all low high : List StateModel) : Type 0 where
  pub low_can : EachCanRun plan low
  pub high_can : EachCanRun plan high
  pub low_light : weight_of_all plan low + 2 ≤ weight_of_all plan all
  pub high_light : weight_of_all plan high + 2 ≤ weight_of_all plan all

halves_of : (plan : PlanModel) (all low high : List StateModel) → all ≡ low ++ high → 0 < length low → 0 < length high → EachCanRun plan all
    → Halves plan all low high
halves_of plan all low high is some more each =
    let both : EachCanRun plan (low ++ high) = subst (EachCanRun plan) is each in
    let most : most_from plan all ≡ max (most_from plan low) (most_from plan high) = ap (most_from plan) is ∙ most_both plan low high in
    let many : length all ≡ length low + length high = ap (λ (xs : List StateModel). length xs) is ∙ length-append low high in
    record {
      low_can = each_first plan low high both;
      high_can = each_last plan low high both;
      low_light = omega (arith, most, many, some, more);
      high_light = omega (arith, most, many, some, more);
    }

pub in_halves : {A : Type 0} (f : A → StateModel) (plan : PlanModel) (n : ℕ) (xs low high : List A) → low ≡ take n xs → high ≡ drop n xs
    → 0 < length low → 0 < length high → EachCanRun plan (map f xs) → Halves plan (map f xs) (map f low) (map f high)
in_halves {A} f plan n xs low high front back some more each =
    let low_some : 0 < length (map f low) = omega (arith, some, length-map low f) in
    let high_some : 0 < length (map f high) = omega (arith, more, length-map high f) in
    halves_of plan (map f xs) (map f low) (map f high) (halved f n xs low high front back) low_some high_some each

pub halves_back : {A : Type 0} (f : A → StateModel) (plan : PlanModel) (n : ℕ) (xs low high first second all : List A)
    → low ≡ take n xs → high ≡ drop n xs → all ≡ first ++ second → EachCameBack plan (map f low) (map f first)
    → EachCameBack plan (map f high) (map f second) → EachCameBack plan (map f xs) (map f all)
halves_back {A} f plan n xs low high first second all front back grown a b =
    let S : List StateModel → Type 0 = λ ys. EachCameBack plan ys (map f all) in
    let T : List StateModel → Type 0 = λ ys. EachCameBack plan (map f low ++ map f high) ys in
    subst S (sym (halved f n xs low high front back))
    (subst T (sym (ap (map f) grown ∙ map-append f first second)) (both_back plan (map f low) (map f high) (map f first) (map f second) a b))

-- ---- one after another

-- those that are left can be run, and with what they come to all have come back
pub record LeftOf (plan : PlanModel) (all left done : List StateModel) : Type 0 where
  pub back : (more : List StateModel) → EachCameBack plan left more → EachCameBack plan all (done ++ more)
  pub can : EachCanRun plan left
  pub deep : most_from plan left ≤ most_from plan all

pub left_first : (plan : PlanModel) (all left done : List StateModel) → left ≡ all → done ≡ [] → EachCanRun plan all → LeftOf plan all left done
left_first plan all left done same none can =
    let L : List StateModel → Type 0 = λ xs. LeftOf plan all xs done in
    let D : List StateModel → Type 0 = λ xs. LeftOf plan all all xs in
    subst L (sym same) (subst D (sym none) (record { back = λ more came. came; can = can; deep = omega arith }))

pub left_next : (plan : PlanModel) (all left done rest : List StateModel) (s : StateModel) → left ≡ s ∷ rest → LeftOf plan all left done
    → CanRun plan s × (domains_from plan s ≤ most_from plan all)
left_next plan all left done rest s is l =
    let can : EachCanRun plan (s ∷ rest) = subst (EachCanRun plan) is l.can in
    let most : most_from plan left ≡ max (domains_from plan s) (most_from plan rest) = ap (most_from plan) is in
    let deep : most_from plan left ≤ most_from plan all = l.deep in
    (can.0, omega (arith, most, deep))

pub left_more : (plan : PlanModel) (all left done rest grown : List StateModel) (s back : StateModel) → left ≡ s ∷ rest → grown ≡ done ++ back ∷ []
    → CameBack plan s back → LeftOf plan all left done → LeftOf plan all rest grown
left_more plan all left done rest grown s back is more came l =
    let can : EachCanRun plan (s ∷ rest) = subst (EachCanRun plan) is l.can in
    let most : most_from plan left ≡ max (domains_from plan s) (most_from plan rest) = ap (most_from plan) is in
    let deep : most_from plan left ≤ most_from plan all = l.deep in
    let Back : List StateModel → Type 0 = λ xs. (ends : List StateModel) → EachCameBack plan xs ends → EachCameBack plan all (done ++ ends) in
    let Whole : List StateModel → Type 0 = λ xs. EachCameBack plan all xs in
    let Grown : List StateModel → Type 0 = λ xs. LeftOf plan all rest xs in
    subst Grown (sym more) (record {
      back = λ ends each. subst Whole (sym (append_assoc done (back ∷ []) ends)) (subst Back is l.back (back ∷ ends) (came, each));
      can = can.1;
      deep = omega (arith, most, deep);
    })

pub left_none : {A : Type 0} (f : A → StateModel) (plan : PlanModel) (all done : List StateModel) (left : List A) → length left ≡ 0
    → LeftOf plan all (map f left) done → EachCameBack plan all done
left_none {A} f plan all done [] none l =
    let Whole : List StateModel → Type 0 = λ xs. EachCameBack plan all xs in
    subst Whole (append-nil done) (l.back [] tt)
left_none {A} f plan all done (x ∷ left) none l = absurd (omega (arith, none))
