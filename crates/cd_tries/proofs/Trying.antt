-- From one try to the next.
use Rattle.std.proofs.Common.{◌≡◌, ℕ, zero, suc, ◌-◌, ◌≤◌, Bool, true, false, ◌&&◌, nat_lt, List, length, arith, refl, ap, subst, sym, ◌∙◌}
use Rattle.cd_tree.specs.declared.document.Fault.{Fault}
use Rattle.cd_field.specs.FieldModel.{FieldModel, begun}
use Rattle.cd_keep.specs.PassModel.{PassModel}
use Rattle.std.proofs.lemmas.Bool.{and_parts}
use Rattle.std.proofs.lemmas.Bool.Decides.{nat_tests}
use Rattle.cd_tries.specs.declared.tries.Course.{Course}
use Rattle.cd_tries.specs.declared.tries.Stop.{Stop}
use Rattle.cd_tries.specs.declared.tries.Stop.TheVariants.{Group, Passed, Failed, Broken}
use Rattle.cd_tries.specs.Fitting.{CanRun, CanTry, ArePresentIn, HasWords, StrikesWithin}
use Rattle.cd_tries.specs.Refilling.{refilled_all}
use Rattle.cd_tries.specs.Running.{Trial, Means, Tried, stops, comes_to, unless_failed, has_failed, has_next, tries_from, tried_from, tried_again, next_begin}
use Rattle.cd_tries.specs.TryLaws.{Stays}
use Rattle.cd_tries.proofs.Staying.{runs_still, stays_refilled, trying_again_keeps, points_keep}

-- where its entries are present, a machine that can be tried on can run
pub can_run : (with : Means) (m : FieldModel) (p : PassModel) → CanTry with m p → m.node ≡ with.node → ArePresentIn with.domain.entries m
    → CanRun with.node with.domain m
can_run with m p tries here present = record { sound = tries.sound; here = here; present = present; strikes = tries.strikes }

-- a machine that keeps all that can be tried on still
pub tries_still : (with : Means) (m n : FieldModel) (p q : PassModel) → CanTry with m p → HasWords with.domain.entries n
    → StrikesWithin with.node with.domain.entries n.script → q ≡ p → CanTry with n q
tries_still with m n p q tries words strikes same =
    let P : PassModel → Type 0 = λ v. CanTry with n v in
    subst P (sym same) (record {
      sound = tries.sound;
      words = words;
      strikes = strikes;
      known = tries.known;
      keeps = tries.keeps;
      holds = tries.holds;
    })

-- after a later try
pub tries_again : (with : Means) (begin : ℕ) (m n : FieldModel) (p q : PassModel) (stop : Stop) → CanTry with m p
    → tried_again with begin m ≡ stops n stop → q ≡ p → CanTry with n q
tries_again with begin m n p q stop tries is same =
    let stays : Stays with.node with.domain m (tried_again with begin m).field =
    trying_again_keeps with begin m tries.sound tries.words tries.strikes tries.keeps in
    let P : FieldModel → Type 0 = λ v. CanTry with v q in
    let Q : List Fault → Type 0 = λ script. StrikesWithin with.node with.domain.entries script in
    subst P (ap (λ (t : Trial). t.field) is)
    (tries_still with m (tried_again with begin m).field p q tries stays.words (subst Q (sym stays.script) tries.strikes) same)

-- after the rest of the first
pub tries_first : (with : Means) (point : ℕ) (m n : FieldModel) (p : PassModel) (stop : Stop) → CanTry with m p → m.node ≡ with.node
    → ArePresentIn with.domain.entries m → point ≤ length with.domain.items
    → tried_from with.halts with.domain m point ≡ stops n stop → CanTry with n p
tries_first with point m n p stop tries here present within is =
    let stays : Stays with.node with.domain m (tried_from with.halts with.domain m point).field =
    points_keep with.node with.domain with.halts point m (can_run with m p tries here present) within in
    let P : FieldModel → Type 0 = λ v. CanTry with v p in
    let Q : List Fault → Type 0 = λ script. StrikesWithin with.node with.domain.entries script in
    subst P (ap (λ (t : Trial). t.field) is)
    (tries_still with m (tried_from with.halts with.domain m point).field p p tries stays.words (subst Q (sym stays.script) tries.strikes) refl)

-- a machine whose entries were put back can run
pub runs_refilled : (with : Means) (begin : ℕ) (m n : FieldModel) (p : PassModel) → CanTry with m p
    → n ≡ refilled_all with.known with.domain.entries with.keeps (begun m with.node begin) → CanRun with.node with.domain n
runs_refilled with begin m n p tries is =
    let P : FieldModel → Type 0 = λ v. CanRun with.node with.domain v in
    let back : FieldModel = refilled_all with.known with.domain.entries with.keeps (begun m with.node begin) in
    subst P (sym is) (runs_still with.node with.domain m back tries.sound tries.strikes (stays_refilled with begin m tries.words tries.keeps))

-- ---- the loop over tries

-- a try that has not failed is the last
pub not_failed : (stop : Stop) (here : Tried) (next : ℕ → Tried) → has_failed stop ≡ false → unless_failed stop here next ≡ here
not_failed (Group point) here next e = refl
not_failed (Passed leak) here next e = refl
not_failed (Failed kinds) here next e = absurd (cc)
not_failed (Broken kinds over) here next e = refl

-- one that has failed is followed by another
pub has_another : (stop : Stop) (here : Tried) (next : Tried) → has_failed stop ≡ true → unless_failed stop here (λ kinds. next) ≡ next
has_another (Group point) here next e = absurd (cc)
has_another (Passed leak) here next e = absurd (cc)
has_another (Failed kinds) here next e = refl
has_another (Broken kinds over) here next e = absurd (cc)

-- no further try comes
pub tries_end : (with : Means) (m : FieldModel) (course : Course) (whole : Tried) → has_next course ≡ false
    → tries_from with course.spare course.begin (stops m course.stop) ≡ whole → whole ≡ record { field = m; course = course }
tries_end with m course whole over left = sym left ∙ ends course.spare over
  where
    ends : (spare : ℕ) → (nat_lt 0 spare && has_failed course.stop) ≡ false
        → tries_from with spare course.begin (stops m course.stop) ≡ comes_to spare course.begin (stops m course.stop)
    ends zero e = refl
    ends (suc spare) e =
        not_failed course.stop (comes_to (suc spare) course.begin (stops m course.stop))
        (λ kinds. tries_from with spare (next_begin course.begin) (tried_again with (next_begin course.begin) m))
        (let some : nat_lt 0 (suc spare) ≡ true = grind (arith, nat_tests) in
        ap (λ (b : Bool). b && has_failed course.stop) (sym some) ∙ e)

-- one try more
pub tries_go_on : (with : Means) (m n : FieldModel) (course : Course) (later : ℕ) (next : Stop) (whole : Tried) → has_next course ≡ true
    → later ≡ next_begin course.begin → tried_again with later m ≡ stops n next
    → tries_from with course.spare course.begin (stops m course.stop) ≡ whole
    → tries_from with (course.spare - 1) later (stops n next) ≡ whole
tries_go_on with m n course later next whole more number is left =
    let parts : (nat_lt 0 course.spare ≡ true) × (has_failed course.stop ≡ true) = and_parts _ _ more in
    goes_on course.spare parts.0 parts.1 left
  where
    goes_on : (spare : ℕ) → nat_lt 0 spare ≡ true → has_failed course.stop ≡ true
        → tries_from with spare course.begin (stops m course.stop) ≡ whole
        → tries_from with (spare - 1) later (stops n next) ≡ whole
    goes_on zero some failed left = absurd (cc)
    goes_on (suc spare) some failed left =
        let less : suc spare - 1 ≡ spare = omega arith in
        ap (λ (k : ℕ). tries_from with k later (stops n next)) less
        ∙ sym (ap (λ (t : Trial). tries_from with spare later t) is)
        ∙ ap (λ (k : ℕ). tries_from with spare k (tried_again with k m)) number
        ∙ sym (has_another course.stop (comes_to (suc spare) course.begin (stops m course.stop))
        (tries_from with spare (next_begin course.begin) (tried_again with (next_begin course.begin) m)) failed)
        ∙ left

-- a later try, then those that follow it
pub again_first : (with : Means) (spare begin later : ℕ) (m n : FieldModel) (stop : Stop) → later ≡ next_begin begin
    → tried_again with later m ≡ stops n stop
    → tries_from with spare later (stops n stop) ≡ tries_from with spare (next_begin begin) (tried_again with (next_begin begin) m)
again_first with spare begin later m n stop number is =
    ap (λ (t : Trial). tries_from with spare later t) (sym is)
    ∙ ap (λ (k : ℕ). tries_from with spare k (tried_again with k m)) number
