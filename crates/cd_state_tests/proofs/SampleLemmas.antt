-- The tests' domain can be tried, and its words are present after its tries.
use Rattle.std.proofs.Common.{◌≡◌, ℕ, zero, suc, ◌+◌, ◌<◌, ◌≤◌, Bool, true, false, ◌||◌, ◌==◌, List, [], ◌∷◌, ◌++◌, length, get_or, Option, Some, None, IsSomeAnd, All, sum_by, unwrap_or, arith, refl, ap, subst, sym, ◌∙◌}
use Rattle.std.specs.Prelude.{slice_get}
use Rattle.std.proofs.lemmas.Bool.{and_from, cond-false, cond-true, eq-eqb}
use Rattle.std.proofs.lemmas.Option.{slice_get_within}
use Rattle.cd_base.specs.declared.place.Place.{Place}
use Rattle.cd_base.specs.Words.{Words, in_range}
use Rattle.cd_tree.specs.declared.document.Fault.{Fault}
use Rattle.cd_tree.specs.declared.domain.Domain.{Domain}
use Rattle.cd_tree.specs.declared.domain.Entry.{Entry}
use Rattle.cd_tree.specs.declared.domain.Item.{Item}
use Rattle.cd_tree.specs.declared.domain.Item.TheVariants.{Run}
use Rattle.cd_tree.specs.declared.domain.NodeId.{NodeId}
use Rattle.cd_tree.specs.declared.operation.Op.TheVariants.{Fill}
use Rattle.cd_tree.specs.declared.domain.How.{How}
use Rattle.cd_tree.specs.declared.domain.How.TheVariants.{Copy}
use Rattle.cd_tree.specs.Meaning.{entry_need, in_entries}
use Rattle.cd_tree.specs.Operations.{IsFull}
use Rattle.cd_field.specs.FieldModel.{FieldModel}
use Rattle.cd_keep.specs.declared.keep_id.KeepId.{KeepId}
use Rattle.cd_keep.specs.PassModel.{PassModel, HoldsNothing, IsPiece, same_id}
use Rattle.cd_tries.specs.declared.keep.Keep.{Keep}
use Rattle.cd_tries.specs.declared.keep.Pieces.{Pieces}
use Rattle.cd_tries.specs.declared.tries.Course.{Course}
use Rattle.cd_tries.specs.Fitting.{ArePresentIn, CanPreserve, CanRun, CanTry, IsSound, ItemStays, LinksCover, StrikesWithin}
use Rattle.cd_tries.specs.Keeping.{AreCut, Cover, EachMeets, KeepsFit, HoldsThese, all_ids}
use Rattle.cd_tries.specs.Preserving.{IsPreserved}
use Rattle.cd_tries.specs.Running.{Means, means, Trial, Tried, tried_from, tried_again, tries_from}
use Rattle.cd_state_tests.specs.Sample.{sample, sample_entries, sample_pass, sample_keeps, IsSample, HasSample, SampleIsHere, StrikesSample}
use Rattle.cd_tries.specs.TryLaws.{Stays}
use Rattle.cd_tries.proofs.KeepsHeld.{preserved_are_held}
use Rattle.cd_tries.proofs.PieceWords.{some_is}
use Rattle.cd_base.proofs.BoolLemmas.{by_test, or-none}
use Rattle.cd_tries.proofs.Staying.{points_keep, runs_still, trying_again_keeps, tries_keep}
use Rattle.cd_tries.proofs.Trying.{can_run}

all_one : {A : Type 0} (P : A → Type 0) (x : A) → P x → All P (x ∷ [])
all_one {A} P x is zero d short = is
all_one {A} P x is (suc k) d short = absurd (let none : ⊥ = omega (arith, short) in none)

in_sample : (entries : List Entry) (p : Place) → entries ≡ sample_entries → in_entries entries p ≡ true → in_range sample p ≡ true
in_sample entries p is h = sym (or-none (in_range sample p)) ∙ ap (λ (es : List Entry). in_entries es p) (sym is) ∙ h

sample_sound : (domain : Domain) → IsSample domain → IsSound domain
sample_sound domain is =
    let P : List Entry → Type 0 = λ es. All (λ (entry : Entry). IsFull entry.range) es in
    let Q : List Entry → Type 0 = λ es. All (ItemStays es) (Run (Fill sample 7) ∷ []) in
    let R : List Item → Type 0 = λ items. All (ItemStays domain.entries) items in
    let full : IsFull sample = omega arith in
    record {
      full = subst P (sym is.entries) (all_one (λ (entry : Entry). IsFull entry.range) _ full);
      stays = subst R (sym is.items) (subst Q (sym is.entries)
          (all_one (ItemStays sample_entries) (Run (Fill sample 7)) (all_one IsFull sample full, tt, λ p h. h)));
    }

sample_strikes : (id : NodeId) (entries : List Entry) (faults : List Fault) → entries ≡ sample_entries → StrikesSample faults
    → StrikesWithin id entries faults
sample_strikes id entries faults is strikes k d short =
    λ here.
    let fault : Fault = get_or faults k d in
    let one : (fault.place ≡ record { region = 0; index = 0 }) × (fault.kind.0 < 16) = strikes k d short in
    let P : Place → Type 0 = λ p. in_entries sample_entries p ≡ true in
    (ap (λ (es : List Entry). in_entries es fault.place) is ∙ subst P (sym one.0) refl, one.1)

same_id_is : (id : KeepId) → same_id id id ≡ true
same_id_is id = and_from (id.block == id.block) (id.serial == id.serial) (eq-eqb id.block id.block refl) (eq-eqb id.serial id.serial refl)

-- the words that are kept
abbrev words : List ℕ
words = 5 ∷ 5 ∷ 5 ∷ 5 ∷ []

known_is : (id : KeepId) → (sample_pass id).known id ≡ Some words
known_is id = cond-true (same_id id id) (Some words) None (same_id_is id)

sample_keeps_fit : (id : KeepId) → KeepsFit (sample_pass id).known sample_entries (sample_keeps id)
sample_keeps_fit id =
    let pieces : Pieces = record { begin = 0; end = 4; ids = id ∷ [] } in
    let cut : AreCut (sample_pass id).known pieces = record {
      each = each;
      whole = λ k one at more. absurd (let none : ⊥ = omega (arith, more) in none);
      size = ap (λ (o : Option (List ℕ)). 0 + length (unwrap_or o [] ++ [])) (known_is id);
    } in
    let cover : Cover (sample_pass id).known pieces sample = record { cut = cut; low = omega arith; high = omega arith } in
    let meets : EachMeets pieces sample = record { first = omega arith; last = omega arith } in
    ((cover, refl, meets), tt)
  where
    each : (k : ℕ) (one : KeepId) → slice_get (id ∷ []) k ≡ Some one → IsSomeAnd ((sample_pass id).known one) IsPiece
    each zero one at =
        let P : KeepId → Type 0 = λ v. IsSomeAnd ((sample_pass id).known v) IsPiece in
        let Q : Option (List ℕ) → Type 0 = λ o. IsSomeAnd o IsPiece in
        subst P (some_is id one at) (subst Q (sym (known_is id)) (record { some = omega arith; few = omega arith }))
    each (suc k) one at = absurd (let none : ⊥ = omega (arith, slice_get_within (id ∷ []) (suc k) one at) in none)

sample_holds : (id : KeepId) → HoldsThese (sample_pass id) (all_ids (sample_keeps id))
sample_holds id = record {
  each = λ q. by_test (same_id id q)
      (λ t. let one : ℕ = 1 in let none : ℕ = 0 in
      cond-true (same_id id q) one none t ∙ sym (ap (λ (n : ℕ). n + 0) (cond-true (same_id id q) one none t)))
      (λ f. let one : ℕ = 1 in let none : ℕ = 0 in
      cond-false (same_id id q) one none f ∙ sym (ap (λ (n : ℕ). n + 0) (cond-false (same_id id q) one none f)));
  held = refl;
}

pub sample_can_try : (id : NodeId) (domain : Domain) (halts : ℕ) (keeps : List Keep) (m : FieldModel) (p : PassModel)
    → IsSample domain → HasSample m.words → StrikesSample m.script
    → (id : KeepId) × (p ≡ sample_pass id) × (keeps ≡ sample_keeps id)
    → CanTry (means id domain halts p.known keeps) m p
sample_can_try id domain halts keeps m p is words strikes kept =
    let P : List Entry → Type 0 = λ es. KeepsFit (sample_pass kept.0).known es (sample_keeps kept.0) in
    let Q : List Keep → Type 0 = λ ks. KeepsFit (sample_pass kept.0).known domain.entries ks in
    let R : PassModel → Type 0 = λ v. KeepsFit v.known domain.entries keeps in
    let S : List Keep → Type 0 = λ ks. HoldsThese (sample_pass kept.0) (all_ids ks) in
    let T : PassModel → Type 0 = λ v. HoldsThese v (all_ids keeps) in
    record {
      sound = sample_sound domain is;
      words = λ q h. words q (in_sample domain.entries q is.entries h);
      strikes = sample_strikes id domain.entries m.script is.entries strikes;
      known = refl;
      keeps = subst R (sym kept.1) (subst Q (sym kept.2) (subst P (sym is.entries) (sample_keeps_fit kept.0)));
      holds = subst T (sym kept.1) (subst S (sym kept.2) (sample_holds kept.0));
    }

-- where the words are away, too
pub sample_can_still : (id : NodeId) (domain : Domain) (halts : ℕ) (keeps : List Keep) (was m : FieldModel) (p : PassModel)
    → IsSample domain → SampleIsHere was → StrikesSample was.script → m.words ≡ was.words → m.script ≡ was.script
    → (id : KeepId) × (p ≡ sample_pass id) × (keeps ≡ sample_keeps id)
    → CanTry (means id domain halts p.known keeps) m p
sample_can_still id domain halts keeps was m p is here strikes words script kept =
    let W : Words → Type 0 = λ w. HasSample w in
    let S : List Fault → Type 0 = λ faults. StrikesSample faults in
    sample_can_try id domain halts keeps m p is (subst W (sym words) (λ q h. (here q h).known)) (subst S (sym script) strikes) kept

pub sample_present : (domain : Domain) (m : FieldModel) → IsSample domain → SampleIsHere m → ArePresentIn domain.entries m
sample_present domain m is here p h = here p (in_sample domain.entries p is.entries h)

present_sample : (domain : Domain) (m : FieldModel) → IsSample domain → ArePresentIn domain.entries m → SampleIsHere m
present_sample domain m is here p h =
    here p (ap (λ (es : List Entry). in_entries es p) is.entries ∙ ap (λ (b : Bool). b || false) h)

-- after the tries that go on
pub here_after : (with : Means) (spare begin point : ℕ) (m n : FieldModel) (p : PassModel) (course : Course) → CanTry with m p
    → m.node ≡ with.node → IsSample with.domain → SampleIsHere m → point ≤ length with.domain.items
    → tries_from with spare begin (tried_from with.halts with.domain m point) ≡ record { field = n; course = course }
    → SampleIsHere n
here_after with spare begin point m n p course tries node is here within ends =
    let first : Trial = tried_from with.halts with.domain m point in
    let runs : CanRun with.node with.domain m = can_run with m p tries node (sample_present with.domain m is here) in
    let stays : Stays with.node with.domain m first.field = points_keep with.node with.domain with.halts point m runs within in
    let rest : Stays with.node with.domain first.field (tries_from with spare begin first).field =
    tries_keep with spare begin first (runs_still with.node with.domain m first.field runs.sound runs.strikes stays) tries.keeps in
    let P : FieldModel → Type 0 = λ v. SampleIsHere v in
    subst P (ap (λ (t : Tried). t.field) ends)
    (present_sample with.domain (tries_from with spare begin first).field is rest.present)

-- after a later try and those that follow
pub here_again : (with : Means) (spare begin : ℕ) (m n : FieldModel) (p : PassModel) (course : Course) → CanTry with m p
    → IsSample with.domain → tries_from with spare begin (tried_again with begin m) ≡ record { field = n; course = course }
    → SampleIsHere n
here_again with spare begin m n p course tries is ends =
    let first : Trial = tried_again with begin m in
    let stays : Stays with.node with.domain m first.field =
    trying_again_keeps with begin m tries.sound tries.words tries.strikes tries.keeps in
    let rest : Stays with.node with.domain first.field (tries_from with spare begin first).field =
    tries_keep with spare begin first (runs_still with.node with.domain m first.field tries.sound tries.strikes stays) tries.keeps in
    let P : FieldModel → Type 0 = λ v. SampleIsHere v in
    subst P (ap (λ (t : Tried). t.field) ends)
    (present_sample with.domain (tries_from with spare begin first).field is rest.present)

-- ---- its entry preserved

abbrev is_copy : How → Type 0
is_copy Copy = Unit {0}
is_copy _ = ⊥

sample_can_preserve : (domain : Domain) (links : ℕ → Option Pieces) (m : FieldModel) (p : PassModel) → IsSample domain → SampleIsHere m → p.room ≡ 1
    → CanPreserve domain links m p
sample_can_preserve domain links m p is here room =
    let A : List Entry → Type 0 = λ es. LinksCover p.known links 0 es in
    let B : List Entry → Type 0 = λ es. sum_by entry_need es ≤ p.room in
    let C : How → Type 0 = λ how. is_copy how in
    record {
      sound = sample_sound domain is;
      present = sample_present domain m is here;
      covered = subst A (sym is.entries) ((λ e. absurd (subst C e tt)), tt);
      room = subst B (sym is.entries) (omega (arith, room));
    }

-- what is kept of it is all that the pass holds
pub sample_held : (id : NodeId) (domain : Domain) (links : ℕ → Option Pieces) (keeps all : List Keep) (m n : FieldModel) (p q : PassModel)
    → IsSample domain → SampleIsHere m → HoldsNothing p → p.room ≡ 1 → IsPreserved id domain links keeps m n p q → all ≡ keeps
    → HoldsThese q (all_ids all)
sample_held id domain links keeps all m n p q is here nothing room said same =
    let P : List Keep → Type 0 = λ ks. HoldsThese q (all_ids ks) in
    subst P (sym same) ((preserved_are_held id domain links keeps m n p q (sample_can_preserve domain links m p is here room) nothing said).holds)
