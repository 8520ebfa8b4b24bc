-- The faults that strike at a point each leave a note.
use Rattle.std.proofs.Common.{◌≡◌, ℕ, suc, ◌<◌, ◌^◌, true, nat_lt, ◌&&◌, ◌==◌, List, [], ◌∷◌, get_or, All, arith, refl, sym, ◌∙◌, bit_or}
use Rattle.std.specs.Int.Bits.{or_add_and}
use Rattle.std.proofs.lemmas.Nat.{and_le_r, pow_pos}
use Rattle.std.proofs.lemmas.Bool.{and_parts, eqb-true}
use Rattle.std.proofs.lemmas.Bool.Decides.{nat_tests}
use Rattle.std.proofs.lemmas.List.Elements.{All-filter, filter_passes}
use Rattle.cd_tree.specs.declared.domain.Entry.{Entry}
use Rattle.cd_tree.specs.declared.document.Fault.{Fault}
use Rattle.cd_tree.specs.declared.kinds.Kind.{Kind}
use Rattle.cd_tree.specs.KindSets.{only_kind}
use Rattle.cd_tree.specs.Meaning.{in_entries}
use Rattle.cd_tree.specs.Scripts.{strikes_at, kinds_of}
use Rattle.cd_field.specs.FieldModel.{FieldModel, hits_at}
use Rattle.cd_tries.specs.Fitting.{StrikesWithin}
use Rattle.cd_tries.proofs.Pointing.{hits_within}
use Rattle.cd_core.proofs.Choices.{chosen}

kind_is_some : (kind : Kind) → kind.0 < 16 → only_kind kind ≡ 0 → ⊥
kind_is_some kind small none =
    let test : nat_lt kind.0 16 ≡ true = grind (arith, nat_tests) in
    let power : 2 ^ kind.0 ≡ 0 = sym (chosen (nat_lt kind.0 16) (2 ^ kind.0) 0 test) ∙ none in
    omega (arith, pow_pos kind.0)

none_before : (a b : ℕ) → bit_or a b ≡ 0 → a ≡ 0
none_before a b none = omega (arith, or_add_and a b, and_le_r a b)

-- faults with kinds leave a note
pub no_kinds-no_faults : (faults : List Fault) → All (λ (fault : Fault). fault.kind.0 < 16) faults → kinds_of faults ≡ 0 → faults ≡ []
no_kinds-no_faults [] kinds none = refl
no_kinds-no_faults (fault ∷ faults) kinds none =
    absurd (kind_is_some fault.kind (kinds 0 fault (omega arith)) (none_before (only_kind fault.kind) (kinds_of faults) none))

pub quiet_hits : (entries : List Entry) (m : FieldModel) (point : ℕ) → StrikesWithin m.node entries m.script
    → kinds_of (hits_at m point) ≡ 0 → hits_at m point ≡ []
quiet_hits entries m point strikes none =
    no_kinds-no_faults (hits_at m point) (λ k d short. (hits_within m.node entries m point refl strikes k d short).1) none
