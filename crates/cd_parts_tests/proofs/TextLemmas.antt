-- A machine that was loaded with regions has all their words, also when it has told of something since.
use Rattle.std.proofs.Common.{◌≡◌, ℕ, ◌<◌, Bool, true, nat_lt, List, Option, None, Some, IsSome, slice_get, if◌then◌else◌, arith, refl, subst, sym}
use Rattle.std.proofs.lemmas.Bool.Decides.{nat_tests}
use Rattle.cd_base.specs.Words.{pattern_word}
use Rattle.cd_tree.specs.declared.document.Fault.{Fault}
use Rattle.cd_tree.specs.declared.document.Region.{Region}
use Rattle.cd_tree.specs.declared.event.Event.{Event}
use Rattle.cd_tree.specs.Meaning.{initial_word}
use Rattle.cd_field.specs.FieldModel.{FieldModel, IsPresent, loaded, told}
use Rattle.cd_report.specs.Texts.{AllPresent}

pub all_present : (m : FieldModel) (regions : List Region) (script : List Fault) (event : Event) → m ≡ told (loaded regions script) event
    → AllPresent m regions
all_present m regions script event is k i region there within =
    let M : FieldModel → Type 0 = λ x. IsPresent x (record { region = k; index = i }) in
    let W : Option Region → Type 0 = λ r. IsSome (initial_word r i) in
    let K : Bool → Type 0 = λ b. IsSome (if b then Some (pattern_word region.pattern i) else None) in
    let less : nat_lt i region.length ≡ true = grind (arith, nat_tests, within) in
    subst M (sym is) (record { known = subst W (sym there) (subst K (sym less) refl); here = refl })
