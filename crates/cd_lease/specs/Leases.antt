-- A pass over leases as contracts see it, and what its calls say beyond what they say of every pass.
use Rattle.std.specs.Prelude.{◌≡◌, ℕ, ◌+◌, ◌≤◌, ◌<◌, ◌^◌, List, Result, Ok, Err}
use Rattle.std.proofs.Common.{lt_of_le_of_lt, lit<}
use Rattle.std.specs.Arc.{arc_value}
use Rattle.cd_keep.specs.declared.keep_id.KeepId.{KeepId}
use Rattle.cd_keep.specs.declared.gone_note.GoneNote.{GoneNote}
use Rattle.cd_keep.specs.PassModel.{PassModel, AreShort}
use Rattle.cd_keep.specs.PassModel.{kept}
use Rattle.cd_lease.specs.declared.rule.Size.{Size}
use Rattle.cd_lease.specs.declared.view.View.{View}
use Rattle.cd_lease.specs.declared.view.Look.{Look}
use Rattle.cd_lease.specs.declared.lease_pass.LeasePass.{LeasePass}
use Rattle.cd_lease.specs.declared.lease_pass.Try.{Try}
use Rattle.cd_lease.specs.declared.lease_pass.Try.TheVariants.{Kept, NotYet}
use Rattle.cd_lease.specs.Steps.{met, sharing, missing, giving_back}
use Rattle.cd_lease.specs.Trying.{NotKept, KeptAs, keeping}
use Rattle.cd_lease.specs.Stores.{number}
use Rattle.cd_lease.specs.Passes.{shown_by}

abbrev pub view_of : LeasePass → View
view_of pass = pass.seat.me.0

abbrev pub size_of : LeasePass → Size
size_of pass = (arc_value pass.table).shared.key

unfoldable pub model_of : LeasePass → PassModel
model_of pass = shown_by (arc_value pass.table).shared.key.most (number (arc_value pass.table).shared.table_id) pass.seat.me.0

-- what a try to keep words comes to
abbrev pub Tries : ℕ → View → View → List ℕ → Try → Type 0
Tries blocks v w piece (Kept id) = KeptAs blocks v w piece id
Tries blocks v w piece NotYet = NotKept blocks v w

abbrev pub KeepsTried : PassModel → PassModel → List ℕ → Try → Type 0
KeepsTried p q piece (Kept id) = q ≡ kept p id piece
KeepsTried p q piece NotYet = q ≡ p

-- control words were met, and nothing else
pub record Met (v w : View) : Type 0 where
  pub seen : List Look
  pub now : w ≡ met v seen

-- what keeping words comes to, after any number of tries
pub record KeepsAt (v w : View) (piece : List ℕ) (id : KeepId) : Type 0 where
  pub seen : List Look
  pub now : w ≡ keeping v seen id piece

-- a share: one more is held, or the block was used for a moment and a later serial found in its control word. No block is taken
abbrev pub SharesIn : View → View → KeepId → Result (Unit {0}) GoneNote → Type 0
SharesIn v w id (Ok _) = w ≡ sharing v id
SharesIn v w id (Err note) = (note.seen ≡ id.serial) × (id.serial < note.found) × (w ≡ giving_back (missing v id note.found))

-- the laws of passes hold of it
pub held_within_most : (pass : LeasePass) → (model_of pass).held + (model_of pass).room ≤ (model_of pass).most
unfolding model_of
held_within_most pass = pass.rests.within

pub most_is_few : (pass : LeasePass) → (model_of pass).most < 2 ^ 32
unfolding model_of
most_is_few pass = lt_of_le_of_lt pass.size.most (lit< tt)

pub words_are_short : (pass : LeasePass) → AreShort (model_of pass).known
unfolding model_of
words_are_short pass = pass.rests.short
