-- What contracts see of a pass, and what is so of it between two calls, where its view changes.
use Rattle.std.proofs.Common.{◌≡◌, ℕ, ◌+◌, ◌-◌, ◌<◌, ◌≤◌, length, arith, lt_of_lt_of_le}
use Rattle.std.proofs.Math.Path.{fun_ext}
use Rattle.cd_keep.specs.declared.keep_id.KeepId.{KeepId}
use Rattle.cd_keep.specs.PassModel.{gave_up}
use Rattle.cd_lease.specs.declared.rule.Size.{Size}
use Rattle.cd_lease.specs.declared.view.View.{View}
use Rattle.cd_lease.specs.Views.{times, one_out}
use Rattle.cd_lease.specs.Steps.{leaving}
use Rattle.cd_lease.specs.Passes.{shown_by, Rests}
use Rattle.cd_lease.proofs.Counting.{times_one_out, times_fewer, length_one_out}

pub left_shown : (most store : ℕ) (v : View) (id : KeepId) → 0 < times v.holds id → shown_by most store (leaving v id) ≡ gave_up (shown_by most store v) id
left_shown most store v id h =
    let holds = fun_ext (λ (q : KeepId). times_one_out v.holds id q h) in
    let held : length (one_out id v.holds) ≡ length v.holds - 1 = let l = length_one_out v.holds id h in omega arith in
    λ i. record (gave_up (shown_by most store v) id) { holds = holds i; held = held i }

pub left_rests : (size : Size) (v : View) (id : KeepId) → 0 < times v.holds id → Rests size v → Rests size (leaving v id)
left_rests size v id h r = record {
  idle = r.idle;
  within = let l = length_one_out v.holds id h in let w : length v.holds + v.room ≤ size.most = r.within in omega arith;
  held = λ q k. r.held q (lt_of_lt_of_le k (times_fewer v.holds id q h));
  block = r.block;
  short = r.short;
}
