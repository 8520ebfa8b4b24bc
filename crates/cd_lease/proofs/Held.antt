-- A block that is held.
use Rattle.std.proofs.Common.{◌≡◌, ◌<◌, ◌≤◌, sym, arith}
use Rattle.cd_lease.specs.Control.{users_in}
use Rattle.cd_lease.specs.Views.{ids_of, uses_in, total}
use Rattle.cd_lease.specs.Laws.{HeldStays}
use Rattle.cd_lease.proofs.Sums.{total_at}
use Rattle.cd_lease.proofs.Counting.{held_in_block}

pub held_stays : HeldStays
held_stays size s r k v at id h =
    let stands = r.each k v at in
    let is = stands.held id h in
    let some_held : 0 < ids_of id.block v.holds = held_in_block v.holds id h in
    let among : uses_in id.block v ≤ total (uses_in id.block) s.views = total_at (uses_in id.block) s.views k v at in
    let counted : users_in s.words id.block ≡ total (uses_in id.block) s.views = r.counted id.block is.block in
    record {
      untaken = λ free. let none : users_in s.words id.block ≡ 0 = free.0 in omega arith;
      serial = is.serial;
      begins = λ piece e. (stands.seen id piece e).begins (sym is.serial);
    }
