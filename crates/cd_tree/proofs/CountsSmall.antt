-- Under an accepted script, which has fewer than 2^32 entries, no count is above 2^32.
use Rattle.std.proofs.Common.{ℕ, ◌+◌, ◌^◌, ◌<◌, ◌≤◌, length, arith}
use Rattle.cd_tree.specs.Record.{reading}
use Rattle.cd_tree.specs.AcceptedLaws.{CountsAreSmall}
use Rattle.cd_tree.proofs.CountsReading.{counts-le-entries}

pub counts_are_small : CountsAreSmall
counts_are_small tree faults n is accepted =
    let few : length faults < 2 ^ 32 = accepted.few in
    let most : (reading tree faults).counts n ≤ 1 + length faults = counts-le-entries tree faults n is in
    omega arith
