use Rattle.std.proofs.Common.{◌≡◌, ℕ, ◌≤◌, ◌+◌, ◌∙◌, min, length, take, arith, length-take}
use Rattle.cd_base.proofs.EndLemmas.{TookCount-more, TookAtMost-more}
use Rattle.cd_base.proofs.transfer.read_all.Goals as goal

-- a piece that is not as long as the room leaves some of it
within_limit : (had n len most size room limit : ℕ) → n ≤ len → len ≡ min most size → most ≡ min room 4096 → had + room ≡ limit + 1 → (n ≡ room → ⊥) → had + n ≤ limit
within_limit had n len most size room limit a b c d e = grind arith

pub returns-then-count-room : goal.returns-then-count-room
returns-then-count-room g c =
    let had = c.loop-bytes.bytes.items in
    let n = c.in_ok-count.count in
    TookCount-more (g.S.Source.model c.args.source.now) (g.S.Source.model c.loop-bytes.source) (g.S.Source.model c.read.new.self) had (take n c.read.new.buf)
    n (c.args.limit + 1) c.loop-bytes.invariant.taken c.in_ok-count.ensures.bytes.0 c.read.ensures.count c.in_ok-count.ensures.bound.1 (omega arith)

pub returns-then-is_err : goal.returns-then-is_err
returns-then-is_err g c =
    let had = c.loop-bytes.bytes.items in
    let n = c.in_ok-count.count in
    TookAtMost-more (g.S.Source.model c.args.source.now) (g.S.Source.model c.loop-bytes.source) (g.S.Source.model c.read.new.self) had
    (take n c.read.new.buf) n c.args.limit c.loop-bytes.invariant.taken c.in_ok-count.ensures.bytes.0 c.read.ensures.count c.in_ok-count.ensures.bound.1
    (within_limit (length had) n (length c.read.new.buf) c.min-most.result (length c.loop-bytes.buffer) c.loop-bytes.room c.args.limit c.in_ok-count.ensures.bound.0
    (c.read.auto.buf ∙ length-take c.min-most.result c.loop-bytes.buffer) c.min-most.ensures c.loop-bytes.invariant.room c.if-count-room.false)
