use Rattle.std.proofs.Common.{◌-◌, List, ℕ, length, take, drop, ap, ◌∙◌}
use Rattle.cd_base.proofs.EndLemmas.{read_from}
use Rattle.cd_base.proofs.memory_source.MemorySourceSource.read.Goals as goal

pub returns-clause-bytes : goal.returns-clause-bytes
returns-clause-bytes c =
    let at = c.args.self.now.taken in
    let n = c.given-count.result in
    read_from c.args.self.now.bytes.items c.args.buf.now c.copy_from_slice.new.self at n c.args.self.now.step
    (c.copy_from_slice.ensures.after ∙ ap (λ (l : List ℕ). take n (take (length l - at) (drop at l))) c.deref.ensures.value)
    c.copy_from_slice.ensures.len c.given-count.ensures c.args.self.now.gives c.requires
