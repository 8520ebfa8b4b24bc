use Rattle.std.proofs.Common.{◌≡◌, ◌≤◌, ◌+◌, ◌∙◌, ℕ, List, All, length, sym, ap, subst, arith}
use Rattle.cd_reading.specs.Ends.{node_end}
use Rattle.cd_reading.proofs.Whole.{all_few, begins_are, begins_few, cause_is, HasRead, has_read, written_back}
use Rattle.cd_reading.proofs.through.read_through.Goals as goal

pub read_domain-end-requires-clause-counts : goal.read_domain-end-requires-clause-counts
read_domain-end-requires-clause-counts c =
    let case = c.in_ok-case.case in
    let zeros : All (λ (n : ℕ). n ≡ 0) c.deref_mut.result.now =
    subst (λ (xs : List ℕ). All (λ (n : ℕ). n ≡ 0) xs) (sym c.deref_mut.ensures.value) c.in_ok-counts.ensures.none in
    all_few c.counts_are_at_most_one_more_than_entries.ensures case.tree.now case.script.now c.deref_mut.result.now
    c.in_ok-case.ensures.case.sound c.in_ok-case.ensures.case.few zeros

pub returns : goal.returns
returns c =
    let tree = c.args.tree.now in
    let script = c.args.script.now in
    let case = c.in_ok-case.case in
    let counts = c.read_domain-end.new.counts in
    let end = node_end c.read_domain-end.result in
    let zeros : All (λ (n : ℕ). n ≡ 0) c.deref_mut.result.now =
    subst (λ (xs : List ℕ). All (λ (n : ℕ). n ≡ 0) xs) (sym c.deref_mut.ensures.value) c.in_ok-counts.ensures.none in
    let read : HasRead tree script counts end =
    has_read tree case.tree.now script case.script.now c.deref_mut.result.now counts end c.in_ok-case.ensures.tree c.in_ok-case.ensures.script
    zeros c.read_domain-end.ensures.reads in
    let size : length counts ≡ length tree.domains =
    c.read_domain-end.auto.counts ∙ ap length c.deref_mut.ensures.value ∙ c.in_ok-counts.ensures.size ∙ c.count.ensures.value in
    let back : c.of-begins.result ≡ counts =
    c.of-begins.ensures ∙ written_back counts _ c.in_ok-counts.counts.len (omega (arith, c.in_ok-counts.counts.ok)) in
    record {
      begins = back ∙ begins_are tree script counts read.counts size;
      cause = cause_is tree script end c.in_ok-cause.cause read.answer c.in_ok-cause.ensures;
      size = ap length back ∙ size;
      few = subst (λ (xs : List ℕ). All (λ (n : ℕ). n ≤ 1 + length script) xs) (sym back)
          (begins_few c.counts_are_at_most_one_more_than_entries.ensures tree script counts c.count.ensures.sound read.counts);
    }
