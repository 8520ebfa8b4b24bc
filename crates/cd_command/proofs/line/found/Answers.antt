use Rattle.std.proofs.Common.{◌≡◌, ◌∙◌, ap, sym, subst, true≢false, inl, inr}
use Rattle.clap.specs.Walk.{texts}
use Rattle.clap.specs.Simple.{is_simple, matches_of}
use Rattle.clap.specs.Matches.{found_of}
use Rattle.clap.specs.Faults.{fault_of, is_simple_and_free}
use Rattle.clap.specs.declared.error.kind.ErrorKind.TheVariants.{OutOfMemory}
use Rattle.cd_command.proofs.RowLemmas.{IsFault}
use Rattle.cd_command.proofs.ParseLemmas.{taken, refused, among_fault}
use Rattle.cd_command.proofs.line.found.Goals as goal

pub returns-in-Ok : goal.returns-in-Ok
returns-in-Ok c =
    let line_is = c.in_ok-line.ensures in
    let words = texts c.args.words.now in
    let none = ap (λ a. fault_of a words) (sym line_is) ∙ c.in-Ok.ensures.kinds (ap is_simple_and_free line_is) in
    let same = (c.in-Ok.ensures.matches (ap is_simple line_is)).0 ∙ ap (λ a. matches_of a words) line_is in
    let found = taken words (found_of c.in-Ok.matches) c.requires none same in
    c.entries_of.ensures found.0 found.2 ∙ sym found.1

pub returns : goal.returns
returns c =
    let line_is = c.in_ok-line.ensures in
    let words = texts c.args.words.now in
    elim (c.in-Err.ensures.kinds (ap is_simple_and_free line_is)) [
      | inl m ↦ let known : c.kind.result ≡ OutOfMemory = c.kind.ensures ∙ m in absurd (true≢false (sym (rw known at c.if-eq.ensures)))
      | inr a ↦ sym (refused words c.requires (subst (λ l. IsFault (fault_of l words)) line_is (among_fault _ _ a)))
    ]
