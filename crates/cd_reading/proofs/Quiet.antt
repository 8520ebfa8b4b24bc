-- The reading without its events: what follows a try, and that events change nothing of it.
use Rattle.std.proofs.Common.{◌≡◌, ℕ, zero, suc, ◌-◌, true, false, refl, sym, ap, ◌∙◌}
use Rattle.cd_tree.specs.declared.domain.NodeId.{NodeId}
use Rattle.cd_tree.specs.declared.domain.Domain.{Domain}
use Rattle.cd_tree.specs.Domains.{Body, node}
use Rattle.cd_tree.specs.Reading.{Case, Counts, Told, TryEnd, Passed, Failed, Broken, NodeEnd, Done, Escalated, ended, unless_failed, tries, read_node, read_try}
use Rattle.cd_reading.specs.Ends.{has_failed, last_end}
use Rattle.cd_reading.specs.Steps.{quiet}

ended_quiet : (id : NodeId) (domain : Domain) (t : Told TryEnd) (end : TryEnd) → quiet (ended id domain t end) ≡ (t.counts, last_end end)
ended_quiet id domain t (Passed leak) = refl
ended_quiet id domain t (Failed cause) = refl
ended_quiet id domain t (Broken cause over) = refl

-- what follows a try of which another is spare
abbrev or_next : Counts → TryEnd → (Counts → Counts × NodeEnd) → Counts × NodeEnd
or_next counts (Passed leak) next = (counts, Done leak)
or_next counts (Failed cause) next = next counts
or_next counts (Broken cause over) next = (counts, Escalated cause over)

unless_failed_quiet : (id : NodeId) (domain : Domain) (t : Told TryEnd) (end : TryEnd) (next : Counts → Told NodeEnd)
    → quiet (unless_failed id domain t end next) ≡ or_next t.counts end (λ now. quiet (next now))
unless_failed_quiet id domain t (Passed leak) next = refl
unless_failed_quiet id domain t (Failed cause) next = refl
unless_failed_quiet id domain t (Broken cause over) next = refl

tries_quiet : (spare : ℕ) (id : NodeId) (domain : Domain) (again : Counts → Told TryEnd) (t : Told TryEnd)
    → quiet (tries (suc spare) id domain again t) ≡ or_next t.counts t.answer (λ now. quiet (tries spare id domain again (again now)))
tries_quiet spare id domain again t = unless_failed_quiet id domain t t.answer (λ now. tries spare id domain again (again now))

-- only the counts and the end of the try at hand matter
tries_same : (spare : ℕ) (id : NodeId) (domain : Domain) (again : Counts → Told TryEnd) (t u : Told TryEnd) → quiet t ≡ quiet u
    → quiet (tries spare id domain again t) ≡ quiet (tries spare id domain again u)
tries_same zero id domain again t u same =
    ended_quiet id domain t t.answer
    ∙ ap (λ (p : Counts × TryEnd). let q : Counts × NodeEnd = (p.0, last_end p.1) in q) same
    ∙ sym (ended_quiet id domain u u.answer)
tries_same (suc spare) id domain again t u same =
    tries_quiet spare id domain again t
    ∙ ap (λ (p : Counts × TryEnd). or_next p.0 p.1 (λ now. quiet (tries spare id domain again (again now)))) same
    ∙ sym (tries_quiet spare id domain again u)

next_failed : (counts : Counts) (end : TryEnd) (next : Counts → Counts × NodeEnd) → has_failed end ≡ true → or_next counts end next ≡ next counts
next_failed counts (Passed leak) next failed = absurd (cc)
next_failed counts (Failed cause) next failed = refl
next_failed counts (Broken cause over) next failed = absurd (cc)

next_other : (counts : Counts) (end : TryEnd) (next : Counts → Counts × NodeEnd) → has_failed end ≡ false → or_next counts end next ≡ (counts, last_end end)
next_other counts (Passed leak) next other = refl
next_other counts (Failed cause) next other = absurd (cc)
next_other counts (Broken cause over) next other = refl

-- the rest of a domain, with so many tries to spare, is what is left of the whole
pub record TriesLeft (w : Case) (id : NodeId) (domain : Domain) (body : Body) (spare : ℕ) (now : Counts) (whole : Told NodeEnd) : Type 0 where
  pub same : quiet (tries spare id domain (λ more. read_try w id domain body false more) (read_try w id domain body true now)) ≡ quiet whole

pub tries_all : (w : Case) (id : NodeId) (domain : Domain) (body : Body) (now : Counts)
    → TriesLeft w id domain body (domain.retry - 1) now (read_node w (node id domain body) now)
unfolding read_node
tries_all w id domain body now = record { same = refl }

-- a try fails, and another follows
pub try_failed : (w : Case) (id : NodeId) (domain : Domain) (body : Body) (spare left : ℕ) (now more : Counts) (end : TryEnd) (whole : Told NodeEnd)
    → spare ≡ suc left → quiet (read_try w id domain body true now) ≡ (more, end) → has_failed end ≡ true
    → TriesLeft w id domain body spare now whole → TriesLeft w id domain body left more whole
try_failed w id domain body spare left now more end whole is read failed so =
    let again : Counts → Told TryEnd = λ m. read_try w id domain body false m in
    let t : Told TryEnd = read_try w id domain body true now in
    let next : Counts → Counts × NodeEnd = λ m. quiet (tries left id domain again (again m)) in
    record {
      same =
          tries_same left id domain again (read_try w id domain body true more) (again more) refl
          ∙ sym (next_failed more end next failed)
          ∙ sym (ap (λ (p : Counts × TryEnd). or_next p.0 p.1 next) read)
          ∙ sym (tries_quiet left id domain again t)
          ∙ sym (ap (λ (n : ℕ). quiet (tries n id domain again t)) is)
          ∙ so.same;
    }

-- a try that does not fail is the last
pub last_or : (spare : ℕ) (id : NodeId) (domain : Domain) (again : Counts → Told TryEnd) (t : Told TryEnd) (more : Counts) (end : TryEnd)
    → quiet t ≡ (more, end) → has_failed end ≡ false → quiet (tries spare id domain again t) ≡ (more, last_end end)
last_or zero id domain again t more end read other =
    ended_quiet id domain t t.answer ∙ ap (λ (p : Counts × TryEnd). let q : Counts × NodeEnd = (p.0, last_end p.1) in q) read
last_or (suc spare) id domain again t more end read other =
    let next : Counts → Counts × NodeEnd = λ m. quiet (tries spare id domain again (again m)) in
    tries_quiet spare id domain again t
    ∙ ap (λ (p : Counts × TryEnd). or_next p.0 p.1 next) read
    ∙ next_other more end next other

-- a try does not fail, and is the last
pub try_other : (w : Case) (id : NodeId) (domain : Domain) (body : Body) (spare : ℕ) (now more : Counts) (end : TryEnd) (last : NodeEnd)
    (whole : Told NodeEnd) → quiet (read_try w id domain body true now) ≡ (more, end) → has_failed end ≡ false → last ≡ last_end end
    → TriesLeft w id domain body spare now whole → quiet whole ≡ (more, last)
try_other w id domain body spare now more end last whole read other is so =
    let again : Counts → Told TryEnd = λ m. read_try w id domain body false m in
    sym so.same
    ∙ last_or spare id domain again (read_try w id domain body true now) more end read other
    ∙ ap (λ (e : NodeEnd). let q : Counts × NodeEnd = (more, e) in q) (sym is)

-- none is spare, and the try is the last
pub try_last : (w : Case) (id : NodeId) (domain : Domain) (body : Body) (spare : ℕ) (now more : Counts) (end : TryEnd) (last : NodeEnd)
    (whole : Told NodeEnd) → spare ≡ 0 → quiet (read_try w id domain body true now) ≡ (more, end) → last ≡ last_end end
    → TriesLeft w id domain body spare now whole → quiet whole ≡ (more, last)
try_last w id domain body spare now more end last whole none read is so =
    let again : Counts → Told TryEnd = λ m. read_try w id domain body false m in
    let t : Told TryEnd = read_try w id domain body true now in
    sym so.same
    ∙ ap (λ (n : ℕ). quiet (tries n id domain again t)) none
    ∙ ended_quiet id domain t t.answer
    ∙ ap (λ (p : Counts × TryEnd). let q : Counts × NodeEnd = (p.0, last_end p.1) in q) read
    ∙ ap (λ (e : NodeEnd). let q : Counts × NodeEnd = (more, e) in q) (sym is)
