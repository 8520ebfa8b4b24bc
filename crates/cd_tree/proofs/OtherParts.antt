-- What a part of the reading comes to from other counts: the same, where the counts of a set of numbers are the same.
use Rattle.std.proofs.Common.{◌≡◌, ℕ, zero, suc, ◌+◌, Bool, true, false, ◌==◌, bit_or, bit_and, if◌then◌else◌, List, [], ◌∷◌, length, refl, ap, ◌∙◌, inl, inr}
use Rattle.std.proofs.Math.Path.{fun_ext}
use Rattle.std.proofs.lemmas.Bool.{cases_Bool, eqb-true}
use Rattle.cd_tree.specs.declared.domain.NodeId.{NodeId}
use Rattle.cd_tree.specs.declared.domain.Domain.{Domain}
use Rattle.cd_tree.specs.declared.document.Fault.{Fault}
use Rattle.cd_tree.specs.declared.event.Event.TheVariants.{Begin, Reached}
use Rattle.cd_tree.specs.KindSets.{no_kinds, kinds_without}
use Rattle.cd_tree.specs.Scripts.{struck, kinds_of}
use Rattle.cd_tree.specs.Reading.{Case, Counts, counted, only_events, Told, after, TryEnd, Passed, Failed, Broken, NodeEnd, GroupEnd, AllDone, SomeEscalated, Try, prepared, begun, halted, unless_halted, arrived, group_ended, behind_group, with_end, with_member, ended, unless_failed, tries}

-- the new counts of the numbers of a set, and the old ones of all others
abbrev pub on : (ℕ → Bool) → Counts → Counts → Counts
on P new old = λ n. if P n then new n else old n

abbrev pub put : {A : Type 0} → (ℕ → Bool) → Counts → Told A → Told A
put P other t = record t { counts = on P t.counts other }

pub on_inside : (P : ℕ → Bool) (new old : Counts) (n : ℕ) → P n ≡ true → on P new old n ≡ new n
on_inside P new old n e = ap (λ (b : Bool). if b then new n else old n) e

pub on_outside : (P : ℕ → Bool) (new old : Counts) (n : ℕ) → P n ≡ false → on P new old n ≡ old n
on_outside P new old n e = ap (λ (b : Bool). if b then new n else old n) e

-- to count a number of the set is to count it in the new counts
counted_at : (P : ℕ → Bool) (new old : Counts) (id n : ℕ) → P id ≡ true
    → counted id (on P new old) n ≡ on P (counted id new) old n
counted_at P new old id n e =
    elim (cases_Bool (n == id)) [
      | inl same ↦
          let here : n ≡ id = eqb-true n id same in
          let there : P n ≡ true = ap P here ∙ e in
          rw (same, there)
      | inr differs ↦ rw differs
    ]

pub counted_on : (P : ℕ → Bool) (new old : Counts) (id : ℕ) → P id ≡ true → counted id (on P new old) ≡ on P (counted id new) old
counted_on P new old id e = fun_ext (λ n. counted_at P new old id n e)

pub begun_other : (P : ℕ → Bool) (other : Counts) (id : NodeId) (domain : Domain) (first : Bool) (counts : Counts)
    (next : ℕ → Counts → Told TryEnd) → P id.0 ≡ true
    → ((begin : ℕ) (more : Counts) → next begin (on P more other) ≡ put P other (next begin more))
    → begun id domain first (on P counts other) next ≡ put P other (begun id domain first counts next)
begun_other P other id domain first counts next e same =
    let at : ℕ → Counts → Told TryEnd = λ n more. after (only_events (Begin id (n + 1) ∷ prepared first id domain.entries)) (next (n + 1) more) in
    let here : on P counts other id.0 ≡ counts id.0 = on_inside P counts other id.0 e in
    let there : counted id.0 (on P counts other) ≡ on P (counted id.0 counts) other = counted_on P counts other id.0 e in
    ap (λ (n : ℕ). at n (counted id.0 (on P counts other))) here
    ∙ ap (λ (more : Counts). at (counts id.0) more) there
    ∙ ap (after (only_events (Begin id (counts id.0 + 1) ∷ prepared first id domain.entries))) (same (counts id.0 + 1) (counted id.0 counts))

halted_other : (P : ℕ → Bool) (other : Counts) (h : Try) (halts notes : ℕ) (counts : Counts) (declared : Bool)
    → halted h halts notes (on P counts other) declared ≡ put P other (halted h halts notes counts declared)
halted_other P other h halts notes counts true = refl
halted_other P other h halts notes counts false = refl

unless_halted_other : (P : ℕ → Bool) (other : Counts) (h : Try) (halts notes : ℕ) (counts : Counts) (now next : ℕ → Told TryEnd) (none : Bool)
    → now notes ≡ put P other (next notes)
    → unless_halted h halts notes (on P counts other) now none ≡ put P other (unless_halted h halts notes counts next none)
unless_halted_other P other h halts notes counts now next true same = same
unless_halted_other P other h halts notes counts now next false same =
    halted_other P other h halts notes counts (kinds_without halts h.detects == no_kinds)

pub arrived_other : (P : ℕ → Bool) (other : Counts) (w : Case) (h : Try) (point notes : ℕ) (counts : Counts) (now next : ℕ → Told TryEnd)
    → ((seen : ℕ) → now seen ≡ put P other (next seen))
    → arrived w h point notes (on P counts other) now ≡ put P other (arrived w h point notes counts next)
arrived_other P other w h point notes counts now next same =
    let hits : List Fault = struck w.faults h.node h.begin point in
    ap (after (record { events = Reached h.node point ∷ []; repeats = 0; strikes = length hits }))
    (unless_halted_other P other h (bit_and (kinds_of hits) w.halts) (bit_or notes (kinds_of hits)) counts now next
    (bit_and (kinds_of hits) w.halts == no_kinds) (same (bit_or notes (kinds_of hits))))

group_ended_other : (P : ℕ → Bool) (other : Counts) (h : Try) (notes : ℕ) (counts : Counts) (end : GroupEnd) (next : ℕ → Counts → Told TryEnd)
    → ((all : ℕ) → next all (on P counts other) ≡ put P other (next all counts))
    → group_ended h notes (on P counts other) end next ≡ put P other (group_ended h notes counts end next)
group_ended_other P other h notes counts (AllDone leaks) next same = same (bit_or notes leaks)
group_ended_other P other h notes counts (SomeEscalated cause over) next same = refl

pub behind_group_other : (P : ℕ → Bool) (other : Counts) (h : Try) (notes : ℕ) (now t : Told GroupEnd) (next : ℕ → Counts → Told TryEnd)
    → now ≡ put P other t → ((all : ℕ) → next all (on P t.counts other) ≡ put P other (next all t.counts))
    → behind_group h notes now next ≡ put P other (behind_group h notes t next)
behind_group_other P other h notes now t next e same =
    ap (λ (x : Told GroupEnd). behind_group h notes x next) e
    ∙ ap (after t.past) (group_ended_other P other h notes t.counts t.answer next same)

pub with_member_other : (P : ℕ → Bool) (other : Counts) (now t : Told NodeEnd) (rest : Counts → Told GroupEnd)
    → now ≡ put P other t → rest (on P t.counts other) ≡ put P other (rest t.counts)
    → with_member now rest ≡ put P other (with_member t rest)
with_member_other P other now t rest e same =
    ap (λ (x : Told NodeEnd). with_member x rest) e
    ∙ ap (λ (x : Told GroupEnd). after t.past (with_end t.answer x)) same

ended_other : (P : ℕ → Bool) (other : Counts) (id : NodeId) (domain : Domain) (t : Told TryEnd) (end : TryEnd)
    → ended id domain (put P other t) end ≡ put P other (ended id domain t end)
ended_other P other id domain t (Passed leak) = refl
ended_other P other id domain t (Failed cause) = refl
ended_other P other id domain t (Broken cause over) = refl

unless_failed_other : (P : ℕ → Bool) (other : Counts) (id : NodeId) (domain : Domain) (t : Told TryEnd) (end : TryEnd) (next : Counts → Told NodeEnd)
    → next (on P t.counts other) ≡ put P other (next t.counts)
    → unless_failed id domain (put P other t) end next ≡ put P other (unless_failed id domain t end next)
unless_failed_other P other id domain t (Passed leak) next same = refl
unless_failed_other P other id domain t (Failed cause) next same =
    ap (after (record t.past { repeats = t.past.repeats + 1 })) same
unless_failed_other P other id domain t (Broken cause over) next same = refl

pub tries_other : (P : ℕ → Bool) (other : Counts) (spare : ℕ) (id : NodeId) (domain : Domain) (again : Counts → Told TryEnd) (now t : Told TryEnd)
    → ((more : Counts) → again (on P more other) ≡ put P other (again more)) → now ≡ put P other t
    → tries spare id domain again now ≡ put P other (tries spare id domain again t)
tries_other P other zero id domain again now t same e =
    ap (λ (x : Told TryEnd). ended id domain x x.answer) e ∙ ended_other P other id domain t t.answer
tries_other P other (suc spare) id domain again now t same e =
    ap (λ (x : Told TryEnd). tries (suc spare) id domain again x) e
    ∙ unless_failed_other P other id domain t t.answer (λ more. tries spare id domain again (again more))
    (tries_other P other spare id domain again (again (on P t.counts other)) (again t.counts) same (same t.counts))
