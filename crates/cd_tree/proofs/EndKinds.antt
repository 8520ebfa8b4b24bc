-- What holds of the kinds in the ends of tries, domains and groups, leaks and what is over, from what holds of their parts.
use Rattle.std.proofs.Common.{ℕ, zero, suc, bit_or}
use Rattle.cd_tree.specs.declared.domain.NodeId.{NodeId}
use Rattle.cd_tree.specs.declared.domain.Domain.{Domain}
use Rattle.cd_tree.specs.KindSets.{no_kinds}
use Rattle.cd_tree.specs.Reading.{Counts, Told, TryEnd, Passed, Failed, Broken, NodeEnd, Done, Escalated, GroupEnd, AllDone, SomeEscalated, ends_joined, ended, unless_failed, tries}

-- one property of leaks, another of what is over
abbrev pub TryKinds : (ℕ → Type 0) → (ℕ → Type 0) → TryEnd → Type 0
TryKinds Leak Over (Passed leak) = Leak leak
TryKinds Leak Over (Failed cause) = Unit {0}
TryKinds Leak Over (Broken cause over) = Over over

abbrev pub NodeKinds : (ℕ → Type 0) → (ℕ → Type 0) → NodeEnd → Type 0
NodeKinds Leak Over (Done leak) = Leak leak
NodeKinds Leak Over (Escalated cause over) = Over over

abbrev pub GroupKinds : (ℕ → Type 0) → (ℕ → Type 0) → GroupEnd → Type 0
GroupKinds Leak Over (AllDone leaks) = Leak leaks
GroupKinds Leak Over (SomeEscalated cause over) = Over over

-- a property that no kinds have, and two sets together where each has it
pub record IsGathered (Q : ℕ → Type 0) : Type 0 where
  pub none : Q no_kinds
  pub both : (a b : ℕ) → Q a → Q b → Q (bit_or a b)

pub joined_kinds : (Leak Over : ℕ → Type 0) → IsGathered Leak → IsGathered Over → (end : NodeEnd) (rest : GroupEnd)
    → NodeKinds Leak Over end → GroupKinds Leak Over rest → GroupKinds Leak Over (ends_joined end rest)
joined_kinds Leak Over leaks overs (Done leak) (AllDone more) p q = leaks.both leak more p q
joined_kinds Leak Over leaks overs (Done leak) (SomeEscalated cause over) p q = q
joined_kinds Leak Over leaks overs (Escalated cause over) (AllDone more) p q = p
joined_kinds Leak Over leaks overs (Escalated cause over) (SomeEscalated other more) p q = overs.both over more p q

ended_kinds : (Leak Over : ℕ → Type 0) → IsGathered Over → (id : NodeId) (domain : Domain) (t : Told TryEnd) (end : TryEnd)
    → TryKinds Leak Over end → NodeKinds Leak Over (ended id domain t end).answer
ended_kinds Leak Over overs id domain t (Passed leak) p = p
ended_kinds Leak Over overs id domain t (Failed cause) p = overs.none
ended_kinds Leak Over overs id domain t (Broken cause over) p = p

unless_failed_kinds : (Leak Over : ℕ → Type 0) (id : NodeId) (domain : Domain) (t : Told TryEnd) (end : TryEnd) (next : Counts → Told NodeEnd)
    → TryKinds Leak Over end → NodeKinds Leak Over (next t.counts).answer → NodeKinds Leak Over (unless_failed id domain t end next).answer
unless_failed_kinds Leak Over id domain t (Passed leak) next p go = p
unless_failed_kinds Leak Over id domain t (Failed cause) next p go = go
unless_failed_kinds Leak Over id domain t (Broken cause over) next p go = p

pub tries_kinds : (Leak Over : ℕ → Type 0) → IsGathered Over → (spare : ℕ) (id : NodeId) (domain : Domain) (again : Counts → Told TryEnd)
    (t : Told TryEnd) → ((now : Counts) → TryKinds Leak Over (again now).answer) → TryKinds Leak Over t.answer
    → NodeKinds Leak Over (tries spare id domain again t).answer
tries_kinds Leak Over overs zero id domain again t each p = ended_kinds Leak Over overs id domain t t.answer p
tries_kinds Leak Over overs (suc spare) id domain again t each p =
    unless_failed_kinds Leak Over id domain t t.answer (λ now. tries spare id domain again (again now)) p
    (tries_kinds Leak Over overs spare id domain again (again t.counts) each (each t.counts))
