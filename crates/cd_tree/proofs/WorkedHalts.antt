-- Worked cases with a halting kind. Kind 0, soft, does not halt; kind 1, hard, does.
use Rattle.std.proofs.Common.{◌≡◌, ℕ, List, [], ◌∷◌, ◌++◌, true, false, refl}
use Rattle.cd_tree.specs.declared.domain.Item.TheVariants.{Run, Group}
use Rattle.cd_tree.specs.declared.domain.Domain.{Domain}
use Rattle.cd_tree.specs.declared.document.Fault.{Fault}
use Rattle.cd_tree.specs.declared.operation.Op.TheVariants.{Fill}
use Rattle.cd_tree.specs.KindSets.{halting}
use Rattle.cd_tree.specs.Reading.{Done, Escalated, blame, read_node}
use Rattle.cd_tree.proofs.WorkedForms.{number, root, inner, copied, y, strike, read_all, refilled, halted, found, complete, escalate, opened, again, judged, leaf, outcome, ending}

-- of two kinds the second halts
hard_halts : halting (record { name = []; halts = false } ∷ record { name = []; halts = true } ∷ []) ≡ 2
hard_halts = refl

-- a root that declares hard, and a domain inside it with three tries
abbrev inside : ℕ → ℕ → List Domain
inside retry detects =
    root retry 2 (copied y ∷ []) (Group (number 1 ∷ []) ∷ [])
    ∷ inner 0 3 detects (copied y ∷ []) (Run (Fill y 7) ∷ [])
    ∷ []

abbrev hard_strikes : List Fault
hard_strikes = strike 1 1 0 1 0 1 ∷ []

-- the inner domain does not declare hard: it escalates at its point, whatever its tries, and the root begins again
handed_up : outcome 2 (read_all 2 hard_strikes (inside 2 1))
    ≡ (opened 0 1 ++ opened 1 1 ++ halted 1 2 ∷ escalate 1 ∷ again 0 2 ++ leaf 1 2 0 (complete 1) ++ judged 0 1 0 ++ complete 0 ∷ [], Done 0, 2 ∷ 2 ∷ [])
unfolding read_node
handed_up = refl

-- the inner domain declares hard: it is found there, and the inner domain's second try goes well
declared : outcome 2 (read_all 2 hard_strikes (inside 2 3))
    ≡ (opened 0 1 ++ opened 1 1 ++ halted 1 2 ∷ found 1 2 ∷ again 1 2 ++ judged 1 1 0 ++ complete 1 ∷ judged 0 1 0 ++ complete 0 ∷ [], Done 0, 1 ∷ 2 ∷ [])
unfolding read_node
declared = refl

-- the root has one try: it declares hard, so it fails with nothing left over, by the inner domain's cause
exhausted : outcome 2 (read_all 2 hard_strikes (inside 1 1))
    ≡ (opened 0 1 ++ opened 1 1 ++ halted 1 2 ∷ escalate 1 ∷ refilled 0 0 ∷ escalate 0 ∷ [], Escalated (blame (number 1) 2) 0, 1 ∷ 1 ∷ [])
unfolding read_node
exhausted = refl

-- where nobody declares hard, one try breaks the whole program off, with hard still to be declared
abbrev undeclared : List Domain
undeclared = root 2 1 (copied y ∷ []) (Run (Fill y 7) ∷ []) ∷ []

broken_off : ending 1 (read_all 2 (strike 0 1 0 1 0 1 ∷ []) undeclared) ≡ (Escalated (blame (number 0) 2) 2, 1 ∷ [])
unfolding read_node
broken_off = refl
