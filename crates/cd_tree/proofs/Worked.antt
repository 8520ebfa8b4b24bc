-- Worked cases on which the reading computes, for one domain and for one inside another: each is proved by computing
-- both sides. Kinds 0 to 3 are flip, lost, link and node.
use Rattle.std.proofs.Common.{◌≡◌, ℕ, List, [], ◌∷◌, ◌++◌, refl}
use Rattle.cd_tree.specs.declared.domain.Item.TheVariants.{Run, Group}
use Rattle.cd_tree.specs.declared.domain.Domain.{Domain}
use Rattle.cd_tree.specs.declared.document.Fault.{Fault}
use Rattle.cd_tree.specs.declared.operation.Op.TheVariants.{Fill}
use Rattle.cd_tree.specs.Reading.{Done, Escalated, blame, read_node}
use Rattle.cd_tree.proofs.WorkedForms.{number, root, inner, copied, y, strike, read_all, refilled, complete, escalate, opened, again, judged, leaf, outcome, ending, tallied}

-- one domain that fills a region and finds flips
abbrev filling : List Domain
filling = root 2 1 (copied y ∷ []) (Run (Fill y 7) ∷ []) ∷ []

-- not struck it begins once
not_struck : outcome 1 (read_all 0 [] filling) ≡ (leaf 0 1 0 (complete 0), Done 0, 1 ∷ [])
unfolding read_node
not_struck = refl

-- struck at its first begin, it restores and ends right at its second
restored : outcome 1 (read_all 0 (strike 0 1 1 0 0 255 ∷ []) filling)
    ≡ (opened 0 1 ++ judged 0 1 1 ++ again 0 2 ++ judged 0 1 0 ++ complete 0 ∷ [], Done 0, 2 ∷ [])
unfolding read_node
restored = refl

-- one try was a repeat, and one fault struck
restored_tally : tallied (read_all 0 (strike 0 1 1 0 0 255 ∷ []) filling) ≡ (1, 1)
unfolding read_node
restored_tally = refl

-- a strike at a begin that never comes strikes nothing
never_struck : ending 1 (read_all 0 (strike 0 5 0 0 0 1 ∷ []) filling) ≡ (Done 0, 1 ∷ [])
unfolding read_node
never_struck = refl

-- struck at both of its tries, the root refills once more and escalates: the cause is the root with the kind found, and
-- nothing is left over
exhausted : outcome 1 (read_all 0 (strike 0 1 1 0 0 255 ∷ strike 0 2 1 0 0 1 ∷ []) filling)
    ≡ (opened 0 1 ++ judged 0 1 1 ++ again 0 2 ++ judged 0 1 1 ++ refilled 0 0 ∷ escalate 0 ∷ [], Escalated (blame (number 0) 1) 0, 2 ∷ [])
unfolding read_node
exhausted = refl

-- a domain inside another, which declares kinds of its own; the outer one begins so often at most
abbrev inside : ℕ → ℕ → List Domain
inside retry detects =
    root retry detects (copied y ∷ []) (Group (number 1 ∷ []) ∷ [])
    ∷ inner 0 1 1 (copied y ∷ []) (Run (Fill y 7) ∷ [])
    ∷ []

abbrev inner_struck : List Fault
inner_struck = strike 1 1 1 0 0 255 ∷ []

-- the inner domain finds a flip at its only try and escalates, the root begins again, and all goes well
escalated_once : outcome 2 (read_all 0 inner_struck (inside 2 8))
    ≡ (opened 0 1 ++ leaf 1 1 1 (escalate 1) ++ again 0 2 ++ leaf 1 2 0 (complete 1) ++ judged 0 1 0 ++ complete 0 ∷ [], Done 0, 2 ∷ 2 ∷ [])
unfolding read_node
escalated_once = refl

-- the same with one try at the root: the cause is the inner domain's
inner_cause : ending 2 (read_all 0 inner_struck (inside 1 8)) ≡ (Escalated (blame (number 1) 1) 0, 1 ∷ 1 ∷ [])
unfolding read_node
inner_cause = refl

abbrev link_struck : List Fault
link_struck = strike 1 1 1 2 1 4 ∷ []

-- the inner domain does not declare the kind and completes with it as its leak; the root finds it and begins again
leak_found : outcome 2 (read_all 0 link_struck (inside 2 4))
    ≡ (opened 0 1 ++ leaf 1 1 0 (complete 1) ++ judged 0 1 4 ++ again 0 2 ++ leaf 1 2 0 (complete 1) ++ judged 0 1 0 ++ complete 0 ∷ [], Done 0, 2 ∷ 2 ∷ [])
unfolding read_node
leak_found = refl

-- where neither declares the kind, the root itself leaks
undeclared_leak : (read_all 0 link_struck (inside 2 8)).answer ≡ Done 4
unfolding read_node
undeclared_leak = refl
