-- Worked cases of what is refused of a fault, and of a script: each is proved by computing. Kinds 0 to 2 are flip, node
-- and link.
use Rattle.std.proofs.Common.{◌≡◌, ◌≢◌, ℕ, zero, suc, ◌<◌, true, false, List, [], ◌∷◌, get_or, map, None, Some, refl, ap, arith, inl, inr}
use Rattle.cd_base.specs.declared.place.Place.{Place}
use Rattle.cd_base.specs.declared.place.Range.{Range}
use Rattle.cd_tree.specs.declared.domain.NodeId.{NodeId}
use Rattle.cd_tree.specs.declared.domain.Item.TheVariants.{Run, Group}
use Rattle.cd_tree.specs.declared.domain.How.TheVariants.{Copy}
use Rattle.cd_tree.specs.declared.domain.Entry.{Entry}
use Rattle.cd_tree.specs.declared.domain.Domain.{Domain}
use Rattle.cd_tree.specs.declared.document.RawFault.{RawFault}
use Rattle.cd_tree.specs.declared.document.Fault.{Fault}
use Rattle.cd_tree.specs.declared.operation.Op.TheVariants.{Fill}
use Rattle.cd_tree.specs.declared.refusal.Refusal.TheVariants.{UnknownPath, NoSuchItem, OutsideReach, Undetected}
use Rattle.cd_tree.specs.Paths.{path_text_of}
use Rattle.cd_script.specs.Acceptance.{HasPath, last_point, reaches, FaultOf, FirstFault, IsFoundAs, AreFoundAs}

abbrev number : ℕ → NodeId
number n = record { 0 = n }

abbrev place : ℕ → ℕ → Place
place region index = record { region = region; index = index }

abbrev part : ℕ → ℕ → Range
part region high = record { region = region; low = 0; high = high }

abbrev copied : Range → Entry
copied range = record { range = range; how = Copy }

-- a root r that finds node, with entries in two regions, and in it b, which finds flip and fills the first region
abbrev above : Domain
above =
    record { name = 114 ∷ []; parent = None; retry = 2; detects = 2; entries = copied (part 0 4) ∷ copied (part 1 2) ∷ []; items = Group (number 1 ∷ []) ∷ [] }

abbrev below : Domain
below =
    record { name = 98 ∷ []; parent = Some (number 0); retry = 1; detects = 1; entries = []; items = Run (Fill (part 0 4) 7) ∷ Run (Fill (part 0 4) 9) ∷ [] }

abbrev pair : List Domain
pair = above ∷ below ∷ []

-- as texts: r, r/b and r/c
abbrev r : List ℕ
r = 114 ∷ []

abbrev r/b : List ℕ
r/b = 114 ∷ 47 ∷ 98 ∷ []

abbrev r/c : List ℕ
r/c = 114 ∷ 47 ∷ 99 ∷ []

abbrev strike : List ℕ → ℕ → ℕ → Place → RawFault
strike path item kind p = record { path = path; begin = 1; item = item; kind = record { 0 = kind }; place = p; mask = 255 }

b_has_its_path : HasPath pair r/b (number 1)
b_has_its_path = (omega arith, refl)

-- a domain of n items has the points 0 to n; where there is no domain there is no point behind 0
last_points : map (λ n. last_point pair (number n)) (0 ∷ 1 ∷ 2 ∷ []) ≡ 1 ∷ 2 ∷ 0 ∷ []
last_points = refl

-- b writes the first region alone, the root reaches what it preserves, and what is no domain reaches nothing
reach_of_b : map (λ p. reaches pair (number 1) p) (place 0 3 ∷ place 0 4 ∷ place 1 0 ∷ []) ≡ true ∷ false ∷ false ∷ []
reach_of_b = refl

reach_of_root : map (λ p. reaches pair (number 0) p) (place 0 3 ∷ place 0 4 ∷ place 1 0 ∷ []) ≡ true ∷ false ∷ true ∷ []
reach_of_root = refl

reach_of_none : reaches pair (number 2) (place 0 3) ≡ false
reach_of_none = refl

-- a flip at the last point of b
abbrev flip : RawFault
flip = strike r/b 2 0 (place 0 3)

flip_passes : (at : ℕ) → FaultOf pair (at, flip) None
flip_passes at = (number 1, b_has_its_path, ((omega arith, refl), refl))

-- a node in b, which its parent declares
inherited_passes : FaultOf pair (1, strike r/b 0 1 (place 0 0)) None
inherited_passes = (number 1, b_has_its_path, ((omega arith, refl), refl))

abbrev third : List ℕ → ℕ
third text = get_or text 2 0

differ : (m n : ℕ) → m < n → m ≡ n → ⊥
differ m n less same = absurd (omega arith)

-- no domain has the path r/c
no_path_at : (k : ℕ) → k < 2 → path_text_of pair (number k) ≢ r/c
no_path_at zero within same = differ 0 99 (omega arith) (ap third same)
no_path_at (suc zero) within same = differ 98 99 (omega arith) (ap third same)
no_path_at (suc (suc k)) within same = absurd (omega arith)

unknown_path : FaultOf pair (1, strike r/c 0 0 (place 0 0)) (Some (UnknownPath 1))
unknown_path = (refl, λ id within. no_path_at id.0 within)

-- the point behind the last, at a place that is out of reach too: the point is asked about first
behind_the_last : FaultOf pair (5, strike r/b 3 2 (place 1 0)) (Some (NoSuchItem 5))
behind_the_last = (refl, (number 1, b_has_its_path, omega arith))

-- a place that only the root reaches, with a kind that no one declares: the place is asked about first
out_of_reach : FaultOf pair (3, strike r/b 2 2 (place 1 0)) (Some (OutsideReach 3))
out_of_reach = (refl, (number 1, b_has_its_path, omega arith, refl))

-- a kind that no one declares, and one that only a domain below declares
undeclared : FaultOf pair (1, strike r/b 2 2 (place 0 0)) (Some (Undetected 1))
undeclared = (refl, (number 1, b_has_its_path, (omega arith, refl), refl))

abbrev from_below : RawFault
from_below = strike r 1 0 (place 1 1)

declared_below : (at : ℕ) → FaultOf pair (at, from_below) (Some (Undetected at))
declared_below at = (refl, (number 0, (omega arith, refl), (omega arith, refl), refl))

-- of a script the first refusal counts, with its number from 1
second_refused : FirstFault pair (flip ∷ from_below ∷ strike r/c 0 0 (place 0 0) ∷ []) (Some (Undetected 2))
second_refused = inr (flip_passes 1, inl (declared_below 2))

first_refused : FirstFault pair (from_below ∷ flip ∷ []) (Some (Undetected 1))
first_refused = inl (declared_below 1)

not_from_zero : FirstFault pair (from_below ∷ []) (Some (Undetected 0)) → ⊥
not_from_zero (inl (number, rest)) = absurd (omega arith)
not_from_zero (inr (none, rest)) = absurd (cc)

none_refused : FirstFault pair (flip ∷ flip ∷ []) None
none_refused = (flip_passes 1, (flip_passes 2, refl))

-- no script, no refusal
nothing_refused : FirstFault pair [] None
nothing_refused = refl

-- the flip as it is accepted, with the number of its domain
abbrev flip_of_b : Fault
flip_of_b = record { node = number 1; begin = 1; item = 2; kind = record { 0 = 0 }; place = place 0 3; mask = 255 }

flip_found : IsFoundAs pair flip flip_of_b
flip_found = (b_has_its_path, refl)

both_found : AreFoundAs pair (flip ∷ flip ∷ []) (flip_of_b ∷ flip_of_b ∷ [])
both_found = (flip_found, (flip_found, tt))

none_left_out : AreFoundAs pair (flip ∷ flip ∷ []) (flip_of_b ∷ []) → ⊥
none_left_out (found, rest) = rest
