-- What a statement that is taken has found, and the change of the draft that it makes. What all these changes keep, every
-- statement keeps.
use Rattle.std.proofs.Common.{◌≡◌, ℕ, ◌+◌, ◌<◌, ◌≤◌, ◌&&◌, ◌^◌, not, nat_lt, nat_le, Bool, true, false, List, [], ◌∷◌, ◌++◌, Option, None, Some, Result, Ok, codes, length, slice_get, subst, Contains, inl, inr, bytes_eq, ltb-true, leb-true, if◌then◌else◌}
use Rattle.std.proofs.lemmas.Bool.{and_parts, not-true}
use Rattle.cd_base.specs.declared.place.Place.{Place}
use Rattle.cd_base.specs.declared.place.Range.{Range}
use Rattle.cd_base.specs.declared.pattern.Pattern.{Pattern}
use Rattle.cd_tree.specs.Limits.{name_limit, kinds_limit, regions_limit, words_limit, faults_limit, domains_limit, depth_limit, items_limit, preserves_limit, entries_limit, retry_limit}
use Rattle.cd_tree.specs.declared.document.Region.{Region}
use Rattle.cd_tree.specs.declared.document.RawFault.{RawFault}
use Rattle.cd_tree.specs.declared.domain.NodeId.{NodeId}
use Rattle.cd_tree.specs.declared.domain.How.{How}
use Rattle.cd_tree.specs.declared.domain.Item.TheVariants.{Run}
use Rattle.cd_tree.specs.declared.kinds.Kind.{Kind}
use Rattle.cd_tree.specs.declared.operation.Op.{Op}
use Rattle.cd_tree.specs.declared.operation.Op.TheVariants.{Fill, Copy, Add, Sub, Mul, Axpy, Scan, Sum, Dot, Max, Stencil, Spmv}
use Rattle.cd_tree.specs.declared.refusal.Which.TheVariants as which
use Rattle.cd_tree.specs.Operations.{IsFull}
use Rattle.cd_tokens.specs.declared.wrong.Wrong.{Wrong}
use Rattle.cd_tokens.specs.declared.wrong.Wrong.TheVariants.{Form, Taken, Unfit, Limit}
use Rattle.cd_tokens.specs.declared.sums.Variable.{Variable}
use Rattle.cd_tokens.specs.Wrongs.{both, guard, room, all_hold, ◌>>=◌}
use Rattle.cd_tokens.specs.Sums.{is_base, expression}
use Rattle.cd_tokens.specs.Names.{name, path}
use Rattle.cd_tokens.specs.Kinds.{kind, kind_set, pattern}
use Rattle.cd_parse.specs.declared.draft.Stage.TheVariants.{Kinds, Regions, Strikes}
use Rattle.cd_parse.specs.declared.draft.Level.{Level}
use Rattle.cd_parse.specs.Draft.{DraftModel, is_start, takes_kinds, takes_regions, is_open, takes_items, takes_entries, takes_domains, is_closed, takes_strikes, add_item, add_entry, add_domain, level_of, open_group, close_group, close_domain, innermost, parent_of, has_kind_named, has_region_named, has_child_named, kind_name, four_kinds}
use Rattle.cd_parse.specs.Ranges.{range_in, place_in}
use Rattle.cd_parse.specs.Operations.{op_in, fits}
use Rattle.cd_parse.specs.Heads.{name_fits, begun, cd_in, is_kind_name, with_kind_named, kind_in, words_fit, region_of, with_region, region_statement, room_for_domain, domain_named, has_domain_form, with_domain, domain_in, entries_of, entry_of, with_entry_of, how_in, preserve_in, group_in, ended_in, ended, end_in, faults_in, with_fault, fault_of, time_in, damage_in, strike_in}
use Rattle.cd_parse.specs.Statements.{with_op, operation_in, statement, statement_in}
use Rattle.cd_parse.specs.Sound.{IsRangeOf, IsFaultOf, IsSound}
use Rattle.cd_parse.specs.WellRead.{IsReadPattern, IsReadHow, IsReadPath}
use Rattle.cd_parse.proofs.SoundGuards.{Bound, bound, both_ok, from_both, same_ok, guard_ok, room_ok, hold_ok, if_ok, if_else_err}
use Rattle.cd_parse.proofs.SoundNumbers.{expression_small, pattern_read, how_read, name_is_base, path_read}
use Rattle.cd_parse.proofs.SoundNames.{name_is_no_path, kind_known, kind_set_known}
use Rattle.cd_parse.proofs.SoundPlaces.{range_known, range_full, place_known}
use Rattle.cd_parse.proofs.SoundChanges.{at_levels, in_domain}
use Rattle.cd_parse.proofs.SoundOps.{OfRanges, Makes, op_made, op_all, op_full}

-- ---- what is found

-- a kind more, with a name that is no other's
pub record FoundKind (draft : DraftModel) (name : List ℕ) : Type 0 where
  pub stage : takes_kinds draft.stage ≡ true
  pub base : is_base name ≡ true
  pub some : bytes_eq name (codes "none") ≡ false
  pub new : has_kind_named draft.kinds name ≡ false
  pub short : length name ≤ name_limit
  pub room : length draft.kinds < kinds_limit

-- a region more, with a name that is no other's, and a word
pub record FoundRegion (draft : DraftModel) (name : List ℕ) (size : ℕ) (pattern : Pattern) : Type 0 where
  pub stage : takes_regions draft.stage ≡ true
  pub base : is_base name ≡ true
  pub numbers : IsReadPattern pattern
  pub new : has_region_named draft.regions name ≡ false
  pub some : 0 < size
  pub short : length name ≤ name_limit
  pub room : length draft.regions < regions_limit
  pub words : draft.words + size ≤ words_limit

-- a domain more, with a name that no sibling has
pub record FoundDomain (draft : DraftModel) (name : List ℕ) (tries set : ℕ) : Type 0 where
  pub takes : takes_domains draft draft.levels ≡ true
  pub base : is_base name ≡ true
  pub no_path : Contains name 47 → ⊥
  pub known : set < 2 ^ length draft.kinds
  pub new : has_child_named draft.domains (parent_of draft.levels) name ≡ false
  pub short : length name ≤ name_limit
  pub room : length draft.domains < domains_limit
  pub deep : length draft.levels < depth_limit
  pub place : room_for_domain draft.levels draft.items ≡ Ok tt
  pub some : 0 < tries
  pub few : tries ≤ retry_limit

-- an entry more in domain `at`
pub record FoundEntry (draft : DraftModel) (at : ℕ) (range : Range) (how : How) : Type 0 where
  pub full : IsFull range
  pub there : IsRangeOf draft.regions range
  pub numbers : IsReadHow how
  pub room : entries_of (slice_get draft.domains at) < entries_limit
  pub few : draft.preserves < preserves_limit

-- the numbers of an operation have 64 bits
abbrev pub OpText : Op → Type 0
OpText (Fill d k) = k < 2 ^ 64
OpText (Copy d x) = Unit {0}
OpText (Add d x z) = Unit {0}
OpText (Sub d x z) = Unit {0}
OpText (Mul d x z) = Unit {0}
OpText (Axpy d k x) = k < 2 ^ 64
OpText (Scan d x) = Unit {0}
OpText (Sum d x) = Unit {0}
OpText (Dot d x z) = Unit {0}
OpText (Max d x) = Unit {0}
OpText (Stencil d a b c x) = (a < 2 ^ 64) × (b < 2 ^ 64) × (c < 2 ^ 64)
OpText (Spmv d s c v x) = Unit {0}

-- an operation more
pub record FoundOp (draft : DraftModel) (op : Op) : Type 0 where
  pub full : OfRanges IsFull op
  pub there : OfRanges (IsRangeOf draft.regions) op
  pub numbers : OpText op
  pub fit : fits op ≡ true
  pub room : draft.items < items_limit

-- the path of a strike is of bases, and its numbers have 64 bits
pub record FaultText (fault : RawFault) : Type 0 where
  pub path : IsReadPath fault.path
  pub begin : fault.begin < 2 ^ 64
  pub point : fault.item < 2 ^ 64
  pub mask : fault.mask < 2 ^ 64

-- a strike more
pub record FoundFault (draft : DraftModel) (fault : RawFault) : Type 0 where
  pub stage : takes_strikes draft.stage ≡ true
  pub there : IsFaultOf draft.kinds draft.regions fault
  pub text : FaultText fault
  pub room : length draft.faults < faults_limit

-- ---- what changes

-- a property that each change of a sound draft keeps, under what the statement that makes it has found
pub record KeptByChanges (P : DraftModel → Type 0) : Type 0 where
  pub first : (draft : DraftModel) → IsSound draft → P draft → is_start draft.stage ≡ true
      → P (record draft { stage = Regions; version = 1; kinds = four_kinds })
  pub second : (draft : DraftModel) → IsSound draft → P draft → is_start draft.stage ≡ true → P (record draft { stage = Kinds; version = 2 })
  pub kind : (draft : DraftModel) (name : List ℕ) (halts : Bool) → IsSound draft → P draft → FoundKind draft name
      → P (record draft { kinds = draft.kinds ++ kind_name name halts ∷ [] })
  pub region : (draft : DraftModel) (name : List ℕ) (size : ℕ) (pattern : Pattern) → IsSound draft → P draft → FoundRegion draft name size pattern
      → P (record draft { stage = Regions; regions = draft.regions ++ region_of name size pattern ∷ []; words = draft.words + size })
  pub domain : (draft : DraftModel) (name : List ℕ) (tries set : ℕ) → IsSound draft → P draft → FoundDomain draft name tries set
      → P (add_domain (domain_named name (parent_of draft.levels) tries set) draft)
  pub entry : (draft : DraftModel) (at : ℕ) (outer : List Level) (range : Range) (how : How) → IsSound (in_domain draft at None outer)
      → P (in_domain draft at None outer) → FoundEntry draft at range how → P (add_entry at (entry_of range how) (in_domain draft at None outer))
  pub op : (draft : DraftModel) (at : ℕ) (outer : List Level) (op : Op) → IsSound (in_domain draft at None outer) → P (in_domain draft at None outer)
      → FoundOp draft op → P (add_item at (Run op) (in_domain draft at None outer))
  pub group : (draft : DraftModel) (at : ℕ) (outer : List Level) → IsSound (in_domain draft at None outer) → P (in_domain draft at None outer)
      → draft.items < items_limit → P (open_group (level_of at None ∷ outer) (in_domain draft at None outer))
  pub group_end : (draft : DraftModel) (at : ℕ) (first : NodeId) (members : List NodeId) (outer : List Level)
      → IsSound (in_domain draft at (Some (first ∷ members)) outer) → P (in_domain draft at (Some (first ∷ members)) outer)
      → P (close_group at (first ∷ members) outer (in_domain draft at (Some (first ∷ members)) outer))
  pub domain_end : (draft : DraftModel) (at : ℕ) (outer : List Level) → IsSound (in_domain draft at None outer) → P (in_domain draft at None outer)
      → P (close_domain outer (in_domain draft at None outer))
  pub faults : (draft : DraftModel) → IsSound draft → P draft → is_closed draft.stage ≡ true → P (record draft { stage = Strikes })
  pub fault : (draft : DraftModel) (fault : RawFault) → IsSound draft → P draft → FoundFault draft fault
      → P (record draft { faults = draft.faults ++ fault ∷ [] })

-- ---- tests that hold

-- the draft that a statement made is the one that it gives
made : (P : DraftModel → Type 0) (one next : DraftModel) → P one → ◌≡◌ {A = Result DraftModel Wrong} (Ok one) (Ok next) → P next
made P one next holds is = subst P (same_ok DraftModel Wrong one next is) holds

-- all these tests hold
abbrev AllOk : List (Result (Unit {0}) Wrong) → Type 0
AllOk [] = Unit {0}
AllOk (test ∷ tests) = (test ≡ Ok tt) × AllOk tests

all_ok : (tests : List (Result (Unit {0}) Wrong)) (u : Unit {0}) → all_hold tests ≡ Ok u → AllOk tests
all_ok [] u is = tt
all_ok (test ∷ tests) u is =
    let parts = hold_ok test tests u is in
    (parts.0, all_ok tests tt parts.1)

-- tests that all hold, and the draft after them
record Held (tests : List (Result (Unit {0}) Wrong)) (done next : DraftModel) : Type 0 where
  holds : AllOk tests
  is : ◌≡◌ {A = Result DraftModel Wrong} (Ok done) (Ok next)

held : (tests : List (Result (Unit {0}) Wrong)) (done next : DraftModel) → (all_hold tests >>= λ _. Ok done) ≡ Ok next → Held tests done next
held tests done next is =
    let parts : Bound (Unit {0}) DraftModel Wrong (all_hold tests) (λ _. Ok done) next =
    bound (Unit {0}) DraftModel Wrong (all_hold tests) (λ _. Ok done) next is in
    record { holds = all_ok tests parts.value parts.is; is = parts.next }

-- a test, and what is done after it
tested : (test : Bool) (step : Result DraftModel Wrong) (next : DraftModel) → (guard test Form >>= λ _. step) ≡ Ok next → (test ≡ true) × (step ≡ Ok next)
tested test step next is =
    let parts : Bound (Unit {0}) DraftModel Wrong (guard test Form) (λ _. step) next =
    bound (Unit {0}) DraftModel Wrong (guard test Form) (λ _. step) next is in
    (guard_ok test Form parts.value parts.is, parts.next)

-- a test and parts that are read beside it, and what is done with the parts
record Read (A : Type 0) (test : Bool) (rest : Result A Wrong) (step : A → Result DraftModel Wrong) (next : DraftModel) : Type 0 where
  value : A
  takes : test ≡ true
  is : rest ≡ Ok value
  done : step value ≡ Ok next

read : (A : Type 0) (test : Bool) (rest : Result A Wrong) (step : A → Result DraftModel Wrong) (next : DraftModel)
    → (both (guard test Form) rest >>= λ p. step p.1) ≡ Ok next → Read A test rest step next
read A test rest step next is =
    let parts : Bound (Unit {0} × A) DraftModel Wrong (both (guard test Form) rest) (λ p. step p.1) next =
    bound (Unit {0} × A) DraftModel Wrong (both (guard test Form) rest) (λ p. step p.1) next is in
    let two = both_ok (Unit {0}) A (guard test Form) rest parts.value parts.is in
    record { value = parts.value.1; takes = guard_ok test Form parts.value.0 two.0; is = two.1; done = parts.next }

-- the same of three parts: what follows from them follows from the whole
from_read : (A B C Q : Type 0) (test : Bool) (r : Result A Wrong) (s : Result B Wrong) (t : Result C Wrong) (step : A × (B × C) → Result DraftModel Wrong) (next : DraftModel)
    → ((a : A) (b : B) (c : C) → test ≡ true → r ≡ Ok a → s ≡ Ok b → t ≡ Ok c → step (a, (b, c)) ≡ Ok next → Q)
    → (both (guard test Form) (both r (both s t)) >>= λ p. step p.1) ≡ Ok next → Q
from_read A B C Q test r s t step next gives =
    from_both (Unit {0}) (A × (B × C)) DraftModel Q (guard test Form) (both r (both s t)) (λ p. step p.1) next
    (λ u v takes parts done.
    let one = both_ok A (B × C) r (both s t) v parts in
    let two = both_ok B C s t v.1 one.1 in
    gives v.0 v.1.0 v.1.1 (guard_ok test Form u takes) one.0 two.0 two.1 done)

short_name : (name : List ℕ) → name_fits name ≡ Ok tt → length name ≤ name_limit
short_name name is = leb-true (length name) name_limit (guard_ok (nat_le (length name) name_limit) _ tt is)

-- ---- cd and kinds

begun_keeps : (P : DraftModel → Type 0) → KeptByChanges P → (draft : DraftModel) (version : List ℕ) (next : DraftModel) → IsSound draft → P draft
    → is_start draft.stage ≡ true → begun draft version ≡ Ok next → P next
begun_keeps P kept draft version next sound holds start is =
    elim (if_ok DraftModel Wrong (bytes_eq version (codes "1")) (Ok (record draft { stage = Regions; version = 1; kinds = four_kinds })) _ next is) [
      | inl first ↦ made P (record draft { stage = Regions; version = 1; kinds = four_kinds }) next (kept.first draft sound holds start) first.1
      | inr other ↦
          let second = if_else_err DraftModel Wrong (bytes_eq version (codes "2")) (Ok (record draft { stage = Kinds; version = 2 })) Form next other.1 in
          made P (record draft { stage = Kinds; version = 2 }) next (kept.second draft sound holds start) second.1
    ]

cd_keeps : (P : DraftModel → Type 0) → KeptByChanges P → (draft : DraftModel) (tokens : List (List ℕ)) (next : DraftModel) → IsSound draft → P draft
    → cd_in draft tokens ≡ Ok next → P next
unfolding cd_in
cd_keeps P kept draft [] next sound holds is = absurd (cc)
cd_keeps P kept draft (version ∷ []) next sound holds is =
    let parts = tested (is_start draft.stage) (begun draft version) next is in
    begun_keeps P kept draft version next sound holds parts.0 parts.1
cd_keeps P kept draft (version ∷ other ∷ more) next sound holds is = absurd (cc)

with_kind_keeps : (P : DraftModel → Type 0) → KeptByChanges P → (draft : DraftModel) (name : List ℕ) (halts : Bool) (next : DraftModel) → IsSound draft → P draft
    → with_kind_named draft name halts ≡ Ok next → P next
unfolding with_kind_named
with_kind_keeps P kept draft name halts next sound holds is =
    let tests : List (Result (Unit {0}) Wrong) =
    guard (not (has_kind_named draft.kinds name)) Taken ∷ name_fits name ∷ room which.Kinds kinds_limit (length draft.kinds) ∷ [] in
    let more : DraftModel = record draft { kinds = draft.kinds ++ kind_name name halts ∷ [] } in
    let form = tested (takes_kinds draft.stage && is_kind_name name) (all_hold tests >>= λ _. Ok more) next is in
    let parts : Held tests more next = held tests more next form.1 in
    let stage = and_parts (takes_kinds draft.stage) (is_kind_name name) form.0 in
    let base = and_parts (is_base name) (not (bytes_eq name (codes "none"))) stage.1 in
    let found : FoundKind draft name =
    record {
      stage = stage.0;
      base = base.0;
      some = not-true (bytes_eq name (codes "none")) base.1;
      new = not-true (has_kind_named draft.kinds name) (guard_ok _ Taken tt parts.holds.0);
      short = short_name name parts.holds.1.0;
      room = room_ok which.Kinds kinds_limit (length draft.kinds) tt parts.holds.1.1.0;
    } in
    made P more next (kept.kind draft name halts sound holds found) parts.is

kind_keeps : (P : DraftModel → Type 0) → KeptByChanges P → (draft : DraftModel) (tokens : List (List ℕ)) (next : DraftModel) → IsSound draft → P draft
    → kind_in draft tokens ≡ Ok next → P next
unfolding kind_in
kind_keeps P kept draft [] next sound holds is = absurd (cc)
kind_keeps P kept draft (name ∷ []) next sound holds is = with_kind_keeps P kept draft name false next sound holds is
kind_keeps P kept draft (name ∷ halt ∷ []) next sound holds is =
    let halts = if_else_err DraftModel Wrong (bytes_eq halt (codes "halt")) (with_kind_named draft name true) Form next is in
    with_kind_keeps P kept draft name true next sound holds halts.1
kind_keeps P kept draft (name ∷ halt ∷ other ∷ more) next sound holds is = absurd (cc)

-- ---- regions

with_region_keeps : (P : DraftModel → Type 0) → KeptByChanges P → (draft : DraftModel) (name : List ℕ) (size : ℕ) (pattern : Pattern) (next : DraftModel) → IsSound draft
    → P draft → takes_regions draft.stage ≡ true → is_base name ≡ true → IsReadPattern pattern → with_region draft name size pattern ≡ Ok next → P next
unfolding with_region
with_region_keeps P kept draft name size pattern next sound holds stage base numbers is =
    let tests : List (Result (Unit {0}) Wrong) =
    guard (not (has_region_named draft.regions name)) Taken ∷ guard (nat_lt 0 size) Unfit ∷ name_fits name
    ∷ room which.Regions regions_limit (length draft.regions) ∷ words_fit (draft.words + size) ∷ [] in
    let more : DraftModel =
    record draft { stage = Regions; regions = draft.regions ++ region_of name size pattern ∷ []; words = draft.words + size } in
    let parts : Held tests more next = held tests more next is in
    let found : FoundRegion draft name size pattern =
    record {
      stage = stage;
      base = base;
      numbers = numbers;
      new = not-true (has_region_named draft.regions name) (guard_ok _ Taken tt parts.holds.0);
      some = ltb-true 0 size (guard_ok (nat_lt 0 size) Unfit tt parts.holds.1.0);
      short = short_name name parts.holds.1.1.0;
      room = room_ok which.Regions regions_limit (length draft.regions) tt parts.holds.1.1.1.0;
      words = leb-true (draft.words + size) words_limit (guard_ok (nat_le (draft.words + size) words_limit) _ tt parts.holds.1.1.1.1.0);
    } in
    made P more next (kept.region draft name size pattern sound holds found) parts.is

region_keeps : (P : DraftModel → Type 0) → KeptByChanges P → (variables : List Variable) (draft : DraftModel) (tokens : List (List ℕ)) (next : DraftModel) → IsSound draft
    → P draft → region_statement variables draft tokens ≡ Ok next → P next
unfolding region_statement
region_keeps P kept variables draft [] next sound holds is = absurd (cc)
region_keeps P kept variables draft (token ∷ []) next sound holds is = absurd (cc)
region_keeps P kept variables draft (token ∷ size ∷ more) next sound holds is =
    from_read (List ℕ) ℕ Pattern (P next) (takes_regions draft.stage) (name variables token) (expression variables size) (pattern variables more)
    (λ p. with_region draft p.0 p.1.0 p.1.1) next
    (λ named words values takes has_name _ has_values.
    with_region_keeps P kept draft named words values next sound holds takes (name_is_base variables token named has_name)
    (pattern_read variables more values has_values)) is

-- ---- domains

with_domain_keeps : (P : DraftModel → Type 0) → KeptByChanges P → (draft : DraftModel) (name : List ℕ) (tries set : ℕ) (next : DraftModel) → IsSound draft → P draft
    → takes_domains draft draft.levels ≡ true → is_base name ≡ true → (Contains name 47 → ⊥) → set < 2 ^ length draft.kinds
    → with_domain draft name tries set ≡ Ok next → P next
unfolding with_domain
with_domain_keeps P kept draft name tries set next sound holds takes base no_path known is =
    let tests : List (Result (Unit {0}) Wrong) =
    guard (not (has_child_named draft.domains (parent_of draft.levels) name)) Taken ∷ name_fits name ∷ room which.Domains domains_limit (length draft.domains)
    ∷ room which.Depth depth_limit (length draft.levels) ∷ room_for_domain draft.levels draft.items
    ∷ guard (nat_lt 0 tries && nat_le tries retry_limit) (Limit which.Retry tries) ∷ [] in
    let more : DraftModel = add_domain (domain_named name (parent_of draft.levels) tries set) draft in
    let parts : Held tests more next = held tests more next is in
    let counted = and_parts (nat_lt 0 tries) (nat_le tries retry_limit) (guard_ok (nat_lt 0 tries && nat_le tries retry_limit) _ tt parts.holds.1.1.1.1.1.0) in
    let found : FoundDomain draft name tries set =
    record {
      takes = takes;
      base = base;
      no_path = no_path;
      known = known;
      new = not-true (has_child_named draft.domains (parent_of draft.levels) name) (guard_ok _ Taken tt parts.holds.0);
      short = short_name name parts.holds.1.0;
      room = room_ok which.Domains domains_limit (length draft.domains) tt parts.holds.1.1.0;
      deep = room_ok which.Depth depth_limit (length draft.levels) tt parts.holds.1.1.1.0;
      place = parts.holds.1.1.1.1.0;
      some = ltb-true 0 tries counted.0;
      few = leb-true tries retry_limit counted.1;
    } in
    made P more next (kept.domain draft name tries set sound holds found) parts.is

domain_keeps : (P : DraftModel → Type 0) → KeptByChanges P → (variables : List Variable) (draft : DraftModel) (tokens : List (List ℕ)) (next : DraftModel) → IsSound draft
    → P draft → domain_in variables draft tokens ≡ Ok next → P next
unfolding domain_in
domain_keeps P kept variables draft [] next sound holds is = absurd (cc)
domain_keeps P kept variables draft (token ∷ []) next sound holds is = absurd (cc)
domain_keeps P kept variables draft (token ∷ retry ∷ []) next sound holds is = absurd (cc)
domain_keeps P kept variables draft (token ∷ retry ∷ tries ∷ []) next sound holds is = absurd (cc)
domain_keeps P kept variables draft (token ∷ retry ∷ tries ∷ detects ∷ []) next sound holds is = absurd (cc)
domain_keeps P kept variables draft (token ∷ retry ∷ tries ∷ detects ∷ kinds ∷ []) next sound holds is =
    from_read (List ℕ) ℕ ℕ (P next) (has_domain_form draft retry detects) (name variables token) (expression variables tries) (kind_set draft.kinds kinds)
    (λ p. with_domain draft p.0 p.1.0 p.1.1) next
    (λ named count set form has_name _ has_set.
    let takes = and_parts (takes_domains draft draft.levels) (bytes_eq retry (codes "retry") && bytes_eq detects (codes "detects")) form in
    with_domain_keeps P kept draft named count set next sound holds takes.0 (name_is_base variables token named has_name)
    (name_is_no_path variables token named has_name) (kind_set_known draft.kinds kinds set has_set)) is
domain_keeps P kept variables draft (token ∷ retry ∷ tries ∷ detects ∷ kinds ∷ other ∷ more) next sound holds is = absurd (cc)

-- ---- entries

entry_at : (P : DraftModel → Type 0) → KeptByChanges P → (draft : DraftModel) (levels : List Level) (range : Range) (how : How) → IsSound (at_levels draft levels)
    → P (at_levels draft levels) → takes_entries draft levels ≡ true → FoundEntry draft (innermost levels) range how
    → P (add_entry (innermost levels) (entry_of range how) (at_levels draft levels))
entry_at P kept draft [] range how sound holds takes found = absurd (cc)
entry_at P kept draft (level ∷ outer) range how sound holds takes found = in_group level.group level.domain sound holds takes found
  where
    in_group : (group : Option (List NodeId)) (at : ℕ) → IsSound (in_domain draft at group outer) → P (in_domain draft at group outer)
        → takes_entries draft (level_of at group ∷ outer) ≡ true → FoundEntry draft at range how
        → P (add_entry at (entry_of range how) (in_domain draft at group outer))
    in_group None at sound holds takes found = kept.entry draft at outer range how sound holds found
    in_group (Some members) at sound holds takes found = absurd (cc)

with_entry_keeps : (P : DraftModel → Type 0) → KeptByChanges P → (draft : DraftModel) (range : Range) (how : How) (next : DraftModel) → IsSound draft → P draft
    → takes_entries draft draft.levels ≡ true → IsFull range → IsRangeOf draft.regions range → IsReadHow how → with_entry_of draft range how ≡ Ok next → P next
unfolding with_entry_of
with_entry_keeps P kept draft range how next sound holds takes full there numbers is =
    let at : ℕ = innermost draft.levels in
    let tests : List (Result (Unit {0}) Wrong) =
    room which.Entries entries_limit (entries_of (slice_get draft.domains at)) ∷ room which.Preserves preserves_limit draft.preserves ∷ [] in
    let more : DraftModel = add_entry at (entry_of range how) draft in
    let parts : Held tests more next = held tests more next is in
    let found : FoundEntry draft at range how =
    record {
      full = full;
      there = there;
      numbers = numbers;
      room = room_ok which.Entries entries_limit (entries_of (slice_get draft.domains at)) tt parts.holds.0;
      few = room_ok which.Preserves preserves_limit draft.preserves tt parts.holds.1.0;
    } in
    made P more next (entry_at P kept draft draft.levels range how sound holds takes found) parts.is

preserve_keeps : (P : DraftModel → Type 0) → KeptByChanges P → (variables : List Variable) (draft : DraftModel) (tokens : List (List ℕ)) (next : DraftModel) → IsSound draft
    → P draft → preserve_in variables draft tokens ≡ Ok next → P next
unfolding preserve_in
preserve_keeps P kept variables draft [] next sound holds is = absurd (cc)
preserve_keeps P kept variables draft (token ∷ more) next sound holds is =
    let rest : Result (Range × How) Wrong = both (range_in variables draft.regions token) (how_in variables more) in
    let parts : Read (Range × How) (takes_entries draft draft.levels) rest (λ p. with_entry_of draft p.0 p.1) next =
    read (Range × How) (takes_entries draft draft.levels) rest (λ p. with_entry_of draft p.0 p.1) next is in
    let v : Range × How = parts.value in
    let one = both_ok Range How (range_in variables draft.regions token) (how_in variables more) v parts.is in
    with_entry_keeps P kept draft v.0 v.1 next sound holds parts.takes (range_full variables draft.regions token v.0 sound.heads.some_words one.0)
    (range_known variables draft.regions token v.0 sound.heads.some_words one.0) (how_read variables more v.1 one.1) parts.done

-- ---- operations

op_text : (variables : List Variable) (regions : List Region) (keyword : List ℕ) (tokens : List (List ℕ)) (op : Op)
    → op_in variables regions keyword tokens ≡ Ok op → OpText op
op_text variables regions keyword tokens op is =
    let makes : Makes (λ _. Unit {0}) OpText =
    record {
      fill = λ d k p n. n;
      copy = λ d x p q. tt;
      add = λ d x z p q r. tt;
      sub = λ d x z p q r. tt;
      mul = λ d x z p q r. tt;
      axpy = λ d k x p n q. n;
      scan = λ d x p q. tt;
      sum = λ d x p q. tt;
      dot = λ d x z p q r. tt;
      greatest = λ d x p q. tt;
      stencil = λ d a b c x p l m n q. (l, m, n);
      spmv = λ d s c v x p q r t u. tt;
    } in
    op_made (λ _. Unit {0}) OpText makes variables regions keyword tokens op (λ token r there. tt) is

op_at : (P : DraftModel → Type 0) → KeptByChanges P → (draft : DraftModel) (levels : List Level) (op : Op) → IsSound (at_levels draft levels)
    → P (at_levels draft levels) → takes_items levels ≡ true → FoundOp draft op → P (add_item (innermost levels) (Run op) (at_levels draft levels))
op_at P kept draft [] op sound holds takes found = absurd (cc)
op_at P kept draft (level ∷ outer) op sound holds takes found = in_group level.group level.domain sound holds takes
  where
    in_group : (group : Option (List NodeId)) (at : ℕ) → IsSound (in_domain draft at group outer) → P (in_domain draft at group outer)
        → not (is_open group) ≡ true → P (add_item at (Run op) (in_domain draft at group outer))
    in_group None at sound holds takes = kept.op draft at outer op sound holds found
    in_group (Some members) at sound holds takes = absurd (cc)

operation_keeps : (P : DraftModel → Type 0) → KeptByChanges P → (variables : List Variable) (draft : DraftModel) (keyword : List ℕ) (tokens : List (List ℕ)) (next : DraftModel)
    → IsSound draft → P draft → operation_in variables draft keyword tokens ≡ Ok next → P next
unfolding operation_in with_op
operation_keeps P kept variables draft keyword tokens next sound holds is =
    let parts : Read Op (takes_items draft.levels) (op_in variables draft.regions keyword tokens) (with_op draft) next =
    read Op (takes_items draft.levels) (op_in variables draft.regions keyword tokens) (with_op draft) next is in
    let op : Op = parts.value in
    let tests : List (Result (Unit {0}) Wrong) = guard (fits op) Unfit ∷ room which.Items items_limit draft.items ∷ [] in
    let more : DraftModel = add_item (innermost draft.levels) (Run op) draft in
    let after : Held tests more next = held tests more next parts.done in
    let found : FoundOp draft op =
    record {
      full = op_full variables draft.regions keyword tokens op sound.heads.some_words parts.is;
      there = op_all (IsRangeOf draft.regions) variables draft.regions keyword tokens op
          (λ token r. range_known variables draft.regions token r sound.heads.some_words) parts.is;
      numbers = op_text variables draft.regions keyword tokens op parts.is;
      fit = guard_ok (fits op) Unfit tt after.holds.0;
      room = room_ok which.Items items_limit draft.items tt after.holds.1.0;
    } in
    made P more next (op_at P kept draft draft.levels op sound holds parts.takes found) after.is

-- ---- groups and ends

group_at : (P : DraftModel → Type 0) → KeptByChanges P → (draft : DraftModel) (levels : List Level) → IsSound (at_levels draft levels)
    → P (at_levels draft levels) → takes_items levels ≡ true → draft.items < items_limit → P (open_group levels (at_levels draft levels))
group_at P kept draft [] sound holds takes few = absurd (cc)
group_at P kept draft (level ∷ outer) sound holds takes few = in_group level.group level.domain sound holds takes
  where
    in_group : (group : Option (List NodeId)) (at : ℕ) → IsSound (in_domain draft at group outer) → P (in_domain draft at group outer)
        → not (is_open group) ≡ true → P (open_group (level_of at group ∷ outer) (in_domain draft at group outer))
    in_group None at sound holds takes = kept.group draft at outer sound holds few
    in_group (Some members) at sound holds takes = absurd (cc)

group_keeps : (P : DraftModel → Type 0) → KeptByChanges P → (draft : DraftModel) (tokens : List (List ℕ)) (next : DraftModel) → IsSound draft → P draft
    → group_in draft tokens ≡ Ok next → P next
unfolding group_in
group_keeps P kept draft [] next sound holds is =
    let tests : List (Result (Unit {0}) Wrong) = guard (takes_items draft.levels) Form ∷ room which.Items items_limit draft.items ∷ [] in
    let more : DraftModel = open_group draft.levels draft in
    let parts : Held tests more next = held tests more next is in
    made P more next
    (group_at P kept draft draft.levels sound holds (guard_ok (takes_items draft.levels) Form tt parts.holds.0)
    (room_ok which.Items items_limit draft.items tt parts.holds.1.0)) parts.is
group_keeps P kept draft (token ∷ tokens) next sound holds is = absurd (cc)

ended_keeps : (P : DraftModel → Type 0) → KeptByChanges P → (draft : DraftModel) (levels : List Level) (next : DraftModel) → IsSound (at_levels draft levels)
    → P (at_levels draft levels) → ended levels (at_levels draft levels) ≡ Ok next → P next
ended_keeps P kept draft [] next sound holds is = absurd (cc)
ended_keeps P kept draft (level ∷ outer) next sound holds is = in_group level.group level.domain sound holds is
  where
    in_group : (group : Option (List NodeId)) (at : ℕ) → IsSound (in_domain draft at group outer) → P (in_domain draft at group outer)
        → ended_in group at outer (in_domain draft at group outer) ≡ Ok next → P next
    in_group None at sound holds is = made P (close_domain outer (in_domain draft at None outer)) next (kept.domain_end draft at outer sound holds) is
    in_group (Some []) at sound holds is = absurd (cc)
    in_group (Some (first ∷ members)) at sound holds is =
        made P (close_group at (first ∷ members) outer (in_domain draft at (Some (first ∷ members)) outer)) next
        (kept.group_end draft at first members outer sound holds) is

end_keeps : (P : DraftModel → Type 0) → KeptByChanges P → (draft : DraftModel) (tokens : List (List ℕ)) (next : DraftModel) → IsSound draft → P draft
    → end_in draft tokens ≡ Ok next → P next
unfolding end_in
end_keeps P kept draft [] next sound holds is = ended_keeps P kept draft draft.levels next sound holds is
end_keeps P kept draft (token ∷ tokens) next sound holds is = absurd (cc)

-- ---- faults and strikes

faults_keep : (P : DraftModel → Type 0) → KeptByChanges P → (draft : DraftModel) (tokens : List (List ℕ)) (next : DraftModel) → IsSound draft → P draft
    → faults_in draft tokens ≡ Ok next → P next
unfolding faults_in
faults_keep P kept draft [] next sound holds is =
    let parts = tested (is_closed draft.stage) (Ok (record draft { stage = Strikes })) next is in
    made P (record draft { stage = Strikes }) next (kept.faults draft sound holds parts.0) parts.1
faults_keep P kept draft (token ∷ tokens) next sound holds is = absurd (cc)

-- what is read of a strike
abbrev Strike : Type 0
Strike = List ℕ × ((ℕ × ℕ) × (Kind × (Place × ℕ)))

abbrev struck_by : Strike → RawFault
struck_by v = fault_of v.0 v.1.0.0 v.1.0.1 v.1.1.0 v.1.1.1.0 v.1.1.1.1

damage_found : (variables : List Variable) (draft : DraftModel) (token place mask : List ℕ) (p : Kind × (Place × ℕ)) → IsSound draft
    → damage_in variables draft token place mask ≡ Ok p
    → (kind draft.kinds token ≡ Ok p.0) × (place_in variables draft.regions place ≡ Ok p.1.0) × (expression variables mask ≡ Ok p.1.1)
unfolding damage_in
damage_found variables draft token place mask p sound is =
    let one = both_ok Kind (Place × ℕ) (kind draft.kinds token) (both (place_in variables draft.regions place) (expression variables mask)) p is in
    let two = both_ok Place ℕ (place_in variables draft.regions place) (expression variables mask) p.1 one.1 in
    (one.0, two.0, two.1)

fault_found : (variables : List Variable) (draft : DraftModel) (domain begin point token place mask : List ℕ) (v : Strike) → IsSound draft
    → both (path variables domain) (both (time_in variables begin point) (damage_in variables draft token place mask)) ≡ Ok v
    → FaultText (struck_by v) × IsFaultOf draft.kinds draft.regions (struck_by v)
unfolding time_in
fault_found variables draft domain begin point token place mask v sound is =
    let damage : Result (Kind × (Place × ℕ)) Wrong = damage_in variables draft token place mask in
    let time : Result (ℕ × ℕ) Wrong = both (expression variables begin) (expression variables point) in
    let one = both_ok (List ℕ) ((ℕ × ℕ) × (Kind × (Place × ℕ))) (path variables domain) (both time damage) v is in
    let two = both_ok (ℕ × ℕ) (Kind × (Place × ℕ)) time damage v.1 one.1 in
    let times = both_ok ℕ ℕ (expression variables begin) (expression variables point) v.1.0 two.0 in
    let struck = damage_found variables draft token place mask v.1.1 sound two.1 in (
      record {
        path = path_read variables domain v.0 one.0;
        begin = expression_small variables begin v.1.0.0 times.0;
        point = expression_small variables point v.1.0.1 times.1;
        mask = expression_small variables mask v.1.1.1.1 struck.2;
      },
      record {
        kind = kind_known draft.kinds token v.1.1.0 struck.0;
        place = place_known variables draft.regions place v.1.1.1.0 sound.heads.some_words struck.1;
      },
    )

with_fault_keeps : (P : DraftModel → Type 0) → KeptByChanges P → (draft : DraftModel) (fault : RawFault) (next : DraftModel) → IsSound draft → P draft
    → takes_strikes draft.stage ≡ true → IsFaultOf draft.kinds draft.regions fault → FaultText fault → with_fault draft fault ≡ Ok next → P next
with_fault_keeps P kept draft fault next sound holds stage there text is =
    let few : Result (Unit {0}) Wrong = room which.Faults faults_limit (length draft.faults) in
    let more : DraftModel = record draft { faults = draft.faults ++ fault ∷ [] } in
    let parts : Bound (Unit {0}) DraftModel Wrong few (λ _. Ok more) next = bound (Unit {0}) DraftModel Wrong few (λ _. Ok more) next is in
    let found : FoundFault draft fault =
    record { stage = stage; there = there; text = text; room = room_ok which.Faults faults_limit (length draft.faults) parts.value parts.is } in
    made P more next (kept.fault draft fault sound holds found) parts.next

strike_keeps : (P : DraftModel → Type 0) → KeptByChanges P → (variables : List Variable) (draft : DraftModel) (tokens : List (List ℕ)) (next : DraftModel) → IsSound draft
    → P draft → strike_in variables draft tokens ≡ Ok next → P next
unfolding strike_in
strike_keeps P kept variables draft [] next sound holds is = absurd (cc)
strike_keeps P kept variables draft (a ∷ []) next sound holds is = absurd (cc)
strike_keeps P kept variables draft (a ∷ b ∷ []) next sound holds is = absurd (cc)
strike_keeps P kept variables draft (a ∷ b ∷ c ∷ []) next sound holds is = absurd (cc)
strike_keeps P kept variables draft (a ∷ b ∷ c ∷ d ∷ []) next sound holds is = absurd (cc)
strike_keeps P kept variables draft (a ∷ b ∷ c ∷ d ∷ e ∷ []) next sound holds is = absurd (cc)
strike_keeps P kept variables draft (domain ∷ begin ∷ point ∷ token ∷ place ∷ mask ∷ []) next sound holds is =
    let rest : Result Strike Wrong = both (path variables domain) (both (time_in variables begin point) (damage_in variables draft token place mask)) in
    let parts : Read Strike (takes_strikes draft.stage) rest (λ v. with_fault draft (struck_by v)) next =
    read Strike (takes_strikes draft.stage) rest (λ v. with_fault draft (struck_by v)) next is in
    let found = fault_found variables draft domain begin point token place mask parts.value sound parts.is in
    with_fault_keeps P kept draft (struck_by parts.value) next sound holds parts.takes found.1 found.0 parts.done
strike_keeps P kept variables draft (a ∷ b ∷ c ∷ d ∷ e ∷ f ∷ g ∷ more) next sound holds is = absurd (cc)

-- ---- every statement

chosen_keeps : (P : DraftModel → Type 0) (test : Bool) (one other : Result DraftModel Wrong) (next : DraftModel) → (one ≡ Ok next → P next) → (other ≡ Ok next → P next)
    → (if test then one else other) ≡ Ok next → P next
chosen_keeps P true one other next first second is = first is
chosen_keeps P false one other next first second is = second is

by_keyword_keeps : (P : DraftModel → Type 0) → KeptByChanges P → (variables : List Variable) (draft : DraftModel) (keyword : List ℕ) (tokens : List (List ℕ)) (next : DraftModel)
    → IsSound draft → P draft → statement variables draft keyword tokens ≡ Ok next → P next
unfolding statement
by_keyword_keeps P kept variables draft keyword tokens next sound holds is =
    chosen_keeps P (bytes_eq keyword (codes "cd")) (cd_in draft tokens) _ next (cd_keeps P kept draft tokens next sound holds)
    (chosen_keeps P (bytes_eq keyword (codes "kind")) (kind_in draft tokens) _ next (kind_keeps P kept draft tokens next sound holds)
    (chosen_keeps P (bytes_eq keyword (codes "region")) (region_statement variables draft tokens) _ next (region_keeps P kept variables draft tokens next sound holds)
    (chosen_keeps P (bytes_eq keyword (codes "domain")) (domain_in variables draft tokens) _ next (domain_keeps P kept variables draft tokens next sound holds)
    (chosen_keeps P (bytes_eq keyword (codes "preserve")) (preserve_in variables draft tokens) _ next (preserve_keeps P kept variables draft tokens next sound holds)
    (chosen_keeps P (bytes_eq keyword (codes "group")) (group_in draft tokens) _ next (group_keeps P kept draft tokens next sound holds)
    (chosen_keeps P (bytes_eq keyword (codes "end")) (end_in draft tokens) _ next (end_keeps P kept draft tokens next sound holds)
    (chosen_keeps P (bytes_eq keyword (codes "faults")) (faults_in draft tokens) _ next (faults_keep P kept draft tokens next sound holds)
    (chosen_keeps P (bytes_eq keyword (codes "strike")) (strike_in variables draft tokens) (operation_in variables draft keyword tokens) next
    (strike_keeps P kept variables draft tokens next sound holds)
    (operation_keeps P kept variables draft keyword tokens next sound holds))))))))) is

-- a statement keeps what each change keeps
pub statement_keeps : (P : DraftModel → Type 0) → KeptByChanges P → (variables : List Variable) (tokens : List (List ℕ)) (draft next : DraftModel) → IsSound draft → P draft
    → statement_in variables tokens draft ≡ Ok next → P next
unfolding statement_in
statement_keeps P kept variables [] draft next sound holds is = absurd (cc)
statement_keeps P kept variables (keyword ∷ tokens) draft next sound holds is = by_keyword_keeps P kept variables draft keyword tokens next sound holds is
