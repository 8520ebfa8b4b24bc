-- What each statement but the operations adds to the draft, by the tokens after its keyword.
use Rattle.std.specs.Prelude.{ℕ, ◌+◌, ◌-◌, ◌^◌, min, Bool, true, false, ◌&&◌, not, nat_lt, nat_le, List, [], ◌∷◌, ◌++◌, length, slice_get, Option, None, Some, Result, Ok, Err, codes, if◌then◌else◌}
use Rattle.std.specs.Str.{bytes_eq}
use Rattle.cd_base.specs.declared.place.Place.{Place}
use Rattle.cd_base.specs.declared.place.Range.{Range}
use Rattle.cd_base.specs.declared.pattern.Pattern.{Pattern}
use Rattle.cd_tree.specs.Limits.{name_limit, kinds_limit, words_limit, regions_limit, items_limit, members_limit, retry_limit, domains_limit, depth_limit, entries_limit, preserves_limit, faults_limit}
use Rattle.cd_tree.specs.declared.document.Region.{Region}
use Rattle.cd_tree.specs.declared.document.RawFault.{RawFault}
use Rattle.cd_tree.specs.declared.domain.NodeId.{NodeId}
use Rattle.cd_tree.specs.declared.domain.Entry.{Entry}
use Rattle.cd_tree.specs.declared.domain.How.{How}
use Rattle.cd_tree.specs.declared.domain.How.TheVariants as how
use Rattle.cd_tree.specs.declared.domain.Domain.{Domain}
use Rattle.cd_tree.specs.declared.kinds.Kind.{Kind}
use Rattle.cd_tree.specs.declared.refusal.Which.TheVariants as which
use Rattle.cd_tokens.specs.declared.wrong.Wrong.{Wrong}
use Rattle.cd_tokens.specs.declared.wrong.Wrong.TheVariants.{Form, Taken, Unfit, Limit}
use Rattle.cd_tokens.specs.declared.sums.Variable.{Variable}
use Rattle.cd_tokens.specs.Wrongs.{both, guard, room, all_hold, ◌>>=◌}
use Rattle.cd_tokens.specs.Sums.{is_base, expression}
use Rattle.cd_tokens.specs.Names.{name, path}
use Rattle.cd_tokens.specs.Kinds.{kind, kind_set, pattern}
use Rattle.cd_parse.specs.declared.draft.Stage.TheVariants.{Kinds, Regions, Strikes}
use Rattle.cd_parse.specs.declared.draft.Level.{Level}
use Rattle.cd_parse.specs.Draft.{DraftModel, is_start, takes_kinds, takes_regions, takes_items, takes_entries, takes_domains, is_closed, takes_strikes, add_entry, add_domain, open_group, close_group, close_domain, innermost, parent_of, has_kind_named, has_region_named, has_child_named, kind_name, four_kinds}
use Rattle.cd_parse.specs.Ranges.{range_in, place_in}

abbrev pub name_fits : List ℕ → Result (Unit {0}) Wrong
name_fits name = guard (nat_le (length name) name_limit) (Limit which.Name (length name))

-- ---- cd

-- version 1 has its four kinds, version 2 those that the document names
abbrev pub begun : DraftModel → List ℕ → Result DraftModel Wrong
begun draft version =
    if bytes_eq version (codes "1") then Ok (record draft { stage = Regions; version = 1; kinds = four_kinds })
    else (if bytes_eq version (codes "2") then Ok (record draft { stage = Kinds; version = 2 })
    else Err Form)

-- cd 1, cd 2
unfoldable pub cd_in : DraftModel → List (List ℕ) → Result DraftModel Wrong
cd_in draft (version ∷ []) = guard (is_start draft.stage) Form >>= λ _. begun draft version
cd_in draft _ = Err Form

-- ---- kind

abbrev pub is_kind_name : List ℕ → Bool
is_kind_name name = is_base name && not (bytes_eq name (codes "none"))

unfoldable pub with_kind_named : DraftModel → List ℕ → Bool → Result DraftModel Wrong
with_kind_named draft name halts =
    guard (takes_kinds draft.stage && is_kind_name name) Form >>= λ _.
    all_hold
    (guard (not (has_kind_named draft.kinds name)) Taken
    ∷ name_fits name
    ∷ room which.Kinds kinds_limit (length draft.kinds)
    ∷ [])
    >>= λ _. Ok (record draft { kinds = draft.kinds ++ kind_name name halts ∷ [] })

-- kind BASE, kind BASE halt
unfoldable pub kind_in : DraftModel → List (List ℕ) → Result DraftModel Wrong
kind_in draft (name ∷ []) = with_kind_named draft name false
kind_in draft (name ∷ halt ∷ []) = if bytes_eq halt (codes "halt") then with_kind_named draft name true else Err Form
kind_in draft _ = Err Form

-- ---- region

-- the words of all regions are at most so many; a sum beyond 64 bits is told as the largest number
abbrev pub words_fit : ℕ → Result (Unit {0}) Wrong
words_fit sum = guard (nat_le sum words_limit) (Limit which.Words (min sum (2 ^ 64 - 1)))

abbrev pub region_of : List ℕ → ℕ → Pattern → Region
region_of name size pattern = record { name = name; length = size; pattern = pattern }

unfoldable pub with_region : DraftModel → List ℕ → ℕ → Pattern → Result DraftModel Wrong
with_region draft name size pattern =
    all_hold
    (guard (not (has_region_named draft.regions name)) Taken
    ∷ guard (nat_lt 0 size) Unfit
    ∷ name_fits name
    ∷ room which.Regions regions_limit (length draft.regions)
    ∷ words_fit (draft.words + size)
    ∷ [])
    >>= λ _. Ok (record draft { stage = Regions; regions = draft.regions ++ region_of name size pattern ∷ []; words = draft.words + size })

abbrev pub regioned : DraftModel → Result (Unit {0}) Wrong → Result (List ℕ) Wrong → Result ℕ Wrong → Result Pattern Wrong → Result DraftModel Wrong
regioned draft stage name size pattern =
    both stage (both name (both size pattern)) >>= λ p. with_region draft p.1.0 p.1.1.0 p.1.1.1

-- region NAME E PATTERN
unfoldable pub region_statement : List Variable → DraftModel → List (List ℕ) → Result DraftModel Wrong
region_statement variables draft (token ∷ size ∷ more) =
    regioned draft (guard (takes_regions draft.stage) Form) (name variables token) (expression variables size) (pattern variables more)
region_statement variables draft _ = Err Form

-- ---- domain

-- a domain is an item of its parent, or a member of the group that is open there
abbrev pub room_in : Option (List NodeId) → ℕ → Result (Unit {0}) Wrong
room_in None items = room which.Items items_limit items
room_in (Some members) items = room which.Members members_limit (length members)

abbrev pub room_for_domain : List Level → ℕ → Result (Unit {0}) Wrong
room_for_domain [] items = Ok tt
room_for_domain (level ∷ outer) items = room_in level.group items

abbrev pub domain_named : List ℕ → Option NodeId → ℕ → ℕ → Domain
domain_named name parent tries kinds =
    record { name = name; parent = parent; retry = tries; detects = kinds; entries = []; items = [] }

abbrev pub retry_fits : ℕ → Result (Unit {0}) Wrong
retry_fits tries = guard (nat_lt 0 tries && nat_le tries retry_limit) (Limit which.Retry tries)

unfoldable pub with_domain : DraftModel → List ℕ → ℕ → ℕ → Result DraftModel Wrong
with_domain draft name tries kinds =
    all_hold
    (guard (not (has_child_named draft.domains (parent_of draft.levels) name)) Taken
    ∷ name_fits name
    ∷ room which.Domains domains_limit (length draft.domains)
    ∷ room which.Depth depth_limit (length draft.levels)
    ∷ room_for_domain draft.levels draft.items
    ∷ guard (nat_lt 0 tries && nat_le tries retry_limit) (Limit which.Retry tries)
    ∷ [])
    >>= λ _. Ok (add_domain (domain_named name (parent_of draft.levels) tries kinds) draft)

abbrev pub has_domain_form : DraftModel → List ℕ → List ℕ → Bool
has_domain_form draft retry detects =
    takes_domains draft draft.levels && (bytes_eq retry (codes "retry") && bytes_eq detects (codes "detects"))

abbrev pub domained : DraftModel → Result (Unit {0}) Wrong → Result (List ℕ) Wrong → Result ℕ Wrong → Result ℕ Wrong → Result DraftModel Wrong
domained draft form name tries kinds =
    both form (both name (both tries kinds)) >>= λ p. with_domain draft p.1.0 p.1.1.0 p.1.1.1

-- domain NAME retry E detects KINDS
unfoldable pub domain_in : List Variable → DraftModel → List (List ℕ) → Result DraftModel Wrong
domain_in variables draft (token ∷ retry ∷ tries ∷ detects ∷ kinds ∷ []) =
    domained draft (guard (has_domain_form draft retry detects) Form) (name variables token) (expression variables tries)
    (kind_set draft.kinds kinds)
domain_in variables draft _ = Err Form

-- ---- preserve

abbrev pub entries_of : Option Domain → ℕ
entries_of None = 0
entries_of (Some domain) = length domain.entries

abbrev pub entry_of : Range → How → Entry
entry_of range how = record { range = range; how = how }

unfoldable pub with_entry_of : DraftModel → Range → How → Result DraftModel Wrong
with_entry_of draft range how =
    all_hold
    (room which.Entries entries_limit (entries_of (slice_get draft.domains (innermost draft.levels)))
    ∷ room which.Preserves preserves_limit draft.preserves
    ∷ [])
    >>= λ _. Ok (add_entry (innermost draft.levels) (entry_of range how) draft)

-- copy, refer
abbrev pub short_how : List ℕ → Result How Wrong
short_how token =
    if bytes_eq token (codes "copy") then Ok how.Copy else (if bytes_eq token (codes "refer") then Ok how.Refer else Err Form)

-- regen PATTERN
abbrev pub long_how : List Variable → List ℕ → List (List ℕ) → Result How Wrong
long_how variables token more =
    if bytes_eq token (codes "regen") then (pattern variables more >>= λ p. Ok (how.Regen p)) else Err Form

-- copy, refer, regen PATTERN
unfoldable pub how_in : List Variable → List (List ℕ) → Result How Wrong
how_in variables [] = Err Form
how_in variables (token ∷ []) = short_how token
how_in variables (token ∷ more) = long_how variables token more

-- preserve RANGE copy, preserve RANGE refer, preserve RANGE regen PATTERN
unfoldable pub preserve_in : List Variable → DraftModel → List (List ℕ) → Result DraftModel Wrong
preserve_in variables draft (range ∷ more) =
    both (guard (takes_entries draft draft.levels) Form) (both (range_in variables draft.regions range) (how_in variables more))
    >>= λ p. with_entry_of draft p.1.0 p.1.1
preserve_in variables draft _ = Err Form

-- ---- group and end

-- group
unfoldable pub group_in : DraftModel → List (List ℕ) → Result DraftModel Wrong
group_in draft [] =
    all_hold (guard (takes_items draft.levels) Form ∷ room which.Items items_limit draft.items ∷ [])
    >>= λ _. Ok (open_group draft.levels draft)
group_in draft _ = Err Form

-- a group has a member
abbrev pub ended_in : Option (List NodeId) → ℕ → List Level → DraftModel → Result DraftModel Wrong
ended_in None at outer draft = Ok (close_domain outer draft)
ended_in (Some []) at outer draft = Err Form
ended_in (Some (first ∷ members)) at outer draft = Ok (close_group at (first ∷ members) outer draft)

abbrev pub ended : List Level → DraftModel → Result DraftModel Wrong
ended [] draft = Err Form
ended (level ∷ outer) draft = ended_in level.group level.domain outer draft

-- end, of a group or a domain
unfoldable pub end_in : DraftModel → List (List ℕ) → Result DraftModel Wrong
end_in draft [] = ended draft.levels draft
end_in draft _ = Err Form

-- ---- faults and strikes

-- faults
unfoldable pub faults_in : DraftModel → List (List ℕ) → Result DraftModel Wrong
faults_in draft [] = guard (is_closed draft.stage) Form >>= λ _. Ok (record draft { stage = Strikes })
faults_in draft _ = Err Form

abbrev pub fault_of : List ℕ → ℕ → ℕ → Kind → Place → ℕ → RawFault
fault_of path begin point kind place mask =
    record { path = path; begin = begin; item = point; kind = kind; place = place; mask = mask }

abbrev pub with_fault : DraftModel → RawFault → Result DraftModel Wrong
with_fault draft fault =
    room which.Faults faults_limit (length draft.faults) >>= λ _. Ok (record draft { faults = draft.faults ++ fault ∷ [] })

-- begin and point
unfoldable pub time_in : List Variable → List ℕ → List ℕ → Result (ℕ × ℕ) Wrong
time_in variables begin point = both (expression variables begin) (expression variables point)

-- kind, place and mask
unfoldable pub damage_in : List Variable → DraftModel → List ℕ → List ℕ → List ℕ → Result (Kind × (Place × ℕ)) Wrong
damage_in variables draft token place mask =
    both (kind draft.kinds token) (both (place_in variables draft.regions place) (expression variables mask))

abbrev pub struck : DraftModel → Result (Unit {0}) Wrong → Result (List ℕ) Wrong → Result (ℕ × ℕ) Wrong → Result (Kind × (Place × ℕ)) Wrong → Result DraftModel Wrong
struck draft stage path time damage =
    both stage (both path (both time damage))
    >>= λ p. with_fault draft (fault_of p.1.0 p.1.1.0.0 p.1.1.0.1 p.1.1.1.0 p.1.1.1.1.0 p.1.1.1.1.1)

-- strike PATH E E KIND PLACE E
unfoldable pub strike_in : List Variable → DraftModel → List (List ℕ) → Result DraftModel Wrong
strike_in variables draft (domain ∷ begin ∷ point ∷ kind ∷ place ∷ mask ∷ []) =
    struck draft (guard (takes_strikes draft.stage) Form) (path variables domain) (time_in variables begin point)
    (damage_in variables draft kind place mask)
strike_in variables draft _ = Err Form
