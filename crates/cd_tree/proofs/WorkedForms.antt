-- Short forms in which the worked cases are written.
use Rattle.std.proofs.Common.{ℕ, List, [], ◌∷◌, ◌++◌, None, Some, map}
use Rattle.cd_base.specs.declared.place.Range.{Range}
use Rattle.cd_base.specs.Words.{Words, word_at}
use Rattle.cd_tree.specs.declared.domain.NodeId.{NodeId}
use Rattle.cd_tree.specs.declared.domain.Item.{Item}
use Rattle.cd_tree.specs.declared.domain.Item.TheVariants.{Run, Group}
use Rattle.cd_tree.specs.declared.domain.How.TheVariants as how
use Rattle.cd_tree.specs.declared.domain.Entry.{Entry}
use Rattle.cd_tree.specs.declared.domain.Domain.{Domain}
use Rattle.cd_tree.specs.declared.document.Fault.{Fault}
use Rattle.cd_tree.specs.declared.event.Kept.TheVariants as kept
use Rattle.cd_tree.specs.declared.event.Event.{Event}
use Rattle.cd_tree.specs.declared.event.Event.TheVariants as told
use Rattle.cd_tree.specs.declared.operation.Op.TheVariants.{Fill}
use Rattle.cd_tree.specs.Domains.{numbers_from, root_of}
use Rattle.cd_tree.specs.Reading.{Case, Counts, Told, NodeEnd, no_begins, read_node}

abbrev pub number : ℕ → NodeId
number n = record { 0 = n }

abbrev pub root : ℕ → ℕ → List Entry → List Item → Domain
root retry detects entries items =
    record { name = []; parent = None; retry = retry; detects = detects; entries = entries; items = items }

abbrev pub inner : ℕ → ℕ → ℕ → List Entry → List Item → Domain
inner parent retry detects entries items =
    record { name = []; parent = Some (number parent); retry = retry; detects = detects; entries = entries; items = items }

abbrev pub part : ℕ → ℕ → ℕ → Range
part region low high = record { region = region; low = low; high = high }

abbrev pub copied : Range → Entry
copied range = record { range = range; how = how.Copy }

abbrev pub referred : Range → Entry
referred range = record { range = range; how = how.Refer }

-- two regions of four words
abbrev pub y : Range
y = part 0 0 4

abbrev pub z : Range
z = part 1 0 4

-- a root with two tries that finds node (kind 3), with a group of two domains that find flip (kind 0) and have one try each
abbrev pub pair : List Domain
pair =
    root 2 8 (copied y ∷ copied z ∷ []) (Group (number 1 ∷ number 2 ∷ []) ∷ [])
    ∷ inner 0 1 1 (copied y ∷ []) (Run (Fill y 7) ∷ [])
    ∷ inner 0 1 1 (copied z ∷ []) (Run (Fill z 9) ∷ [])
    ∷ []

-- a strike on a place of region 0
abbrev pub strike : ℕ → ℕ → ℕ → ℕ → ℕ → ℕ → Fault
strike id begin point kind index mask =
    record { node = number id; begin = begin; item = point; kind = record { 0 = kind }; place = record { region = 0; index = index }; mask = mask }

abbrev pub case_with : ℕ → List Fault → Case
case_with halts faults = record { halts = halts; faults = faults }

-- the reading of a list of domains from no begins
abbrev pub read_all : ℕ → List Fault → List Domain → Told NodeEnd
read_all halts faults domains = read_node (case_with halts faults) (root_of domains) no_begins

-- the counts of the first n domains
abbrev pub counts_of : Counts → ℕ → List ℕ
counts_of counts n = map counts (numbers_from 0 n)

-- the first n words of a region
abbrev pub words_of : Words → ℕ → ℕ → List ℕ
words_of w region n = map (λ i. word_at w (record { region = region; index = i })) (numbers_from 0 n)

abbrev pub begin : ℕ → ℕ → Event
begin n count = told.Begin (number n) count

abbrev pub saved : ℕ → ℕ → Event
saved n entry = told.Saved (number n) entry kept.Copy

abbrev pub refilled : ℕ → ℕ → Event
refilled n entry = told.Refilled (number n) entry

abbrev pub reached : ℕ → ℕ → Event
reached n point = told.Reached (number n) point

abbrev pub halted : ℕ → ℕ → Event
halted n kinds = told.Halted (number n) kinds

abbrev pub found : ℕ → ℕ → Event
found n kinds = told.Found (number n) kinds

abbrev pub complete : ℕ → Event
complete n = told.Complete (number n)

abbrev pub escalate : ℕ → Event
escalate n = told.Escalate (number n)

-- ---- events that stand together

-- a domain with one entry begins a first try, and a later one
abbrev pub opened : ℕ → ℕ → List Event
opened n count = begin n count ∷ saved n 0 ∷ reached n 0 ∷ []

abbrev pub again : ℕ → ℕ → List Event
again n count = begin n count ∷ refilled n 0 ∷ reached n 0 ∷ []

-- a domain comes to its last point, finds these kinds, and so ends or begins again
abbrev pub judged : ℕ → ℕ → ℕ → List Event
judged n point kinds = reached n point ∷ found n kinds ∷ []

-- the first try of a domain with one entry and one operation, up to its end
abbrev pub leaf : ℕ → ℕ → ℕ → Event → List Event
leaf n count kinds end = opened n count ++ judged n 1 kinds ++ end ∷ []

-- ---- what a reading comes to

-- its events, how it ends, and the counts of the first n domains
abbrev pub outcome : {A : Type 0} → ℕ → Told A → List Event × A × List ℕ
outcome n told = (told.past.events, told.answer, counts_of told.counts n)

-- the same without the events
abbrev pub ending : {A : Type 0} → ℕ → Told A → A × List ℕ
ending n told = (told.answer, counts_of told.counts n)

-- how many of its tries were repeats, and how many faults struck
abbrev pub tallied : {A : Type 0} → Told A → ℕ × ℕ
tallied told = (told.past.repeats, told.past.strikes)
