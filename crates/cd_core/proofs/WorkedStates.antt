-- Worked cases of states. A root with three tries and a copy of four words has a group of two members: one copies the first two
-- words and fills them, the other refers to the last two and fills the last. The root starts, loses its first try, begins again,
-- is struck, and waits for its members; they are sent, and what one is asked gives back what it was sent with.
use Rattle.std.proofs.Common.{◌≡◌, ℕ, false, true, List, [], ◌∷◌, filter, map, None, Some, unwrap_or, refl}
use Rattle.cd_base.specs.declared.pattern.Pattern.TheVariants.{Iota}
use Rattle.cd_base.specs.declared.place.Place.{Place}
use Rattle.cd_base.specs.Words.{in_ranges}
use Rattle.cd_tree.specs.declared.domain.Domain.{Domain}
use Rattle.cd_tree.specs.declared.domain.Item.TheVariants.{Run, Group}
use Rattle.cd_tree.specs.declared.event.Cause.{Cause}
use Rattle.cd_tree.specs.declared.kinds.KindName.{KindName}
use Rattle.cd_tree.specs.declared.operation.Op.TheVariants.{Fill}
use Rattle.cd_tree.specs.Domains.{Node, node_of, root_of, nodes_from, numbers_from}
use Rattle.cd_tree.specs.KindSets.{halting}
use Rattle.cd_tree.specs.Meaning.{node_need, node_writes, node_reach}
use Rattle.cd_tree.proofs.WorkedForms.{number, part, copied, referred, y, strike, begin, saved, refilled, reached, words_of}
use Rattle.cd_field.specs.FieldModel.{FieldModel, loaded}
use Rattle.cd_keep.specs.declared.keep_id.KeepId.{KeepId}
use Rattle.cd_keep.specs.PassModel.{PassModel, kept, opened}
use Rattle.cd_cover.specs.Plans.{PlanModel, links_of}
use Rattle.cd_foot.specs.declared.footprints.Foot.{Foot}
use Rattle.cd_tries.specs.declared.keep.Keep.{Keep}
use Rattle.cd_tries.specs.declared.keep.Keep.TheVariants.{Copied}
use Rattle.cd_tries.specs.declared.shelf.Level.{Level}
use Rattle.cd_tries.specs.Running.{tried_from, tries_from}
use Rattle.cd_core.specs.declared.state.Stage.{Stage}
use Rattle.cd_core.specs.declared.state.Stage.TheVariants.{Ready, Waiting, Lost}
use Rattle.cd_core.specs.declared.verdict.Verdict.TheVariants.{Waits}
use Rattle.cd_core.specs.Advancing.{Judged, BeginsSo, after_loss, all_sent, judged_course, means_of, members_at, state_behind, state_sending}
use Rattle.cd_core.specs.declared.ask.Ask.{Ask}
use Rattle.cd_core.specs.Asks.{member_ask, root_ask, task_of}
use Rattle.cd_core.specs.StateModel.{StateModel}
use Rattle.cd_core.specs.Steps.{root_state}
use Rattle.cd_core.specs.Tasks.{Task}

-- ---- the program

-- kinds 0 to 3 are flip, crash, hang and node; crash and hang halt
abbrev pub kinds : List KindName
kinds =
    record { name = 102 ∷ []; halts = false } ∷ record { name = 99 ∷ []; halts = true } ∷ record { name = 104 ∷ []; halts = true }
    ∷ record { name = 110 ∷ []; halts = false } ∷ []

-- the root declares flip, crash and node
abbrev pub first : Domain
first =
    record { name = 114 ∷ []; parent = None; retry = 3; detects = 11; entries = copied y ∷ []; items = Group (number 1 ∷ number 2 ∷ []) ∷ [] }

-- the first member has two tries and declares flip
abbrev pub left : Domain
left =
    record { name = 97 ∷ []; parent = Some (number 0); retry = 2; detects = 1; entries = copied (part 0 0 2) ∷ []; items = Run (Fill (part 0 0 2) 7) ∷ [] }

-- the second has one and declares nothing
abbrev pub right : Domain
right =
    record { name = 98 ∷ []; parent = Some (number 0); retry = 1; detects = 0; entries = referred (part 0 2 4) ∷ []; items = Run (Fill (part 0 3 4) 9) ∷ [] }

abbrev pub feet : List Foot
feet =
    record { reads = y ∷ []; writes = part 0 0 2 ∷ part 0 3 4 ∷ []; reach = y ∷ [] }
    ∷ record { reads = part 0 0 2 ∷ []; writes = part 0 0 2 ∷ []; reach = part 0 0 2 ∷ [] }
    ∷ record { reads = part 0 2 4 ∷ []; writes = part 0 3 4 ∷ []; reach = part 0 2 4 ∷ [] }
    ∷ []

abbrev pub plan : PlanModel
plan = record {
  tree = record { kinds = kinds; domains = first ∷ left ∷ right ∷ [] };
  feet = feet;
  links = (None ∷ []) ∷ (None ∷ []) ∷ (Some (number 0, 0) ∷ []) ∷ [];
  needs = 4 ∷ 1 ∷ 2 ∷ [];
}

abbrev pub node_at : ℕ → Node
node_at n = unwrap_or (node_of plan.tree.domains (number n)) (root_of plan.tree.domains)

-- what stands at each of the four places
abbrev pub each_place : {A : Type 0} → (Place → A) → List A
each_place f = map (λ i. f (record { region = 0; index = i })) (numbers_from 0 4)

-- the plan's answers are those of its program
plan_follows :
    (map (links_of plan.tree) (nodes_from 0 plan.tree.domains) ≡ plan.links)
    × (map node_need (nodes_from 0 plan.tree.domains) ≡ plan.needs)
    × (map (λ (foot : Foot). each_place (in_ranges foot.writes)) feet ≡ map (λ d. each_place (node_writes d)) (nodes_from 0 plan.tree.domains))
    × (map (λ (foot : Foot). each_place (in_ranges foot.reach)) feet ≡ map (λ d. each_place (node_reach d)) (nodes_from 0 plan.tree.domains))
plan_follows = (refl, refl, refl, refl)

-- what is seen of a state: its stage, its counts, its words, the indices that are away, and its notes, room and holds
abbrev pub seen : StateModel → Stage × List ℕ × List ℕ × List ℕ × List ℕ
seen s = (s.stage, s.counts, words_of s.field.words 0 4, filter (λ i. s.field.lost (record { region = 0; index = i })) (numbers_from 0 4), s.field.notes ∷ s.pass.room ∷ s.pass.held ∷ [])

-- ---- the root starts

-- a flip strikes the last word at the root's second begin
abbrev pub machine : FieldModel
machine = record (loaded (record { name = []; length = 4; pattern = Iota 10 1 } ∷ []) (strike 0 2 0 0 3 1 ∷ [])) { carved = part 0 0 2 ∷ part 0 3 4 ∷ [] }

abbrev pub root : StateModel
root = root_state plan machine (opened 3 4)

root_is :
    (root ≡ record { node = number 0; counts = 0 ∷ 0 ∷ 0 ∷ []; stage = Ready; keeps = []; above = []; field = machine; pass = opened 3 4 })
    × (root_ask plan machine.words ≡ record { node = number 0; words = 10 ∷ 11 ∷ 12 ∷ 13 ∷ []; counts = 0 ∷ 0 ∷ 0 ∷ []; links = []; store = None })
root_is = (refl, refl)

abbrev pub id : ℕ → KeepId
id block = record { block = block; serial = 1 }

-- its copy takes one piece
abbrev pub keeps : List Keep
keeps = Copied (record { begin = 0; end = 4; ids = id 5 ∷ [] }) ∷ []

abbrev pub pass : PassModel
pass = kept (opened 3 4) (id 5) (10 ∷ 11 ∷ 12 ∷ 13 ∷ [])

abbrev pub saved_first : FieldModel
saved_first = record machine { events = begin 0 1 ∷ saved 0 0 ∷ []; begin = 1 }

abbrev pub judged_first : Judged
judged_first =
    judged_course plan (number 0) (tries_from (means_of plan first (number 0) pass.known keeps) 2 1 (tried_from (halting kinds) first saved_first 0))

begins_first : BeginsSo plan first root keeps pass judged_first
begins_first = record {
  saved = saved_first;
  preserved = record {
    events = saved 0 0 ∷ [];
    saved = record { told = saved 0 0 ∷ []; more = []; between = pass; one = (record { begin = refl; end = refl; count = refl; keeps = (refl, refl) }, refl); rest = (refl, refl); whole = refl };
    told = refl;
  };
  tried = refl;
}

-- it comes to its group, and may make two tries more
judged_first_is : (judged_first.verdict ≡ Waits 2 0) × (judged_first.field.events ≡ begin 0 1 ∷ saved 0 0 ∷ reached 0 0 ∷ [])
judged_first_is = (refl, refl)

-- ---- its first try is lost, and it begins again

-- the first member found a flip in both of its tries
abbrev pub cause_left : Cause
cause_left = record { path = number 0 ∷ number 1 ∷ []; kinds = 1 }

abbrev pub lost : StateModel
lost = record (state_behind plan first root keeps pass judged_first.begin judged_first.field judged_first.verdict) {
  counts = 1 ∷ 2 ∷ 1 ∷ [];
  stage = Lost 2 cause_left 0;
  pass = pass;
}

-- with nothing left over and a try to spare, its entry is put back, and it comes to its group again, struck
abbrev pub judged_again : Judged
judged_again = after_loss plan (means_of plan first (number 0) pass.known keeps) 2 1 lost.field cause_left 0 true

judged_again_is :
    (seen lost ≡ (Lost 2 cause_left 0, 1 ∷ 2 ∷ 1 ∷ [], 10 ∷ 11 ∷ 12 ∷ 13 ∷ [], 0 ∷ 1 ∷ 3 ∷ [], 0 ∷ 3 ∷ 1 ∷ []))
    × (judged_again.verdict ≡ Waits 1 0) × (judged_again.begin ≡ 2)
    × (judged_again.field.events ≡ begin 0 1 ∷ saved 0 0 ∷ reached 0 0 ∷ begin 0 2 ∷ refilled 0 0 ∷ reached 0 0 ∷ [])
judged_again_is = (refl, refl, refl, refl)

-- ---- its members are sent

abbrev pub sending : StateModel
sending = state_sending lost keeps judged_again.begin judged_again.field pass

abbrev pub children : List StateModel
children = all_sent plan sending (members_at first 0) sending.field sending.pass

-- what the root keeps, as those below it find it
abbrev pub level_root : Level
level_root = record { node = number 0; keeps = keeps }

-- each is ready, has its own counts, and its need as its room, and holds nothing
sent_states :
    (map (λ (s : StateModel). s.node) children ≡ number 1 ∷ number 2 ∷ [])
    × (map (λ (s : StateModel). s.counts) children ≡ (2 ∷ []) ∷ (1 ∷ []) ∷ [])
    × (map (λ (s : StateModel). s.stage) children ≡ Ready ∷ Ready ∷ [])
    × (map (λ (s : StateModel). s.keeps) children ≡ [] ∷ [] ∷ [])
    × (map (λ (s : StateModel). s.above) children ≡ (level_root ∷ []) ∷ (level_root ∷ []) ∷ [])
    × (map (λ (s : StateModel). s.pass.room ∷ s.pass.held ∷ s.pass.holds (id 5) ∷ []) children ≡ (1 ∷ 0 ∷ 0 ∷ []) ∷ (2 ∷ 0 ∷ 0 ∷ []) ∷ [])
sent_states = (refl, refl, refl, refl, refl, refl)

-- each has the words of its reach alone, all of them here, and is carved for what it writes; nothing is told or noted
sent_machines :
    (map (λ (s : StateModel). each_place s.field.words) children
    ≡ (Some 10 ∷ Some 11 ∷ None ∷ None ∷ []) ∷ (None ∷ None ∷ Some 12 ∷ Some 12 ∷ []) ∷ [])
    × (map (λ (s : StateModel). each_place s.field.lost) children
    ≡ (false ∷ false ∷ false ∷ false ∷ []) ∷ (false ∷ false ∷ false ∷ false ∷ []) ∷ [])
    × (map (λ (s : StateModel). s.field.carved) children ≡ (part 0 0 2 ∷ []) ∷ (part 0 3 4 ∷ []) ∷ [])
    × (map (λ (s : StateModel). s.field.events) children ≡ [] ∷ [] ∷ []) × (map (λ (s : StateModel). s.field.notes) children ≡ 0 ∷ 0 ∷ [])
sent_machines = (refl, refl, refl, refl, refl)

abbrev pub waiting : StateModel
waiting = state_behind plan first lost keeps pass judged_again.begin judged_again.field judged_again.verdict

-- what the members write is away, what they only read is not; it is noted that the last word was struck
waiting_seen :
    (seen waiting ≡ (Waiting 1 0, 2 ∷ 2 ∷ 1 ∷ [], 10 ∷ 11 ∷ 12 ∷ 12 ∷ [], 0 ∷ 1 ∷ 3 ∷ [], 1 ∷ 0 ∷ 1 ∷ [])) × (waiting.keeps ≡ keeps)
waiting_seen = (refl, refl)

abbrev ask_right : Ask
ask_right = member_ask plan waiting (number 2) (node_at 2)

-- the second gets the words of the machine, struck as they are, and as its link's those that the root keeps
asked :
    (member_ask plan waiting (number 1) (node_at 1) ≡ record { node = number 1; words = 10 ∷ 11 ∷ []; counts = 2 ∷ []; links = []; store = Some 3 })
    × (ask_right ≡ record { node = number 2; words = 12 ∷ 12 ∷ []; counts = 1 ∷ []; links = (12 ∷ 13 ∷ []) ∷ []; store = Some 3 })
asked = (refl, refl)

-- as a task this gives the words back at their places, the count by its number and the link's words
abbrev task_right : Task
task_right = task_of plan machine.script machine.words ask_right (node_at 2)

task_gives :
    (each_place task_right.words ≡ None ∷ None ∷ Some 12 ∷ Some 12 ∷ []) × (task_right.counts 2 ≡ 1)
    × (each_place (task_right.links (number 2, 0)) ≡ None ∷ None ∷ Some 12 ∷ Some 13 ∷ [])
task_gives = (refl, refl, refl)
