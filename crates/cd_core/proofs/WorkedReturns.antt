-- Worked cases of states: the members that were sent come back, all done or not, and a domain goes on or ends.
use Rattle.std.proofs.Common.{◌≡◌, ℕ, true, List, [], ◌∷◌, ◌++◌, None, Some, get_or, refl}
use Rattle.cd_base.specs.Words.{Words}
use Rattle.cd_tree.specs.declared.event.Cause.{Cause}
use Rattle.cd_tree.specs.declared.event.Event.{Event}
use Rattle.cd_tree.specs.KindSets.{halting}
use Rattle.cd_tree.specs.Reading.{blame, Done as done, Escalated as escalated}
use Rattle.cd_tree.proofs.WorkedForms.{number, refilled, reached, found, complete, escalate, words_of}
use Rattle.cd_keep.specs.PassModel.{Gone, kept}
use Rattle.cd_tries.specs.declared.keep.Keep.TheVariants.{Copied}
use Rattle.cd_tries.specs.declared.tries.Stop.TheVariants as stop
use Rattle.cd_tries.specs.Running.{Means, tried_from, tries_from}
use Rattle.cd_core.specs.declared.state.Ending.{Ending}
use Rattle.cd_core.specs.declared.state.Ending.TheVariants.{Done, Escalated}
use Rattle.cd_core.specs.declared.state.Stage.TheVariants.{Resumed, Lost, Ended}
use Rattle.cd_core.specs.declared.verdict.Verdict.TheVariants.{Waits, Completes, Escalates}
use Rattle.cd_core.specs.Advancing.{Judged, TriesSo, after_loss, judged_course, means_of, state_behind, verdict_of}
use Rattle.cd_core.specs.Resuming.{counts_taken, first_escalation, put_at, resumed}
use Rattle.cd_core.specs.Stands.{ending_of, named}
use Rattle.cd_core.specs.StateModel.{StateModel}
use Rattle.cd_core.proofs.WorkedStates.{kinds, first, left, right, plan, seen, root, id, keeps, cause_left, children, level_root, waiting}

abbrev left_sent : StateModel
left_sent = get_or children 0 root

abbrev right_sent : StateModel
right_sent = get_or children 1 root

-- a member that has ended: its count, how it ended, its words, its record and its notes
abbrev came_back : StateModel → ℕ → Ending → Words → List Event → ℕ → StateModel
came_back s count ending words events notes =
    record s { counts = count ∷ []; stage = Ended ending; field = record s.field { words = words; events = events; notes = notes } }

abbrev left_done : StateModel
left_done = came_back left_sent 3 (Done 0) (λ p. Some 7) (complete 1 ∷ []) 0

-- the second leaks node, and its pass was once told that a copy was gone
abbrev gone : Gone
gone = record { id = id 5; note = record { seen = 1; found = 2 } }

abbrev right_done : StateModel
right_done = record (came_back right_sent 2 (Done 8) (λ p. Some 9) (complete 2 ∷ []) 8) { pass = record right_sent.pass { gone = gone ∷ [] } }

-- a crash breaks the first off and a hang the second
abbrev cause_crash : Cause
cause_crash = record { path = number 0 ∷ number 1 ∷ []; kinds = 2 }

abbrev cause_hang : Cause
cause_hang = record { path = number 0 ∷ number 2 ∷ []; kinds = 4 }

abbrev left_lost : StateModel
left_lost = came_back left_sent 3 (Escalated cause_crash 2) (λ p. Some 7) (escalate 1 ∷ []) 0

abbrev right_lost : StateModel
right_lost = came_back right_sent 2 (Escalated cause_hang 4) (λ p. Some 9) (escalate 2 ∷ []) 0

-- ---- both are done

abbrev both_done : StateModel
both_done = resumed waiting first (left_done ∷ right_done ∷ [])

-- what each writes is here with its words, the other word is the root's; the leak joins the flip that was noted before
done_seen :
    (seen both_done ≡ (Resumed 1 0, 2 ∷ 3 ∷ 2 ∷ [], 7 ∷ 7 ∷ 12 ∷ 9 ∷ [], [], 9 ∷ 3 ∷ 1 ∷ []))
    × (both_done.field.events ≡ waiting.field.events ++ complete 1 ∷ complete 2 ∷ []) × (both_done.pass.gone ≡ gone ∷ [])
done_seen = (refl, refl, refl)

-- the root finds both kinds and begins a last time, from the words with which it first began
abbrev tools : StateModel → Means
tools s = means_of plan first (number 0) s.pass.known s.keeps

abbrev judged_from : StateModel → Judged
judged_from s = judged_course plan (number 0) (tries_from (tools s) 1 2 (tried_from (halting kinds) first s.field 1))

goes_on : TriesSo plan first both_done keeps both_done.pass (judged_from both_done) both_done.stage
goes_on = (refl, refl, refl)

found_both : ((judged_from both_done).verdict ≡ Waits 0 0) × ((judged_from both_done).begin ≡ 3)
    × (words_of (judged_from both_done).field.words 0 4 ≡ 10 ∷ 11 ∷ 12 ∷ 13 ∷ [])
found_both = (refl, refl, refl)

-- ---- one or both have escalated

-- the cause is the first one's, and what is left over is joined
first_ones :
    (first_escalation (left_lost ∷ right_lost ∷ []) ≡ Some (cause_crash, 6))
    × (first_escalation (left_done ∷ right_lost ∷ []) ≡ Some (cause_hang, 4))
    × (first_escalation (left_done ∷ right_done ∷ []) ≡ None)
first_ones = (refl, refl, refl)

abbrev both_lost : StateModel
both_lost = resumed waiting first (left_lost ∷ right_lost ∷ [])

-- the first one's cause, and of crash and hang what the root does not declare; no word is taken, what was away stays away
lost_seen :
    (seen both_lost ≡ (Lost 1 cause_crash 4, 2 ∷ 3 ∷ 2 ∷ [], 10 ∷ 11 ∷ 12 ∷ 12 ∷ [], 0 ∷ 1 ∷ 3 ∷ [], 1 ∷ 3 ∷ 1 ∷ []))
    × (both_lost.field.events ≡ waiting.field.events ++ escalate 1 ∷ escalate 2 ∷ [])
lost_seen = (refl, refl)

-- where one escalates, nothing of the other is taken either, its leak included
abbrev one_lost : StateModel
one_lost = resumed waiting first (left_lost ∷ right_done ∷ [])

one_seen : seen one_lost ≡ (Lost 1 cause_crash 0, 2 ∷ 3 ∷ 2 ∷ [], 10 ∷ 11 ∷ 12 ∷ 12 ∷ [], 0 ∷ 1 ∷ 3 ∷ [], 1 ∷ 3 ∷ 1 ∷ [])
one_seen = refl

-- with something left over it escalates, though a try is to spare
loss_over : TriesSo plan first both_lost keeps both_lost.pass (record { field = both_lost.field; begin = 2; verdict = Escalates cause_crash 4 }) both_lost.stage
loss_over = (refl, refl, refl)

-- with nothing left over and a try to spare it begins again, and waits; with none it escalates
loss_within :
    ((after_loss plan (tools one_lost) 1 2 one_lost.field cause_crash 0 true).verdict ≡ Waits 0 0)
    × (after_loss plan (tools one_lost) 0 2 one_lost.field cause_crash 0 true ≡ record { field = one_lost.field; begin = 2; verdict = Escalates cause_crash 0 })
loss_within = (refl, refl)

-- ---- ends

-- had nothing been noted, the root would complete
abbrev clean : StateModel
clean = record both_done { field = record both_done.field { notes = 0 } }

abbrev completed_root : StateModel
completed_root = state_behind plan first clean clean.keeps clean.pass 2 (judged_from clean).field (judged_from clean).verdict

-- it keeps nothing, and has all its room again
completed_seen :
    ((judged_from clean).verdict ≡ Completes 0)
    × (seen completed_root ≡ (Ended (Done 0), 2 ∷ 3 ∷ 2 ∷ [], 7 ∷ 7 ∷ 12 ∷ 9 ∷ [], [], 0 ∷ 4 ∷ 0 ∷ []))
    × (completed_root.field.events ≡ both_done.field.events ++ reached 0 1 ∷ found 0 0 ∷ complete 0 ∷ [])
    × (completed_root.keeps ≡ []) × (completed_root.pass.holds (id 5) ≡ 0)
completed_seen = (refl, refl, refl, refl, refl)

-- an escalating root puts its entries back
abbrev escalated_root : StateModel
escalated_root = state_behind plan first both_lost both_lost.keeps both_lost.pass 2 both_lost.field (Escalates cause_crash 4)

root_seen :
    (seen escalated_root ≡ (Ended (Escalated cause_crash 4), 2 ∷ 3 ∷ 2 ∷ [], 10 ∷ 11 ∷ 12 ∷ 13 ∷ [], [], 0 ∷ 4 ∷ 0 ∷ []))
    × (escalated_root.field.events ≡ both_lost.field.events ++ refilled 0 0 ∷ escalate 0 ∷ [])
root_seen = (refl, refl)

-- an escalating member leaves its words as they are
abbrev left_tried : StateModel
left_tried = record left_sent {
  keeps = Copied (record { begin = 0; end = 2; ids = id 6 ∷ [] }) ∷ [];
  field = record left_sent.field { words = λ p. Some 7; events = found 1 1 ∷ []; notes = 1; node = number 1; begin = 4 };
  pass = kept left_sent.pass (id 6) (10 ∷ 11 ∷ []);
}

abbrev escalated_left : StateModel
escalated_left = state_behind plan left left_tried left_tried.keeps left_tried.pass 4 left_tried.field (Escalates cause_left 0)

left_seen :
    (seen escalated_left ≡ (Ended (Escalated cause_left 0), 4 ∷ [], 7 ∷ 7 ∷ 7 ∷ 7 ∷ [], [], 0 ∷ 1 ∷ 0 ∷ []))
    × (escalated_left.field.events ≡ found 1 1 ∷ escalate 1 ∷ []) × (escalated_left.above ≡ level_root ∷ [])
left_seen = (refl, refl, refl)

-- a member that completes with a leak keeps it in its notes
abbrev completed_right : StateModel
completed_right = state_behind plan right right_sent [] right_sent.pass 2 (record right_sent.field { notes = 8 }) (Completes 8)

right_told : (completed_right.stage ≡ Ended (Done 8)) × (completed_right.field.notes ≡ 8) × (completed_right.field.events ≡ complete 2 ∷ [])
right_told = (refl, refl, refl)

ends_named :
    (named plan (blame (number 2) 4) ≡ cause_hang) × (ending_of plan (done 8) ≡ Done 8)
    × (ending_of plan (escalated (blame (number 1) 2) 4) ≡ Escalated cause_crash 4)
ends_named = (refl, refl, refl)

verdicts :
    (verdict_of plan (number 0) 1 (stop.Group 0) ≡ Waits 1 0) × (verdict_of plan (number 2) 0 (stop.Passed 8) ≡ Completes 8)
    × (verdict_of plan (number 1) 0 (stop.Failed 1) ≡ Escalates cause_left 0)
    × (verdict_of plan (number 1) 1 (stop.Broken 2 2) ≡ Escalates cause_crash 2)
verdicts = (refl, refl, refl, refl)

-- the counts of domains 5 and 6 are put among those from 3 on
counts_put :
    (put_at (1 ∷ 2 ∷ 3 ∷ 4 ∷ []) 1 (7 ∷ 8 ∷ []) ≡ 1 ∷ 7 ∷ 8 ∷ 4 ∷ [])
    × (counts_taken (number 3) (record left_done { node = number 5; counts = 8 ∷ 9 ∷ [] } ∷ []) (1 ∷ 2 ∷ 3 ∷ 4 ∷ 5 ∷ []) ≡ 1 ∷ 2 ∷ 8 ∷ 9 ∷ 5 ∷ [])
counts_put = (refl, refl)
