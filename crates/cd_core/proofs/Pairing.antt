-- Members that came back, each paired with its state: what a state answers gives what its member's reading gives.
use Rattle.std.proofs.Common.{◌≡◌, ℕ, zero, suc, Bool, List, [], ◌∷◌, Option, Some, slice_get, refl, ap, subst, sym, ◌∙◌}
use Rattle.cd_base.specs.Words.{Words}
use Rattle.cd_tree.specs.declared.document.Fault.{Fault}
use Rattle.cd_tree.specs.declared.domain.NodeId.{NodeId}
use Rattle.cd_tree.specs.CountLaws.{AgreeOn, ReadsOwnCounts, from_other}
use Rattle.cd_tree.specs.Domains.{Node, node, node_of, node_numbers, members_by, put_first}
use Rattle.cd_tree.specs.KindSets.{no_kinds}
use Rattle.cd_tree.specs.Legal.{Legal}
use Rattle.cd_tree.specs.Locality.{SameWords, AllShapesFit, DomainsActLocally}
use Rattle.cd_tree.specs.Meaning.{node_reads, node_writes, node_reach, node_meaning}
use Rattle.cd_tree.specs.Reading.{Case, Counts, Told, NodeEnd, read_node}
use Rattle.cd_tree.specs.Slices.{among}
use Rattle.cd_tree.specs.declared.event.Event.{Event}
use Rattle.cd_tree.proofs.OtherParts.{on_inside}
use Rattle.cd_cover.specs.Plans.{PlanModel}
use Rattle.cd_core.specs.declared.state.Ending.{Ending}
use Rattle.cd_core.specs.declared.state.Ending.TheVariants.{Done}
use Rattle.cd_core.specs.declared.state.Stage.{Stage}
use Rattle.cd_core.specs.declared.state.Stage.TheVariants.{Ended}
use Rattle.cd_core.specs.StateModel.{StateModel}
use Rattle.cd_core.specs.Fits.{Fits, IsHere}
use Rattle.cd_core.specs.Tasks.{Task, task_case, LinksAgree}
use Rattle.cd_core.specs.Stands.{Stands, StandsAt, StandsArrived, NotesAreLeak, Sound, ending_of}
use Rattle.cd_core.specs.Asks.{Answers, EachAnswers, member_ask, task_of}
use Rattle.cd_core.specs.Resuming.{CanTakeEach, nodes_of}
use Rattle.cd_core.proofs.Choices.{or_left, or_right}
use Rattle.cd_core.proofs.Counting.{map_same}
use Rattle.cd_core.proofs.Returning.{CameBack, GivesMeaning}
use Rattle.cd_core.proofs.TakenBack.{Pairs}

-- ---- one after another

-- a property of the state that came back for each member, found by its number
pub paired : (P : Node → StateModel → Type 0) (find : NodeId → Option Node) (children : List StateModel)
    → ((j : ℕ) (child : StateModel) → slice_get children j ≡ Some child → (d : Node) × (find child.node ≡ Some d) × P d child)
    → Pairs P (members_by find (nodes_of children)) children
paired P find [] each = tt
paired P find (child ∷ children) each =
    let here : (d : Node) × (find child.node ≡ Some d) × P d child = each 0 child refl in
    let Q : Option Node → Type 0 = λ o. Pairs P (put_first o (members_by find (nodes_of children))) (child ∷ children) in
    subst Q (sym here.1) (here.2, paired P find children (λ j one e. each (suc j) one e))

pub paired_at : (P : Node → StateModel → Type 0) (find : NodeId → Option Node) (children : List StateModel)
    → ((j : ℕ) (child : StateModel) → slice_get children j ≡ Some child → (d : Node) × (find child.node ≡ Some d))
    → Pairs P (members_by find (nodes_of children)) children → (j : ℕ) (child : StateModel) → slice_get children j ≡ Some child
    → (d : Node) → find child.node ≡ Some d → P d child
paired_at P find [] found all j child e d is = absurd (cc)
paired_at P find (first ∷ children) found all zero child e d is =
    let same : first ≡ child = cc in
    let here : find first.node ≡ Some d = ap (λ (x : StateModel). find x.node) same ∙ is in
    let Q : Option Node → Type 0 = λ o. Pairs P (put_first o (members_by find (nodes_of children))) (first ∷ children) in
    let both : P d first × Pairs P (members_by find (nodes_of children)) children = subst Q here all in
    let R : StateModel → Type 0 = λ x. P d x in
    subst R same both.0
paired_at P find (first ∷ children) found all (suc j) child e d is =
    let one : (d : Node) × (find first.node ≡ Some d) = found 0 first refl in
    let Q : Option Node → Type 0 = λ o. Pairs P (put_first o (members_by find (nodes_of children))) (first ∷ children) in
    let both : P one.0 first × Pairs P (members_by find (nodes_of children)) children = subst Q one.1 all in
    paired_at P find children (λ k x h. found (suc k) x h) both.1 j child e d is

-- what can be taken has ended, and fits
pub record HasEnded (plan : PlanModel) (child : StateModel) : Type 0 where
  pub fits : Fits plan child
  pub ending : Ending
  pub ended : child.stage ≡ Ended ending

pub ended_at : (plan : PlanModel) (s : StateModel) (commit : Bool) (children : List StateModel) → CanTakeEach plan s commit children
    → (j : ℕ) (child : StateModel) → slice_get children j ≡ Some child → HasEnded plan child
ended_at plan s commit [] takes j child e = absurd (cc)
ended_at plan s commit (first ∷ children) takes zero child e =
    let same : first ≡ child = cc in
    let H : StateModel → Type 0 = λ x. HasEnded plan x in
    subst H same (record { fits = takes.0.fits; ending = takes.0.ending; ended = takes.0.ended })
ended_at plan s commit (first ∷ children) takes (suc j) child e = ended_at plan s commit children takes.1 j child e

pub answers_at : (plan : PlanModel) (faults : List Fault) (loaded : Words) (s : StateModel) (children : List StateModel)
    → EachAnswers plan faults loaded s children → (j : ℕ) (child : StateModel) → slice_get children j ≡ Some child
    → (d : Node) → node_of plan.tree.domains child.node ≡ Some d → Answers plan faults loaded (member_ask plan s child.node d) child
answers_at plan faults loaded s [] answers j child e d is = absurd (cc)
answers_at plan faults loaded s (first ∷ children) answers zero child e d is =
    let same : first ≡ child = cc in
    let A : StateModel → Type 0 = λ x. (d : Node) → node_of plan.tree.domains x.node ≡ Some d → Answers plan faults loaded (member_ask plan s x.node d) x in
    subst A same answers.0 d is
answers_at plan faults loaded s (first ∷ children) answers (suc j) child e d is = answers_at plan faults loaded s children answers.1 j child e d is

pub nodes_at : (children : List StateModel) (j : ℕ) (child : StateModel) → slice_get children j ≡ Some child
    → slice_get (nodes_of children) j ≡ Some child.node
nodes_at [] j child e = absurd (cc)
nodes_at (first ∷ children) zero child e = let same : first ≡ child = cc in ap (λ (x : StateModel). Some x.node) same
nodes_at (first ∷ children) (suc j) child e = nodes_at children j child e

-- ---- one of them

-- a member's state, which has ended and stands for what was asked of it
pub record OneAnswer (plan : PlanModel) (faults : List Fault) (loaded : Words) (s : StateModel) (child : StateModel) : Type 0 where
  pub domain : Node
  pub is : node_of plan.tree.domains child.node ≡ Some domain
  pub ending : Ending
  pub ended : child.stage ≡ Ended ending
  pub stands : Stands plan (task_of plan faults loaded (member_ask plan s child.node domain) domain) child

pub one_answer : (plan : PlanModel) (faults : List Fault) (loaded : Words) (s : StateModel) (commit : Bool) (children : List StateModel)
    → CanTakeEach plan s commit children → EachAnswers plan faults loaded s children
    → (j : ℕ) (child : StateModel) → slice_get children j ≡ Some child → OneAnswer plan faults loaded s child
one_answer plan faults loaded s commit children takes answers j child e =
    let h : HasEnded plan child = ended_at plan s commit children takes j child e in
    let d : Node = node child.node h.fits.domain h.fits.body in
    let a : Answers plan faults loaded (member_ask plan s child.node d) child = answers_at plan faults loaded s children answers j child e d h.fits.is in
    let both : ◌≡◌ {A = Option Node} (Some a.domain) (Some d) = sym a.is ∙ h.fits.is in
    let same : a.domain ≡ d = cc in
    let S : Node → Type 0 = λ x. Stands plan (task_of plan faults loaded (member_ask plan s child.node d) x) child in
    record { domain = d; is = h.fits.is; ending = h.ending; ended = h.ended; stands = subst S same a.stands }

module _ (own : ReadsOwnCounts) (plan : PlanModel) (t : Task) (sent : Counts) (child : StateModel) (ending : Ending)
    (agree : AgreeOn (node_numbers t.domain) t.counts sent) (ended : child.stage ≡ Ended ending) (stands : Stands plan t child) where
  abbrev w : Case
  w = task_case plan t

  arrived : StandsArrived plan t child ending
  arrived = let A : Stage → Type 0 = λ stage. StandsAt plan t child stage in subst A ended stands.stage

  -- its reading is the same from the counts with which all were sent
  same_reading : read_node w t.domain sent ≡ from_other (node_numbers t.domain) sent (read_node w t.domain t.counts)
  same_reading = own w t.domain t.counts sent agree

  same_answer : (read_node w t.domain t.counts).answer ≡ (read_node w t.domain sent).answer
  same_answer = sym (ap (λ (x : Told NodeEnd). x.answer) same_reading)

  ends_so : ending ≡ ending_of plan (read_node w t.domain sent).answer
  ends_so = arrived.ends ∙ ap (λ (e : NodeEnd). ending_of plan e) same_answer

  pub came_back : CameBack plan w t.loaded sent t.domain child
  came_back =
      let L : List Event → Type 0 = λ es. Legal plan.tree t.loaded child.field.events es in
      let N : Ending → Type 0 = λ e. NotesAreLeak child.field e in
      record {
        legal = subst L (sym (ap (λ (x : Told NodeEnd). x.past.events) same_reading)) arrived.legal;
        counts = arrived.counts
            ∙ map_same (read_node w t.domain t.counts).counts (read_node w t.domain sent).counts (node_numbers t.domain)
            (λ n h. sym (ap (λ (x : Told NodeEnd). x.counts n) same_reading
            ∙ on_inside (among (node_numbers t.domain)) (read_node w t.domain t.counts).counts sent n h));
        ends = ended ∙ ap (λ (e : Ending). Ended e) ends_so;
        notes = subst N ends_so arrived.notes;
        lapses = stands.lapses;
        carved = stands.carved;
      }

  -- and where it leaks nothing its words are those of its meaning, from words that agree with those that it was sent with
  pub gives_meaning : DomainsActLocally → (before : Words) → AllShapesFit t.domain → SameWords (node_reach t.domain) t.words before → LinksAgree plan t
      → GivesMeaning w sent before t.domain child
  gives_meaning acts before shapes same links quiet p h =
      let S : Ending → Type 0 = λ e. Sound plan t child.field e in
      let sound : Sound plan t child.field (Done no_kinds) = subst S (ends_so ∙ ap (λ (e : NodeEnd). ending_of plan e) quiet) arrived.sound in
      let both : IsHere t.domain child.field × SameWords (node_reach t.domain) child.field.words (node_meaning t.domain t.words) = sound refl links in
      both.1 p (or_right (node_reads t.domain p) (node_writes t.domain p) h)
      ∙ acts.written t.domain t.words before shapes (λ q k. same q (or_left (node_reads t.domain q) (node_writes t.domain q) k)) p h
