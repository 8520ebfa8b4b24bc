-- What an arrival comes to.
use Rattle.std.specs.Prelude.{◌≡◌, ◌≢◌, ℕ, ◌<◌, List, [], ◌∷◌, Option}
use Rattle.atomic_table.specs.Seated.{TableId}
use Rattle.atomic_table.specs.declared.badge.Badge.{Badge}
use Rattle.cd_core.specs.declared.ask.Ask.{Ask}
use Rattle.cd_cells.specs.declared.homing.Arrived.{Arrived}
use Rattle.cd_cells.specs.declared.homing.Arrived.TheVariants.{Last, NotLast, Root}
use Rattle.cd_cells.specs.declared.view.Meeting.{Meeting}
use Rattle.cd_cells.specs.declared.view.Met.{Met}
use Rattle.cd_cells.specs.declared.view.View.{View}
use Rattle.cd_cells.specs.Kinds.{Kind}
use Rattle.cd_cells.specs.Hands.{Has}
use Rattle.cd_cells.specs.Steps.{Sat}

-- these states of these members have ended, each as the state of their parent asks, in order
abbrev pub EndedEach : {T : Type 0} → Kind T → T → List ℕ → List T → Type 0
EndedEach k parent [] [] = Unit {0}
EndedEach k parent [] (t ∷ ts) = ⊥
EndedEach k parent (m ∷ ms) [] = ⊥
EndedEach k parent (m ∷ ms) (t ∷ ts) = k.Ended (k.asks parent m) t × EndedEach k parent ms ts

-- the word that an arrival met is noted first
abbrev pub NotesFirst : {K : Type 0} → View K → View K → Meeting → ℕ → ℕ → Type 0
NotesFirst old new by node found = (before : List Met) × (new.met ≡ record { by = by; cell = node; word = found } ∷ before) × (old.met ≡ before)

-- others of the group have not arrived
pub record ArrivedBefore {K T : Type 0} (k : Kind T) (key : K) (table seat : TableId) (old new : Sat K T) (own : Option (Badge (View K))) (node : ℕ) : Type 0 where
  pub member : 0 < node
  pub found : ℕ
  pub more : found ≢ 1
  pub met : NotesFirst old.0 new.0 Meeting.Arrival (k.up node) found
  pub has : Has k key table seat new own [] []

-- all have: the parent is in hand as it rested, and its members are here as they arrived, in order
pub record ArrivedLast {K T : Type 0} (k : Kind T) (key : K) (table seat : TableId) (old new : Sat K T) (own : Option (Badge (View K))) (node : ℕ) (parent : T)
    (members : List T) : Type 0 where
  pub member : 0 < node
  pub met : NotesFirst old.0 new.0 Meeting.Arrival (k.up node) 1
  pub ask : Ask
  pub named : ask.node.0 ≡ k.up node
  pub waits : k.Waits ask parent
  pub has : Has k key table seat new own (ask ∷ []) []
  pub ended : EndedEach k parent (k.group parent) members

-- the root is home
pub record ArrivedRoot {K T : Type 0} (k : Kind T) (key : K) (table seat : TableId) (old new : Sat K T) (own : Option (Badge (View K))) (node : ℕ) : Type 0 where
  pub root : node ≡ 0
  pub met : NotesFirst old.0 new.0 Meeting.RootArrival 0 1
  pub has : Has k key table seat new own [] []

abbrev pub ArrivesAs : {K T : Type 0} → Kind T → K → TableId → TableId → Sat K T → Sat K T → Option (Badge (View K)) → ℕ → Arrived T → Type 0
ArrivesAs k key table seat old new own node (Last parent members) = ArrivedLast k key table seat old new own node parent members.items
ArrivesAs k key table seat old new own node NotLast = ArrivedBefore k key table seat old new own node
ArrivesAs k key table seat old new own node Root = ArrivedRoot k key table seat old new own node
