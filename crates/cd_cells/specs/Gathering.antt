-- Between the last arrival of a group and its parent: the pass takes the members.
use Rattle.std.specs.Prelude.{◌≡◌, ℕ, List, [], ◌∷◌, ◌++◌}
use Rattle.atomic_table.specs.Seated.{TableId}
use Rattle.cd_core.specs.declared.ask.Ask.{Ask}
use Rattle.cd_cells.specs.declared.view.Meeting.{Meeting}
use Rattle.cd_cells.specs.declared.view.View.{View}
use Rattle.cd_cells.specs.Listing.{often, nodes}
use Rattle.cd_cells.specs.Kinds.{Kind, IsGrouped}
use Rattle.cd_cells.specs.Seats.{IsAt}
use Rattle.cd_cells.specs.Steps.{Sat, also_naming, clearing, meeting, taking, with_view}

-- these states have ended, each as its ask has it, in order
abbrev pub EndedBy : {T : Type 0} → Kind T → List Ask → List T → Type 0
EndedBy k [] [] = Unit {0}
EndedBy k [] (t ∷ ts) = ⊥
EndedBy k (a ∷ asks) [] = ⊥
EndedBy k (a ∷ asks) (t ∷ ts) = k.Ended a t × EndedBy k asks ts

-- a member is taken, its ticket is joined, and its cell is cleared
abbrev pub gathered : {K : Type 0} → View K → ℕ → Ask → View K
gathered v d a = clearing (also_naming (taking v d) a) d

pub record HasGathered {K T : Type 0} (k : Kind T) (old new : Sat K T) (node : ℕ) (state : T) : Type 0 where
  pub ask : Ask
  pub named : ask.node.0 ≡ node
  pub ended : k.Ended ask state
  pub now : new ≡ with_view old (gathered old.0 node ask)

-- the view of a pass whose arrival was the last, when it owes these a taking still, has cleared those, and names those that it took
abbrev pub gathering : {K T : Type 0} → Kind T → View K → ℕ → List ℕ → List Ask → List ℕ → View K
gathering k old node left asks clears = record (meeting old Meeting.Arrival (k.up node) 1) {
  rights = [];
  turns = [];
  holds = [];
  lasts = k.up node ∷ [];
  owes = left;
  takes = [];
  clears = clears;
  named = asks;
  arrives = node ∷ old.arrives;
}

-- a pass whose arrival was the last has taken all members but those left: these are their states
pub record Gathers {K T : Type 0} (k : Kind T) (key : K) (table seat : TableId) (old : View K) (node : ℕ) (me : Sat K T) (left : List ℕ) (states : List T) : Type 0 where
  pub at : IsAt k key table seat me.0
  pub slots : me.1 ≡ []
  pub grouped : IsGrouped k node
  pub asks : List Ask
  pub clears : List ℕ
  pub view : me.0 ≡ gathering k old node left asks clears
  pub all : nodes asks ++ left ≡ k.siblings node
  pub cleared : (m : ℕ) → often m clears ≡ often m (nodes asks)
  pub ended : EndedBy k asks states
