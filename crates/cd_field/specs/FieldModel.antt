-- A machine as contracts see it, and what each call does to it.
use Rattle.std.specs.Prelude.{◌≡◌, ℕ, ◌-◌, Bool, true, false, ◌||◌, bit_or, List, [], ◌∷◌, ◌++◌, map, slice_index, Some, None, IsSome, if◌then◌else◌}
use Rattle.std.specs.List.{range_with_len}
use Rattle.cd_base.specs.declared.place.Place.{Place}
use Rattle.cd_base.specs.declared.place.Range.{Range}
use Rattle.cd_base.specs.Words.{Words, PlaceSet, put, same_place, word_at, in_range, in_ranges}
use Rattle.cd_tree.specs.declared.domain.NodeId.{NodeId}
use Rattle.cd_tree.specs.declared.document.Fault.{Fault}
use Rattle.cd_tree.specs.declared.document.Region.{Region}
use Rattle.cd_tree.specs.declared.event.Event.{Event}
use Rattle.cd_tree.specs.declared.event.Event.TheVariants.{Begin, Reached, Escalate}
use Rattle.cd_tree.specs.KindSets.{no_kinds}
use Rattle.cd_tree.specs.Operations.{length_of}
use Rattle.cd_tree.specs.Meaning.{initial, written}
use Rattle.cd_tree.specs.Scripts.{struck, kinds_of, words_struck}

-- the words, the places whose word is away (carved out and not put back), the record, the notes of the try in hand, the
-- script, the domain and the begin number in hand, and the ranges that this machine was carved to write
pub record FieldModel : Type 0 where
  pub words : Words
  pub lost : PlaceSet
  pub events : List Event
  pub notes : ℕ
  pub script : List Fault
  pub node : NodeId
  pub begin : ℕ
  pub carved : List Range

abbrev pub nowhere : PlaceSet
nowhere = λ p. false

-- a place has a word, and it is not away
pub record IsPresent (m : FieldModel) (p : Place) : Type 0 where
  pub known : IsSome (m.words p)
  pub here : m.lost p ≡ false

-- each place of these ranges is present
abbrev pub ArePresent : FieldModel → List Range → Type 0
ArePresent m ranges = (p : Place) → in_ranges ranges p ≡ true → IsPresent m p

-- the faults that strike when the machine comes to this point
abbrev pub hits_at : FieldModel → ℕ → List Fault
hits_at m point = struck m.script m.node m.begin point

-- a machine that has just been loaded
abbrev pub loaded : List Region → List Fault → FieldModel
loaded regions script = record {
  words = initial regions;
  lost = nowhere;
  events = [];
  notes = no_kinds;
  script = script;
  node = record { 0 = 0 };
  begin = 0;
  carved = [];
}

-- one event more
abbrev pub told : FieldModel → Event → FieldModel
told m event = record m { events = m.events ++ event ∷ [] }

-- a domain's begin empties the notes
abbrev pub begun : FieldModel → NodeId → ℕ → FieldModel
begun m id number = record m {
  events = m.events ++ Begin id number ∷ [];
  notes = no_kinds;
  node = id;
  begin = number;
}

-- one word changed
abbrev pub wrote : FieldModel → Place → ℕ → FieldModel
wrote m p word = record m { words = put m.words p word }

-- one word put back, which is present then
abbrev pub refilled_word : FieldModel → Place → ℕ → FieldModel
refilled_word m p word = record m {
  words = put m.words p word;
  lost = λ q. if same_place p q then false else m.lost q;
}

-- the words of a range in order, from its first place on
abbrev pub words_in : Words → Range → List ℕ
words_in w r = map (λ i. word_at w (record { region = r.region; index = i })) (range_with_len r.low (length_of r))

-- a list of words laid over a range: the first at its first place, all other places as before
abbrev pub laid : Words → Range → List ℕ → Words
laid w r words = λ q. if in_range r q then Some (slice_index words (q.index - r.low)) else w q

-- the words of a range changed
abbrev pub wrote_run : FieldModel → Range → List ℕ → FieldModel
wrote_run m r words = record m { words = laid m.words r words }

-- the words of a range put back, which are present then
abbrev pub refilled_run : FieldModel → Range → List ℕ → FieldModel
refilled_run m r words = record m {
  words = laid m.words r words;
  lost = λ q. if in_range r q then false else m.lost q;
}

-- a point reached: its faults strike in script order and their kinds join the notes
abbrev pub reached_point : FieldModel → ℕ → FieldModel
reached_point m point = record m {
  words = words_struck (hits_at m point) m.words;
  events = m.events ++ Reached m.node point ∷ [];
  notes = bit_or m.notes (kinds_of (hits_at m point));
}

-- an escalation empties the notes
abbrev pub gone_up : FieldModel → FieldModel
gone_up m = record m { events = m.events ++ Escalate m.node ∷ []; notes = no_kinds }

-- the part that is carved out of a machine: it has words at these places alone
abbrev pub part_of : FieldModel → List Range → List Range → FieldModel
part_of m reads writes = record {
  words = λ q. if in_ranges reads q || in_ranges writes q then m.words q else None;
  lost = nowhere;
  events = [];
  notes = no_kinds;
  script = m.script;
  node = record { 0 = 0 };
  begin = 0;
  carved = writes;
}

-- what is left: the places that the part writes are away
abbrev pub without : FieldModel → List Range → FieldModel
without m writes = record m { lost = λ q. in_ranges writes q || m.lost q }

-- a part taken back: with commit its carved writes are here again with its words, and its notes join these
abbrev pub absorbed : FieldModel → FieldModel → Bool → FieldModel
absorbed m part true = record m {
  words = written (in_ranges part.carved) part.words m.words;
  lost = λ q. if in_ranges part.carved q then false else m.lost q;
  events = m.events ++ part.events;
  notes = bit_or m.notes part.notes;
}
absorbed m part false = record m { events = m.events ++ part.events }

-- when a part may be taken back
pub record CanAbsorb (m part : FieldModel) (commit : Bool) : Type 0 where
  pub script : part.script ≡ m.script
  pub away : (p : Place) → in_ranges part.carved p ≡ true → m.lost p ≡ true
  pub present : commit ≡ true → ArePresent part part.carved
