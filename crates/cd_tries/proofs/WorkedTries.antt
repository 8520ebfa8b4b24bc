-- Worked cases of tries: a try that is judged, one that follows, a halt, a group.
use Rattle.std.proofs.Common.{◌≡◌, ℕ, false, List, [], ◌∷◌, Some, None, refl}
use Rattle.cd_base.specs.declared.place.Range.{Range}
use Rattle.cd_base.specs.declared.place.Place.{Place}
use Rattle.cd_tree.specs.declared.document.Fault.{Fault}
use Rattle.cd_tree.specs.declared.domain.Domain.{Domain}
use Rattle.cd_tree.specs.declared.domain.Item.{Item}
use Rattle.cd_tree.specs.declared.domain.Item.TheVariants as item
use Rattle.cd_tree.specs.declared.domain.How.TheVariants as how
use Rattle.cd_tree.specs.declared.domain.NodeId.{NodeId}
use Rattle.cd_tree.specs.declared.operation.Op.TheVariants.{Fill}
use Rattle.cd_tree.specs.declared.event.Event.TheVariants.{Begin, Refilled, Reached, Halted, Found}
use Rattle.cd_field.specs.FieldModel.{FieldModel}
use Rattle.cd_tries.specs.declared.keep.Keep.{Keep}
use Rattle.cd_tries.specs.declared.keep.Keep.TheVariants.{Copied}
use Rattle.cd_tries.specs.declared.tries.Stop.TheVariants.{Group, Passed, Failed, Broken}
use Rattle.cd_tries.specs.Keeping.{Known}
use Rattle.cd_tries.specs.Running.{means, Means, tried_from, tries_from, Tried}

abbrev root : NodeId
root = record { 0 = 0 }

abbrev y : Range
y = record { region = 0; low = 0; high = 4 }

abbrev first_word : Place
first_word = record { region = 0; index = 0 }

-- two tries, kind 0 is declared, one entry
abbrev domain : List Item → Domain
domain items = record {
  name = [];
  parent = None;
  retry = 2;
  detects = 1;
  entries = record { range = y; how = how.Copy } ∷ [];
  items = items;
}

-- kind k strikes the first word at a begin and a point
abbrev strike : ℕ → ℕ → ℕ → Fault
strike begin point k = record { node = root; begin = begin; item = point; kind = record { 0 = k }; place = first_word; mask = 255 }

-- the machine where the first begin has saved its entries
abbrev begun_with : List Fault → FieldModel
begun_with script = record {
  words = λ p. Some 5;
  lost = λ p. false;
  events = [];
  notes = 0;
  script = script;
  node = root;
  begin = 1;
  carved = [];
}

abbrev keeps : List Keep
keeps = Copied (record { begin = 0; end = 4; ids = record { block = 0; serial = 1 } ∷ [] }) ∷ []

abbrev known : Known
known = λ id. Some (5 ∷ 5 ∷ 5 ∷ 5 ∷ [])

abbrev with : List Item → Means
with items = means root (domain items) 2 known keeps

-- the tries of a domain with these items under this script
abbrev run : List Item → List Fault → Tried
run items script = tries_from (with items) 1 1 (tried_from 2 (domain items) (begun_with script) 0)

-- no fault: the first try passes
plain : (run (item.Run (Fill y 7) ∷ []) []).course ≡ record { spare = 1; begin = 1; stop = Passed 0 }
plain = refl

-- kind 0 strikes after the fill: the second try passes, with the words filled again
abbrev struck_once : Tried
struck_once = run (item.Run (Fill y 7) ∷ []) (strike 1 1 0 ∷ [])

struck_course : struck_once.course ≡ record { spare = 0; begin = 2; stop = Passed 0 }
struck_course = refl

struck_events : struck_once.field.events
    ≡ Reached root 0 ∷ Reached root 1 ∷ Found root 1 ∷ Begin root 2 ∷ Refilled root 0 ∷ Reached root 0 ∷ Reached root 1 ∷ Found root 0 ∷ []
struck_events = refl

struck_word : struck_once.field.words first_word ≡ Some 7
struck_word = refl

-- it strikes twice: no try is to spare
struck_twice : (run (item.Run (Fill y 7) ∷ []) (strike 1 1 0 ∷ strike 2 1 0 ∷ [])).course ≡ record { spare = 0; begin = 2; stop = Failed 1 }
struck_twice = refl

-- kind 1 halts and is not declared: the domain breaks off at its first point, though a try is to spare
abbrev broken : Tried
broken = run (item.Run (Fill y 7) ∷ []) (strike 1 0 1 ∷ [])

broken_course : broken.course ≡ record { spare = 1; begin = 1; stop = Broken 2 2 }
broken_course = refl

broken_events : broken.field.events ≡ Reached root 0 ∷ Halted root 2 ∷ []
broken_events = refl

-- kind 2 is neither declared nor halts: it leaks
leaked : (run (item.Run (Fill y 7) ∷ []) (strike 1 1 2 ∷ [])).course ≡ record { spare = 1; begin = 1; stop = Passed 4 }
leaked = refl

-- a group stops the try at its point
grouped : (run (item.Run (Fill y 7) ∷ item.Group (record { 0 = 1 } ∷ []) ∷ []) []).course ≡ record { spare = 1; begin = 1; stop = Group 1 }
grouped = refl
