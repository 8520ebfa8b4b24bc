-- The machine that a field over flat words and a list of events in parts is.
use Rattle.cd_field.specs.declared.script_field.ScriptField.{ScriptField}
use Rattle.cd_field.specs.Flat.{flat_words, flat_lost}
use Rattle.cd_field.specs.EventLists.{events_of}
use Rattle.cd_field.specs.SharedFaults.{script_of}
use Rattle.cd_field.specs.FieldModel.{FieldModel}

abbrev pub flat_machine : ScriptField → FieldModel
flat_machine field = record {
  words = flat_words field.words;
  lost = flat_lost field.words;
  events = events_of field.events.parts.parts.items field.events.latest.items;
  notes = field.notes;
  script = script_of field.faults;
  node = field.node;
  begin = field.begin;
  carved = field.carved.items;
}
