-- What a later try puts back: the words that the keeps give, later entries over earlier ones, and nothing else.
use Rattle.std.specs.Prelude.{ℕ, suc, ◌+◌, ◌-◌, ◌*◌, min, max, false, nat_le, if◌then◌else◌, List, [], ◌∷◌, None, slice_get}
use Rattle.cd_base.specs.declared.place.Range.{Range}
use Rattle.cd_base.specs.Words.{Words, in_range}
use Rattle.cd_tree.specs.declared.domain.Entry.{Entry}
use Rattle.cd_tree.specs.declared.event.Event.TheVariants.{Refilled}
use Rattle.cd_tree.specs.Meaning.{written}
use Rattle.cd_field.specs.FieldModel.{FieldModel, told}
use Rattle.cd_keep.specs.declared.keep_id.KeepId.{KeepId}
use Rattle.cd_keep.specs.PassModel.{PassModel, gave_up}
use Rattle.cd_tries.specs.declared.keep.Keep.{Keep}
use Rattle.cd_tries.specs.declared.keep.Pieces.{Pieces}
use Rattle.cd_tries.specs.Keeping.{Known, keep_words}

-- the places of a range are present, with these words
abbrev pub put_words : Words → Range → FieldModel → FieldModel
put_words words r m = record m {
  words = written (in_range r) words m.words;
  lost = λ p. if in_range r p then false else m.lost p;
}

-- words that stand from an index on
abbrev pub words_at : ℕ → List ℕ → Words
words_at start words = λ p. if nat_le start p.index then slice_get words (p.index - start) else None

-- the places of a range that its k-th piece has
abbrev pub part_of_piece : Pieces → Range → ℕ → Range
part_of_piece pieces r k = record {
  region = r.region;
  low = max r.low (pieces.begin + 64 * k);
  high = min r.high (pieces.begin + 64 * k + 64);
}

-- the places of an entry are present, with the words that its keep gives
abbrev pub put_back : Known → Entry → Keep → FieldModel → FieldModel
put_back known entry keep m = put_words (keep_words known entry.how keep) entry.range m

-- entries, numbered from `at` on, put back in order, and told
abbrev pub refilled_from : Known → ℕ → List Entry → List Keep → FieldModel → FieldModel
refilled_from known at [] keeps m = m
refilled_from known at (entry ∷ entries) [] m = m
refilled_from known at (entry ∷ entries) (keep ∷ keeps) m =
    refilled_from known (suc at) entries keeps (told (put_back known entry keep m) (Refilled m.node at))

abbrev pub refilled_all : Known → List Entry → List Keep → FieldModel → FieldModel
refilled_all known entries keeps m = refilled_from known 0 entries keeps m

-- these ids given up, in order
abbrev pub gave_up_each : PassModel → List KeepId → PassModel
gave_up_each p [] = p
gave_up_each p (id ∷ ids) = gave_up_each (gave_up p id) ids
