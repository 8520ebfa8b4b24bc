-- How entries are preserved: by a copy in pieces, by pieces of the link, or by the pattern; what is told, and what the pass has then.
use Rattle.std.specs.Prelude.{◌≡◌, ◌≢◌, ℕ, suc, ◌+◌, ◌-◌, ◌*◌, ◌/◌, min, List, [], ◌∷◌, ◌++◌, length, take, drop, Option, None, IsSomeAnd, Contains}
use Rattle.cd_base.specs.declared.pattern.Pattern.{Pattern}
use Rattle.cd_base.specs.declared.place.Place.{Place}
use Rattle.cd_base.specs.declared.place.Range.{Range}
use Rattle.cd_base.specs.Words.{Words, pattern_word}
use Rattle.cd_tree.specs.declared.domain.NodeId.{NodeId}
use Rattle.cd_tree.specs.declared.domain.How.{How}
use Rattle.cd_tree.specs.declared.domain.How.TheVariants.{Copy, Refer, Regen}
use Rattle.cd_tree.specs.declared.domain.Entry.{Entry}
use Rattle.cd_tree.specs.declared.domain.Domain.{Domain}
use Rattle.cd_tree.specs.declared.event.Kept.TheVariants as kept_as
use Rattle.cd_tree.specs.declared.event.Event.{Event}
use Rattle.cd_tree.specs.declared.event.Event.TheVariants.{Saved, Fell, Lapsed}
use Rattle.cd_tree.specs.Legal.{GivesWords, Differs, DiffersFirst}
use Rattle.cd_tree.specs.Meaning.{blocks_of}
use Rattle.cd_field.specs.FieldModel.{FieldModel, words_in}
use Rattle.cd_keep.specs.declared.keep_id.KeepId.{KeepId}
use Rattle.cd_keep.specs.PassModel.{PassModel, Gone, kept, shared, lapsed}
use Rattle.cd_tries.specs.declared.keep.Pieces.{Pieces}
use Rattle.cd_tries.specs.declared.keep.Keep.{Keep}
use Rattle.cd_tries.specs.declared.keep.Keep.TheVariants as by
use Rattle.cd_tries.specs.declared.shelf.Level.{Level}
use Rattle.cd_tries.specs.Keeping.{linked_by}
use Rattle.cd_cover.specs.Links.{link_of}

-- ---- copies

-- the k-th piece of a range: 64 indices cut from its low end, fewer at its high end
abbrev pub nth_piece : Range → ℕ → Range
nth_piece r k = record { region = r.region; low = r.low + 64 * k; high = min (r.low + 64 * k + 64) r.high }

-- a range's pieces, from the k-th on, are kept under these ids, each new when it comes: the pass before, and behind
abbrev pub KeepsFrom : Words → Range → ℕ → List KeepId → PassModel → PassModel → Type 0
KeepsFrom w r k [] p q = q ≡ p
KeepsFrom w r k (id ∷ ids) p q = (p.known id ≡ None) × KeepsFrom w r (suc k) ids (kept p id (words_in w (nth_piece r k))) q

-- a copy of the words of a range
pub record IsCopy (w : Words) (r : Range) (pieces : Pieces) (p q : PassModel) : Type 0 where
  pub begin : pieces.begin ≡ r.low
  pub end : pieces.end ≡ r.high
  pub count : length pieces.ids ≡ blocks_of r
  pub keeps : KeepsFrom w r 0 pieces.ids p q

-- ---- references

-- the number of the first piece that meets a range, and how many do
abbrev pub first_met : Pieces → Range → ℕ
first_met pieces r = (r.low - pieces.begin) / 64

abbrev pub count_met : Pieces → Range → ℕ
count_met pieces r = (r.high - 1 - pieces.begin) / 64 + 1 - first_met pieces r

-- the pieces that meet a range which they cover
abbrev pub met : Pieces → Range → Pieces
met pieces r = record {
  begin = pieces.begin + 64 * first_met pieces r;
  end = min (pieces.begin + 64 * (first_met pieces r + count_met pieces r)) pieces.end;
  ids = take (count_met pieces r) (drop (first_met pieces r) pieces.ids);
}

-- these ids held once more, in order
abbrev pub shared_each : PassModel → List KeepId → PassModel
shared_each p [] = p
shared_each p (id ∷ ids) = shared_each (shared p id) ids

-- ---- one entry

-- an entry as it is preserved: of which domain, its number, its range, the words of the machine, and the pieces of its link
pub record Spot : Type 0 where
  pub node : NodeId
  pub at : ℕ
  pub range : Range
  pub words : Words
  pub link : Option Pieces

-- by a copy
abbrev pub SavedByCopy : Spot → Keep → List Event → PassModel → PassModel → Type 0
SavedByCopy s (by.Copied pieces) events p q = IsCopy s.words s.range pieces p q × (events ≡ Saved s.node s.at kept_as.Copy ∷ [])
SavedByCopy s (by.Shared pieces) events p q = ⊥
SavedByCopy s by.Pattern events p q = ⊥

-- a piece of the link was gone, and the range is copied
pub record LapsedToCopy (s : Spot) (pieces : Pieces) (events : List Event) (p q : PassModel) : Type 0 where
  pub gone : Gone
  pub asked : IsSomeAnd s.link (λ link. Contains (met link s.range).ids gone.id)
  pub differ : gone.note.seen ≢ gone.note.found
  pub copy : IsCopy s.words s.range pieces (lapsed p gone.id gone.note) q
  pub said : events ≡ Lapsed s.node s.at gone.note.seen gone.note.found ∷ Saved s.node s.at kept_as.Copy ∷ []

-- by the pieces of the link that meet the range; or by a copy, where one was gone
abbrev pub SavedByReference : Spot → Keep → List Event → PassModel → PassModel → Type 0
SavedByReference s (by.Copied pieces) events p q = LapsedToCopy s pieces events p q
SavedByReference s (by.Shared pieces) events p q =
    IsSomeAnd s.link (λ link. pieces ≡ met link s.range) × (q ≡ shared_each p pieces.ids)
    × (events ≡ Saved s.node s.at kept_as.Refer ∷ [])
SavedByReference s by.Pattern events p q = ⊥

-- the least place of the range has another word than the pattern's, and the range is copied
pub record FellToCopy (s : Spot) (pattern : Pattern) (pieces : Pieces) (events : List Event) (p q : PassModel) : Type 0 where
  pub place : Place
  pub found : ℕ
  pub differs : Differs place (pattern_word pattern place.index) found s.range pattern
  pub first : DiffersFirst s.words place found s.range pattern
  pub copy : IsCopy s.words s.range pieces p q
  pub said : events ≡ Fell s.node s.at place (pattern_word pattern place.index) found ∷ Saved s.node s.at kept_as.Copy ∷ []

-- by the pattern, where it gives each word; or by a copy
abbrev pub SavedByPattern : Spot → Pattern → Keep → List Event → PassModel → PassModel → Type 0
SavedByPattern s pattern (by.Copied pieces) events p q = FellToCopy s pattern pieces events p q
SavedByPattern s pattern (by.Shared pieces) events p q = ⊥
SavedByPattern s pattern by.Pattern events p q =
    GivesWords s.words s.range pattern × (q ≡ p) × (events ≡ Saved s.node s.at kept_as.Regen ∷ [])

abbrev pub SavedAs : Spot → How → Keep → List Event → PassModel → PassModel → Type 0
SavedAs s Copy keep events p q = SavedByCopy s keep events p q
SavedAs s Refer keep events p q = SavedByReference s keep events p q
SavedAs s (Regen pattern) keep events p q = SavedByPattern s pattern keep events p q

-- the spot of an entry of the domain in hand of a machine
abbrev pub spot : FieldModel → ℕ → Range → Option Pieces → Spot
spot m at range link = record { node = m.node; at = at; range = range; words = m.words; link = link }

-- the machine after events were told in order
abbrev pub told_all : FieldModel → List Event → FieldModel
told_all m events = record m { events = m.events ++ events }

-- an entry was preserved by this keep: the machine before and behind, and the pass before and behind
pub record IsSaved (s : Spot) (how : How) (keep : Keep) (m n : FieldModel) (p q : PassModel) : Type 0 where
  pub events : List Event
  pub saved : SavedAs s how keep events p q
  pub told : n ≡ told_all m events

-- ---- all entries

-- one entry preserved, and those behind it
pub record First (P : List Event → PassModel → Type 0) (Q : List Event → PassModel → Type 0) (events : List Event) : Type 0 where
  pub told : List Event
  pub more : List Event
  pub between : PassModel
  pub one : P told between
  pub rest : Q more between
  pub whole : events ≡ told ++ more

-- the entries of a domain, numbered from `at` on, with the pieces of the link of each, are preserved by these keeps; what
-- is told, the pass before, and behind
abbrev pub SavedAll : NodeId → Words → (ℕ → Option Pieces) → ℕ → List Entry → List Keep → List Event → PassModel → PassModel → Type 0
SavedAll id w links at [] [] events p q = (events ≡ []) × (q ≡ p)
SavedAll id w links at [] (keep ∷ keeps) events p q = ⊥
SavedAll id w links at (entry ∷ entries) [] events p q = ⊥
SavedAll id w links at (entry ∷ entries) (keep ∷ keeps) events p q =
    First (λ told between. SavedAs (record { node = id; at = at; range = entry.range; words = w; link = links at }) entry.how keep told p between)
    (λ more between. SavedAll id w links (suc at) entries keeps more between q) events

-- the pieces of the links of a domain's entries, by the numbers of these, among what the domains above keep
abbrev pub links_for : List Domain → NodeId → List Level → ℕ → Option Pieces
links_for domains id above at = linked_by above (link_of domains id at)

-- a domain's entries are preserved by these keeps: the machine before and behind, and the pass before and behind
pub record IsPreserved (id : NodeId) (domain : Domain) (links : ℕ → Option Pieces) (keeps : List Keep) (m n : FieldModel) (p q : PassModel) : Type 0 where
  pub events : List Event
  pub saved : SavedAll id m.words links 0 domain.entries keeps events p q
  pub told : n ≡ told_all m events
