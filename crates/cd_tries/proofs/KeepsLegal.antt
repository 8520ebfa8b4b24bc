-- What is told of entries as they are preserved is legal.
use Rattle.std.proofs.Common.{◌≡◌, ℕ, suc, ◌+◌, true, List, [], ◌∷◌, ◌++◌, Option, Some, IsSomeAnd, slice_get, option_and_then, arith, refl, ap, sym, subst, ◌∙◌}
use Rattle.cd_base.specs.declared.place.Place.{Place}
use Rattle.cd_base.specs.declared.place.Range.{Range}
use Rattle.cd_base.specs.declared.pattern.Pattern.{Pattern}
use Rattle.cd_base.specs.Words.{Words, in_range, pattern_word}
use Rattle.cd_tree.specs.declared.domain.NodeId.{NodeId}
use Rattle.cd_tree.specs.declared.domain.How.{How}
use Rattle.cd_tree.specs.declared.domain.How.TheVariants.{Copy, Refer, Regen}
use Rattle.cd_tree.specs.declared.domain.Entry.{Entry}
use Rattle.cd_tree.specs.declared.domain.Domain.{Domain}
use Rattle.cd_tree.specs.declared.event.Kept.TheVariants as kept_as
use Rattle.cd_tree.specs.declared.event.Event.{Event}
use Rattle.cd_tree.specs.declared.event.Event.TheVariants.{Saved}
use Rattle.cd_tree.specs.Legal.{Legal, entry_at, OfPattern, IsPatternAnd, GivesWords, Differs, DiffersFirst}
use Rattle.cd_tree.specs.Legal.{nothing as stands_nothing, same as stands_same, fell as stands_fallen, lapsed as stands_lapsed}
use Rattle.cd_tree.specs.Locality.{SameWords}
use Rattle.cd_tree.specs.Meaning.{in_entries}
use Rattle.cd_tree.specs.Reading.{how_kept, saved_from}
use Rattle.cd_tree.specs.TreeModel.{TreeModel}
use Rattle.cd_keep.specs.PassModel.{PassModel}
use Rattle.cd_tries.specs.declared.keep.Pieces.{Pieces}
use Rattle.cd_tries.specs.declared.keep.Keep.{Keep}
use Rattle.cd_tries.specs.declared.keep.Keep.TheVariants as by
use Rattle.cd_tries.specs.KeepLaws.{PreservedIsLegal}
use Rattle.cd_tries.specs.Preserving.{SavedAs, SavedAll}
use Rattle.std.proofs.lemmas.Bool.{or_left, or_right}

-- what holds of an entry that a pattern gives holds by its domain and number
of_pattern : (P : Range → Pattern → Type 0) (tree : TreeModel) (id : NodeId) (at : ℕ) (entry : Entry) (pattern : Pattern)
    → entry_at tree.domains id at ≡ Some entry → entry.how ≡ Regen pattern → P entry.range pattern → IsPatternAnd tree id at P
of_pattern P tree id at entry pattern there is holds =
    let A : Option Entry → Type 0 = λ o. IsSomeAnd o (λ e. OfPattern P e e.how) in
    let B : How → Type 0 = λ h. OfPattern P entry h in
    subst A (sym there) (subst B (sym is) holds)

gives_loaded : (w loaded : Words) (range : Range) (pattern : Pattern) → SameWords (in_range range) w loaded → GivesWords w range pattern
    → GivesWords loaded range pattern
gives_loaded w loaded range pattern same gives p h = sym (same p h) ∙ gives p h

differs_loaded : (w loaded : Words) (place : Place) (found : ℕ) (range : Range) (pattern : Pattern) → SameWords (in_range range) w loaded
    → in_range range place ≡ true → DiffersFirst w place found range pattern → DiffersFirst loaded place found range pattern
differs_loaded w loaded place found range pattern same inside first =
    (sym (same place inside) ∙ first.0, λ p h short. sym (same p h) ∙ first.1 p h short)

-- the events of one entry, and those of the entries behind it
entry_legal : (tree : TreeModel) (loaded w : Words) (id : NodeId) (at : ℕ) (entry : Entry) (how : How) (link : Option Pieces) (keep : Keep)
    (told more expected : List Event) (p q : PassModel) → entry.how ≡ how → entry_at tree.domains id at ≡ Some entry
    → (id.0 ≡ 0 → SameWords (in_range entry.range) w loaded)
    → SavedAs (record { node = id; at = at; range = entry.range; words = w; link = link }) how keep told p q
    → Legal tree loaded more expected → Legal tree loaded (told ++ more) (Saved id at (how_kept how) ∷ expected)
entry_legal tree loaded w id at entry Copy link (by.Copied pieces) told more expected p q is there same h rest =
    let A : List Event → Type 0 = λ es. Legal tree loaded (es ++ more) (Saved id at kept_as.Copy ∷ expected) in
    subst A (sym h.1) (stands_same (Saved id at kept_as.Copy) more expected tt rest)
entry_legal tree loaded w id at entry Copy link (by.Shared pieces) told more expected p q is there same h rest = absurd h
entry_legal tree loaded w id at entry Copy link by.Pattern told more expected p q is there same h rest = absurd h
entry_legal tree loaded w id at entry Refer link (by.Copied pieces) told more expected p q is there same h rest =
    let A : List Event → Type 0 = λ es. Legal tree loaded (es ++ more) (Saved id at kept_as.Refer ∷ expected) in
    subst A (sym h.said) (stands_lapsed id at h.gone.note.seen h.gone.note.found more expected h.differ rest)
entry_legal tree loaded w id at entry Refer link (by.Shared pieces) told more expected p q is there same h rest =
    let A : List Event → Type 0 = λ es. Legal tree loaded (es ++ more) (Saved id at kept_as.Refer ∷ expected) in
    subst A (sym h.2) (stands_same (Saved id at kept_as.Refer) more expected tt rest)
entry_legal tree loaded w id at entry Refer link by.Pattern told more expected p q is there same h rest = absurd h
entry_legal tree loaded w id at entry (Regen pattern) link (by.Copied pieces) told more expected p q is there same h rest =
    let A : List Event → Type 0 = λ es. Legal tree loaded (es ++ more) (Saved id at kept_as.Regen ∷ expected) in
    let wanted : ℕ = pattern_word pattern h.place.index in
    subst A (sym h.said) (stands_fallen id at h.place wanted h.found more expected (record {
      differs = of_pattern (Differs h.place wanted h.found) tree id at entry pattern there is h.differs;
      first = λ root. of_pattern (DiffersFirst loaded h.place h.found) tree id at entry pattern there is
          (differs_loaded w loaded h.place h.found entry.range pattern (same root) h.differs.0 h.first);
    }) rest)
entry_legal tree loaded w id at entry (Regen pattern) link (by.Shared pieces) told more expected p q is there same h rest = absurd h
entry_legal tree loaded w id at entry (Regen pattern) link by.Pattern told more expected p q is there same h rest =
    let A : List Event → Type 0 = λ es. Legal tree loaded (es ++ more) (Saved id at kept_as.Regen ∷ expected) in
    subst A (sym h.2) (stands_same (Saved id at kept_as.Regen) more expected
    (λ root. of_pattern (GivesWords loaded) tree id at entry pattern there is (gives_loaded w loaded entry.range pattern (same root) h.0)) rest)

-- these are the entries of a domain from one number on
abbrev pub AreFrom : List Entry → ℕ → List Entry → Type 0
AreFrom all at entries = (k : ℕ) → slice_get entries k ≡ slice_get all (at + k)

behind : (all : List Entry) (at : ℕ) (entry : Entry) (entries : List Entry) → AreFrom all at (entry ∷ entries) → AreFrom all (suc at) entries
behind all at entry entries from k = from (suc k) ∙ ap (slice_get all) (omega arith)

all_legal : (tree : TreeModel) (loaded w : Words) (id : NodeId) (domain : Domain) (links : ℕ → Option Pieces) (at : ℕ) (entries : List Entry)
    (keeps : List Keep) (events : List Event) (p q : PassModel) → slice_get tree.domains id.0 ≡ Some domain
    → AreFrom domain.entries at entries → (id.0 ≡ 0 → SameWords (in_entries entries) w loaded)
    → SavedAll id w links at entries keeps events p q → Legal tree loaded events (saved_from id at entries)
all_legal tree loaded w id domain links at [] [] events p q there from same h =
    let A : List Event → Type 0 = λ es. Legal tree loaded es [] in
    subst A (sym h.0) stands_nothing
all_legal tree loaded w id domain links at [] (keep ∷ keeps) events p q there from same h = absurd h
all_legal tree loaded w id domain links at (entry ∷ entries) [] events p q there from same h = absurd h
all_legal tree loaded w id domain links at (entry ∷ entries) (keep ∷ keeps) events p q there from same h =
    let here : entry_at tree.domains id at ≡ Some entry =
    ap (option_and_then (λ (d : Domain). slice_get d.entries at)) there ∙ ap (slice_get domain.entries) (omega arith) ∙ sym (from 0) in
    let A : List Event → Type 0 = λ es. Legal tree loaded es (saved_from id at (entry ∷ entries)) in
    subst A (sym h.whole)
    (entry_legal tree loaded w id at entry entry.how (links at) keep h.told h.more (saved_from id (suc at) entries) p h.between refl here
    (λ root place inside. same root place (or_left (in_range entry.range place) (in_entries entries place) inside)) h.one
    (all_legal tree loaded w id domain links (suc at) entries keeps h.more h.between q there (behind domain.entries at entry entries from)
    (λ root place inside. same root place (or_right (in_range entry.range place) (in_entries entries place) inside)) h.rest))

pub preserved_is_legal : PreservedIsLegal
preserved_is_legal tree loaded id domain links keeps m n p q there same said =
    all_legal tree loaded m.words id domain links 0 domain.entries keeps said.events p q there
    (λ k. ap (slice_get domain.entries) (omega arith)) same said.saved
