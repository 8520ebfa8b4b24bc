-- Each lapse that is told was answered by the pass.
use Rattle.std.proofs.Common.{◌≡◌, ℕ, suc, ◌+◌, ◌≤◌, List, [], ◌∷◌, ◌++◌, length, Option, cond, count_by, arith, ap, ◌∙◌}
use Rattle.std.proofs.lemmas.List.{length_push}
use Rattle.std.proofs.lemmas.List.Sums.{sum_by-append}
use Rattle.cd_base.specs.declared.place.Range.{Range}
use Rattle.cd_base.specs.Words.{Words}
use Rattle.cd_tree.specs.declared.domain.NodeId.{NodeId}
use Rattle.cd_tree.specs.declared.domain.How.{How}
use Rattle.cd_tree.specs.declared.domain.How.TheVariants.{Copy, Refer, Regen}
use Rattle.cd_tree.specs.declared.domain.Entry.{Entry}
use Rattle.cd_tree.specs.declared.event.Event.{Event}
use Rattle.cd_field.specs.FieldModel.{words_in}
use Rattle.cd_keep.specs.declared.keep_id.KeepId.{KeepId}
use Rattle.cd_keep.specs.PassModel.{PassModel, Gone, kept, lapsed}
use Rattle.cd_tries.specs.declared.keep.Pieces.{Pieces}
use Rattle.cd_tries.specs.declared.keep.Keep.{Keep}
use Rattle.cd_tries.specs.declared.keep.Keep.TheVariants as by
use Rattle.cd_tries.specs.KeepLaws.{is_lapse, LapsesAreAnswered}
use Rattle.cd_tries.specs.Preserving.{nth_piece, KeepsFrom, SavedAs, SavedAll, Spot}
use Rattle.cd_tries.proofs.Holding.{shared_all}

-- how many lapses were told, and gone answers given
abbrev pub Answered : List Event → PassModel → PassModel → Type 0
Answered events p q = count_by is_lapse events + length p.gone ≤ length q.gone

-- no lapse is told, and the gone answers are as before
none_told : (events : List Event) (p q : PassModel) → count_by is_lapse events ≡ 0 → q.gone ≡ p.gone → Answered events p q
none_told events p q none same =
    let long : length q.gone ≡ length p.gone = ap length same in
    omega (arith, none, long)

copies_answer : (w : Words) (r : Range) (k : ℕ) (ids : List KeepId) (p q : PassModel) → KeepsFrom w r k ids p q → q.gone ≡ p.gone
copies_answer w r k [] p q h = ap (λ (v : PassModel). v.gone) h
copies_answer w r k (one ∷ ids) p q h = copies_answer w r (suc k) ids (kept p one (words_in w (nth_piece r k))) q h.1

told_none : (one events : List Event) → events ≡ one → count_by is_lapse one ≡ 0 → count_by is_lapse events ≡ 0
told_none one events is none = ap (count_by is_lapse) is ∙ none

entry_answered : (s : Spot) (how : How) (keep : Keep) (events : List Event) (p q : PassModel) → SavedAs s how keep events p q
    → Answered events p q
entry_answered s Copy (by.Copied pieces) events p q h =
    none_told events p q (ap (count_by is_lapse) h.1) (copies_answer s.words s.range 0 pieces.ids p q h.0.keeps)
entry_answered s Copy (by.Shared pieces) events p q h = absurd h
entry_answered s Copy by.Pattern events p q h = absurd h
entry_answered s Refer (by.Copied pieces) events p q h =
    let answer : Gone = h.gone in
    let after : PassModel = lapsed p answer.id answer.note in
    let one : count_by is_lapse events ≡ 1 = ap (count_by is_lapse) h.said in
    let same : q.gone ≡ p.gone ++ answer ∷ [] = copies_answer s.words s.range 0 pieces.ids after q h.copy.keeps in
    let long : length q.gone ≡ length p.gone + 1 = ap length same ∙ length_push p.gone answer in
    omega (arith, one, long)
entry_answered s Refer (by.Shared pieces) events p q h =
    none_told events p q (ap (count_by is_lapse) h.2)
    (ap (λ (v : PassModel). v.gone) h.1 ∙ ap (λ (v : PassModel). v.gone) (shared_all p pieces.ids))
entry_answered s Refer by.Pattern events p q h = absurd h
entry_answered s (Regen pattern) (by.Copied pieces) events p q h =
    none_told events p q (ap (count_by is_lapse) h.said) (copies_answer s.words s.range 0 pieces.ids p q h.copy.keeps)
entry_answered s (Regen pattern) (by.Shared pieces) events p q h = absurd h
entry_answered s (Regen pattern) by.Pattern events p q h =
    none_told events p q (ap (count_by is_lapse) h.2) (ap (λ (v : PassModel). v.gone) h.1)

both_answered : (told more events : List Event) (p between q : PassModel) → events ≡ told ++ more → Answered told p between
    → Answered more between q → Answered events p q
both_answered told more events p between q whole first rest =
    let sum : count_by is_lapse events ≡ count_by is_lapse told + count_by is_lapse more =
    ap (count_by is_lapse) whole ∙ sum_by-append (λ event. cond (is_lapse event) 1 0) told more in
    omega (arith, sum, first, rest)

all_answered : (id : NodeId) (w : Words) (links : ℕ → Option Pieces) (at : ℕ) (entries : List Entry) (keeps : List Keep) (events : List Event)
    (p q : PassModel) → SavedAll id w links at entries keeps events p q → Answered events p q
all_answered id w links at [] [] events p q h = none_told events p q (ap (count_by is_lapse) h.0) (ap (λ (v : PassModel). v.gone) h.1)
all_answered id w links at [] (keep ∷ keeps) events p q h = absurd h
all_answered id w links at (entry ∷ entries) [] events p q h = absurd h
all_answered id w links at (entry ∷ entries) (keep ∷ keeps) events p q h =
    both_answered h.told h.more events p h.between q h.whole
    (entry_answered (record { node = id; at = at; range = entry.range; words = w; link = links at }) entry.how keep h.told p h.between h.one)
    (all_answered id w links (suc at) entries keeps h.more h.between q h.rest)

pub lapses_are_answered : LapsesAreAnswered
lapses_are_answered id domain links keeps m n p q said =
    all_answered id m.words links 0 domain.entries keeps said.events p q said.saved
