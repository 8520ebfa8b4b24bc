-- Lemmas on the lines of a record, and on a text that is written piece by piece.
use Rattle.std.proofs.Common.{◌≡◌, ℕ, zero, suc, ◌+◌, ◌-◌, ◌<◌, ◌≤◌, Bool, true, false, inl, inr, List, [], ◌∷◌, ◌++◌, Option, None, Some, is_some, Ok, Err, length, take, drop, slice_get, if◌then◌else◌, codes, refl, sym, ap, ◌∙◌, subst, arith, append_assoc, length-append, length-drop}
use Rattle.std.proofs.Math.Seq.{take-append-add}
use Rattle.std.proofs.lemmas.List.{append-nil, drop_all, drop-drop, take-append-drop, take-append-le}
use Rattle.std.proofs.lemmas.Grind.{flat_map-append}
use Rattle.std.proofs.lemmas.Option.{slice_get_past, none-some}
use Rattle.std.proofs.KnownBytes.{Appends-trans}
use Rattle.std.specs.Io.KnownBytes.{Appends}
use Rattle.std.specs.Fmt.{decimal}
use Rattle.std.specs.Prelude.{Result, IsErr, IsErrAnd}
use Rattle.std.proofs.lemmas.Bool.{cases_lt, false≢true}
use Rattle.cd_base.specs.declared.place.Place.{Place}
use Rattle.cd_base.specs.declared.sink.WriteStop.{WriteStop}
use Rattle.cd_base.specs.declared.sink.WriteStop.TheVariants as write
use Rattle.cd_base.specs.Ends.{SinkModel, Grew, GrewByFront, WriteAll}
use Rattle.cd_base.proofs.EndLemmas.{Rose-before}
use Rattle.cd_tree.specs.declared.domain.NodeId.{NodeId}
use Rattle.cd_tree.specs.declared.document.Region.{Region}
use Rattle.cd_tree.specs.declared.kinds.KindName.{KindName}
use Rattle.cd_tree.specs.declared.event.Event.{Event}
use Rattle.cd_tree.specs.declared.event.Event.TheVariants.{Fell, Lapsed}
use Rattle.cd_tokens.specs.Written.{place_token}
use Rattle.cd_report.specs.Texts.{line}
use Rattle.cd_report.specs.Records.{event_text, event_line, events_text}
use Rattle.cd_report.proofs.TextLemmas.{nine_pieces, eleven_pieces}

-- the lines of the events, made of their pieces
pub fell_line : (kinds : List KindName) (regions : List Region) (event : Event) (node : NodeId) (entry : ℕ) (p : Place) (wanted found : ℕ) (place made : List ℕ)
    → event ≡ Fell node entry p wanted found → place ≡ place_token regions p
    → made ≡ codes "fell " ++ (decimal node.0 ++ (codes " " ++ (decimal entry ++ (codes " " ++ (place ++ (codes " wanted " ++ (decimal wanted ++ (codes " found " ++ (decimal found ++ codes "\n")))))))))
    → made ≡ event_line kinds regions event
fell_line kinds regions event node entry p wanted found place made is w e =
    e
    ∙ eleven_pieces (codes "fell ") (decimal node.0) (codes " ") (decimal entry) (codes " ") place (codes " wanted ") (decimal wanted) (codes " found ") (decimal found) (codes "\n")
    ∙ ap (λ (t : List ℕ). line (codes "fell " ++ decimal node.0 ++ codes " " ++ decimal entry ++ codes " " ++ t ++ codes " wanted " ++ decimal wanted ++ codes " found " ++ decimal found)) w
    ∙ ap (event_line kinds regions) (sym is)

pub lapsed_line : (kinds : List KindName) (regions : List Region) (event : Event) (node : NodeId) (entry seen found : ℕ) (made : List ℕ)
    → event ≡ Lapsed node entry seen found
    → made ≡ codes "lapsed " ++ (decimal node.0 ++ (codes " " ++ (decimal entry ++ (codes " seen " ++ (decimal seen ++ (codes " found " ++ (decimal found ++ codes "\n")))))))
    → made ≡ event_line kinds regions event
lapsed_line kinds regions event node entry seen found made is e =
    e
    ∙ nine_pieces (codes "lapsed ") (decimal node.0) (codes " ") (decimal entry) (codes " seen ") (decimal seen) (codes " found ") (decimal found) (codes "\n")
    ∙ ap (event_line kinds regions) (sym is)

-- the line of an event behind a text
pub line_behind : (kinds : List KindName) (regions : List Region) (event told : Event) (text later shown made : List ℕ) → later ≡ text ++ shown
    → shown ≡ made → made ≡ event_line kinds regions told → event ≡ told → later ≡ text ++ event_line kinds regions event
line_behind kinds regions event told text later shown made pushed same is e =
    pushed ∙ ap (λ (t : List ℕ). text ++ t) (same ∙ is ∙ ap (event_line kinds regions) (sym e))

get_past : (events : List Event) (k : ℕ) → slice_get events k ≡ None → length events ≤ k
get_past [] k e = omega arith
get_past (event ∷ events) zero e = absurd (none-some event (sym e))
get_past (event ∷ events) (suc k) e = omega (arith, get_past events k e)

-- where there is no event with a number, there is none from it on
pub events_end : (events : List Event) (k : ℕ) → None ≡ slice_get events k → drop k events ≡ []
events_end events k e = drop_all k events (get_past events k (sym e))

none_there : (o : Option Event) → false ≡ is_some o → None ≡ o
none_there None e = refl
none_there (Some event) e = absurd (false≢true e)

some_there : (o : Option Event) → true ≡ is_some o → o ≡ None → ⊥
some_there o e n = false≢true (ap is_some (sym n) ∙ sym e)

-- what the test for an event with a number tells
pub test_end : (events : List Event) (k : ℕ) (there : Option Event) → there ≡ slice_get events k → false ≡ is_some there → drop k events ≡ []
test_end events k there h e = events_end events k (none_there there e ∙ h)

pub test_within : (events : List Event) (k : ℕ) (there : Option Event) → there ≡ slice_get events k → true ≡ is_some there → k < length events
test_within events k there h e =
    elim (cases_lt k (length events)) as (λ _. k < length events)
    [ inl p ↦ p | inr p ↦ absurd (some_there there e (h ∙ slice_get_past events k p)) ]

-- the lines of some events and of those behind them
pub events_split : (kinds : List KindName) (regions : List Region) (events : List Event) (k n : ℕ)
    → events_text kinds regions (drop k events)
    ≡ events_text kinds regions (take n (drop k events)) ++ events_text kinds regions (drop (k + n) events)
events_split kinds regions events k n =
    ap (events_text kinds regions) (sym (take-append-drop n (drop k events)))
    ∙ flat_map-append (event_line kinds regions) (take n (drop k events)) (drop n (drop k events))
    ∙ ap (λ (rest : List Event). events_text kinds regions (take n (drop k events)) ++ events_text kinds regions rest) (drop-drop n k events)

-- a line has at least its line feed
line_some : (text : List ℕ) → 0 < length (line text)
line_some text = omega (arith, length-append text (10 ∷ []))

text_some : (kinds : List KindName) (regions : List Region) (events : List Event) → 0 < length events → 0 < length (events_text kinds regions events)
text_some kinds regions [] h = absurd (omega (arith, h))
text_some kinds regions (event ∷ events) h =
    omega (arith, length-append (event_line kinds regions event) (events_text kinds regions events), line_some (event_text kinds regions event))

-- where there are events from one on, they have a text
pub rest_some : (kinds : List KindName) (regions : List Region) (events : List Event) (k : ℕ) → k < length events
    → 0 < length (events_text kinds regions (drop k events))
rest_some kinds regions events k h = text_some kinds regions (drop k events) (omega (arith, length-drop k events, h))

-- what was written of a whole text before now, and what is left of it
pub record WroteSome (old now : SinkModel) (rest whole : List ℕ) : Type 0 where
  pub done : List ℕ
  pub grew : Grew old now done
  pub split : done ++ rest ≡ whole

appends_none : (old : Option (List ℕ)) → Appends old old []
appends_none None = tt
appends_none (Some bytes) = sym (append-nil bytes)

grew_none : (old : SinkModel) → Grew old old []
grew_none old = (appends_none old.holds, omega arith)

grew_more : (old now new : SinkModel) (first second : List ℕ) → Grew old now first → Grew now new second → Grew old new (first ++ second)
grew_more old now new first second a b = (Appends-trans old.holds now.holds new.holds first second a.0 b.0, omega (arith, a.1, b.1))

-- at first nothing was written
pub wrote_none : (old : SinkModel) (whole : List ℕ) → WroteSome old old whole whole
wrote_none old whole = record { done = []; grew = grew_none old; split = refl }

-- then the next piece was written
pub wrote_next : (old now new : SinkModel) (piece rest whole : List ℕ) → WroteSome old now (piece ++ rest) whole → Grew now new piece
    → WroteSome old new rest whole
wrote_next old now new piece rest whole w a = record {
  done = w.done ++ piece;
  grew = grew_more old now new w.done piece w.grew a;
  split = append_assoc w.done piece rest ∙ w.split;
}

-- at last nothing is left
pub wrote_all : (old now : SinkModel) (whole : List ℕ) → WroteSome old now [] whole → Grew old now whole
wrote_all old now whole w = subst (Grew old now) (sym (append-nil w.done) ∙ w.split) w.grew

-- a front of the next piece is a front of the whole
pub wrote_front : (old now new : SinkModel) (piece rest whole : List ℕ) → WroteSome old now (piece ++ rest) whole → GrewByFront now new piece
    → GrewByFront old new whole
wrote_front old now new piece rest whole w (n, h, a) =
    let front : take (length w.done + n) (w.done ++ (piece ++ rest)) ≡ w.done ++ take n piece =
    take-append-add w.done (piece ++ rest) n ∙ ap (λ (t : List ℕ). w.done ++ t) (take-append-le n piece rest (omega (arith, h))) in
    let size : length (w.done ++ (piece ++ rest)) ≡ length w.done + (length piece + length rest) =
    length-append w.done (piece ++ rest) ∙ ap (λ (m : ℕ). length w.done + m) (length-append piece rest) in (
      length w.done + n,
      subst (λ (t : List ℕ). length w.done + n < length t) w.split (omega (arith, size, h)),
      subst (λ (t : List ℕ). Grew old new (take (length w.done + n) t)) w.split
          (subst (Grew old new) (sym front) (grew_more old now new w.done (take n piece) w.grew a)),
    )

-- the same text, of which all that is left is one piece
as_piece : (old now : SinkModel) (rest whole : List ℕ) → WroteSome old now rest whole → WroteSome old now (rest ++ []) whole
as_piece old now rest whole w = subst (λ (t : List ℕ). WroteSome old now t whole) (sym (append-nil rest)) w

-- a piece that cannot be made, of which nothing was written
no_piece : (old : SinkModel) (piece : List ℕ) → 0 < length piece → GrewByFront old old piece
no_piece old piece h = (0, h, grew_none old)

-- where the next piece cannot be made, a front of the whole was written
pub wrote_no_more : (old now : SinkModel) (rest whole : List ℕ) → WroteSome old now rest whole → 0 < length rest → GrewByFront old now whole
wrote_no_more old now rest whole w h = wrote_front old now now rest [] whole (as_piece old now rest whole w) (no_piece now rest h)

-- what stopped the writing of the next piece stopped that of the whole
pub wrote_stop : (old now new : SinkModel) (piece rest whole : List ℕ) (stop : WriteStop) → WroteSome old now (piece ++ rest) whole
    → WriteAll {T = Unit {0}} now new piece (Err stop) → WriteAll {T = Unit {0}} old new whole (Err stop)
wrote_stop old now new piece rest whole write.Failed w (front, rose) =
    (wrote_front old now new piece rest whole w front, Rose-before old.faults now.faults new.faults w.grew.1 rose)
wrote_stop old now new piece rest whole write.NoMemory w front = wrote_front old now new piece rest whole w front

-- what became of the writing of all the rest became of that of the whole
pub wrote_rest : (old now new : SinkModel) (rest whole : List ℕ) (result : Result (Unit {0}) WriteStop) → WroteSome old now rest whole
    → WriteAll now new rest result → WriteAll old new whole result
wrote_rest old now new rest whole (Ok value) w a = subst (Grew old new) w.split (grew_more old now new w.done rest w.grew a)
wrote_rest old now new rest whole (Err stop) w a = wrote_stop old now new rest [] whole stop (as_piece old now rest whole w) a

split_wrote : (kinds : List KindName) (regions : List Region) (events : List Event) (from to : ℕ) (old now : SinkModel) (whole : List ℕ) → from ≤ to
    → WroteSome old now (events_text kinds regions (drop from events)) whole
    → WroteSome old now (events_text kinds regions (take (to - from) (drop from events)) ++ events_text kinds regions (drop to events)) whole
split_wrote kinds regions events from to old now whole h w =
    let size : from + (to - from) ≡ to = omega (arith, h) in
    let split : events_text kinds regions (drop from events) ≡ events_text kinds regions (take (to - from) (drop from events)) ++ events_text kinds regions (drop to events) =
    events_split kinds regions events from (to - from)
    ∙ ap (λ (k : ℕ). events_text kinds regions (take (to - from) (drop from events)) ++ events_text kinds regions (drop k events)) size in
    subst (λ (t : List ℕ). WroteSome old now t whole) split w

-- the next piece of some events, of which those before `from` were written
pub wrote_piece : (kinds : List KindName) (regions : List Region) (events : List Event) (from to : ℕ) (old now new : SinkModel) (whole : List ℕ) → from ≤ to
    → WroteSome old now (events_text kinds regions (drop from events)) whole
    → Grew now new (events_text kinds regions (take (to - from) (drop from events)))
    → WroteSome old new (events_text kinds regions (drop to events)) whole
wrote_piece kinds regions events from to old now new whole h w a =
    wrote_next old now new (events_text kinds regions (take (to - from) (drop from events))) (events_text kinds regions (drop to events))
    whole (split_wrote kinds regions events from to old now whole h w) a

-- a piece that stopped
pub wrote_piece_stop : (kinds : List KindName) (regions : List Region) (events : List Event) (from to : ℕ) (old now new : SinkModel) (whole : List ℕ)
    (stop : WriteStop) → from ≤ to → WroteSome old now (events_text kinds regions (drop from events)) whole
    → WriteAll {T = Unit {0}} now new (events_text kinds regions (take (to - from) (drop from events))) (Err stop)
    → WriteAll {T = Unit {0}} old new whole (Err stop)
wrote_piece_stop kinds regions events from to old now new whole stop h w a =
    wrote_stop old now new (events_text kinds regions (take (to - from) (drop from events))) (events_text kinds regions (drop to events))
    whole stop (split_wrote kinds regions events from to old now whole h w) a

-- an error that is handed on
pub err_is : (result : Result (Unit {0}) WriteStop) (stop : WriteStop) → IsErr result × IsErrAnd result (λ it. it ≡ stop) → result ≡ Err stop
err_is (Ok value) stop (h, e) = absurd e
err_is (Err it) stop (h, e) = ap Err e

-- two texts, of which the first was written
pub wrote_first : (old now : SinkModel) (first second : List ℕ) → Grew old now first → WroteSome old now second (first ++ second)
wrote_first old now first second a = record { done = first; grew = a; split = refl }

-- two texts, of which the first stopped
pub first_stops : (old new : SinkModel) (first second : List ℕ) (stop : WriteStop) (result : Result (Unit {0}) WriteStop) → result ≡ Err stop
    → WriteAll {T = Unit {0}} old new first (Err stop) → WriteAll old new (first ++ second) result
first_stops old new first second stop result e a =
    subst (WriteAll {T = Unit {0}} old new (first ++ second)) (sym e)
    (wrote_stop old old new first second (first ++ second) stop (wrote_none old (first ++ second)) a)

-- a report that was written, and the events behind it that were asked for
pub wrote_run : (with_record : Bool) (old now new : SinkModel) (report events : List ℕ) (result : Result (Unit {0}) WriteStop) → with_record ≡ true
    → Grew old now report → WriteAll now new events result → WriteAll old new (report ++ (if with_record then events else [])) result
wrote_run with_record old now new report events result asked first rest =
    subst (λ (b : Bool). WriteAll old new (report ++ (if b then events else [])) result) (sym asked)
    (wrote_rest old now new events (report ++ events) result (wrote_first old now report events first) rest)
