-- How a try is judged, on a machine as in the reading.
use Rattle.std.proofs.Common.{◌≡◌, ℕ, ◌+◌, Bool, true, false, ◌==◌, List, [], ◌∷◌, ◌++◌, Option, Some, refl, ap, subst, sym, ◌∙◌, bit_and, append_assoc}
use Rattle.cd_base.specs.Words.{Words}
use Rattle.cd_tree.specs.declared.domain.Domain.{Domain}
use Rattle.cd_tree.specs.declared.event.Event.{Event}
use Rattle.cd_tree.specs.declared.event.Event.TheVariants.{Halted, Found}
use Rattle.cd_tree.specs.Slices.{among}
use Rattle.cd_tree.specs.KindSets.{no_kinds, kinds_without}
use Rattle.cd_tree.specs.Domains.{Node, Body, Members, node, stop, group, body_numbers, body_behind}
use Rattle.cd_tree.specs.FirstItems.{meaning_of_first, FirstThenRest}
use Rattle.cd_tree.specs.Fronts.{Front, Stand, front_of_node, behind_arrival, behind_point}
use Rattle.cd_tree.specs.FrontLaws.{FrontsStand}
use Rattle.cd_tree.specs.Legal.{Legal, nothing, same}
use Rattle.cd_tree.specs.LegalLaws.{LegalPieces}
use Rattle.cd_tree.specs.Locality.{SameWords}
use Rattle.cd_tree.specs.Meaning.{in_entries, body_meaning}
use Rattle.cd_tree.specs.Reading.{Case, Counts, Past, Told, after, Try, TryEnd, blame, unless_halted, detected as detected_so, halted as halted_so, judged as judged_so}
use Rattle.cd_tree.specs.Reading.{Passed as passed, Failed as failed, Broken as broken}
use Rattle.cd_tree.specs.TreeModel.{TreeModel}
use Rattle.cd_field.specs.FieldModel.{FieldModel, told}
use Rattle.cd_tries.specs.declared.points.Arrival.{Arrival}
use Rattle.cd_tries.specs.declared.points.Arrival.TheVariants as at
use Rattle.cd_tries.specs.declared.tries.Stop.{Stop}
use Rattle.cd_tries.specs.declared.tries.Stop.TheVariants.{Group, Passed, Failed, Broken}
use Rattle.cd_tries.specs.Running.{Run as Ran, Trial, is_quiet, by_found, detected, halted, judged, judged_at}
use Rattle.std.proofs.lemmas.Bool.{eqb-true}
use Rattle.cd_core.proofs.Following.{case_on, try_on, OthersStay, At, Came, CameTo}

module _ (tree : TreeModel) (loaded : Words) (halts : ℕ) (domain : Domain) (body : Body) (counts base : Counts) (begun : Words) (P : Type 0) where
  -- what a try has told when it is over, from the front on at which it ended
  abbrev pub all_told : FieldModel → Told Front → Told TryEnd
  all_told m front = after front.past (behind_arrival (case_on halts m) front.answer.stand front.counts)

  -- a try that is over
  pub record Over (m : FieldModel) (attempt spare : ℕ) (end : TryEnd) : Type 0 where
    pub point : ℕ
    pub front : Told Front
    pub is : front_of_node (case_on halts m) (node m.node domain body) counts attempt point ≡ Some front
    pub left : front.answer.spare ≡ spare
    pub ends : (all_told m front).answer ≡ end
    pub legal : Legal tree loaded m.events (all_told m front).past.events
    pub begin : (all_told m front).counts m.node.0 ≡ m.begin
    pub others : OthersStay tree loaded halts domain body counts base begun P m.node.0 (all_told m front).counts
    pub leaks : (leak : ℕ) → end ≡ passed leak → m.notes ≡ leak
    pub words : (leak : ℕ) → end ≡ passed leak → leak ≡ no_kinds → P
        → SameWords (in_entries domain.entries) m.words (body_meaning body begun)

  -- a try that waits for a group
  pub record AtGroup (m : FieldModel) (attempt spare point : ℕ) : Type 0 where
    pub past : Past
    pub kinds : ℕ
    pub members : Members
    pub more : Body
    pub now : Counts
    pub stands : At tree loaded halts domain body counts base begun P m attempt point past spare kinds (group members more) now
    pub quiet : bit_and kinds halts ≡ no_kinds

  -- what stops a domain, in the reading as on the machine
  abbrev pub StopsAt : ℕ → ℕ → FieldModel → Stop → Type 0
  StopsAt attempt spare m (Group point) = AtGroup m attempt spare point
  StopsAt attempt spare m (Passed leak) = Over m attempt spare (passed leak)
  StopsAt attempt spare m (Failed kinds) = Over m attempt spare (failed (blame m.node kinds))
  StopsAt attempt spare m (Broken kinds over) = Over m attempt spare (broken (blame m.node kinds) over)

  -- the words behind the last point are those of the whole body
  last_words : FirstThenRest → (m : FieldModel) (point : ℕ) → body_behind point body ≡ stop
      → SameWords (in_entries domain.entries) m.words (meaning_of_first point body begun)
      → SameWords (in_entries domain.entries) m.words (body_meaning body begun)
  last_words firsts m point none same_words p h =
      same_words p h
      ∙ ap (λ (b : Body). body_meaning b (meaning_of_first point body begun) p) (sym none)
      ∙ ap (λ (w : Words). w p) (firsts point body begun)

  by_judgement : (attempt spare : ℕ) (m : FieldModel) (notes found : ℕ) (b : Bool)
      → Over m attempt spare (judged_so m.node notes found b) → StopsAt attempt spare m (by_found notes found b)
  by_judgement attempt spare m notes found true over = over
  by_judgement attempt spare m notes found false over = over

  no_leak : (m : FieldModel) (notes found : ℕ) (b : Bool) (leak : ℕ) → judged_so m.node notes found b ≡ passed leak → notes ≡ leak
  no_leak m notes found true leak e = cc
  no_leak m notes found false leak e = absurd (cc)

  -- behind the last point
  at_the_end : LegalPieces → FrontsStand → FirstThenRest
      → (m : FieldModel) (attempt spare point : ℕ) (past : Past) (kinds : ℕ) (rest : Body) (now : Counts)
      → among (body_numbers body) m.node.0 ≡ false → (bit_and kinds halts == no_kinds) ≡ true → rest ≡ stop
      → At tree loaded halts domain body counts base begun P m attempt point past spare kinds rest now
      → StopsAt attempt spare (detected domain.detects m).field (detected domain.detects m).stop
  at_the_end pieces stand firsts m attempt spare point past kinds rest now apart quiet last a =
      let w : Case = case_on halts m in
      let h : Try = try_on domain m in
      let found : ℕ = bit_and m.notes domain.detects in
      let event : Event = Found m.node found in
      let s : Stand = record { trying = h; point = point; kinds = kinds; notes = m.notes; rest = rest } in
      let e : behind_arrival w s now ≡ detected_so h m.notes now =
      ap (λ (b : Bool). unless_halted h (bit_and kinds halts) m.notes now (λ notes. behind_point w rest h point notes now) b) quiet
      ∙ ap (λ (x : Body). behind_point w x h point m.notes now) last in
      let Q : Told TryEnd → Type 0 = λ t. Legal tree loaded (m.events ++ event ∷ []) (past.events ++ t.past.events) in
      let R : Told TryEnd → Type 0 = λ t. t.counts m.node.0 ≡ m.begin in
      let O : Told TryEnd → Type 0 = λ t. OthersStay tree loaded halts domain body counts base begun P m.node.0 t.counts in
      by_judgement attempt spare (told m event) m.notes found (found == no_kinds)
      (record {
        point = point;
        front = record { past = past; counts = now; answer = record { spare = spare; stand = s } };
        is = a.front;
        left = refl;
        ends = ap (λ (t : Told TryEnd). t.answer) e;
        legal = subst Q (sym e) (pieces tree loaded m.events past.events (event ∷ []) (event ∷ []) a.legal (same event [] [] tt nothing));
        begin = subst R (sym e) ((stand w m.node domain body counts attempt point _ a.front).own apart);
        others = subst O (sym e) a.others;
        leaks = λ leak is. no_leak m m.notes found (found == no_kinds) leak is;
        words = λ leak is none p.
            last_words firsts m point (a.behind ∙ last) (a.words (no_leak m m.notes found (found == no_kinds) leak is ∙ none) p);
      })

  -- at a halt
  by_halt : LegalPieces → (m : FieldModel) (attempt spare point : ℕ) (front : Told Front)
      → front_of_node (case_on halts m) (node m.node domain body) counts attempt point ≡ Some front
      → front.answer.spare ≡ spare → Legal tree loaded m.events front.past.events → front.counts m.node.0 ≡ m.begin
      → OthersStay tree loaded halts domain body counts base begun P m.node.0 front.counts
      → (kinds : ℕ) (b : Bool) → behind_arrival (case_on halts m) front.answer.stand front.counts ≡ halted_so (try_on domain m) kinds m.notes front.counts b
      → StopsAt attempt spare (halted domain.detects m kinds b).field (halted domain.detects m kinds b).stop
  by_halt pieces m attempt spare point front is left legal begin others kinds true e =
      let first : Event = Halted m.node kinds in
      let second : Event = Found m.node (bit_and m.notes domain.detects) in
      let Q : Told TryEnd → Type 0 = λ t. Legal tree loaded ((m.events ++ first ∷ []) ++ second ∷ []) (front.past.events ++ t.past.events) in
      let R : Told TryEnd → Type 0 = λ t. t.counts m.node.0 ≡ m.begin in
      let O : Told TryEnd → Type 0 = λ t. OthersStay tree loaded halts domain body counts base begun P m.node.0 t.counts in
      let S : List Event → Type 0 = λ es. Legal tree loaded es (front.past.events ++ (first ∷ second ∷ [])) in
      record {
        point = point;
        front = front;
        is = is;
        left = left;
        ends = ap (λ (t : Told TryEnd). t.answer) e;
        legal = subst Q (sym e) (subst S (sym (append_assoc m.events (first ∷ []) (second ∷ [])))
            (pieces tree loaded m.events front.past.events (first ∷ second ∷ []) (first ∷ second ∷ []) legal
            (same first (second ∷ []) (second ∷ []) tt (same second [] [] tt nothing))));
        begin = subst R (sym e) begin;
        others = subst O (sym e) others;
        leaks = λ leak wrong. absurd (cc);
        words = λ leak wrong none p. absurd (cc);
      }
  by_halt pieces m attempt spare point front is left legal begin others kinds false e =
      let first : Event = Halted m.node kinds in
      let Q : Told TryEnd → Type 0 = λ t. Legal tree loaded (m.events ++ first ∷ []) (front.past.events ++ t.past.events) in
      let R : Told TryEnd → Type 0 = λ t. t.counts m.node.0 ≡ m.begin in
      let O : Told TryEnd → Type 0 = λ t. OthersStay tree loaded halts domain body counts base begun P m.node.0 t.counts in
      record {
        point = point;
        front = front;
        is = is;
        left = left;
        ends = ap (λ (t : Told TryEnd). t.answer) e;
        legal = subst Q (sym e) (pieces tree loaded m.events front.past.events (first ∷ []) (first ∷ []) legal (same first [] [] tt nothing));
        begin = subst R (sym e) begin;
        others = subst O (sym e) others;
        leaks = λ leak wrong. absurd (cc);
        words = λ leak wrong none p. absurd (cc);
      }

  at_a_halt : LegalPieces → FrontsStand
      → (m : FieldModel) (attempt spare point : ℕ) (past : Past) (kinds : ℕ) (rest : Body) (now : Counts)
      → among (body_numbers body) m.node.0 ≡ false → is_quiet halts m ≡ false
      → At tree loaded halts domain body counts base begun P m attempt point past spare kinds rest now
      → StopsAt attempt spare (judged_at halts domain.detects m at.Halt).field (judged_at halts domain.detects m at.Halt).stop
  at_a_halt pieces stand m attempt spare point past kinds rest now apart loud a =
      let w : Case = case_on halts m in
      let h : Try = try_on domain m in
      let s : Stand = record { trying = h; point = point; kinds = kinds; notes = m.notes; rest = rest } in
      let noted : bit_and m.notes halts ≡ bit_and kinds halts = (stand w m.node domain body counts attempt point _ a.front).notes in
      let e : behind_arrival w s now
      ≡ halted_so h (bit_and m.notes halts) m.notes now (kinds_without (bit_and m.notes halts) domain.detects == no_kinds) =
      ap (λ (k : ℕ). unless_halted h k m.notes now (λ notes. behind_point w rest h point notes now) (k == no_kinds)) (sym noted)
      ∙ ap (λ (b : Bool). unless_halted h (bit_and m.notes halts) m.notes now (λ notes. behind_point w rest h point notes now) b) loud in
      by_halt pieces m attempt spare point (record { past = past; counts = now; answer = record { spare = spare; stand = s } }) a.front refl a.legal
      ((stand w m.node domain body counts attempt point _ a.front).own apart) a.others (bit_and m.notes halts)
      (kinds_without (bit_and m.notes halts) domain.detects == no_kinds) e

  quiet_kinds : FrontsStand → (m : FieldModel) (attempt spare point : ℕ) (past : Past) (kinds : ℕ) (rest : Body) (now : Counts)
      → is_quiet halts m ≡ true → At tree loaded halts domain body counts base begun P m attempt point past spare kinds rest now
      → (bit_and kinds halts == no_kinds) ≡ true
  quiet_kinds stand m attempt spare point past kinds rest now quiet a =
      let noted : bit_and m.notes halts ≡ bit_and kinds halts =
      (stand (case_on halts m) m.node domain body counts attempt point _ a.front).notes in
      ap (λ (k : ℕ). k == no_kinds) (sym noted) ∙ quiet

  judging_at : LegalPieces → FrontsStand → FirstThenRest → (attempt spare : ℕ) (m : FieldModel) (arrival : Arrival)
      → among (body_numbers body) m.node.0 ≡ false
      → (point : ℕ) (past : Past) (kinds : ℕ) (rest : Body) (now : Counts)
      → At tree loaded halts domain body counts base begun P m attempt point past spare kinds rest now
      → CameTo tree loaded halts domain body counts base begun P arrival m point rest
      → StopsAt attempt spare (judged_at halts domain.detects m arrival).field (judged_at halts domain.detects m arrival).stop
  judging_at pieces stand firsts attempt spare m (at.Group k) apart point past kinds rest now a by =
      let Q : Body → Type 0 = λ b. At tree loaded halts domain body counts base begun P m attempt point past spare kinds b now in
      let R : ℕ → Type 0 = λ n. AtGroup m attempt spare n in
      subst R by.0 (record {
        past = past;
        kinds = kinds;
        members = by.2.0;
        more = by.2.1;
        now = now;
        stands = subst Q by.2.2 a;
        quiet = eqb-true _ _ (quiet_kinds stand m attempt spare point past kinds rest now by.1 a);
      })
  judging_at pieces stand firsts attempt spare m at.Halt apart point past kinds rest now a by =
      at_a_halt pieces stand m attempt spare point past kinds rest now apart by a
  judging_at pieces stand firsts attempt spare m at.End apart point past kinds rest now a by =
      at_the_end pieces stand firsts m attempt spare point past kinds rest now apart
      (quiet_kinds stand m attempt spare point past kinds rest now by.0 a) by.1 a

  -- a try that has come to a stop is judged as the reading judges it
  pub judging : LegalPieces → FrontsStand → FirstThenRest → (attempt spare : ℕ) (r : Ran)
      → among (body_numbers body) r.field.node.0 ≡ false
      → Came tree loaded halts domain body counts base begun P attempt spare r
      → StopsAt attempt spare (judged halts domain.detects r).field (judged halts domain.detects r).stop
  judging pieces stand firsts attempt spare r apart came =
      judging_at pieces stand firsts attempt spare r.field r.arrival apart came.point came.past came.kinds came.rest came.now came.stands came.by
