-- From where a domain stands, its tries on a machine follow those of its reading: as it begins, behind a group, after a loss.
use Rattle.std.proofs.Common.{◌≡◌, ℕ, zero, suc, ◌+◌, ◌-◌, ◌≤◌, ◌<◌, ◌^◌, Bool, true, false, ◌==◌, List, [], ◌∷◌, ◌++◌, Option, Some, All, length, drop, map, slice_get, slice_index, refl, ap, subst, sym, ◌∙◌, bit_and, bit_or, arith}
use Rattle.std.proofs.lemmas.List.{append-nil}
use Rattle.cd_base.specs.declared.place.Place.{Place}
use Rattle.cd_base.specs.Words.{Words, in_range}
use Rattle.cd_tree.specs.declared.domain.NodeId.{NodeId}
use Rattle.cd_tree.specs.declared.domain.Entry.{Entry}
use Rattle.cd_tree.specs.declared.domain.How.{How}
use Rattle.cd_tree.specs.declared.domain.Domain.{Domain}
use Rattle.cd_tree.specs.declared.event.Event.{Event}
use Rattle.cd_tree.specs.declared.event.Event.TheVariants.{Begin}
use Rattle.cd_tree.specs.KindSets.{no_kinds, kinds_without, halting}
use Rattle.cd_tree.specs.Domains.{Node, Body, Members, node, group, node_of, body_by, body_numbers, node_numbers, number_of, body_behind}
use Rattle.cd_tree.specs.FirstItems.{meaning_of_first}
use Rattle.cd_tree.specs.Fronts.{Front, Stand, front_of_node, begins, arrives, first_front, behind_arrival, behind_point, WaitsAt}
use Rattle.cd_tree.specs.FrontLaws.{FirstPointIsThere, PassesGroups, StandsThere}
use Rattle.cd_tree.specs.Laws.{NestedViewFollows, ReachIsEntries}
use Rattle.cd_tree.specs.Legal.{Legal, same}
use Rattle.cd_tree.specs.LegalLaws.{LegalPieces}
use Rattle.cd_tree.specs.Locality.{SameWords}
use Rattle.cd_tree.specs.Meaning.{in_entries, node_reach}
use Rattle.cd_tree.specs.Reading.{Case, Counts, Past, joined, only_events, silence, Told, told, after, Try, TryEnd, Blame, GroupEnd, AllDone, SomeEscalated, group_ended, stopped, saved_from, counted, read_members, read_points, read_node}
use Rattle.cd_tree.specs.Reading.{Passed as passed, unless_halted}
use Rattle.cd_tree.specs.Slices.{among}
use Rattle.cd_tree.specs.TreeModel.{TreeModel}
use Rattle.cd_field.specs.FieldModel.{FieldModel, begun as begun_on}
use Rattle.cd_tries.specs.Fitting.{IsSound, ItemStays, HasWords, StrikesWithin}
use Rattle.cd_tries.specs.Preserving.{told_all}
use Rattle.std.proofs.lemmas.Bool.{eq-eqb}
use Rattle.cd_core.proofs.Choices.{other}
use Rattle.cd_core.proofs.Following.{case_on, try_on, OthersStay, Before}
use Rattle.cd_core.proofs.Judging.{Over, all_told}
use Rattle.cd_core.specs.LawsBelow.{Laws}

not_passed : (cause : Blame) (over : ℕ) (b : Bool) (leak : ℕ) → stopped cause over b ≡ passed leak → ⊥
not_passed cause over true leak wrong = cc
not_passed cause over false leak wrong = cc

module _ (tree : TreeModel) (loaded : Words) (halts : ℕ) (domain : Domain) (body : Body) (counts base : Counts) (begun : Words) (P : Type 0) where
  -- a machine that has begun for the first time, with its entries preserved, stands before its first point
  pub before_first : LegalPieces → FirstPointIsThere → (b : FieldModel) (events : List Event) (number : ℕ)
      → b.notes ≡ no_kinds → b.begin ≡ number → number ≡ counts b.node.0 + 1 → b.events ≡ Begin b.node number ∷ []
      → Legal tree loaded events (saved_from b.node 0 domain.entries) → (P → SameWords (in_entries domain.entries) b.words begun)
      → ((n : ℕ) → counts n ≡ base n)
      → Before tree loaded halts domain body counts base begun P (told_all b events) 1 0
      (only_events (Begin b.node number ∷ saved_from b.node 0 domain.entries)) (domain.retry - 1) body (counted b.node.0 counts)
  before_first pieces first b events number quiet begin numbered said legal given others =
      let w : Case = case_on halts b in
      let d : Node = node b.node domain body in
      let f : ℕ → Told Front = λ n.
      after (only_events (Begin b.node n ∷ saved_from b.node 0 domain.entries))
      (arrives w (domain.retry - 1) body (record { node = b.node; detects = domain.detects; begin = n }) 0 no_kinds (counted b.node.0 counts)) in
      let g : ℕ → ℕ → Told Front = λ n k.
      after (only_events (Begin b.node number ∷ saved_from b.node 0 domain.entries))
      (arrives w (domain.retry - 1) body (record { node = b.node; detects = domain.detects; begin = n }) 0 k (counted b.node.0 counts)) in
      let S : List Event → Type 0 = λ es. Legal tree loaded (es ++ events) (Begin b.node number ∷ saved_from b.node 0 domain.entries) in
      record {
        front = first w d counts ∙ ap (λ (n : ℕ). Some (f n)) (sym numbered)
            ∙ ap (λ (n : ℕ). Some (g n no_kinds)) (sym begin) ∙ ap (λ (k : ℕ). Some (g b.begin k)) (sym quiet);
        legal = subst S (sym said) (same (Begin b.node number) events (saved_from b.node 0 domain.entries) tt legal);
        behind = refl;
        others = λ n apart. other (n == b.node.0) (counts n + 1) (counts n) apart ∙ others n;
        words = λ none p. given p;
      }

  -- where a domain waits: the front, its members and what stands behind them
  pub record WaitsFor (m : FieldModel) (attempt point spare : ℕ) (front : Told Front) (members : Members) (more : Body) : Type 0 where
    pub is : front_of_node (case_on halts m) (node m.node domain body) counts attempt point ≡ Some front
    pub left : front.answer.spare ≡ spare
    pub waits : WaitsAt (case_on halts m) front.answer members more

  abbrev pub members_of : FieldModel → Told Front → Members → Told GroupEnd
  members_of m front members = read_members (case_on halts m) members front.counts

  -- behind members that are all done the machine stands before the next point
  pub before_next : Laws → PassesGroups → (m : FieldModel) (attempt point spare : ℕ) (front : Told Front) (members : Members) (more : Body) (leaks : ℕ)
      → among (body_numbers body) m.node.0 ≡ false
      → WaitsFor m attempt point spare front members more
      → (members_of m front members).answer ≡ AllDone leaks
      → m.notes ≡ bit_or front.answer.stand.notes leaks
      → m.begin ≡ (members_of m front members).counts m.node.0
      → Legal tree loaded m.events (joined front.past (members_of m front members).past).events
      → (m.notes ≡ no_kinds → P → SameWords (in_entries domain.entries) m.words (meaning_of_first (suc point) body begun))
      → ((n : ℕ) → (members_of m front members).counts n ≡ base n)
      → Before tree loaded halts domain body counts base begun P m attempt (suc point)
      (joined front.past (members_of m front members).past) spare more (members_of m front members).counts
  before_next laws passes m attempt point spare front members more leaks apart f done notes begin legal given others =
      let w : Case = case_on halts m in
      let d : Node = node m.node domain body in
      let all : Told GroupEnd = members_of m front members in
      let s : Stand = front.answer.stand in
      let there : StandsThere w m.node domain body counts attempt point front.answer front.counts =
      laws.stand w m.node domain body counts attempt point front f.is in
      let next : front_of_node w d counts attempt (suc point)
      ≡ Some (after (joined front.past all.past) (arrives w front.answer.spare more s.trying (suc s.point) (bit_or s.notes leaks) all.counts)) =
      passes w d counts attempt point front members more leaks f.is f.waits done in
      let after_that : StandsThere w m.node domain body counts attempt (suc point) _ _ =
      laws.stand w m.node domain body counts attempt (suc point) _ next in
      let begin_is : s.trying.begin ≡ m.begin = sym (after_that.own apart) ∙ sym begin in
      let trying : s.trying ≡ try_on domain m =
      ap (λ (i : NodeId). let x : Try = record { node = i; detects = s.trying.detects; begin = s.trying.begin } in x) there.node
      ∙ ap (λ (k : ℕ). let x : Try = record { node = m.node; detects = k; begin = s.trying.begin } in x) there.detects
      ∙ ap (λ (k : ℕ). let x : Try = record { node = m.node; detects = domain.detects; begin = k } in x) begin_is in
      let g : ℕ → Try → ℕ → ℕ → Option (Told Front) = λ n h p k.
      Some (after (joined front.past all.past) (arrives w n more h (suc p) k all.counts)) in
      record {
        front = next
            ∙ ap (λ (n : ℕ). g n s.trying s.point (bit_or s.notes leaks)) f.left
            ∙ ap (λ (h : Try). g spare h s.point (bit_or s.notes leaks)) trying
            ∙ ap (λ (p : ℕ). g spare (try_on domain m) p (bit_or s.notes leaks)) there.at
            ∙ ap (λ (k : ℕ). g spare (try_on domain m) point k) (sym notes);
        legal = legal;
        behind = laws.less point body ∙ ap (λ (b : Body). body_behind 1 b) (sym there.rest ∙ f.waits.comes);
        others = λ n apart. others n;
        words = given;
      }

  -- what a lost group leaves a try
  lost_told : (m : FieldModel) (front : Told Front) (members : Members) (more : Body) (cause : Blame) (over : ℕ)
      → WaitsAt (case_on halts m) front.answer members more
      → (members_of m front members).answer ≡ SomeEscalated cause over
      → behind_arrival (case_on halts m) front.answer.stand front.counts
      ≡ after (members_of m front members).past (told silence (members_of m front members).counts
      (stopped cause (kinds_without over front.answer.stand.trying.detects) (kinds_without over front.answer.stand.trying.detects == no_kinds)))
  lost_told m front members more cause over waits lost =
      let w : Case = case_on halts m in
      let s : Stand = front.answer.stand in
      let all : Told GroupEnd = members_of m front members in
      ap (λ (b : Bool). unless_halted s.trying (bit_and s.kinds halts) s.notes front.counts
      (λ notes. behind_point w s.rest s.trying s.point notes front.counts) b) (eq-eqb _ _ waits.goes_on)
      ∙ ap (λ (x : Body). behind_point w x s.trying s.point s.notes front.counts) waits.comes
      ∙ ap (λ (e : GroupEnd). after all.past (group_ended s.trying s.notes all.counts e
      (λ all now. read_points w more s.trying (suc s.point) all now))) lost

  -- so the try is over
  pub lost_over : Laws → (m : FieldModel) (attempt point spare : ℕ) (front : Told Front) (members : Members) (more : Body) (cause : Blame) (over : ℕ)
      → WaitsFor m attempt point spare front members more
      → (members_of m front members).answer ≡ SomeEscalated cause over
      → m.begin ≡ (members_of m front members).counts m.node.0
      → Legal tree loaded m.events (joined front.past (members_of m front members).past).events
      → ((n : ℕ) → (members_of m front members).counts n ≡ base n)
      → Over tree loaded halts domain body counts base begun P m attempt spare
      (stopped cause (kinds_without over domain.detects) (kinds_without over domain.detects == no_kinds))
  lost_over laws m attempt point spare front members more cause over f lost begin legal others =
      let w : Case = case_on halts m in
      let all : Told GroupEnd = members_of m front members in
      let there : StandsThere w m.node domain body counts attempt point front.answer front.counts =
      laws.stand w m.node domain body counts attempt point front f.is in
      let end : ℕ → TryEnd = λ k. stopped cause (kinds_without over k) (kinds_without over k == no_kinds) in
      let e : behind_arrival w front.answer.stand front.counts ≡ after all.past (told silence all.counts (end domain.detects)) =
      lost_told m front members more cause over f.waits lost
      ∙ ap (λ (k : ℕ). after all.past (told silence all.counts (end k))) there.detects in
      let Q : Told TryEnd → Type 0 = λ t. Legal tree loaded m.events (front.past.events ++ t.past.events) in
      let R : Told TryEnd → Type 0 = λ t. t.counts m.node.0 ≡ m.begin in
      let S : List Event → Type 0 = λ es. Legal tree loaded m.events (front.past.events ++ es) in
      let O : Told TryEnd → Type 0 = λ t. OthersStay tree loaded halts domain body counts base begun P m.node.0 t.counts in
      record {
        point = point;
        front = front;
        is = f.is;
        left = f.left;
        ends = ap (λ (t : Told TryEnd). t.answer) e;
        legal = subst Q (sym e) (subst S (sym (append-nil all.past.events)) legal);
        begin = subst R (sym e) (sym begin);
        others = subst O (sym e) (λ n apart. others n);
        leaks = λ leak wrong. absurd (not_passed cause (kinds_without over domain.detects) (kinds_without over domain.detects == no_kinds) leak wrong);
        words = λ leak wrong none p. absurd (not_passed cause (kinds_without over domain.detects) (kinds_without over domain.detects == no_kinds) leak wrong);
      }
