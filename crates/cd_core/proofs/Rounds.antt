-- How the tries of a domain come to a stop, on a machine as in the reading: at a group, or behind the last of them.
use Rattle.std.proofs.Common.{◌≡◌, ℕ, zero, suc, ◌+◌, ◌<◌, ◌^◌, Bool, true, false, ◌==◌, List, [], ◌∷◌, ◌++◌, Option, Some, All, refl, ap, subst, sym, ◌∙◌}
use Rattle.cd_base.specs.Words.{Words}
use Rattle.cd_tree.specs.declared.domain.NodeId.{NodeId}
use Rattle.cd_tree.specs.declared.domain.Item.{Item}
use Rattle.cd_tree.specs.declared.domain.Item.TheVariants.{Run, Group as Members}
use Rattle.cd_tree.specs.declared.domain.Domain.{Domain}
use Rattle.cd_tree.specs.declared.document.Fault.{Fault}
use Rattle.cd_tree.specs.Slices.{among}
use Rattle.cd_tree.specs.KindSets.{no_kinds, kinds_without}
use Rattle.cd_tree.specs.Domains.{Node, Body, node, body_by, body_numbers}
use Rattle.cd_tree.specs.FirstItems.{RunComesNext, OneItemLess, FirstThenRest}
use Rattle.cd_tree.specs.FrontLaws.{NextPointIsThere, NextTryIsThere, FrontsStand, FrontCountsLieBetween}
use Rattle.cd_tree.specs.LegalLaws.{LegalPieces}
use Rattle.cd_tree.specs.Locality.{SameWords}
use Rattle.cd_tree.specs.Meaning.{in_entries}
use Rattle.cd_tree.specs.declared.event.Event.TheVariants.{Begin}
use Rattle.cd_tree.specs.Reading.{Counts, Past, joined, only_events, Told, TryEnd, Blame, blame, refilled_from, counted, read_node}
use Rattle.cd_tree.specs.Reading.{Failed as failed}
use Rattle.cd_tree.specs.TreeModel.{TreeModel}
use Rattle.cd_field.specs.FieldModel.{FieldModel, begun as begun_on, reached_point}
use Rattle.cd_kernel.specs.Computing.{computed}
use Rattle.cd_tries.specs.declared.keep.Keep.{Keep}
use Rattle.cd_tries.specs.declared.points.Arrival.{Arrival}
use Rattle.cd_tries.specs.declared.points.Arrival.TheVariants as at
use Rattle.cd_tries.specs.declared.tries.Stop.{Stop}
use Rattle.cd_tries.specs.declared.tries.Stop.TheVariants.{Group, Passed, Failed, Broken}
use Rattle.cd_tries.specs.Fitting.{IsSound, ItemStays, HasWords, StrikesWithin}
use Rattle.cd_tries.specs.Keeping.{Known, KeepsFit}
use Rattle.cd_tries.specs.Refilling.{refilled_all}
use Rattle.cd_tries.specs.Running.{Run as Ran, run_to, is_quiet, where_quiet, Trial, stops, halted, judged, judged_at, means, Means, tried_again, next_begin, Tried, tries_from}
use Rattle.cd_tries.specs.TryLaws.{EachGives, PutBack, PuttingBack, Stays, TryingAgainKeeps}
use Rattle.cd_core.specs.LawsBelow.{Laws}
use Rattle.cd_core.proofs.Following.{case_on, Before, Came, running}
use Rattle.cd_core.proofs.Judging.{Over, StopsAt, all_told, judging}
use Rattle.cd_core.proofs.Retrying.{begun_again, before_again, numbered_next}

-- ---- what points and judgements leave

where_begin : (b : Bool) (m : FieldModel) (next : FieldModel → Ran)
    → ((next m).field.node ≡ m.node) × ((next m).field.begin ≡ m.begin)
    → ((where_quiet b m next).field.node ≡ m.node) × ((where_quiet b m next).field.begin ≡ m.begin)
where_begin true m next same = same
where_begin false m next same = (refl, refl)

-- the points of a try leave the domain in hand and the number of its begin
pub run_begin : (halts : ℕ) (m : FieldModel) (point : ℕ) (items : List Item)
    → ((run_to halts m point items).field.node ≡ m.node) × ((run_to halts m point items).field.begin ≡ m.begin)
run_begin halts m point [] = where_begin (is_quiet halts (reached_point m point)) (reached_point m point) _ (refl, refl)
run_begin halts m point (Run op ∷ items) =
    where_begin (is_quiet halts (reached_point m point)) (reached_point m point) (λ now. run_to halts (computed now op) (suc point) items)
    (run_begin halts (computed (reached_point m point) op) (suc point) items)
run_begin halts m point (Members ids ∷ items) = where_begin (is_quiet halts (reached_point m point)) (reached_point m point) _ (refl, refl)

halted_begin : (detects : ℕ) (m : FieldModel) (kinds : ℕ) (b : Bool)
    → ((halted detects m kinds b).field.node ≡ m.node) × ((halted detects m kinds b).field.begin ≡ m.begin)
halted_begin detects m kinds true = (refl, refl)
halted_begin detects m kinds false = (refl, refl)

-- so does a judgement
pub judged_begin : (halts detects : ℕ) (m : FieldModel) (arrival : Arrival)
    → ((judged_at halts detects m arrival).field.node ≡ m.node) × ((judged_at halts detects m arrival).field.begin ≡ m.begin)
judged_begin halts detects m (at.Group point) = (refl, refl)
judged_begin halts detects m at.Halt = halted_begin detects m _ _
judged_begin halts detects m at.End = (refl, refl)

-- no try follows where none is to spare
abbrev pub IsLastStop : ℕ → Stop → Type 0
IsLastStop spare (Group point) = Unit {0}
IsLastStop spare (Passed leak) = Unit {0}
IsLastStop spare (Failed kinds) = spare ≡ 0
IsLastStop spare (Broken kinds over) = Unit {0}

last_stop : (stop : Stop) → IsLastStop 0 stop
last_stop (Group point) = tt
last_stop (Passed leak) = tt
last_stop (Failed kinds) = refl
last_stop (Broken kinds over) = tt

module _ (tree : TreeModel) (loaded : Words) (halts : ℕ) (domain : Domain) (body : Body) (counts base : Counts) (begun : Words) (P : Type 0) where
  -- a machine on which the domain can go on
  pub record GoesOn (find : NodeId → Option Node) (m : FieldModel) : Type 0 where
    pub sound : IsSound domain
    pub named : body_by find domain.items ≡ body
    pub apart : among (body_numbers body) m.node.0 ≡ false
    pub words : HasWords domain.entries m
    pub strikes : StrikesWithin m.node domain.entries m.script
    pub small : (n : ℕ) → (read_node (case_on halts m) (node m.node domain body) counts).counts n < 2 ^ 64

  -- the points of a try, from one on, are judged as the reading judges them
  pub points_judged : Laws → (find : NodeId → Option Node) (m : FieldModel) (attempt spare point : ℕ) (items : List Item) (past : Past) (now : Counts)
      → among (body_numbers body) m.node.0 ≡ false → StrikesWithin m.node domain.entries m.script → All (ItemStays domain.entries) items
      → Before tree loaded halts domain body counts base begun P m attempt point past spare (body_by find items) now
      → StopsAt tree loaded halts domain body counts base begun P attempt spare
      (judged halts domain.detects (run_to halts m point items)).field (judged halts domain.detects (run_to halts m point items)).stop
  points_judged laws find m attempt spare point items past now apart strikes stays b =
      let A : NodeId → Type 0 = λ id. among (body_numbers body) id.0 ≡ false in
      judging tree loaded halts domain body counts base begun P laws.pieces laws.stand laws.firsts attempt spare (run_to halts m point items)
      (subst A (sym (run_begin halts m point items).0) apart)
      (running tree loaded halts domain body counts base begun P laws.pieces laws.points laws.stand laws.comes laws.less laws.keeps
      find m attempt point past spare items now strikes stays b)

  -- a try that failed, where one more is to spare, is followed by another, on the machine as in the reading
  pub again_from : Laws → (find : NodeId → Option Node) (known : Known) (keeps : List Keep) (m : FieldModel) (attempt spare : ℕ) (cause : Blame)
      → KeepsFit known domain.entries keeps → (P → EachGives known begun domain.entries keeps) → GoesOn find m
      → Over tree loaded halts domain body counts base begun P m attempt (suc spare) (failed cause)
      → StopsAt tree loaded halts domain body counts base begun P (suc attempt) spare
      (tried_again (means m.node domain halts known keeps) (next_begin m.begin) m).field (tried_again (means m.node domain halts known keeps) (next_begin m.begin) m).stop
  again_from laws find known keeps m attempt spare cause fit gives goes over =
      let number : ℕ = next_begin m.begin in
      let b : FieldModel = begun_on m m.node number in
      let n : FieldModel = refilled_all known domain.entries keeps b in
      let put : PutBack known domain.entries keeps b n = laws.back known domain.entries keeps b goes.words fit in
      let told_all : Told TryEnd = all_told tree loaded halts domain body counts base begun P m over.front in
      let past : Past = joined (record told_all.past { repeats = told_all.past.repeats + 1 })
      (only_events (Begin m.node number ∷ refilled_from m.node 0 domain.entries)) in
      let now : Counts = counted m.node.0 told_all.counts in
      let before : Before tree loaded halts domain body counts base begun P (begun_again m number n.words n.lost domain.entries) (suc attempt) 0 past spare body now =
      before_again tree loaded halts domain body counts base begun P laws.pieces laws.tries m attempt spare cause number n.words n.lost over
      (numbered_next tree loaded halts domain body counts base begun P laws.tries laws.between m attempt spare cause over goes.small)
      (λ p. put.words begun (gives p)) in
      let Q : Body → Type 0 = λ x. Before tree loaded halts domain body counts base begun P (begun_again m number n.words n.lost domain.entries) (suc attempt) 0 past spare x now in
      let R : FieldModel → Type 0 = λ x.
      StopsAt tree loaded halts domain body counts base begun P (suc attempt) spare
      (judged halts domain.detects (run_to halts x 0 domain.items)).field (judged halts domain.detects (run_to halts x 0 domain.items)).stop in
      subst R (sym put.same)
      (points_judged laws find (begun_again m number n.words n.lost domain.entries) (suc attempt) spare 0 domain.items past now
      goes.apart goes.strikes goes.sound.stays (subst Q (sym goes.named) before))

  -- the number of its begin is the one that was told
  pub again_begin : Laws → (known : Known) (keeps : List Keep) (m : FieldModel) (number : ℕ)
      → KeepsFit known domain.entries keeps → HasWords domain.entries m
      → (tried_again (means m.node domain halts known keeps) number m).field.begin ≡ number
  again_begin laws known keeps m number fit words =
      let b : FieldModel = begun_on m m.node number in
      let n : FieldModel = refilled_all known domain.entries keeps b in
      let put : PutBack known domain.entries keeps b n = laws.back known domain.entries keeps b words fit in
      let r : Ran = run_to halts n 0 domain.items in
      (judged_begin halts domain.detects r.field r.arrival).1 ∙ (run_begin halts n 0 domain.items).1 ∙ ap (λ (x : FieldModel). x.begin) put.same

  -- a machine on which the domain can go on still is one behind another try
  pub still_goes : Laws → (find : NodeId → Option Node) (known : Known) (keeps : List Keep) (m : FieldModel) (number : ℕ)
      → KeepsFit known domain.entries keeps → GoesOn find m
      → ((tried_again (means m.node domain halts known keeps) number m).field.node ≡ m.node)
      × GoesOn find (tried_again (means m.node domain halts known keeps) number m).field
  still_goes laws find known keeps m number fit goes =
      let s : Stays m.node domain m (tried_again (means m.node domain halts known keeps) number m).field =
      laws.stays (means m.node domain halts known keeps) number m goes.sound goes.words goes.strikes fit in
      let n : FieldModel = (tried_again (means m.node domain halts known keeps) number m).field in
      let A : NodeId → Type 0 = λ id. among (body_numbers body) id.0 ≡ false in
      let B : NodeId → Type 0 = λ id. StrikesWithin id domain.entries n.script in
      let C : List Fault → Type 0 = λ fs. StrikesWithin m.node domain.entries fs in
      let D : NodeId → Type 0 = λ id. (k : ℕ) → (read_node (case_on halts n) (node id domain body) counts).counts k < 2 ^ 64 in
      let E : List Fault → Type 0 = λ fs. (k : ℕ) → (read_node (record { halts = halts; faults = fs }) (node m.node domain body) counts).counts k < 2 ^ 64 in (
        s.node,
        record {
          sound = goes.sound;
          named = goes.named;
          apart = subst A (sym s.node) goes.apart;
          words = s.words;
          strikes = subst B (sym s.node) (subst C (sym s.script) goes.strikes);
          small = subst D (sym s.node) (subst E (sym s.script) goes.small);
        },
      )

  -- where the tries of a domain stop
  pub record Rests (t : Tried) : Type 0 where
    pub attempt : ℕ
    pub stops : StopsAt tree loaded halts domain body counts base begun P attempt t.course.spare t.field t.course.stop
    pub begin : t.course.begin ≡ t.field.begin
    pub last : IsLastStop t.course.spare t.course.stop

  pub rounds : Laws → (find : NodeId → Option Node) (known : Known) (keeps : List Keep) (spare attempt begin : ℕ) (id : NodeId) (m : FieldModel) (stop : Stop)
      → KeepsFit known domain.entries keeps → (P → EachGives known begun domain.entries keeps) → GoesOn find m
      → begin ≡ m.begin → m.node ≡ id
      → StopsAt tree loaded halts domain body counts base begun P attempt spare m stop
      → Rests (tries_from (means id domain halts known keeps) spare begin (stops m stop))
  rounds laws find known keeps zero attempt begin id m stop fit gives goes number here s =
      record { attempt = attempt; stops = s; begin = number; last = last_stop stop }
  rounds laws find known keeps (suc spare) attempt begin id m (Group point) fit gives goes number here s =
      record { attempt = attempt; stops = s; begin = number; last = tt }
  rounds laws find known keeps (suc spare) attempt begin id m (Passed leak) fit gives goes number here s =
      record { attempt = attempt; stops = s; begin = number; last = tt }
  rounds laws find known keeps (suc spare) attempt begin id m (Broken kinds over) fit gives goes number here s =
      record { attempt = attempt; stops = s; begin = number; last = tt }
  rounds laws find known keeps (suc spare) attempt begin id m (Failed kinds) fit gives goes number here s =
      let with : NodeId → Means = λ i. means i domain halts known keeps in
      let n : NodeId → ℕ → Trial = λ i b. tried_again (with i) (next_begin b) m in
      let still : ((n m.node m.begin).field.node ≡ m.node) × GoesOn find (n m.node m.begin).field =
      still_goes laws find known keeps m (next_begin m.begin) fit goes in
      let S : NodeId → Type 0 = λ i. Rests (tries_from (with i) spare (next_begin m.begin) (n i m.begin)) in
      let R : ℕ → Type 0 = λ b. Rests (tries_from (with id) spare (next_begin b) (n id b)) in
      subst R (sym number) (subst S here
      (rounds laws find known keeps spare (suc attempt) (next_begin m.begin) m.node (n m.node m.begin).field (n m.node m.begin).stop fit gives still.1
      (sym (again_begin laws known keeps m (next_begin m.begin) fit goes.words)) still.0
      (again_from laws find known keeps m attempt spare (blame m.node kinds) fit gives goes s)))
