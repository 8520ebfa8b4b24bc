-- How a try on a machine follows the fronts of its domain's reading, from point to point.
use Rattle.std.proofs.Common.{◌≡◌, ℕ, zero, suc, ◌+◌, ◌-◌, ◌<◌, Bool, true, false, ◌==◌, List, [], ◌∷◌, ◌++◌, Option, None, Some, All, length, refl, ap, ap₂, subst, sym, ◌∙◌, bit_and, bit_or, arith}
use Rattle.std.proofs.lemmas.Bool.{cases_Bool}
use Rattle.std.proofs.Common.{inl, inr}
use Rattle.std.specs.Int.Bits.{or_add_and, and_le_l}
use Rattle.std.proofs.lemmas.Nat.{and_le_r}
use Rattle.std.specs.Option.{option_and_then}
use Rattle.cd_base.specs.declared.place.Place.{Place}
use Rattle.cd_base.specs.Words.{Words, in_range, in_ranges}
use Rattle.cd_tree.specs.declared.domain.NodeId.{NodeId}
use Rattle.cd_tree.specs.declared.domain.Entry.{Entry}
use Rattle.cd_tree.specs.declared.domain.Item.{Item}
use Rattle.cd_tree.specs.declared.domain.Item.TheVariants.{Run, Group}
use Rattle.cd_tree.specs.declared.domain.Domain.{Domain}
use Rattle.cd_tree.specs.declared.document.Fault.{Fault}
use Rattle.cd_tree.specs.declared.event.Event.{Event}
use Rattle.cd_tree.specs.declared.event.Event.TheVariants.{Reached}
use Rattle.cd_tree.specs.declared.operation.Op.{Op}
use Rattle.cd_tree.specs.KindSets.{no_kinds}
use Rattle.cd_tree.specs.Domains.{Node, Body, Members, node, stop, run, group, body_by, members_by, body_behind}
use Rattle.cd_tree.specs.FirstItems.{meaning_of_first, RunComesNext, OneItemLess}
use Rattle.cd_tree.specs.Fronts.{Front, Stand, arrives, arrival, past_item, next_point, where_none, front_of_node}
use Rattle.cd_tree.specs.FrontLaws.{NextPointIsThere, FrontsStand}
use Rattle.cd_tree.specs.Legal.{Legal, nothing, same}
use Rattle.cd_tree.specs.LegalLaws.{LegalPieces}
use Rattle.cd_tree.specs.Locality.{SameWords, OperationsActLocally}
use Rattle.cd_tree.specs.Meaning.{in_entries}
use Rattle.cd_tree.specs.Operations.{op_meaning, op_reads, op_writes}
use Rattle.cd_tree.specs.Reading.{Case, Counts, Past, joined, Told, told, after, Try}
use Rattle.cd_tree.specs.Scripts.{struck, kinds_of, words_struck}
use Rattle.cd_tree.specs.TreeModel.{TreeModel}
use Rattle.cd_field.specs.FieldModel.{FieldModel, hits_at, reached_point}
use Rattle.cd_kernel.specs.Computing.{computed}
use Rattle.cd_tries.specs.declared.points.Arrival.{Arrival}
use Rattle.cd_tries.specs.declared.points.Arrival.TheVariants as at
use Rattle.cd_tries.specs.Fitting.{ItemStays, StrikesWithin}
use Rattle.cd_tries.specs.Running.{Run as Ran, run_to, run_ends, is_quiet, where_quiet}
use Rattle.cd_core.proofs.Strikes.{quiet_hits}
use Rattle.cd_core.proofs.Choices.{or_left, or_right}

-- the case of a machine, and the try in hand on it
abbrev pub case_on : ℕ → FieldModel → Case
case_on halts m = record { halts = halts; faults = m.script }

abbrev pub try_on : Domain → FieldModel → Try
try_on domain m = record { node = m.node; detects = domain.detects; begin = m.begin }

-- where no note is, nothing was noted before, nor at the point
none_left : (a b : ℕ) → bit_or a b ≡ 0 → a ≡ 0
none_left a b none = omega (arith, or_add_and a b, and_le_r a b)

none_right : (a b : ℕ) → bit_or a b ≡ 0 → b ≡ 0
none_right a b none = omega (arith, or_add_and a b, and_le_l a b)

module _ (tree : TreeModel) (loaded : Words) (halts : ℕ) (domain : Domain) (body : Body) (counts base : Counts) (begun : Words) (P : Type 0) where
  -- the words are those of the first items, where nothing was noted
  abbrev pub WordsAre : FieldModel → ℕ → Type 0
  WordsAre m point =
      m.notes ≡ no_kinds → P → SameWords (in_entries domain.entries) m.words (meaning_of_first point body begun)

  -- the counts of all domains but the one in hand are these
  abbrev pub OthersStay : ℕ → Counts → Type 0
  OthersStay own now = (n : ℕ) → (n == own) ≡ false → now n ≡ base n

  -- a try before its arrival at a point: what was told so far, how many tries are to spare, the body from there on, the counts
  pub record Before (m : FieldModel) (attempt point : ℕ) (past : Past) (spare : ℕ) (rest : Body) (now : Counts) : Type 0 where
    pub front : front_of_node (case_on halts m) (node m.node domain body) counts attempt point
        ≡ Some (after past (arrives (case_on halts m) spare rest (try_on domain m) point m.notes now))
    pub legal : Legal tree loaded m.events past.events
    pub behind : body_behind point body ≡ rest
    pub others : OthersStay m.node.0 now
    pub words : WordsAre m point

  -- the front at which a try stands
  abbrev pub front_on : FieldModel → ℕ → Past → ℕ → ℕ → Body → Counts → Told Front
  front_on m point past spare kinds rest now =
      told past now (record { spare = spare; stand = record { trying = try_on domain m; point = point; kinds = kinds; notes = m.notes; rest = rest } })

  -- a try that has arrived at a point
  pub record At (m : FieldModel) (attempt point : ℕ) (past : Past) (spare kinds : ℕ) (rest : Body) (now : Counts) : Type 0 where
    pub front : front_of_node (case_on halts m) (node m.node domain body) counts attempt point ≡ Some (front_on m point past spare kinds rest now)
    pub legal : Legal tree loaded m.events past.events
    pub behind : body_behind point body ≡ rest
    pub others : OthersStay m.node.0 now
    pub words : WordsAre m point

  -- it arrives
  pub arriving : LegalPieces → (m : FieldModel) (attempt point : ℕ) (past : Past) (spare : ℕ) (rest : Body) (now : Counts)
      → (kinds_of (hits_at m point) ≡ no_kinds → hits_at m point ≡ [])
      → Before m attempt point past spare rest now
      → At (reached_point m point) attempt point (joined past (arrival (case_on halts m) (try_on domain m) point)) spare
      (kinds_of (hits_at m point)) rest now
  arriving pieces m attempt point past spare rest now quiet b = record {
    front = b.front;
    legal = pieces tree loaded m.events past.events (Reached m.node point ∷ []) (Reached m.node point ∷ []) b.legal
        (same (Reached m.node point) [] [] tt nothing);
    behind = b.behind;
    others = b.others;
    words = λ none p.
        let hits : hits_at m point ≡ [] = quiet (none_right m.notes (kinds_of (hits_at m point)) none) in
        let Q : List Fault → Type 0 = λ fs. SameWords (in_entries domain.entries) (words_struck fs m.words) (meaning_of_first point body begun) in
        subst Q (sym hits) (b.words (none_left m.notes (kinds_of (hits_at m point)) none) p);
  }

  -- behind an operation it comes before the next point
  pub stepping : NextPointIsThere → RunComesNext → OneItemLess → OperationsActLocally
      → (m : FieldModel) (attempt point : ℕ) (past : Past) (spare kinds : ℕ) (op : Op) (rest : Body) (now : Counts)
      → ItemStays domain.entries (Run op) → (bit_and kinds halts == no_kinds) ≡ true
      → At m attempt point past spare kinds (run op rest) now
      → Before (computed m op) attempt (suc point) past spare rest now
  stepping points comes less keeps m attempt point past spare kinds op rest now stays quiet a = record {
    front = points (case_on halts m) (node m.node domain body) counts attempt point
        ∙ ap (λ (f : Option (Told Front)). option_and_then (next_point (case_on halts m)) f) a.front
        ∙ ap (λ (b : Bool). where_none b past (Some (arrives (case_on halts m) spare rest (try_on domain m) (suc point) m.notes now))) quiet;
    legal = a.legal;
    behind = less point body ∙ ap (λ (b : Body). body_behind 1 b) a.behind;
    others = a.others;
    words = λ none p q h.
        keeps.agreement op (in_entries domain.entries) m.words (meaning_of_first point body begun) stays.1
        (λ r i. stays.2 r (or_right (in_range (op_writes op) r) (in_ranges (op_reads op) r) i)) (a.words none p) q
        (or_left (in_entries domain.entries q) (in_range (op_writes op) q) h)
        ∙ ap (λ (w : Words). w q) (comes point body op rest begun a.behind);
  }

  -- where the points of a try came to
  abbrev pub CameTo : Arrival → FieldModel → ℕ → Body → Type 0
  CameTo (at.Group k) m point rest = (point ≡ k) × (is_quiet halts m ≡ true) × ((members : Members) × (more : Body) × (rest ≡ group members more))
  CameTo at.Halt m point rest = is_quiet halts m ≡ false
  CameTo at.End m point rest = (is_quiet halts m ≡ true) × (rest ≡ stop)

  pub record Came (attempt spare : ℕ) (r : Ran) : Type 0 where
    pub point : ℕ
    pub past : Past
    pub kinds : ℕ
    pub rest : Body
    pub now : Counts
    pub stands : At r.field attempt point past spare kinds rest now
    pub by : CameTo r.arrival r.field point rest

  came_where : (attempt spare : ℕ) (b : Bool) (m : FieldModel) (next : FieldModel → Ran)
      → (b ≡ true → Came attempt spare (next m)) → (b ≡ false → Came attempt spare (run_ends m at.Halt))
      → Came attempt spare (where_quiet b m next)
  came_where attempt spare true m next goes halts = goes refl
  came_where attempt spare false m next goes halts = halts refl

  -- a try that stands before a point comes to a front of the reading, and stops there for its reason
  pub running : LegalPieces → NextPointIsThere → FrontsStand → RunComesNext → OneItemLess → OperationsActLocally
      → (find : NodeId → Option Node) (m : FieldModel) (attempt point : ℕ) (past : Past) (spare : ℕ) (items : List Item) (now : Counts)
      → StrikesWithin m.node domain.entries m.script → All (ItemStays domain.entries) items
      → Before m attempt point past spare (body_by find items) now
      → Came attempt spare (run_to halts m point items)
  running pieces points stand comes less keeps find m attempt point past spare [] now strikes stays b =
      let r : FieldModel = reached_point m point in
      let told_more : Past = joined past (arrival (case_on halts m) (try_on domain m) point) in
      let a : At r attempt point told_more spare (kinds_of (hits_at m point)) (body_by find []) now =
      arriving pieces m attempt point past spare (body_by find []) now (quiet_hits domain.entries m point strikes) b in
      came_where attempt spare (is_quiet halts r) r (λ now. run_ends now at.End)
      (λ q. record { point = point; past = told_more; kinds = kinds_of (hits_at m point); rest = stop; now = now; stands = a; by = (q, refl) })
      (λ q. record { point = point; past = told_more; kinds = kinds_of (hits_at m point); rest = stop; now = now; stands = a; by = q })
  running pieces points stand comes less keeps find m attempt point past spare (Run op ∷ items) now strikes stays b =
      let r : FieldModel = reached_point m point in
      let rest : Body = body_by find items in
      let told_more : Past = joined past (arrival (case_on halts m) (try_on domain m) point) in
      let a : At r attempt point told_more spare (kinds_of (hits_at m point)) (run op rest) now =
      arriving pieces m attempt point past spare (run op rest) now (quiet_hits domain.entries m point strikes) b in
      let noted : bit_and r.notes halts ≡ bit_and (kinds_of (hits_at m point)) halts =
      (stand (case_on halts m) m.node domain body counts attempt point _ a.front).notes in
      came_where attempt spare (is_quiet halts r) r (λ now. run_to halts (computed now op) (suc point) items)
      (λ q. running pieces points stand comes less keeps find (computed r op) attempt (suc point) told_more spare items now strikes
      (λ k d short. stays (suc k) d (omega (arith, short)))
      (stepping points comes less keeps r attempt point told_more spare (kinds_of (hits_at m point)) op rest now
      (stays 0 (Run op) (omega arith)) (sym (ap (λ (n : ℕ). n == no_kinds) noted) ∙ q) a))
      (λ q. record { point = point; past = told_more; kinds = kinds_of (hits_at m point); rest = run op rest; now = now; stands = a; by = q })
  running pieces points stand comes less keeps find m attempt point past spare (Group ids ∷ items) now strikes stays b =
      let r : FieldModel = reached_point m point in
      let rest : Body = body_by find items in
      let told_more : Past = joined past (arrival (case_on halts m) (try_on domain m) point) in
      let a : At r attempt point told_more spare (kinds_of (hits_at m point)) (group (members_by find ids) rest) now =
      arriving pieces m attempt point past spare (group (members_by find ids) rest) now (quiet_hits domain.entries m point strikes) b in
      came_where attempt spare (is_quiet halts r) r (λ now. run_ends now (at.Group point))
      (λ q. record {
        point = point;
        past = told_more;
        kinds = kinds_of (hits_at m point);
        rest = group (members_by find ids) rest;
        now = now;
        stands = a;
        by = (refl, q, (members_by find ids, rest, refl));
      })
      (λ q. record { point = point; past = told_more; kinds = kinds_of (hits_at m point); rest = group (members_by find ids) rest; now = now; stands = a; by = q })
