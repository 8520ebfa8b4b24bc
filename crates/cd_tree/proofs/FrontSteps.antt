-- From one front to the next: what stays, and that the reading goes on from either.
use Rattle.std.proofs.Common.{◌≡◌, ℕ, zero, suc, Bool, true, false, ◌==◌, bit_or, bit_and, List, [], ◌∷◌, ◌++◌, Option, None, Some, refl, ap, sym, ◌∙◌, subst, arith, inl, inr, ◌≤◌, le_refl}
use Rattle.std.proofs.lemmas.Bool.{cases_Bool}
use Rattle.std.proofs.lemmas.Nat.Bits.{bit_at_or, bit_at_and, bit_at-zero, same_from_bits}
use Rattle.std.specs.Int.{bit_at}
use Rattle.cd_tree.specs.declared.event.Event.{Event}
use Rattle.cd_tree.specs.declared.event.Event.TheVariants.{Reached}
use Rattle.cd_tree.specs.KindSets.{no_kinds, kinds_without}
use Rattle.cd_tree.specs.Domains.{Node, Body, stop, run, group, body_behind, body_numbers, member_numbers}
use Rattle.cd_tree.specs.Scripts.{struck, kinds_of}
use Rattle.cd_tree.specs.Reading.{Case, Counts, Past, joined, Told, told, after, TryEnd, Passed, Failed, Broken, GroupEnd, AllDone, SomeEscalated, Try, halted, unless_halted, group_ended, read_points, read_members}
use Rattle.cd_tree.specs.Fronts.{Stand, Front, arrives, begins, past_group, past_item, where_none, next_point, behind_point, behind_arrival, tried}
use Rattle.cd_tree.specs.Slices.{among}
use Rattle.cd_tree.proofs.Leaks.{QuietGroup, or_is_quiet, members_quiet}
use Rattle.cd_tree.proofs.CountsReading.{member-counts-do-not-fall}
use Rattle.cd_tree.proofs.OtherCounts.{points_others_stay, members_others_stay, among_left, among_right}
use Rattle.cd_tree.proofs.FrontParts.{repeated, after_twice, arrives_leads, goes_on}

-- a property of what is there, if it is there
abbrev pub IfThere : {A : Type 0} → (A → Type 0) → Option A → Type 0
IfThere P None = Unit {0}
IfThere P (Some x) = P x

pub there : {A : Type 0} (P : A → Type 0) (o : Option A) (x : A) → o ≡ Some x → IfThere P o → P x
there P o x e h = subst (IfThere P) e h

-- what leads from a front to the one at the next point: the same is left of the whole try, in the same try
pub record Onward (w : Case) (whole : Told TryEnd) (f g : Told Front) : Type 0 where
  pub leads : whole ≡ after g.past (behind_arrival w g.answer.stand g.counts)
  pub ends : (before : List Event) × (g.past.events ≡ before ++ Reached g.answer.stand.trying.node g.answer.stand.point ∷ [])
  pub spare : g.answer.spare ≡ f.answer.spare
  pub trying : g.answer.stand.trying ≡ f.answer.stand.trying
  pub point : g.answer.stand.point ≡ suc f.answer.stand.point
  pub rest : body_behind 1 f.answer.stand.rest ≡ g.answer.stand.rest
  pub kinds : g.answer.stand.kinds ≡ kinds_of (struck w.faults f.answer.stand.trying.node f.answer.stand.trying.begin (suc f.answer.stand.point))
  pub notes : bit_and f.answer.stand.notes w.halts ≡ no_kinds
      → bit_and g.answer.stand.notes w.halts ≡ bit_and g.answer.stand.kinds w.halts
  pub counts : (n : ℕ) → among (body_numbers f.answer.stand.rest) n ≡ false → g.counts n ≡ f.counts n
  pub rises : (n : ℕ) → f.counts n ≤ g.counts n

-- notes that do not halt add no halting kind
pub notes_halt : (halts notes kinds : ℕ) → bit_and notes halts ≡ no_kinds → bit_and (bit_or notes kinds) halts ≡ bit_and kinds halts
notes_halt halts notes kinds quiet =
    same_from_bits _ _ (λ i.
    let here : bit_at (bit_and notes halts) i ≡ bit_at 0 i = ap (λ n. bit_at n i) quiet in
    omega (arith, bit_at_and (bit_or notes kinds) halts i, bit_at_or notes kinds i, bit_at_and notes halts i, bit_at_and kinds halts i, bit_at-zero i))

pub among_neither : (ms ns : List ℕ) (n : ℕ) → among (ms ++ ns) n ≡ false → (among ms n ≡ false) × (among ns n ≡ false)
among_neither ms ns n e =
    elim (cases_Bool (among ms n)) [
      | inl here ↦ let no : true ≡ false = sym (among_left ms ns n here) ∙ e in cc
      | inr out ↦
          elim (cases_Bool (among ns n)) [
            | inl here ↦ let no : true ≡ false = sym (among_right ms ns n here) ∙ e in cc
            | inr neither ↦ (out, neither)
          ]
    ]

-- an arrival at the next point, whatever was told on the way
arrives_onward : (w : Case) (whole : Told TryEnd) (f : Told Front) (p : Past) (rest : Body) (seen : ℕ) (now : Counts)
    → whole ≡ after p (read_points w rest f.answer.stand.trying (suc f.answer.stand.point) seen now)
    → body_behind 1 f.answer.stand.rest ≡ rest
    → (bit_and f.answer.stand.notes w.halts ≡ no_kinds → bit_and seen w.halts ≡ no_kinds)
    → ((n : ℕ) → among (body_numbers f.answer.stand.rest) n ≡ false → now n ≡ f.counts n)
    → ((n : ℕ) → f.counts n ≤ now n)
    → Onward w whole f (after p (arrives w f.answer.spare rest f.answer.stand.trying (suc f.answer.stand.point) seen now))
arrives_onward w whole f p rest seen now leads left quiet stay rises =
    let s : Stand = f.answer.stand in
    record {
      leads = leads ∙ arrives_leads w p f.answer.spare rest s.trying (suc s.point) seen now;
      ends = (p.events, refl);
      spare = refl;
      trying = refl;
      point = refl;
      rest = left;
      kinds = refl;
      notes = λ before. notes_halt w.halts seen (kinds_of (struck w.faults s.trying.node s.trying.begin (suc s.point))) (quiet before);
      counts = stay;
      rises = rises;
    }

-- behind a group of which this is the end
group_onward : (w : Case) (f : Told Front) (rest : Body) (t : Told GroupEnd) (end : GroupEnd)
    → body_behind 1 f.answer.stand.rest ≡ rest → QuietGroup w.halts end
    → ((n : ℕ) → among (body_numbers f.answer.stand.rest) n ≡ false → t.counts n ≡ f.counts n)
    → ((n : ℕ) → f.counts n ≤ t.counts n)
    → IfThere (λ g. Onward w
    (after f.past (after t.past (group_ended f.answer.stand.trying f.answer.stand.notes t.counts end
    (λ all now. read_points w rest f.answer.stand.trying (suc f.answer.stand.point) all now)))) f (after f.past g))
    (past_group t end (λ leaks. arrives w f.answer.spare rest f.answer.stand.trying (suc f.answer.stand.point)
    (bit_or f.answer.stand.notes leaks) t.counts))
group_onward w f rest t (SomeEscalated cause over) left quiet stay rises = tt
group_onward w f rest t (AllDone leaks) left quiet stay rises =
    let s : Stand = f.answer.stand in
    let seen : ℕ = bit_or s.notes leaks in
    let whole : Told TryEnd = after f.past (after t.past (read_points w rest s.trying (suc s.point) seen t.counts)) in
    let g : Told Front = arrives w f.answer.spare rest s.trying (suc s.point) seen t.counts in
    subst (Onward w whole f) (after_twice f.past t.past g)
    (arrives_onward w whole f (joined f.past t.past) rest seen t.counts
    (sym (after_twice f.past t.past (read_points w rest s.trying (suc s.point) seen t.counts))) left
    (λ before. or_is_quiet w.halts s.notes leaks before quiet) stay rises)

-- behind the item at a point at which no kind halts
item_onward : (w : Case) (past : Past) (counts : Counts) (spare : ℕ) (body : Body) (h : Try) (point kinds notes : ℕ)
    → let f : Told Front = told past counts (record { spare = spare; stand = record { trying = h; point = point; kinds = kinds; notes = notes; rest = body } }) in
    IfThere (λ g. Onward w (after past (behind_point w body h point notes counts)) f (after past g))
    (past_item w spare body h point notes counts)
item_onward w past counts spare stop h point kinds notes = tt
item_onward w past counts spare (run op rest) h point kinds notes =
    let f : Told Front = told past counts (record { spare = spare; stand = record { trying = h; point = point; kinds = kinds; notes = notes; rest = run op rest } }) in
    arrives_onward w (after past (read_points w rest h (suc point) notes counts)) f past rest notes counts refl refl (λ before. before) (λ n e. refl) (λ n. le_refl (counts n))
item_onward w past counts spare (group members rest) h point kinds notes =
    let f : Told Front = told past counts (record { spare = spare; stand = record { trying = h; point = point; kinds = kinds; notes = notes; rest = group members rest } }) in
    let t : Told GroupEnd = read_members w members counts in
    group_onward w f rest t t.answer refl (members_quiet w members counts)
    (λ n e. members_others_stay w members counts n (among_neither (member_numbers members) (body_numbers rest) n e).0)
    (λ n. member-counts-do-not-fall w members counts n)

-- a point is passed where no kind halts at it
none_onward : (w : Case) (f : Told Front) (whole : Told TryEnd) (none : Bool) (next : Option (Told Front))
    → (none ≡ true → IfThere (λ g. Onward w whole f (after f.past g)) next)
    → IfThere (λ g. (Onward w whole f g) × (none ≡ true)) (where_none none f.past next)
none_onward w f whole none None on = tt
none_onward w f whole true (Some g) on = (on refl, refl)
none_onward w f whole false (Some g) on = tt

-- the front at the next point, and that no kind halts at this one
pub next_onward : (w : Case) (f : Told Front)
    → IfThere (λ g. (Onward w (after f.past (behind_arrival w f.answer.stand f.counts)) f g)
    × ((bit_and f.answer.stand.kinds w.halts == no_kinds) ≡ true)) (next_point w f)
next_onward w f =
    let s : Stand = f.answer.stand in
    let next : Option (Told Front) = past_item w f.answer.spare s.rest s.trying s.point s.notes f.counts in
    let whole : Told TryEnd = after f.past (behind_arrival w s f.counts) in
    none_onward w f whole (bit_and s.kinds w.halts == no_kinds) next
    (λ none. subst (λ (x : Told TryEnd). IfThere (λ g. Onward w x f (after f.past g)) next)
    (ap (after f.past) (sym (goes_on w s f.counts none)))
    (item_onward w f.past f.counts f.answer.spare s.rest s.trying s.point s.kinds s.notes))

-- a try is followed by another where it failed, and one is to spare
pub tried_all : (P : Told Front → Type 0) (w : Case) (d : Node) (spare : ℕ) (t : Told TryEnd) (end : TryEnd)
    → ((less : ℕ) (cause : _) → spare ≡ suc less → end ≡ Failed cause → P (after (repeated t.past) (begins w d less false t.counts)))
    → IfThere P (tried w d spare t end)
tried_all P w d zero t end here = tt
tried_all P w d (suc spare) t (Passed leak) here = tt
tried_all P w d (suc spare) t (Failed cause) here = here spare cause refl refl
tried_all P w d (suc spare) t (Broken cause over) here = tt

halted_stays : (h : Try) (halts notes : ℕ) (counts : Counts) (declared : Bool) → (halted h halts notes counts declared).counts ≡ counts
halted_stays h halts notes counts true = refl
halted_stays h halts notes counts false = refl

unless_halted_stays : (h : Try) (halts notes : ℕ) (counts : Counts) (next : ℕ → Told TryEnd) (none : Bool) (n : ℕ)
    → (next notes).counts n ≡ counts n → (unless_halted h halts notes counts next none).counts n ≡ counts n
unless_halted_stays h halts notes counts next true n same = same
unless_halted_stays h halts notes counts next false n same =
    ap (λ (c : Counts). c n) (halted_stays h halts notes counts (kinds_without halts h.detects == no_kinds))

group_ended_stays : (h : Try) (notes : ℕ) (counts : Counts) (end : GroupEnd) (next : ℕ → Counts → Told TryEnd) (n : ℕ)
    → ((all : ℕ) → (next all counts).counts n ≡ counts n) → (group_ended h notes counts end next).counts n ≡ counts n
group_ended_stays h notes counts (AllDone leaks) next n same = same (bit_or notes leaks)
group_ended_stays h notes counts (SomeEscalated cause over) next n same = refl

behind_point_stays : (w : Case) (body : Body) (h : Try) (point notes : ℕ) (counts : Counts) (n : ℕ) → among (body_numbers body) n ≡ false
    → (behind_point w body h point notes counts).counts n ≡ counts n
behind_point_stays w stop h point notes counts n e = refl
behind_point_stays w (run op rest) h point notes counts n e = points_others_stay w rest h (suc point) notes counts n e
behind_point_stays w (group members rest) h point notes counts n e =
    let t : Told GroupEnd = read_members w members counts in
    let out = among_neither (member_numbers members) (body_numbers rest) n e in
    group_ended_stays h notes t.counts t.answer (λ all now. read_points w rest h (suc point) all now) n
    (λ all. points_others_stay w rest h (suc point) all t.counts n out.1)
    ∙ members_others_stay w members counts n out.0

-- the counts of others stay in what is left of a try
pub behind_arrival_stays : (w : Case) (s : Stand) (counts : Counts) (n : ℕ) → among (body_numbers s.rest) n ≡ false
    → (behind_arrival w s counts).counts n ≡ counts n
behind_arrival_stays w s counts n e =
    unless_halted_stays s.trying (bit_and s.kinds w.halts) s.notes counts (λ notes. behind_point w s.rest s.trying s.point notes counts)
    (bit_and s.kinds w.halts == no_kinds) n (behind_point_stays w s.rest s.trying s.point s.notes counts n e)

pub behind_one_more : (k : ℕ) (body : Body) → body_behind (suc k) body ≡ body_behind 1 (body_behind k body)
behind_one_more zero body = refl
behind_one_more (suc k) stop = refl
behind_one_more (suc k) (run op rest) = behind_one_more k rest
behind_one_more (suc k) (group members rest) = behind_one_more k rest

pub behind_has_no_more : (k : ℕ) (body : Body) (n : ℕ) → among (body_numbers body) n ≡ false → among (body_numbers (body_behind k body)) n ≡ false
behind_has_no_more zero body n e = e
behind_has_no_more (suc k) stop n e = e
behind_has_no_more (suc k) (run op rest) n e = behind_has_no_more k rest n e
behind_has_no_more (suc k) (group members rest) n e =
    behind_has_no_more k rest n (among_neither (member_numbers members) (body_numbers rest) n e).1
