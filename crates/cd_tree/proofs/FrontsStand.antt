-- The fronts of a domain, one by one from the first: that the reading goes on from each, and where it stands.
use Rattle.std.proofs.Common.{◌≡◌, ℕ, zero, suc, ◌+◌, ◌-◌, Bool, true, false, ◌==◌, bit_and, if◌then◌else◌, Option, None, Some, refl, ap, sym, ◌∙◌, subst, arith}
use Rattle.std.specs.Option.{option_and_then}
use Rattle.std.proofs.lemmas.Bool.{eqb-true}
use Rattle.std.proofs.lemmas.Bool.Decides.{nat_tests}
use Rattle.cd_tree.specs.declared.domain.NodeId.{NodeId}
use Rattle.cd_tree.specs.declared.domain.Domain.{Domain}
use Rattle.cd_tree.specs.KindSets.{no_kinds}
use Rattle.cd_tree.specs.Domains.{Node, Body, node, body_behind, body_numbers}
use Rattle.cd_tree.specs.Scripts.{struck, kinds_of}
use Rattle.cd_tree.specs.Reading.{Case, Counts, counted, Told, after, Blame, TryEnd, Failed, NodeEnd, Try, unless_failed, tries, read_node, read_try}
use Rattle.cd_tree.specs.Fronts.{Front, begins, next_point, behind_arrival, next_try, first_front, front_of_try, points_on, front_of_node, behind_front}
use Rattle.cd_tree.specs.FrontLaws.{FrontsLead, RecordsBegin, StandsThere, FrontsStand}
use Rattle.cd_tree.specs.Slices.{among}
use Rattle.cd_tree.proofs.Leaks.{none_is_quiet}
use Rattle.cd_tree.proofs.FrontParts.{repeated, after_twice, tries_after, begins_leads}
use Rattle.cd_tree.proofs.FrontSteps.{IfThere, there, Onward, notes_halt, next_onward, tried_all, behind_arrival_stays, behind_one_more, behind_has_no_more}

-- what holds of each front, by its try and point: it holds of the first, at the next point, and at the next try
pub record Kept (w : Case) (d : Node) (counts : Counts) (P : ℕ → ℕ → Told Front → Type 0) : Type 0 where
  pub start : P 1 0 (first_front w d counts)
  pub onward : (t point : ℕ) (f : Told Front) → P t point f → IfThere (P t (suc point)) (next_point w f)
  pub again : (t point : ℕ) (f : Told Front) → P t point f → IfThere (P (suc t) 0) (next_try w d f)

and_then_there : (P Q : Told Front → Type 0) (step : Told Front → Option (Told Front)) (o : Option (Told Front))
    → ((f : Told Front) → P f → IfThere Q (step f)) → IfThere P o → IfThere Q (option_and_then step o)
and_then_there P Q step None on h = tt
and_then_there P Q step (Some f) on h = on f h

in_tries : (w : Case) (d : Node) (counts : Counts) (P : ℕ → ℕ → Told Front → Type 0) → Kept w d counts P → (t : ℕ)
    → IfThere (P (suc t) 0) (front_of_try t w d counts)
in_tries w d counts P kept zero = kept.start
in_tries w d counts P kept (suc t) =
    and_then_there (P (suc t) 0) (P (suc (suc t)) 0) (next_try w d) (front_of_try t w d counts) (kept.again (suc t) 0)
    (in_tries w d counts P kept t)

in_points : (w : Case) (d : Node) (counts : Counts) (P : ℕ → ℕ → Told Front → Type 0) → Kept w d counts P → (t point : ℕ)
    → IfThere (P (suc t) point) (points_on point w (front_of_try t w d counts))
in_points w d counts P kept t zero = in_tries w d counts P kept t
in_points w d counts P kept t (suc point) =
    and_then_there (P (suc t) point) (P (suc t) (suc point)) (next_point w) (points_on point w (front_of_try t w d counts))
    (kept.onward (suc t) point) (in_points w d counts P kept t point)

pub in_fronts : (w : Case) (d : Node) (counts : Counts) (P : ℕ → ℕ → Told Front → Type 0) → Kept w d counts P → (t point : ℕ) (f : Told Front)
    → front_of_node w d counts t point ≡ Some f → P t point f
in_fronts w d counts P kept zero point f e = cc
in_fronts w d counts P kept (suc t) point f e =
    there (P (suc t) point) (points_on point w (front_of_try t w d counts)) f e (in_points w d counts P kept t point)

-- the reading goes on from a front
abbrev LeadsOn : Case → Node → Told NodeEnd → Told Front → Type 0
LeadsOn w d whole f = after f.past (behind_front w d f.answer f.counts) ≡ whole

-- each property of what is there that follows from another
pub if_there : {A : Type 0} (P Q : A → Type 0) (o : Option A) → ((x : A) → P x → Q x) → IfThere P o → IfThere Q o
if_there P Q None on h = tt
if_there P Q (Some x) on h = on x h

leads_onward : (w : Case) (id : NodeId) (domain : Domain) (body : Body) (whole : Told NodeEnd) (f g : Told Front)
    → Onward w (after f.past (behind_arrival w f.answer.stand f.counts)) f g → LeadsOn w (node id domain body) whole f
    → LeadsOn w (node id domain body) whole g
leads_onward w id domain body whole f g on leads =
    let again : Counts → Told TryEnd = λ now. read_try w id domain body false now in
    let rest : Told TryEnd = behind_arrival w f.answer.stand f.counts in
    let more : Told TryEnd = behind_arrival w g.answer.stand g.counts in
    sym (tries_after g.past g.answer.spare id domain again more)
    ∙ ap (λ (n : ℕ). tries n id domain again (after g.past more)) on.spare
    ∙ ap (tries f.answer.spare id domain again) (sym on.leads)
    ∙ tries_after f.past f.answer.spare id domain again rest
    ∙ leads

leads_again : (w : Case) (id : NodeId) (domain : Domain) (body : Body) (whole : Told NodeEnd) (f : Told Front) (less : ℕ) (cause : Blame)
    → f.answer.spare ≡ suc less → (behind_arrival w f.answer.stand f.counts).answer ≡ Failed cause → LeadsOn w (node id domain body) whole f
    → let t : Told TryEnd = after f.past (behind_arrival w f.answer.stand f.counts) in
    LeadsOn w (node id domain body) whole (after (repeated t.past) (begins w (node id domain body) less false t.counts))
leads_again w id domain body whole f less cause spare failed leads =
    let again : Counts → Told TryEnd = λ now. read_try w id domain body false now in
    let rest : Told TryEnd = behind_arrival w f.answer.stand f.counts in
    let t : Told TryEnd = after f.past rest in
    let g : Told Front = begins w (node id domain body) less false t.counts in
    after_twice (repeated t.past) g.past (behind_front w (node id domain body) g.answer g.counts)
    ∙ ap (after (repeated t.past)) (sym (begins_leads w id domain body less false t.counts))
    ∙ ap (λ (end : TryEnd). unless_failed id domain t end (λ now. tries less id domain again (again now))) (sym failed)
    ∙ ap (λ (n : ℕ). tries n id domain again t) (sym spare)
    ∙ tries_after f.past f.answer.spare id domain again rest
    ∙ leads

leads_kept : (w : Case) (id : NodeId) (domain : Domain) (body : Body) (counts : Counts)
    → Kept w (node id domain body) counts (λ t point f. LeadsOn w (node id domain body) (read_node w (node id domain body) counts) f)
unfolding read_node
leads_kept w id domain body counts =
    let d : Node = node id domain body in
    let whole : Told NodeEnd = read_node w d counts in
    record {
      start = sym (begins_leads w id domain body (domain.retry - 1) true counts);
      onward = λ t point f leads.
          if_there (λ g. (Onward w (after f.past (behind_arrival w f.answer.stand f.counts)) f g) × ((bit_and f.answer.stand.kinds w.halts == no_kinds) ≡ true))
          (LeadsOn w d whole) (next_point w f) (λ g on. leads_onward w id domain body whole f g on.0 leads) (next_onward w f);
      again = λ t point f leads.
          let over : Told TryEnd = after f.past (behind_arrival w f.answer.stand f.counts) in
          tried_all (LeadsOn w d whole) w d f.answer.spare over over.answer
          (λ less cause spare failed. leads_again w id domain body whole f less cause spare failed leads);
    }

pub fronts_lead : FrontsLead
fronts_lead w (node id domain body) counts t point f e =
    in_fronts w (node id domain body) counts (λ t point f. LeadsOn w (node id domain body) (read_node w (node id domain body) counts) f)
    (leads_kept w id domain body counts) t point f e

pub records_begin : RecordsBegin
records_begin w d counts t point f e = (
  (behind_front w d f.answer f.counts).past.events,
  sym (ap (λ (x : Told NodeEnd). x.past.events) (fronts_lead w d counts t point f e)),
)

-- where a front stands
counted_own : (id : ℕ) (counts : Counts) → counted id counts id ≡ counts id + 1
counted_own id counts = own id (counts id)
  where
    own : (id n : ℕ) → (if id == id then n + 1 else n) ≡ n + 1
    own id n = grind (arith, nat_tests)

stands_first : (w : Case) (id : NodeId) (domain : Domain) (body : Body) (counts : Counts) (t spare : ℕ) (first : Bool) (now : Counts)
    → spare + t ≡ 1 + (domain.retry - 1)
    → (among (body_numbers body) id.0 ≡ false → now id.0 + 1 ≡ counts id.0 + t)
    → StandsThere w id domain body counts t 0 (begins w (node id domain body) spare first now).answer (counted id.0 now)
stands_first w id domain body counts t spare first now left own =
    record {
      node = refl;
      detects = refl;
      at = refl;
      rest = refl;
      kinds = refl;
      notes = notes_halt w.halts no_kinds (kinds_of (struck w.faults id (now id.0 + 1) 0)) (none_is_quiet w.halts);
      spare = left;
      own = λ out. counted_own id.0 now;
      begin = own;
    }

stands_onward : (w : Case) (id : NodeId) (domain : Domain) (body : Body) (counts : Counts) (t point : ℕ) (whole : Told TryEnd) (f g : Told Front)
    → Onward w whole f g → (bit_and f.answer.stand.kinds w.halts == no_kinds) ≡ true
    → StandsThere w id domain body counts t point f.answer f.counts → StandsThere w id domain body counts t (suc point) g.answer g.counts
stands_onward w id domain body counts t point whole f g on none stands =
    let quiet : bit_and f.answer.stand.notes w.halts ≡ no_kinds = stands.notes ∙ eqb-true (bit_and f.answer.stand.kinds w.halts) no_kinds none in
    let same : g.answer.stand.trying ≡ f.answer.stand.trying = on.trying in
    let begin : g.answer.stand.trying.begin ≡ f.answer.stand.trying.begin = ap (λ (h : Try). h.begin) same in
    record {
      node = ap (λ (h : Try). h.node) same ∙ stands.node;
      detects = ap (λ (h : Try). h.detects) same ∙ stands.detects;
      at = on.point ∙ ap suc stands.at;
      rest = sym on.rest ∙ ap (body_behind 1) stands.rest ∙ sym (behind_one_more point body);
      kinds = on.kinds
          ∙ ap (λ (k : ℕ). kinds_of (struck w.faults f.answer.stand.trying.node f.answer.stand.trying.begin (suc k))) stands.at
          ∙ ap (λ (n : NodeId). kinds_of (struck w.faults n f.answer.stand.trying.begin (suc point))) stands.node
          ∙ ap (λ (n : ℕ). kinds_of (struck w.faults id n (suc point))) (sym begin);
      notes = on.notes quiet;
      spare = ap (λ (n : ℕ). n + t) on.spare ∙ stands.spare;
      own = λ out.
          on.counts id.0 (subst (λ (b : Body). among (body_numbers b) id.0 ≡ false) (sym stands.rest) (behind_has_no_more point body id.0 out))
          ∙ stands.own out ∙ sym begin;
      begin = λ out. begin ∙ stands.begin out;
    }

stands_again : (w : Case) (id : NodeId) (domain : Domain) (body : Body) (counts : Counts) (t point : ℕ) (f : Told Front) (less : ℕ)
    → f.answer.spare ≡ suc less → StandsThere w id domain body counts t point f.answer f.counts
    → let over : Told TryEnd = after f.past (behind_arrival w f.answer.stand f.counts) in
    StandsThere w id domain body counts (suc t) 0 (begins w (node id domain body) less false over.counts).answer (counted id.0 over.counts)
stands_again w id domain body counts t point f less spare stands =
    let over : Told TryEnd = after f.past (behind_arrival w f.answer.stand f.counts) in
    let left : f.answer.spare + t ≡ 1 + (domain.retry - 1) = stands.spare in
    let fewer : less + suc t ≡ 1 + (domain.retry - 1) = omega arith in
    stands_first w id domain body counts (suc t) less false over.counts fewer
    (λ out.
    let gone : among (body_numbers f.answer.stand.rest) id.0 ≡ false =
    subst (λ (b : Body). among (body_numbers b) id.0 ≡ false) (sym stands.rest) (behind_has_no_more point body id.0 out) in
    let stays : over.counts id.0 ≡ f.counts id.0 = behind_arrival_stays w f.answer.stand f.counts id.0 gone in
    let own : f.counts id.0 ≡ f.answer.stand.trying.begin = stands.own out in
    let begin : f.answer.stand.trying.begin ≡ counts id.0 + t = stands.begin out in
    omega arith)

stands_kept : (w : Case) (id : NodeId) (domain : Domain) (body : Body) (counts : Counts)
    → Kept w (node id domain body) counts (λ t point f. StandsThere w id domain body counts t point f.answer f.counts)
stands_kept w id domain body counts =
    let d : Node = node id domain body in
    let P : ℕ → ℕ → Told Front → Type 0 = λ t point f. StandsThere w id domain body counts t point f.answer f.counts in
    record {
      start = stands_first w id domain body counts 1 (domain.retry - 1) true counts (omega arith) (λ out. refl);
      onward = λ t point f stands.
          if_there (λ g. (Onward w (after f.past (behind_arrival w f.answer.stand f.counts)) f g) × ((bit_and f.answer.stand.kinds w.halts == no_kinds) ≡ true))
          (P t (suc point)) (next_point w f)
          (λ g on. stands_onward w id domain body counts t point (after f.past (behind_arrival w f.answer.stand f.counts)) f g on.0 on.1 stands)
          (next_onward w f);
      again = λ t point f stands.
          let over : Told TryEnd = after f.past (behind_arrival w f.answer.stand f.counts) in
          tried_all (P (suc t) 0) w d f.answer.spare over over.answer
          (λ less cause spare failed. stands_again w id domain body counts t point f less spare stands);
    }

pub fronts_stand : FrontsStand
fronts_stand w id domain body counts t point f e =
    in_fronts w (node id domain body) counts (λ t point f. StandsThere w id domain body counts t point f.answer f.counts) (stands_kept w id domain body counts) t point f e
