-- What the parts of a run and of a reading want to know of a document that was read, and what the report asks.
use Rattle.std.proofs.Common.{◌≡◌, ℕ, suc, ◌+◌, ◌*◌, ◌^◌, ◌<◌, ◌≤◌, Bool, true, false, ◌||◌, nat_lt, cond, List, [], ◌∷◌, length, sum, fold, slice_get, Option, None, Some, IsSome, All, refl, ap, subst, sym, ◌∙◌, arith}
use Rattle.std.proofs.lemmas.Bool.Decides.{nat_tests}
use Rattle.std.proofs.lemmas.List.{length-map}
use Rattle.cd_base.specs.declared.place.Place.{Place}
use Rattle.cd_base.specs.Words.{Words, in_range, pattern_word}
use Rattle.cd_tree.specs.declared.domain.Domain.{Domain}
use Rattle.cd_tree.specs.declared.domain.Entry.{Entry}
use Rattle.cd_tree.specs.declared.document.Region.{Region}
use Rattle.cd_tree.specs.declared.document.RawFault.{RawFault}
use Rattle.cd_tree.specs.declared.document.Fault.{Fault}
use Rattle.cd_tree.specs.declared.document.Document.{Document}
use Rattle.cd_tree.specs.declared.event.Cause.{Cause}
use Rattle.cd_tree.specs.Domains.{root_of, domain_of, numbers_from}
use Rattle.cd_tree.specs.Limits.{domains_limit, faults_limit}
use Rattle.cd_tree.specs.Laws.{WordsStay, CoveredReach}
use Rattle.cd_tree.specs.Meaning.{initial, initial_word, in_entries, node_reach, IsCovered}
use Rattle.cd_tree.specs.TreeModel.{TreeModel}
use Rattle.cd_tree.specs.Reading.{NodeEnd, Done as Completed, Escalated}
use Rattle.cd_tree.specs.Record.{reading, record_of}
use Rattle.cd_tree.proofs.Walk.{length-numbers_from}
use Rattle.cd_script.specs.Acceptance.{AreFoundAs}
use Rattle.cd_parse.specs.WellRead.{WellRead, IsReadRange, AreReadEntries, AreReadDomains}
use Rattle.cd_field.specs.FieldModel.{FieldModel, IsPresent}
use Rattle.cd_report.specs.Reports.{last_words}
use Rattle.cd_app.specs.Running.{HoldsRun, HasRun}
use Rattle.cd_app.proofs.LegalLemmas.{legal_length}

-- ---- the reading's counts

one_more : (s a n l m : ℕ) → n ≤ m → s ≤ a + n + l * m → s ≤ a + suc l * m
one_more s a n l m here rest = grind (arith, here, rest)

-- a sum of numbers of which each is at most m
added_bound : (m a : ℕ) (ns : List ℕ) → All (λ (n : ℕ). n ≤ m) ns → fold ◌+◌ a ns ≤ a + length ns * m
added_bound m a [] few = omega arith
added_bound m a (n ∷ ns) few =
    one_more (fold ◌+◌ (a + n) ns) a n (length ns) m (few 0 0 (omega arith))
    (added_bound m (a + n) ns (λ k d short. few (suc k) d (omega (arith, short))))

-- the counts of a program under a script have a sum of 64 bits
pub sum_fits : (begins : List ℕ) (domains faults : ℕ) → All (λ (n : ℕ). n ≤ 1 + faults) begins → length begins ≡ domains
    → domains ≤ domains_limit → faults ≤ faults_limit → sum begins < 2 ^ 64
sum_fits begins domains faults few size less fewer =
    let each : All (λ (n : ℕ). n ≤ 257) begins = λ k d short. omega (arith, few k d short, fewer) in
    omega (arith, added_bound 257 0 begins each, size, less)

-- a script has as many entries as strikes were read
pub found_length : (domains : List Domain) (raws : List RawFault) (faults : List Fault) → AreFoundAs domains raws faults
    → length faults ≡ length raws
found_length domains [] [] found = refl
found_length domains [] (fault ∷ faults) found = absurd found
found_length domains (raw ∷ raws) [] found = absurd found
found_length domains (raw ∷ raws) (fault ∷ faults) found = ap suc (found_length domains raws faults found.1)

-- ---- words at the start and at the end

-- a place of a region has a word at the start
region_known : (regions : List Region) (k i : ℕ) (region : Region) → slice_get regions k ≡ Some region → i < region.length
    → IsSome (initial regions (record { region = k; index = i }))
region_known regions k i region found short =
    let P : Option Region → Type 0 = λ o. IsSome (initial_word o i) in
    let test : nat_lt i region.length ≡ true = grind (arith, nat_tests) in
    let Q : Bool → Type 0 = λ b. IsSome (cond b (Some (pattern_word region.pattern i)) None) in
    subst P (sym found) (subst Q (sym test) refl)

-- a place of a range that was read has a word at the start
range_known : (regions : List Region) (entry : Entry) (p : Place) → IsReadRange regions entry.range
    → in_range entry.range p ≡ true → IsSome (initial regions p)
range_known regions entry p read within =
    let same : entry.range.region ≡ p.region = grind (within, arith, nat_tests) in
    let short : p.index < read.region.length =
    (let high : p.index < entry.range.high = grind (within, arith, nat_tests) in omega (arith, high, read.within)) in
    region_known regions p.region p.index read.region (subst (λ (k : ℕ). slice_get regions k ≡ Some read.region) same read.found.there) short

-- one of two tests holds
or_cases : (a b : Bool) {P : Type 0} → (a || b) ≡ true → (a ≡ true → P) → (b ≡ true → P) → P
or_cases true b either first second = first refl
or_cases false b either first second = second either

entries_known : (regions : List Region) (entries : List Entry) (p : Place) → AreReadEntries regions entries
    → in_entries entries p ≡ true → IsSome (initial regions p)
entries_known regions [] p read within = cc
entries_known regions (entry ∷ entries) p read within =
    or_cases (in_range entry.range p) (in_entries entries p) within
    (λ here. range_known regions entry p read.0 here)
    (λ there. entries_known regions entries p read.2 there)

root_entries : (regions : List Region) (domains : List Domain) → 0 < length domains → AreReadDomains regions domains
    → AreReadEntries regions (domain_of (root_of domains)).entries
root_entries regions [] some read = absurd (omega (arith, some))
root_entries regions (domain ∷ domains) some read = read.0.entries

-- each place that a program's root reaches has a word at the start
abbrev pub ReachIsKnown : List Region → TreeModel → Type 0
ReachIsKnown regions tree = (p : Place) → node_reach (root_of tree.domains) p ≡ true → IsSome (initial regions p)

pub reach_known : (law : CoveredReach) (document : Document) → WellRead document → 0 < length document.tree.domains
    → IsCovered (root_of document.tree.domains) → ReachIsKnown document.regions document.tree
reach_known law document read some covered p reached =
    entries_known document.regions (domain_of (root_of document.tree.domains)).entries p
    (root_entries document.regions document.tree.domains some read.domains) (law (root_of document.tree.domains) p covered reached)

-- the words that a region has at the start it has at the end
end_known : (law : WordsStay) (document : Document) (end : NodeEnd) (p : Place) → IsSome (initial document.regions p)
    → IsSome (last_words document end p)
end_known law document (Completed leak) p some = law (root_of document.tree.domains) (initial document.regions) p some
end_known law document (Escalated cause over) p some = some

pub regions_present : (law : WordsStay) (document : Document) (script : List Fault) (m : FieldModel) → HoldsRun document script m
    → (k i : ℕ) (region : Region) → slice_get document.regions k ≡ Some region → i < region.length
    → IsPresent m (record { region = k; index = i })
regions_present law document script m holds k i region found short =
    let p : Place = record { region = k; index = i } in
    record {
      known = subst (λ (w : Words). IsSome (w p)) (sym holds.words)
          (end_known law document (reading document.tree script).answer p (region_known document.regions k i region found short));
      here = ap (λ (l : Place → Bool). l p) holds.present;
    }

-- ---- the report

-- the events of a machine on which a document has run are few
pub record_short : (document : Document) (script : List Fault) (m : FieldModel) → length (record_of document.tree script) < 2 ^ 49
    → HoldsRun document script m → length m.events < 2 ^ 64
record_short document script m short holds = omega (arith, legal_length holds.legal, short)

-- and it has a count for each domain
pub counts_length : (document : Document) (script : List Fault) (m : FieldModel) (begins : List ℕ) (cause : Option Cause)
    → HasRun document script m begins cause → length begins ≡ length document.tree.domains
counts_length document script m begins cause run =
    ap length run.counts ∙ length-map (numbers_from 0 (length document.tree.domains)) (reading document.tree script).counts
    ∙ length-numbers_from 0 (length document.tree.domains)
