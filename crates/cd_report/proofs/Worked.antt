-- Worked cases on which the definitions compute: each is proved by computing both sides.
use Rattle.std.proofs.Common.{◌≡◌, ℕ, ◌-◌, ◌^◌, true, false, List, [], ◌∷◌, Option, None, Some, refl, codes}
use Rattle.std.specs.Fmt.{digits}
use Rattle.cd_base.specs.declared.pattern.Pattern.TheVariants.{Const}
use Rattle.cd_base.specs.declared.place.Range.{Range}
use Rattle.cd_base.specs.Words.{Words}
use Rattle.cd_tree.specs.declared.domain.NodeId.{NodeId}
use Rattle.cd_tree.specs.declared.domain.Domain.{Domain}
use Rattle.cd_tree.specs.declared.domain.Item.TheVariants.{Run}
use Rattle.cd_tree.specs.declared.operation.Op.TheVariants.{Fill}
use Rattle.cd_tree.specs.declared.document.Region.{Region}
use Rattle.cd_tree.specs.declared.document.Document.{Document}
use Rattle.cd_tree.specs.declared.kinds.KindName.{KindName}
use Rattle.cd_tree.specs.declared.refusal.Refusal.TheVariants.{Overlap, Uncovered, NoTarget, Stale}
use Rattle.cd_tree.specs.TreeModel.{TreeModel}
use Rattle.cd_tree.specs.Reading.{Told, NodeEnd, Done, Escalated, told, silence, blame}
use Rattle.cd_tree.specs.declared.event.Kept.TheVariants.{Regen}
use Rattle.cd_tree.specs.declared.event.Event.TheVariants.{Begin, Saved, Fell, Lapsed, Refilled, Reached, Halted, Found, Complete, Escalate}
use Rattle.cd_tokens.specs.Written.{kinds_token}
use Rattle.cd_report.specs.Texts.{report_text, region_line, refusal_line}
use Rattle.cd_report.specs.Records.{record_text}
use Rattle.cd_report.specs.Reports.{report_of}

abbrev id : ℕ → NodeId
id n = record { 0 = n }

abbrev kind : List ℕ → KindName
kind name = record { name = name; halts = false }

-- the kinds of the first version of the language
abbrev kinds : List KindName
kinds = kind (codes "flip") ∷ kind (codes "lost") ∷ kind (codes "link") ∷ kind (codes "node") ∷ []

abbrev domain : List ℕ → Option NodeId → Domain
domain name parent = record { name = name; parent = parent; retry = 1; detects = 0; entries = []; items = [] }

abbrev region : List ℕ → ℕ → Region
region name length = record { name = name; length = length; pattern = Const 0 }

-- one domain
abbrev single : TreeModel
single = record { kinds = kinds; domains = domain (codes "root") None ∷ [] }

-- a domain, a child of it, and a child of the child
abbrev nested : TreeModel
nested =
    record { kinds = kinds; domains = domain (codes "root") None ∷ domain (codes "b") (Some (id 0)) ∷ domain (codes "c") (Some (id 1)) ∷ [] }

abbrev filled : ℕ → Words
filled word = λ p. Some word

-- a run that commits
committed : report_text single (region (codes "y") 4 ∷ []) (filled 7) (1 ∷ []) None
    ≡ codes "committed\nregion y 7 7 7 7\nbegins root 1\ntotal 1\n"
unfolding digits
committed = refl

-- a run that is exhausted by one kind of fault
exhausted : report_text single (region (codes "y") 4 ∷ []) (filled 0) (2 ∷ []) (Some (record { path = id 0 ∷ []; kinds = 1 }))
    ≡ codes "exhausted root flip\nregion y 0 0 0 0\nbegins root 2\ntotal 2\n"
unfolding digits
exhausted = refl

-- the cause is told by its last domain, and no kind may be found there
below_the_root : report_text nested (region (codes "y") 1 ∷ region (codes "z") 2 ∷ []) (λ p. Some p.region) (2 ∷ 3 ∷ 10 ∷ [])
    (Some (record { path = id 0 ∷ id 1 ∷ id 2 ∷ []; kinds = 0 }))
    ≡ codes "exhausted root/b/c none\nregion y 0\nregion z 1 1\nbegins root 2\nbegins root/b 3\nbegins root/b/c 10\ntotal 15\n"
unfolding digits
below_the_root = refl

some_kinds : kinds_token kinds 13 ≡ codes "flip,link,node"
some_kinds = refl

-- up to sixteen words are listed
listed_words : region_line (λ p. Some p.index) 0 (region (codes "y") 16) ≡ codes "region y 0 1 2 3 4 5 6 7 8 9 10 11 12 13 14 15\n"
unfolding digits
listed_words = refl

-- more words are summed
summed_words : region_line (filled 7) 0 (region (codes "y") 65) ≡ codes "region y length 65 sum 455 weighted 15015\n"
unfolding digits
summed_words = refl

-- sums are taken modulo 2^64
wrapped_sums : region_line (filled (2 ^ 64 - 1)) 0 (region (codes "y") 17)
    ≡ codes "region y length 17 sum 18446744073709551599 weighted 18446744073709551463\n"
unfolding digits
wrapped_sums = refl

abbrev document : Option Document
document = Some (record { version = 1; regions = region (codes "y") 1 ∷ region (codes "z") 9 ∷ []; tree = nested; faults = [] })

-- two domains and a place
overlap : refusal_line document (Overlap (id 1) (id 2) (record { region = 1; index = 3 })) ≡ codes "refused E9 root/b root/b/c z[3]\n"
unfolding digits
overlap = refl

uncovered : refusal_line document (Uncovered (id 2) (record { region = 0; index = 0 })) ≡ codes "refused E10 root/b/c y[0]\n"
unfolding digits
uncovered = refl

no_target : refusal_line document (NoTarget (id 0) 12) ≡ codes "refused E11 root entry 12\n"
unfolding digits
no_target = refl

stale : refusal_line document (Stale (id 1) 0 (record { region = 1; index = 8 })) ≡ codes "refused E12 root/b entry 0 z[8]\n"
unfolding digits
stale = refl

-- a domain and a region that are not there have no name
nowhere : refusal_line document (Uncovered (id 3) (record { region = 2; index = 5 })) ≡ codes "refused E10  [5]\n"
unfolding digits
nowhere = refl

-- one event of each sort
each_event : record_text kinds (region (codes "y") 4 ∷ [])
    (Begin (id 0) 1 ∷ Saved (id 0) 3 Regen ∷ Fell (id 1) 2 (record { region = 0; index = 3 }) 7 8 ∷ Lapsed (id 1) 0 12 13 ∷ Refilled (id 2) 5
    ∷ Reached (id 2) 4 ∷ Halted (id 3) 8 ∷ Found (id 0) 0 ∷ Complete (id 10) ∷ Escalate (id 0) ∷ [])
    ≡ codes "record\nbegin 0 1\nsaved 0 3 regen\nfell 1 2 y[3] wanted 7 found 8\nlapsed 1 0 seen 12 found 13\nrefilled 2 5\nreached 2 4\nhalted 3 node\nfound 0 none\ncomplete 10\nescalate 0\n"
unfolding digits
each_event = refl

-- ---- reports of documents

abbrev y : Range
y = record { region = 0; low = 0; high = 4 }

-- one domain, which fills its region
abbrev filling : Document
filling =
    record {
      version = 1;
      regions = region (codes "y") 4 ∷ [];
      faults = [];
      tree = record single { domains = record (domain (codes "root") None) { items = Run (Fill y 7) ∷ [] } ∷ [] };
    }

-- a reading in which each domain begins twice
abbrev twice : NodeEnd → Told NodeEnd
twice end = told silence (λ n. 2) end

-- where the reading is done the words are the program's, and the record is the machine's own, with what fell back
done_report : report_of true filling (twice (Done 0)) (Fell (id 0) 0 (record { region = 0; index = 1 }) 8 0 ∷ Complete (id 0) ∷ [])
    ≡ codes "committed\nregion y 7 7 7 7\nbegins root 2\ntotal 2\nrecord\nfell 0 0 y[1] wanted 8 found 0\ncomplete 0\n"
unfolding digits report_of
done_report = refl

-- where it escalates the root they are the initial ones
exhausted_report : report_of false filling (twice (Escalated (blame (id 0) 1) 0)) (Escalate (id 0) ∷ [])
    ≡ codes "exhausted root flip\nregion y 0 0 0 0\nbegins root 2\ntotal 2\n"
unfolding digits report_of
exhausted_report = refl
