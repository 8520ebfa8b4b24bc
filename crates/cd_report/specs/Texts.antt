-- The texts that a program writes, as lists of bytes: reports, refusals, and lines of their own.
use Rattle.std.specs.Prelude.{◌≡◌, ℕ, ◌+◌, ◌*◌, ◌<◌, nat_le, List, [], ◌∷◌, ◌++◌, Option, None, Some, length, map, sum, sum_by, slice_get, if◌then◌else◌, codes, decimal}
use Rattle.std.specs.List.{flat_map, range_with_len, last_or}
use Rattle.cd_base.specs.declared.place.Place.{Place}
use Rattle.cd_base.specs.Words.{Words, word_at, word_of}
use Rattle.cd_tree.specs.declared.domain.NodeId.{NodeId}
use Rattle.cd_tree.specs.declared.domain.Domain.{Domain}
use Rattle.cd_tree.specs.declared.document.Region.{Region}
use Rattle.cd_tree.specs.declared.document.Document.{Document}
use Rattle.cd_tree.specs.declared.event.Cause.{Cause}
use Rattle.cd_tree.specs.declared.refusal.Which.{Which}
use Rattle.cd_tree.specs.declared.refusal.Which.TheVariants as which
use Rattle.cd_tree.specs.declared.refusal.Refusal.{Refusal}
use Rattle.cd_tree.specs.declared.refusal.Refusal.TheVariants.{TooLong, Line, UnknownRegion, OutsideRegion, NameTaken, Shape, Arithmetic, Limit, Overlap, Uncovered, NoTarget, Stale, UnknownPath, NoSuchItem, OutsideReach, Undetected}
use Rattle.cd_tree.specs.TreeModel.{TreeModel}
use Rattle.cd_tree.specs.Paths.{path_text_of}
use Rattle.cd_tokens.specs.Written.{place_token, kinds_token}
use Rattle.cd_field.specs.FieldModel.{FieldModel, IsPresent}

-- a text with a line feed after it
abbrev pub line : List ℕ → List ℕ
line text = text ++ 10 ∷ []

-- the path of the last domain of a cause's path
abbrev pub end_text : List Domain → Option NodeId → List ℕ
end_text domains None = []
end_text domains (Some id) = path_text_of domains id

-- whether the run committed, or where and by which kinds it was exhausted
abbrev pub outcome_line : TreeModel → Option Cause → List ℕ
outcome_line tree None = line (codes "committed")
outcome_line tree (Some cause) =
    line (codes "exhausted " ++ end_text tree.domains (last_or None cause.path) ++ codes " " ++ kinds_token tree.kinds cause.kinds)

-- n words of a region, from an index on
abbrev pub words_from : Words → ℕ → ℕ → ℕ → List ℕ
words_from words region from n = map (λ i. word_at words (record { region = region; index = i })) (range_with_len from n)

-- each word with a space before it
abbrev pub listed : List ℕ → List ℕ
listed words = flat_map (λ word. codes " " ++ decimal word) words

-- the sum of the words, each times its place, where the first has the place `from`
abbrev pub weighted : ℕ → List ℕ → ℕ
weighted from [] = 0
weighted from (word ∷ words) = from * word + weighted (from + 1) words

-- how many words there are, and their plain and their weighted sum, both modulo 2^64
abbrev pub summed : ℕ → List ℕ → List ℕ
summed count words =
    codes " length " ++ decimal count ++ codes " sum " ++ decimal (word_of (sum words)) ++ codes " weighted "
    ++ decimal (word_of (weighted 1 words))

-- the words of a region, `count` in number, or what stands for them where they are more than sixteen
abbrev pub words_text : ℕ → List ℕ → List ℕ
words_text count words = if nat_le count 16 then listed words else summed count words

abbrev pub region_line : Words → ℕ → Region → List ℕ
region_line words number region =
    line (codes "region " ++ region.name ++ words_text region.length (words_from words number 0 region.length))

-- the lines of regions, of which the first has the number `at`
abbrev pub region_lines : Words → ℕ → List Region → List ℕ
region_lines words at [] = []
region_lines words at (region ∷ regions) = region_line words at region ++ region_lines words (at + 1) regions

abbrev pub begins_line : List Domain → ℕ → ℕ → List ℕ
begins_line domains at count = line (codes "begins " ++ path_text_of domains (record { 0 = at }) ++ codes " " ++ decimal count)

-- the lines of begin counts, of which the first is that of the domain `at`
abbrev pub begins_lines : List Domain → ℕ → List ℕ → List ℕ
begins_lines domains at [] = []
begins_lines domains at (count ∷ counts) = begins_line domains at count ++ begins_lines domains (at + 1) counts

abbrev pub total_line : List ℕ → List ℕ
total_line begins = line (codes "total " ++ decimal (sum begins))

-- what becomes of a run, then these lines of regions, and how often each domain begins
abbrev pub report_with : List ℕ → TreeModel → List ℕ → Option Cause → List ℕ
report_with regions tree begins cause =
    outcome_line tree cause ++ regions ++ begins_lines tree.domains 0 begins ++ total_line begins

-- the report of a run, without its record
abbrev pub report_text : TreeModel → List Region → Words → List ℕ → Option Cause → List ℕ
report_text tree regions words begins cause = report_with (region_lines words 0 regions) tree begins cause

-- what the reading gives, which knows no words
abbrev pub reading_text : TreeModel → List ℕ → Option Cause → List ℕ
reading_text tree begins cause = report_with [] tree begins cause

-- each place of each region is present in the machine
abbrev pub AllPresent : FieldModel → List Region → Type 0
AllPresent m regions =
    (k i : ℕ) (region : Region) → slice_get regions k ≡ Some region → i < region.length
    → IsPresent m (record { region = k; index = i })

-- the name of a limit
abbrev pub which_text : Which → List ℕ
which_text which.Lines = codes "lines"
which_text which.Nesting = codes "nesting"
which_text which.Name = codes "name"
which_text which.Kinds = codes "kinds"
which_text which.Regions = codes "regions"
which_text which.Words = codes "words"
which_text which.Domains = codes "domains"
which_text which.Depth = codes "depth"
which_text which.Items = codes "items"
which_text which.Entries = codes "entries"
which_text which.Preserves = codes "preserves"
which_text which.Members = codes "members"
which_text which.Retry = codes "retry"
which_text which.Faults = codes "faults"
which_text which.Need = codes "need"

-- the path of a domain of a document, where there is one; a domain that is not there has the empty path
abbrev pub path_in : Option Document → NodeId → List ℕ
path_in None id = []
path_in (Some document) id = path_text_of document.tree.domains id

-- a place of a document, where there is one
abbrev pub place_in : Option Document → Place → List ℕ
place_in None p = []
place_in (Some document) p = place_token document.regions p

-- what a refusal says; only where it names domains or places, of the document
abbrev pub refusal_text : Option Document → Refusal → List ℕ
refusal_text document TooLong = codes "E1 longer than 1048576 bytes"
refusal_text document (Line n) = codes "E2 line " ++ decimal n
refusal_text document (UnknownRegion n) = codes "E3 line " ++ decimal n
refusal_text document (OutsideRegion n) = codes "E4 line " ++ decimal n
refusal_text document (NameTaken n) = codes "E5 line " ++ decimal n
refusal_text document (Shape n) = codes "E6 line " ++ decimal n
refusal_text document (Arithmetic n) = codes "E7 line " ++ decimal n
refusal_text document (Limit limit count) = codes "E8 " ++ which_text limit ++ codes " " ++ decimal count
refusal_text document (Overlap one other p) =
    codes "E9 " ++ path_in document one ++ codes " " ++ path_in document other ++ codes " " ++ place_in document p
refusal_text document (Uncovered id p) = codes "E10 " ++ path_in document id ++ codes " " ++ place_in document p
refusal_text document (NoTarget id k) = codes "E11 " ++ path_in document id ++ codes " entry " ++ decimal k
refusal_text document (Stale id k p) =
    codes "E12 " ++ path_in document id ++ codes " entry " ++ decimal k ++ codes " " ++ place_in document p
refusal_text document (UnknownPath k) = codes "E13 fault " ++ decimal k
refusal_text document (NoSuchItem k) = codes "E14 fault " ++ decimal k
refusal_text document (OutsideReach k) = codes "E15 fault " ++ decimal k
refusal_text document (Undetected k) = codes "E16 fault " ++ decimal k

-- the line of a refusal
abbrev pub refusal_line : Option Document → Refusal → List ℕ
refusal_line document refusal = line (codes "refused " ++ refusal_text document refusal)

-- the items of some domains, of which a group is one
abbrev pub item_count : List Domain → ℕ
item_count domains = sum_by (λ (domain : Domain). length domain.items) domains

-- the entries of some domains
abbrev pub entry_count : List Domain → ℕ
entry_count domains = sum_by (λ (domain : Domain). length domain.entries) domains

-- the words of some regions
abbrev pub word_count : List Region → ℕ
word_count regions = sum_by (λ (region : Region). region.length) regions

-- how large an accepted document is, and how many blocks it needs
abbrev pub accepted_line : Document → ℕ → List ℕ
accepted_line document need =
    line
    (codes "# accepted domains " ++ decimal (length document.tree.domains) ++ codes " items " ++ decimal (item_count document.tree.domains)
    ++ codes " entries " ++ decimal (entry_count document.tree.domains) ++ codes " words " ++ decimal (word_count document.regions)
    ++ codes " need " ++ decimal need ++ codes " faults " ++ decimal (length document.faults))

-- the line for a command line that gives no command
abbrev pub usage_line : List ℕ
usage_line = line (codes "usage: cd check|read|run|make|lift [--workers N] [--record] [--size N]")

-- the line where the source could not be read
abbrev pub fault_line : List ℕ
fault_line = line (codes "read fault")
