-- Texts of the worked cases, and what they are read as.
use Rattle.std.proofs.Common.{ℕ, List, ◌++◌}
use Rattle.std.specs.Prelude.{codes, Option}
use Rattle.cd_base.specs.declared.pattern.Pattern.{Pattern}
use Rattle.cd_base.specs.declared.place.Range.{Range}
use Rattle.cd_tree.specs.declared.document.Document.{Document}
use Rattle.cd_tree.specs.declared.document.Region.{Region}
use Rattle.cd_tree.specs.declared.document.RawFault.{RawFault}
use Rattle.cd_tree.specs.declared.domain.Domain.{Domain}
use Rattle.cd_tree.specs.declared.domain.Entry.{Entry}
use Rattle.cd_tree.specs.declared.domain.Item.{Item}
use Rattle.cd_tree.specs.declared.domain.NodeId.{NodeId}
use Rattle.cd_tree.specs.declared.domain.How.TheVariants.{Copy}
use Rattle.cd_parse.specs.Draft.{four_kinds}

abbrev pub part : ℕ → ℕ → ℕ → Range
part region low high = record { region = region; low = low; high = high }

abbrev pub copied : Range → Entry
copied range = record { range = range; how = Copy }

abbrev pub region : List ℕ → ℕ → Pattern → Region
region name length pattern = record { name = name; length = length; pattern = pattern }

abbrev pub domain : List ℕ → Option NodeId → ℕ → ℕ → List Entry → List Item → Domain
domain name parent retry detects entries items =
    record { name = name; parent = parent; retry = retry; detects = detects; entries = entries; items = items }

abbrev pub number : ℕ → NodeId
number n = record { 0 = n }

abbrev pub strike : List ℕ → ℕ → ℕ → ℕ → ℕ → ℕ → ℕ → RawFault
strike path begin item kind place index mask =
    record { path = path; begin = begin; item = item; kind = record { 0 = kind }; place = record { region = place; index = index }; mask = mask }

-- a document of version 1
abbrev pub first_version : List Region → List Domain → List RawFault → Document
first_version regions domains faults =
    record { version = 1; regions = regions; tree = record { kinds = four_kinds; domains = domains }; faults = faults }

-- the six lines of a program of one domain, with these in place of its fifth
abbrev pub with_fifth : List ℕ → List ℕ
with_fifth fifth =
    codes "cd 1\nregion y 4 const 0\ndomain root retry 2 detects flip\npreserve y copy\n" ++ fifth ++ codes "\nend\n"

-- the same with these lines after its end
abbrev pub with_more : List ℕ → List ℕ
with_more more = with_fifth (codes "fill y 7") ++ more

-- that program with these lines in place of its first two
abbrev pub with_head : List ℕ → List ℕ
with_head head =
    head ++ codes "\ndomain root retry 2 detects flip\npreserve y copy\nfill y 7\nend\n"
