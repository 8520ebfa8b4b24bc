-- Worked cases on which the definitions compute: each is proved by computing both sides.
use Rattle.std.proofs.Common.{◌≡◌, ℕ, Bool, true, false, List, [], ◌∷◌, Option, None, Some, refl, codes}
use Rattle.std.specs.Fmt.{digits}
use Rattle.cd_base.specs.declared.place.Range.{Range}
use Rattle.cd_base.specs.declared.pattern.Pattern.{Pattern}
use Rattle.cd_base.specs.declared.pattern.Pattern.TheVariants.{Const, Iota, Mix}
use Rattle.cd_tree.specs.declared.domain.NodeId.{NodeId}
use Rattle.cd_tree.specs.declared.domain.Domain.{Domain}
use Rattle.cd_tree.specs.declared.domain.Item.{Item}
use Rattle.cd_tree.specs.declared.domain.Item.TheVariants.{Run, Group}
use Rattle.cd_tree.specs.declared.domain.How.TheVariants as how
use Rattle.cd_tree.specs.declared.domain.Entry.{Entry}
use Rattle.cd_tree.specs.declared.document.Region.{Region}
use Rattle.cd_tree.specs.declared.document.RawFault.{RawFault}
use Rattle.cd_tree.specs.declared.document.Document.{Document}
use Rattle.cd_tree.specs.declared.kinds.KindName.{KindName}
use Rattle.cd_tree.specs.declared.operation.Op.TheVariants.{Fill, Stencil}
use Rattle.cd_print.specs.Canonical.{canonical, lifted}

abbrev id : ℕ → NodeId
id n = record { 0 = n }

abbrev kind : List ℕ → Bool → KindName
kind name halts = record { name = name; halts = halts }

-- the kinds of the first version of the language
abbrev four : List KindName
four = kind (codes "flip") false ∷ kind (codes "lost") false ∷ kind (codes "link") false ∷ kind (codes "node") false ∷ []

abbrev range : ℕ → ℕ → ℕ → Range
range region low high = record { region = region; low = low; high = high }

abbrev region : List ℕ → ℕ → Pattern → Region
region name length pattern = record { name = name; length = length; pattern = pattern }

abbrev domain : List ℕ → Option NodeId → ℕ → List Entry → List Item → Domain
domain name parent detects entries items =
    record { name = name; parent = parent; retry = 2; detects = detects; entries = entries; items = items }

abbrev document : ℕ → List KindName → List Region → List Domain → List RawFault → Document
document version kinds regions domains faults =
    record { version = version; regions = regions; tree = record { kinds = kinds; domains = domains }; faults = faults }

-- one domain that keeps four words and fills them
abbrev single : Document
single =
    document 1 four (region (codes "y") 4 (Const 0) ∷ [])
    (domain (codes "root") None 1 (record { range = range 0 0 4; how = how.Copy } ∷ []) (Run (Fill (range 0 0 4) 7) ∷ []) ∷ []) []

single_text : canonical single
    ≡ codes "cd 1\nregion y 4 const 0\ndomain root retry 2 detects flip\npreserve y[0..4] copy\nfill y[0..4] 7\nend\n"
unfolding digits
single_text = refl

-- in version 2 the kinds are named
lifted_text : canonical (lifted single)
    ≡ codes "cd 2\nkind flip\nkind lost\nkind link\nkind node\nregion y 4 const 0\ndomain root retry 2 detects flip\npreserve y[0..4] copy\nfill y[0..4] 7\nend\n"
unfolding digits
lifted_text = refl

-- a halting kind, a set of two kinds, a group of one member and one of two, and strikes
abbrev grouped : Document
grouped =
    document 2 (kind (codes "heat") false ∷ kind (codes "fire") true ∷ []) (region (codes "x") 9 (Iota 1 2) ∷ region (codes "z") 3 (Mix 5) ∷ [])
    (domain (codes "root") None 3 (record { range = range 1 0 3; how = how.Regen (Mix 5) } ∷ record { range = range 0 1 9; how = how.Refer } ∷ [])
    (Group (id 1 ∷ []) ∷ Run (Stencil (range 1 0 3) 1 2 3 (range 0 0 5)) ∷ Group (id 2 ∷ id 3 ∷ []) ∷ [])
    ∷ domain (codes "a") (Some (id 0)) 0 [] []
    ∷ domain (codes "b") (Some (id 0)) 2 [] []
    ∷ domain (codes "b1") (Some (id 0)) 1 [] []
    ∷ [])
    (record { path = codes "root/b1"; begin = 1; item = 0; kind = record { 0 = 1 }; place = record { region = 0; index = 8 }; mask = 18446744073709551615 }
    ∷ record { path = codes "root"; begin = 2; item = 3; kind = record { 0 = 0 }; place = record { region = 1; index = 0 }; mask = 1 } ∷ [])

grouped_text : canonical grouped
    ≡ codes "cd 2\nkind heat\nkind fire halt\nregion x 9 iota 1 2\nregion z 3 mix 5\ndomain root retry 2 detects heat,fire\npreserve z[0..3] regen mix 5\npreserve x[1..9] refer\ndomain a retry 2 detects none\nend\nstencil z[0..3] 1 2 3 x[0..5]\ngroup\ndomain b retry 2 detects fire\nend\ndomain b1 retry 2 detects heat\nend\nend\nend\nfaults\nstrike root/b1 1 0 fire x[8] 18446744073709551615\nstrike root 2 3 heat z[0] 1\n"
unfolding digits
grouped_text = refl
