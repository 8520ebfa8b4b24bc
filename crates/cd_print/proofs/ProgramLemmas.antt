-- Lemmas on the statements of a program by its list of domains.
use Rattle.std.proofs.Common.{◌≡◌, ℕ, zero, suc, ◌+◌, ◌<◌, ◌≤◌, List, [], ◌∷◌, ◌++◌, Option, None, Some, length, map, slice_get, get_or, codes, decimal, refl, sym, ap, ◌∙◌, subst, arith, append_assoc, append-nil}
use Rattle.std.proofs.lemmas.Option.{slice_get_within, same_Some}
use Rattle.std.specs.Option.{IsSomeAnd}
use Rattle.cd_tree.specs.declared.domain.NodeId.{NodeId}
use Rattle.cd_tree.specs.declared.domain.Item.{Item}
use Rattle.cd_tree.specs.declared.domain.Item.TheVariants.{Run, Group}
use Rattle.cd_tree.specs.declared.domain.Domain.{Domain}
use Rattle.cd_tree.specs.declared.domain.Entry.{Entry}
use Rattle.cd_tree.specs.declared.document.Region.{Region}
use Rattle.cd_tree.specs.declared.document.Document.{Document}
use Rattle.cd_tree.specs.declared.kinds.KindName.{KindName}
use Rattle.cd_tree.specs.Laws.{NestedViewFollows}
use Rattle.cd_tree.specs.TreeModel.{TreeModel, IsTree, EachFits, FitsDomain, FitsItems, NamesChildren}
use Rattle.cd_tree.specs.Domains.{Node, node, Members, no_more, member, put_first, members_by, body_by, node_of, root_of}
use Rattle.cd_print.specs.Canonical.{Statement, line, lines, canonical, kind_statements, region_statement, domain_statement, entry_statement, fault_statements, end_statement, grouped, body_statements, member_statements, node_statements}
use Rattle.cd_print.proofs.PrintLemmas.{lines_of_both}

-- ---- what a program is, at one of its domains

pub each_at : (kinds : List KindName) (all : List Domain) (at : ℕ) (domains : List Domain) (k : ℕ) (domain : Domain) (j : ℕ)
    → EachFits kinds all at domains → slice_get domains k ≡ Some domain → j ≡ at + k → FitsDomain kinds all j domain
each_at kinds all at [] k domain j fits is same = absurd (cc)
each_at kinds all at (first ∷ domains) zero domain j fits is same =
    let number : at ≡ j = omega (arith, same) in
    subst (λ (n : ℕ). FitsDomain kinds all n domain) number (subst (FitsDomain kinds all at) (same_Some first domain is) fits.0)
each_at kinds all at (first ∷ domains) (suc k) domain j fits is same =
    let number : j ≡ suc at + k = omega (arith, same) in
    each_at kinds all (suc at) domains k domain j fits.1 is number

-- a domain's items fit
pub items_fit : (tree : TreeModel) → IsTree tree → (id : NodeId) (domain : Domain) → slice_get tree.domains id.0 ≡ Some domain
    → FitsItems tree.domains id.0 domain.items
items_fit tree is id domain e = (each_at tree.kinds tree.domains 0 tree.domains id.0 domain id.0 is.each e (omega arith)).items

-- one of the items that fit
pub fits_item : (domains : List Domain) (at : ℕ) (items : List Item) (k : ℕ) (item : Item) → FitsItems domains at items → k < length items
    → item ≡ get_or items k item → FitsItems domains at (item ∷ [])
fits_item domains at [] k item h lt e = absurd (omega arith)
fits_item domains at (Run op ∷ items) zero item h lt e = subst (λ (it : Item). FitsItems domains at (it ∷ [])) (sym e) (h.0, h.1, tt)
fits_item domains at (Group ids ∷ items) zero item h lt e = subst (λ (it : Item). FitsItems domains at (it ∷ [])) (sym e) (h.0, h.1, h.2, tt)
fits_item domains at (Run op ∷ items) (suc k) item h lt e = fits_item domains at items k item h.2 (omega (arith, lt)) e
fits_item domains at (Group ids ∷ items) (suc k) item h lt e = fits_item domains at items k item h.3 (omega (arith, lt)) e

-- ---- members of groups

pub domain_there : (domains : List Domain) (k : ℕ) (P : Domain → Type 0) (o : Option Domain) → o ≡ slice_get domains k → IsSomeAnd o P
    → (domain : Domain) × (slice_get domains k ≡ Some domain)
domain_there domains k P None e h = absurd h
domain_there domains k P (Some domain) e h = (domain, sym e)

-- a member of a group is a later domain
pub member_later : (domains : List Domain) (at : ℕ) (ids : List NodeId) (k : ℕ) (d : NodeId) → NamesChildren domains at ids → k < length ids
    → at < (get_or ids k d).0
member_later domains at [] k d h lt = absurd (omega arith)
member_later domains at (id ∷ ids) zero d h lt = h.0
member_later domains at (id ∷ ids) (suc k) d h lt = member_later domains at ids k d h.2 (omega (arith, lt))

pub member_there : (domains : List Domain) (at : ℕ) (ids : List NodeId) (k : ℕ) (d : NodeId) → NamesChildren domains at ids → k < length ids
    → (domain : Domain) × (slice_get domains (get_or ids k d).0 ≡ Some domain)
member_there domains at [] k d h lt = absurd (omega arith)
member_there domains at (id ∷ ids) zero d h lt =
    domain_there domains id.0 (λ child. child.parent ≡ Some (record { 0 = at })) (slice_get domains id.0) refl h.1
member_there domains at (id ∷ ids) (suc k) d h lt = member_there domains at ids k d h.2 (omega (arith, lt))

pub member_within : (domains : List Domain) (at : ℕ) (ids : List NodeId) (k : ℕ) (d : NodeId) → NamesChildren domains at ids → k < length ids
    → (get_or ids k d).0 < length domains
member_within domains at ids k d h lt =
    let there : (domain : Domain) × (slice_get domains (get_or ids k d).0 ≡ Some domain) = member_there domains at ids k d h lt in
    slice_get_within domains (get_or ids k d).0 there.0 there.1

-- a member of a group has a nested view
pub member_seen : NestedViewFollows → (tree : TreeModel) → IsTree tree → (at : ℕ) (ids : List NodeId) (k : ℕ) (d : NodeId)
    → NamesChildren tree.domains at ids → k < length ids → (seen : Node) × (node_of tree.domains (get_or ids k d) ≡ Some seen)
member_seen view tree is at ids k d h lt =
    let there : (domain : Domain) × (slice_get tree.domains (get_or ids k d).0 ≡ Some domain) = member_there tree.domains at ids k d h lt in
    (node (get_or ids k d) there.0 (body_by (node_of tree.domains) there.0.items), view tree is (get_or ids k d) there.0 there.1)

-- the statements of a group by its members
abbrev group_by : List Region → List KindName → (NodeId → Option Node) → List NodeId → List Statement
group_by regions kinds find ids = body_statements regions kinds (body_by find (Group ids ∷ []))

one_seen : (regions : List Region) (kinds : List KindName) (first : Option Node) (seen : Node) → first ≡ Some seen
    → grouped (put_first first no_more) (member_statements regions kinds (put_first first no_more)) ++ []
    ≡ member_statements regions kinds (put_first first no_more)
one_seen regions kinds None seen e = absurd (cc)
one_seen regions kinds (Some first) seen e = append-nil (member_statements regions kinds (member first no_more))

-- a group of one member is a plain domain
pub single_group : (regions : List Region) (kinds : List KindName) (find : NodeId → Option Node) (ids : List NodeId) (d : NodeId) (seen : Node)
    → 1 ≤ length ids → length ids < 2 → find (get_or ids 0 d) ≡ Some seen
    → group_by regions kinds find ids ≡ member_statements regions kinds (members_by find (get_or ids 0 d ∷ []))
single_group regions kinds find [] d seen low high e = absurd (omega arith)
single_group regions kinds find (id ∷ []) d seen low high e = one_seen regions kinds (find id) seen e
single_group regions kinds find (id ∷ next ∷ ids) d seen low high e = absurd (omega arith)

two_seen : (regions : List Region) (kinds : List KindName) (first second : Option Node) (one two : Node) (rest : Members) (statements : List Statement)
    → first ≡ Some one → second ≡ Some two
    → grouped (put_first first (put_first second rest)) statements ++ [] ≡ (codes "group" ∷ []) ∷ statements ++ end_statement ∷ []
two_seen regions kinds None second one two rest statements e f = absurd (cc)
two_seen regions kinds (Some first) None one two rest statements e f = absurd (cc)
two_seen regions kinds (Some first) (Some second) one two rest statements e f =
    append-nil ((codes "group" ∷ []) ∷ statements ++ end_statement ∷ [])

-- any other group stands between `group` and `end`
pub large_group : (regions : List Region) (kinds : List KindName) (find : NodeId → Option Node) (ids : List NodeId)
    → (length ids ≡ 1 → ⊥) → ((k : ℕ) (d : NodeId) → k < length ids → (seen : Node) × (find (get_or ids k d) ≡ Some seen))
    → group_by regions kinds find ids
    ≡ (codes "group" ∷ []) ∷ member_statements regions kinds (members_by find ids) ++ end_statement ∷ []
large_group regions kinds find [] many seen = refl
large_group regions kinds find (id ∷ []) many seen = absurd (many refl)
large_group regions kinds find (id ∷ next ∷ ids) many seen =
    let first : (seen : Node) × (find id ≡ Some seen) = seen 0 id (omega arith) in
    let second : (seen : Node) × (find next ≡ Some seen) = seen 1 id (omega arith) in
    two_seen regions kinds (find id) (find next) first.0 second.0 (members_by find ids)
    (member_statements regions kinds (members_by find (id ∷ next ∷ ids))) first.1 second.1

-- the root's statements are those of the domain with number 0
pub root_by_number : (regions : List Region) (kinds : List KindName) (domains : List Domain) → 0 < length domains
    → member_statements regions kinds (members_by (node_of domains) (record { 0 = 0 } ∷ []))
    ≡ node_statements regions kinds (root_of domains)
root_by_number regions kinds [] some = absurd (omega arith)
root_by_number regions kinds (domain ∷ domains) some = append-nil (node_statements regions kinds (root_of (domain ∷ domains)))

five_pieces : (a b c d e : List ℕ) → a ++ b ++ c ++ d ++ e ≡ a ++ (b ++ (c ++ (d ++ e)))
five_pieces a b c d e =
    append_assoc (a ++ b ++ c) d e ∙ append_assoc (a ++ b) c (d ++ e) ∙ append_assoc a b (c ++ (d ++ e))

-- the text of a domain, piece by piece
pub domain_text : (regions : List Region) (kinds : List KindName) (find : NodeId → Option Node) (id : NodeId) (domain : Domain) (entries : List Entry) (items : List Item)
    (text head listed all : List ℕ)
    → find id ≡ Some (node id domain (body_by find domain.items)) → entries ≡ domain.entries → items ≡ domain.items
    → head ≡ text ++ line (domain_statement kinds domain)
    → listed ≡ head ++ lines (map (entry_statement regions) entries)
    → all ≡ listed ++ lines (body_statements regions kinds (body_by find items))
    → all ++ line end_statement ≡ text ++ lines (member_statements regions kinds (put_first (find id) no_more))
domain_text regions kinds find id domain entries items text head listed all view e i at_head at_listed at_all =
    let first : List ℕ = line (domain_statement kinds domain) in
    let es : List Statement = map (entry_statement regions) domain.entries in
    let bs : List Statement = body_statements regions kinds (body_by find domain.items) in
    let whole : lines (member_statements regions kinds (put_first (find id) no_more)) ≡ first ++ lines (es ++ (bs ++ end_statement ∷ [])) =
    ap (λ (o : Option Node). lines (member_statements regions kinds (put_first o no_more))) view
    ∙ ap lines (append-nil (node_statements regions kinds (node id domain (body_by find domain.items)))) in
    let split : lines (es ++ (bs ++ end_statement ∷ [])) ≡ lines es ++ (lines bs ++ line end_statement) =
    lines_of_both es (bs ++ end_statement ∷ [])
    ∙ ap (λ (x : List ℕ). lines es ++ x)
    (lines_of_both bs (end_statement ∷ []) ∙ ap (λ (x : List ℕ). lines bs ++ x) (append-nil (line end_statement))) in
    let behind_listed : listed ≡ text ++ first ++ lines es =
    at_listed ∙ ap (λ (x : List Entry). head ++ lines (map (entry_statement regions) x)) e ∙ ap (λ (x : List ℕ). x ++ lines es) at_head in
    let behind_all : all ≡ text ++ first ++ lines es ++ lines bs =
    at_all ∙ ap (λ (x : List Item). listed ++ lines (body_statements regions kinds (body_by find x))) i
    ∙ ap (λ (x : List ℕ). x ++ lines bs) behind_listed in
    ap (λ (x : List ℕ). x ++ line end_statement) behind_all
    ∙ five_pieces text first (lines es) (lines bs) (line end_statement)
    ∙ ap (λ (x : List ℕ). text ++ (first ++ x)) (sym split)
    ∙ ap (λ (x : List ℕ). text ++ x) (sym whole)

headed : (version : ℕ) (rest : List ℕ)
    → (codes "cd " ++ (decimal version ++ codes "\n")) ++ rest ≡ line (codes "cd" ∷ decimal version ∷ []) ++ rest
headed version rest = refl

-- the text of a document, piece by piece
pub document_text : (document : Document) (regions : List Region) (head one two three four : List ℕ)
    → 0 < length document.tree.domains → regions ≡ document.regions
    → head ≡ codes "cd " ++ (decimal document.version ++ codes "\n")
    → one ≡ head ++ lines (kind_statements document.version document.tree.kinds)
    → two ≡ one ++ lines (map region_statement regions)
    → three ≡ two ++ lines (member_statements document.regions document.tree.kinds (members_by (node_of document.tree.domains) (record { 0 = 0 } ∷ [])))
    → four ≡ three ++ lines (fault_statements document.regions document.tree.kinds document.faults)
    → four ≡ canonical document
document_text document regions head one two three four some r at_head at_one at_two at_three at_four =
    let ks : List Statement = kind_statements document.version document.tree.kinds in
    let rs : List Statement = map region_statement document.regions in
    let ns : List Statement = node_statements document.regions document.tree.kinds (root_of document.tree.domains) in
    let fs : List Statement = fault_statements document.regions document.tree.kinds document.faults in
    let behind_two : two ≡ one ++ lines rs = at_two ∙ ap (λ (x : List Region). one ++ lines (map region_statement x)) r in
    let behind_three : three ≡ two ++ lines ns =
    at_three ∙ ap (λ (x : List Statement). two ++ lines x) (root_by_number document.regions document.tree.kinds document.tree.domains some) in
    let split : lines (ks ++ (rs ++ (ns ++ fs))) ≡ lines ks ++ (lines rs ++ (lines ns ++ lines fs)) =
    lines_of_both ks (rs ++ (ns ++ fs))
    ∙ ap (λ (x : List ℕ). lines ks ++ x) (lines_of_both rs (ns ++ fs) ∙ ap (λ (x : List ℕ). lines rs ++ x) (lines_of_both ns fs)) in
    at_four
    ∙ ap (λ (x : List ℕ). x ++ lines fs) (behind_three ∙ ap (λ (x : List ℕ). x ++ lines ns) (behind_two ∙ ap (λ (x : List ℕ). x ++ lines rs) at_one))
    ∙ five_pieces head (lines ks) (lines rs) (lines ns) (lines fs)
    ∙ ap (λ (x : List ℕ). head ++ x) (sym split)
    ∙ ap (λ (x : List ℕ). x ++ lines (ks ++ (rs ++ (ns ++ fs)))) at_head
    ∙ headed document.version (lines (ks ++ (rs ++ (ns ++ fs))))
