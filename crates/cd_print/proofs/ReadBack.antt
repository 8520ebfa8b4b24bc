-- The canonical text of a document that is well read is read as the document.
use Rattle.std.proofs.Common.{◌≡◌, ℕ, ◌+◌, ◌*◌, ◌^◌, ◌<◌, ◌≤◌, inl, inr, Bool, true, false, cond, List, [], ◌∷◌, ◌++◌, length, map, slice_get, Option, Some, None, sum_by, refl, sym, ap, ◌∙◌, subst, arith, append-nil, length-append}
use Rattle.std.specs.Prelude.{Ok, codes, decimal, ◌==◌}
use Rattle.std.specs.Option.{IsSomeAnd}
use Rattle.std.proofs.lemmas.List.{length-map}
use Rattle.std.proofs.lemmas.Option.{same_Some}
use Rattle.cd_tree.specs.declared.document.Region.{Region}
use Rattle.cd_tree.specs.declared.document.RawFault.{RawFault}
use Rattle.cd_tree.specs.declared.document.Document.{Document}
use Rattle.cd_tree.specs.declared.domain.Domain.{Domain}
use Rattle.cd_tree.specs.declared.kinds.KindName.{KindName}
use Rattle.cd_tree.specs.Laws.{NestedViewFollows}
use Rattle.cd_tree.specs.TreeModel.{TreeModel, IsTree}
use Rattle.cd_tree.specs.Domains.{Node, node, Body, stop, run, group, Members, no_more, member, node_of, root_of, body_by, node_numbers}
use Rattle.cd_parse.specs.Draft.{DraftModel, no_draft, takes_regions, is_closed, may_end, document_of}
use Rattle.cd_print.specs.Canonical.{Statement, end_statement, entry_statement, kind_statement, region_statement, strike_statement, grouped, node_statements, body_statements, member_statements, kind_statements, fault_statements, statements, canonical, lifted}
use Rattle.cd_parse.specs.WellRead.{AreReadKinds, AreReadFaults, FitsVersion, WellRead}
use Rattle.cd_parse.specs.Parsing.{parse}
use Rattle.cd_print.proofs.LinesBack.{AreStatements, statements_both}
use Rattle.cd_print.proofs.ReadsBack.{counting, Do, do_both, text_read}
use Rattle.cd_print.proofs.HeadsBack.{in_first, in_second, first_version, second_version, striking, striking_takes, striking_ends, faults_done}
use Rattle.cd_print.proofs.ProgramLemmas.{domain_there}
use Rattle.cd_print.proofs.TreeViews.{AreFresh, id_of, flat_node, flat_body, flat_members, node_items, body_items, member_items, node_preserves, body_preserves, member_preserves, ToldNode}
use Rattle.cd_print.proofs.TreeBack.{CanStand, behind_node, node_do}
use Rattle.cd_print.proofs.MarksBack.{document_marked}
use Rattle.cd_print.proofs.DocumentBack.{kinds_do, staged, with_regions, regions_do, faults_do}
use Rattle.cd_print.proofs.TokensBack.{node_tokens, regions_tokens, version_tokens, named_tokens, strikes_tokens}
use Rattle.cd_print.proofs.ViewBack.{Seen, GoUp, go_up, node_told, node_sums}
use Rattle.cd_print.proofs.ListBack.{flat_is, siblings_fresh}

-- ---- how many lines a program has

grouped_lines : (ms : Members) (inner : List Statement) → length (grouped ms inner) ≤ length inner + 2
grouped_lines no_more inner = omega (arith, length-append inner (end_statement ∷ []))
grouped_lines (member first no_more) inner = omega arith
grouped_lines (member first (member second rest)) inner = omega (arith, length-append inner (end_statement ∷ []))

mutual
  node_lines : (regions : List Region) (kinds : List KindName) (n : Node)
      → length (node_statements regions kinds n) ≤ 2 * node_items n + 2 * length (flat_node n) + node_preserves n
  node_lines regions kinds (node id domain body) =
      omega (
        arith,
        body_lines regions kinds body,
        length-append (map (entry_statement regions) domain.entries) (body_statements regions kinds body ++ end_statement ∷ []),
        length-append (body_statements regions kinds body) (end_statement ∷ []),
        length-map domain.entries (entry_statement regions),
      )

  body_lines : (regions : List Region) (kinds : List KindName) (b : Body)
      → length (body_statements regions kinds b) ≤ 2 * body_items b + 2 * length (flat_body b) + body_preserves b
  body_lines regions kinds stop = omega arith
  body_lines regions kinds (run op rest) = omega (arith, body_lines regions kinds rest)
  body_lines regions kinds (group ms rest) =
      omega (
        arith,
        members_lines regions kinds ms,
        body_lines regions kinds rest,
        grouped_lines ms (member_statements regions kinds ms),
        length-append (grouped ms (member_statements regions kinds ms)) (body_statements regions kinds rest),
        length-append (flat_members ms) (flat_body rest),
      )

  members_lines : (regions : List Region) (kinds : List KindName) (ms : Members)
      → length (member_statements regions kinds ms) ≤ 2 * member_items ms + 2 * length (flat_members ms) + member_preserves ms
  members_lines regions kinds no_more = omega arith
  members_lines regions kinds (member first rest) =
      omega (
        arith,
        node_lines regions kinds first,
        members_lines regions kinds rest,
        length-append (node_statements regions kinds first) (member_statements regions kinds rest),
        length-append (flat_node first) (flat_members rest),
      )

-- ---- the root

first_is_root : (domains : List Domain) → 0 < length domains → node_of domains (record { 0 = 0 }) ≡ Some (root_of domains)
first_is_root [] h = absurd (omega arith)
first_is_root (domain ∷ domains) h = refl

root_seen : (tree : TreeModel) → NestedViewFollows → IsTree tree → Seen tree.domains (root_of tree.domains)
root_seen tree view is =
    let there : (domain : Domain) × (slice_get tree.domains 0 ≡ Some domain) =
    domain_there tree.domains 0 (λ domain. domain.parent ≡ None) (slice_get tree.domains 0) refl is.root in
    let seen : Node = node (record { 0 = 0 }) there.0 (body_by (node_of tree.domains) there.0.items) in
    let same : seen ≡ root_of tree.domains =
    same_Some seen (root_of tree.domains) (sym (view tree is (record { 0 = 0 }) there.0 there.1) ∙ first_is_root tree.domains is.some) in
    subst (Seen tree.domains) same (there.1, refl)

parent_none : (domains : List Domain) (domain : Domain) (o : Option Domain) → o ≡ slice_get domains 0 → IsSomeAnd o (λ d. d.parent ≡ None) → slice_get domains 0 ≡ Some domain
    → domain.parent ≡ None
parent_none domains domain None e h there = absurd h
parent_none domains domain (Some one) e h there = subst (λ (d : Domain). d.parent ≡ None) (same_Some one domain (e ∙ there)) h

root_parent : (n : Node) (domains : List Domain) → GoUp 0 (node_numbers n) → IsSomeAnd (slice_get domains 0) (λ d. d.parent ≡ None)
    → (domain : Domain) → slice_get domains (id_of n).0 ≡ Some domain → domain.parent ≡ None
root_parent (node id it body) domains up root domain there =
    parent_none domains domain (slice_get domains 0) refl root (subst (λ (m : ℕ). slice_get domains m ≡ Some domain) up.0 there)

root_told : (document : Document) → NestedViewFollows → WellRead document
    → ToldNode document.regions document.tree.kinds 0 None 0 (root_of document.tree.domains)
root_told document view w =
    let up : GoUp 0 (node_numbers (root_of document.tree.domains)) = subst (GoUp 0) (sym w.tree.preorder) (go_up 0 (length document.tree.domains)) in
    node_told (root_of document.tree.domains) document.regions document.tree 0 None 0 (root_parent (root_of document.tree.domains) document.tree.domains up w.tree.root)
    (record { view = view; is = w.tree; read = w.domains }) (root_seen document.tree view w.tree) up (omega (arith, w.tree.depth))

root_flat : (document : Document) → NestedViewFollows → WellRead document → flat_node (root_of document.tree.domains) ≡ document.tree.domains
root_flat document view w = flat_is (root_of document.tree.domains) document.tree view w.tree (root_seen document.tree view w.tree) w.tree.preorder

-- the root keeps the limits
record RootFits (document : Document) : Type 0 where
  domains : length (flat_node (root_of document.tree.domains)) ≤ 2048
  items : node_items (root_of document.tree.domains) ≤ 16384
  preserves : node_preserves (root_of document.tree.domains) ≤ 16384

root_fits : (document : Document) → NestedViewFollows → WellRead document → RootFits document
root_fits document view w =
    let flat = root_flat document view w in
    let sums = node_sums (root_of document.tree.domains) document.regions document.tree.kinds 0 None 0 (root_told document view w) in
    let items : sum_by (λ (d : Domain). length d.items) (flat_node (root_of document.tree.domains)) ≡ sum_by (λ (d : Domain). length d.items) document.tree.domains =
    ap (sum_by (λ (d : Domain). length d.items)) flat in
    let entries : sum_by (λ (d : Domain). length d.entries) (flat_node (root_of document.tree.domains)) ≡ sum_by (λ (d : Domain). length d.entries) document.tree.domains =
    ap (sum_by (λ (d : Domain). length d.entries)) flat in
    let size : length (flat_node (root_of document.tree.domains)) ≡ length document.tree.domains = ap (λ (ds : List Domain). length ds) flat in
    record {
      domains = omega (arith, size, w.tree.few);
      items = omega (arith, sums.0, items, w.tree.items);
      preserves = omega (arith, sums.1, entries, w.tree.preserves);
    }

-- ---- the document

-- what statements make of a draft: a draft that may end and is the document
record Whole (draft : DraftModel) (ss : List Statement) (document : Document) : Type 0 where
  behind : DraftModel
  done : Do draft ss behind
  ends : may_end behind.stage ≡ true
  same : document_of behind ≡ document

-- a draft behind its version and its kinds
abbrev headed : DraftModel → ℕ → List KindName → DraftModel
headed draft version kinds = record no_draft { stage = draft.stage; version = version; kinds = kinds }

staged_takes : (draft : DraftModel) (regions : List Region) → takes_regions draft.stage ≡ true → takes_regions (staged draft regions).stage ≡ true
staged_takes draft [] h = h
staged_takes draft (region ∷ regions) h = refl

faults_whole : (faults : List RawFault) (draft : DraftModel) → is_closed draft.stage ≡ true → may_end draft.stage ≡ true → AreReadKinds [] draft.kinds → length draft.kinds ≤ 16
    → AreReadFaults draft.regions draft.kinds faults → length draft.faults + length faults ≤ 256
    → Whole draft (fault_statements draft.regions draft.kinds faults) (document_of (record draft { faults = draft.faults ++ faults }))
faults_whole [] draft closed ends kinds few h all = record {
  behind = draft;
  done = refl;
  ends = ends;
  same = ap (λ (fs : List RawFault). document_of (record draft { faults = fs })) (sym (append-nil draft.faults));
}
faults_whole (fault ∷ faults) draft closed ends kinds few h all = record {
  behind = record draft { stage = striking.stage; faults = draft.faults ++ fault ∷ faults };
  done = (
    record draft { stage = striking.stage },
    (λ n. faults_done (counting n draft) closed),
    faults_do (fault ∷ faults) (record draft { stage = striking.stage }) striking_takes kinds few h all,
  );
  ends = striking_ends;
  same = refl;
}

-- what stands behind the version and the kinds
abbrev rest_of : Document → List Statement
rest_of document =
    map region_statement document.regions
    ++ (node_statements document.regions document.tree.kinds (root_of document.tree.domains) ++ fault_statements document.regions document.tree.kinds document.faults)

rest_done : (draft : DraftModel) (document : Document) → takes_regions draft.stage ≡ true → NestedViewFollows → WellRead document
    → Whole (headed draft document.version document.tree.kinds) (rest_of document) document
rest_done draft document takes view w =
    let root : Node = root_of document.tree.domains in
    let start : DraftModel = headed draft document.version document.tree.kinds in
    let regioned : DraftModel = with_regions start document.regions in
    let closed : DraftModel = behind_node regioned regioned root in
    let fits : RootFits document = root_fits document view w in
    let flat : flat_node root ≡ document.tree.domains = root_flat document view w in
    let can : CanStand regioned regioned root = record {
      names = λ n. refl;
      takes = staged_takes start document.regions takes;
      room = refl;
      told = root_told document view w;
      size = refl;
      depth = refl;
      same = λ parent name. refl;
      fresh = subst (AreFresh []) (sym flat) (siblings_fresh document.tree.domains [] document.tree.domains w.tree.siblings refl);
      domains = omega (arith, fits.domains);
      items = omega (arith, fits.items);
      preserves = omega (arith, fits.preserves);
    } in
    let tail : Whole closed (fault_statements document.regions document.tree.kinds document.faults) (document_of (record closed { faults = document.faults })) =
    faults_whole document.faults closed refl refl w.kinds w.tree.few_kinds w.faults (omega (arith, w.few_faults)) in
    record {
      behind = tail.behind;
      done = do_both start regioned tail.behind (map region_statement document.regions)
          (node_statements document.regions document.tree.kinds root ++ fault_statements document.regions document.tree.kinds document.faults)
          (regions_do document.regions start takes w.regions (omega (arith, w.few_regions)))
          (do_both regioned closed tail.behind (node_statements document.regions document.tree.kinds root) (fault_statements document.regions document.tree.kinds document.faults)
          (node_do root regioned regioned (record { few = w.tree.few_kinds; read = w.kinds }) can) tail.done);
      ends = tail.ends;
      same = tail.same ∙ ap (λ (ds : List Domain). record document { tree = record { kinds = document.tree.kinds; domains = ds } }) flat;
    }

-- the statements of a document with its version written out
abbrev versioned : Document → ℕ → List Statement
versioned document version = (codes "cd" ∷ decimal version ∷ []) ∷ kind_statements version document.tree.kinds ++ rest_of document

whole_document : (document : Document) → NestedViewFollows → WellRead document → FitsVersion document.version document.tree.kinds
    → Whole no_draft (statements document) document
whole_document document view w (inl first) =
    let tail : Whole (headed in_first document.version document.tree.kinds) (rest_of document) document = rest_done in_first document refl view w in
    let start : headed in_first document.version document.tree.kinds ≡ in_first =
    ap (λ (v : ℕ). headed in_first v document.tree.kinds) first.0 ∙ ap (headed in_first 1) first.1 in
    record {
      behind = tail.behind;
      done = subst (λ (ss : List Statement). Do no_draft ss tail.behind) (sym (ap (versioned document) first.0))
          (in_first, first_version, subst (λ (d : DraftModel). Do d (rest_of document) tail.behind) start tail.done);
      ends = tail.ends;
      same = tail.same;
    }
whole_document document view w (inr second) =
    let tail : Whole (headed in_second document.version document.tree.kinds) (rest_of document) document = rest_done in_second document refl view w in
    let start : headed in_second document.version document.tree.kinds ≡ record in_second { kinds = document.tree.kinds } =
    ap (λ (v : ℕ). headed in_second v document.tree.kinds) second in
    record {
      behind = tail.behind;
      done = subst (λ (ss : List Statement). Do no_draft ss tail.behind) (sym (ap (versioned document) second)) (
        in_second,
        second_version,
        do_both in_second (record in_second { kinds = document.tree.kinds }) tail.behind (map kind_statement document.tree.kinds) (rest_of document)
            (kinds_do document.tree.kinds in_second refl w.kinds (omega (arith, w.tree.few_kinds)))
            (subst (λ (d : DraftModel). Do d (rest_of document) tail.behind) start tail.done),
      );
      ends = tail.ends;
      same = tail.same;
    }

small_version : (version : ℕ) (kinds : List KindName) → FitsVersion version kinds → version < 2 ^ 64
small_version version kinds (inl first) = omega (arith, first.0)
small_version version kinds (inr second) = omega (arith, second)

clean : (document : Document) → NestedViewFollows → WellRead document → AreStatements (statements document)
clean document view w =
    let regions : List Region = document.regions in
    let kinds : List KindName = document.tree.kinds in
    let root : Node = root_of document.tree.domains in (
      version_tokens document.version (small_version document.version kinds w.version),
      statements_both (kind_statements document.version kinds) (rest_of document) (named_tokens kinds (document.version == 1) w.kinds)
          (statements_both (map region_statement regions) (node_statements regions kinds root ++ fault_statements regions kinds document.faults)
          (regions_tokens [] 0 regions w.regions)
          (statements_both (node_statements regions kinds root) (fault_statements regions kinds document.faults)
          (node_tokens regions kinds 0 None 0 root (record { few = w.tree.few_kinds; read = w.kinds }) (root_told document view w))
          (strikes_tokens regions kinds document.faults w.kinds w.faults))),
    )

kinds_lines : (kinds : List KindName) (t : Bool) → length (cond t [] (map kind_statement kinds)) ≤ length kinds
kinds_lines kinds true = omega arith
kinds_lines kinds false = omega (arith, length-map kinds kind_statement)

faults_lines : (regions : List Region) (kinds : List KindName) (faults : List RawFault) → length (fault_statements regions kinds faults) ≤ length faults + 1
faults_lines regions kinds [] = omega arith
faults_lines regions kinds (fault ∷ faults) = omega (arith, length-map (fault ∷ faults) (strike_statement regions kinds))

few_lines : (document : Document) → NestedViewFollows → WellRead document → length (statements document) ≤ 65536
few_lines document view w =
    let regions : List Region = document.regions in
    let kinds : List KindName = document.tree.kinds in
    let root : Node = root_of document.tree.domains in
    let fits : RootFits document = root_fits document view w in
    omega (
      arith,
      fits.domains,
      fits.items,
      fits.preserves,
      node_lines regions kinds root,
      kinds_lines kinds (document.version == 1),
      faults_lines regions kinds document.faults,
      length-map regions region_statement,
      w.tree.few_kinds,
      w.few_regions,
      w.few_faults,
      length-append (kind_statements document.version kinds) (rest_of document),
      length-append (map region_statement regions) (node_statements regions kinds root ++ fault_statements regions kinds document.faults),
      length-append (node_statements regions kinds root) (fault_statements regions kinds document.faults),
    )

pub read_back : NestedViewFollows → (document : Document) → WellRead document → parse (canonical document) ≡ Ok document
read_back view document w =
    let whole : Whole no_draft (statements document) document = whole_document document view w w.version in
    text_read (statements document) whole.behind (clean document view w) (document_marked document) whole.done (few_lines document view w) whole.ends
    ∙ ap (λ (d : Document). Ok d) whole.same

pub lifted_read_back : NestedViewFollows → (document : Document) → WellRead document → parse (canonical (lifted document)) ≡ Ok (lifted document)
lifted_read_back view document w =
    read_back view (lifted document)
    (record { version = inr refl; kinds = w.kinds; regions = w.regions; few_regions = w.few_regions; tree = w.tree; domains = w.domains; faults = w.faults; few_faults = w.few_faults })
