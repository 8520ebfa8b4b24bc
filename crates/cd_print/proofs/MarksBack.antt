-- In a canonical text each line that closes a block closes the one that is open.
use Rattle.std.proofs.Common.{cond, Bool, true, false, List, [], ◌∷◌, ◌++◌, map, refl}
use Rattle.std.specs.Prelude.{◌==◌}
use Rattle.cd_tree.specs.declared.document.Region.{Region}
use Rattle.cd_tree.specs.declared.document.RawFault.{RawFault}
use Rattle.cd_tree.specs.declared.document.Document.{Document}
use Rattle.cd_tree.specs.declared.kinds.KindName.{KindName}
use Rattle.cd_tree.specs.declared.operation.Op.{Op}
use Rattle.cd_tree.specs.declared.operation.Op.TheVariants.{Fill, Copy, Add, Sub, Mul, Axpy, Scan, Sum, Dot, Max, Stencil, Spmv}
use Rattle.cd_tree.specs.Domains.{Node, node, Body, stop, run, group, Members, no_more, member, root_of}
use Rattle.cd_print.specs.Canonical.{Statement, end_statement, kind_statement, region_statement, entry_statement, op_statement, strike_statement, grouped, node_statements, body_statements, member_statements, kind_statements, fault_statements, statements}
use Rattle.cd_print.proofs.ReadsBack.{IsMarked, AreMarked, marked_both}

map_marked : {X : Type 0} (say : X → Statement) → ((x : X) (before : List Bool) → IsMarked before (say x) before) → (xs : List X) (before : List Bool)
    → AreMarked before (map say xs) before
map_marked say one [] before = refl
map_marked say one (x ∷ xs) before = (before, one x before, map_marked say one xs before)

op_marked : (regions : List Region) (op : Op) (before : List Bool) → IsMarked before (op_statement regions op) before
op_marked regions (Fill d k) before = refl
op_marked regions (Copy d x) before = refl
op_marked regions (Add d x z) before = refl
op_marked regions (Sub d x z) before = refl
op_marked regions (Mul d x z) before = refl
op_marked regions (Axpy d k x) before = refl
op_marked regions (Scan d x) before = refl
op_marked regions (Sum d x) before = refl
op_marked regions (Dot d x z) before = refl
op_marked regions (Max d x) before = refl
op_marked regions (Stencil d a b c x) before = refl
op_marked regions (Spmv d s c v x) before = refl

-- statements between one that opens a block and one that closes it
group_marked : (members : Members) (inner : List Statement) → ((before : List Bool) → AreMarked before inner before) → (before : List Bool)
    → AreMarked before (grouped members inner) before
group_marked no_more inner all before = (false ∷ before, refl, marked_both (false ∷ before) (false ∷ before) before inner (end_statement ∷ []) (all (false ∷ before)) (before, refl, refl))
group_marked (member first no_more) inner all before = all before
group_marked (member first (member second rest)) inner all before = (false ∷ before, refl, marked_both (false ∷ before) (false ∷ before) before inner (end_statement ∷ []) (all (false ∷ before)) (before, refl, refl))

mutual
  node_marked : (regions : List Region) (kinds : List KindName) (n : Node) (before : List Bool) → AreMarked before (node_statements regions kinds n) before
  node_marked regions kinds (node id domain body) before = (
    false ∷ before,
    refl,
    marked_both (false ∷ before) (false ∷ before) before (map (entry_statement regions) domain.entries) (body_statements regions kinds body ++ end_statement ∷ [])
        (map_marked (entry_statement regions) (λ entry open_blocks. refl) domain.entries (false ∷ before))
        (marked_both (false ∷ before) (false ∷ before) before (body_statements regions kinds body) (end_statement ∷ [])
        (body_marked regions kinds body (false ∷ before)) (before, refl, refl)),
  )

  body_marked : (regions : List Region) (kinds : List KindName) (b : Body) (before : List Bool) → AreMarked before (body_statements regions kinds b) before
  body_marked regions kinds stop before = refl
  body_marked regions kinds (run op rest) before = (before, op_marked regions op before, body_marked regions kinds rest before)
  body_marked regions kinds (group members rest) before =
      marked_both before before before (grouped members (member_statements regions kinds members)) (body_statements regions kinds rest)
      (group_marked members (member_statements regions kinds members) (members_marked regions kinds members) before) (body_marked regions kinds rest before)

  members_marked : (regions : List Region) (kinds : List KindName) (ms : Members) (before : List Bool) → AreMarked before (member_statements regions kinds ms) before
  members_marked regions kinds no_more before = refl
  members_marked regions kinds (member first rest) before =
      marked_both before before before (node_statements regions kinds first) (member_statements regions kinds rest)
      (node_marked regions kinds first before) (members_marked regions kinds rest before)

kinds_marked : (kinds : List KindName) (t : Bool) → AreMarked [] (cond t [] (map kind_statement kinds)) []
kinds_marked kinds true = refl
kinds_marked kinds false = map_marked kind_statement (λ kind before. refl) kinds []

faults_marked : (regions : List Region) (kinds : List KindName) (faults : List RawFault) → AreMarked [] (fault_statements regions kinds faults) []
faults_marked regions kinds [] = refl
faults_marked regions kinds (fault ∷ faults) = ([], refl, map_marked (strike_statement regions kinds) (λ it before. refl) (fault ∷ faults) [])

pub document_marked : (document : Document) → AreMarked [] (statements document) []
document_marked document =
    let regions : List Region = document.regions in
    let kinds : List KindName = document.tree.kinds in
    let root : Node = root_of document.tree.domains in (
      [],
      refl,
      marked_both [] [] [] (kind_statements document.version kinds) (map region_statement regions ++ (node_statements regions kinds root ++ fault_statements regions kinds document.faults))
          (kinds_marked kinds (document.version == 1))
          (marked_both [] [] [] (map region_statement regions) (node_statements regions kinds root ++ fault_statements regions kinds document.faults)
          (map_marked region_statement (λ region before. refl) regions [])
          (marked_both [] [] [] (node_statements regions kinds root) (fault_statements regions kinds document.faults)
          (node_marked regions kinds root []) (faults_marked regions kinds document.faults))),
    )
