-- A reading saves the entries of its domains as they are declared.
use Rattle.std.proofs.Common.{◌≡◌, ℕ, suc, ◌+◌, List, [], ◌∷◌, Option, Some, IsSomeAnd, slice_get, refl, ap, sym, ◌∙◌, subst, arith}
use Rattle.std.specs.Option.{option_and_then}
use Rattle.cd_tree.specs.declared.domain.NodeId.{NodeId}
use Rattle.cd_tree.specs.declared.domain.Entry.{Entry}
use Rattle.cd_tree.specs.declared.domain.Domain.{Domain}
use Rattle.cd_tree.specs.Domains.{Node, root_of, nodes_from, Throughout}
use Rattle.cd_tree.specs.TreeModel.{TreeModel, IsTree}
use Rattle.cd_tree.specs.Reading.{how_kept, saved_from, no_begins, read_node}
use Rattle.cd_tree.specs.Record.{record_of, case_of}
use Rattle.cd_tree.specs.Legal.{entry_at}
use Rattle.cd_tree.specs.LegalLaws.{SavesAsDeclared, ReadingsSaveAsDeclared, RecordsSaveAsDeclared}
use Rattle.cd_tree.proofs.EachDomain.{Behind, behind_view, views_throughout, root_there}
use Rattle.cd_base.proofs.ListLemmas.{Each}
use Rattle.cd_tree.proofs.EventsTold.{all_every, Tells, TellsAll, node_all}

-- the entries from `at` on of a domain that is there
saved_as_declared : (tree : TreeModel) (id : NodeId) (at : ℕ) (entries : List Entry)
    → ((k : ℕ) → entry_at tree.domains id (at + k) ≡ slice_get entries k) → Each (SavesAsDeclared tree) (saved_from id at entries)
saved_as_declared tree id at [] same = tt
saved_as_declared tree id at (entry ∷ entries) same =
    let first : at ≡ at + 0 = omega arith in
    let here : entry_at tree.domains id at ≡ Some entry = ap (entry_at tree.domains id) first ∙ same 0 in (
      subst (λ (o : Option Entry). IsSomeAnd o (λ e. how_kept entry.how ≡ how_kept e.how)) (sym here) refl,
      saved_as_declared tree id (suc at) entries
          (λ k. let next : suc at + k ≡ at + suc k = omega arith in ap (entry_at tree.domains id) next ∙ same (suc k)),
    )

saves_there : (tree : TreeModel) (id : NodeId) (domain : Domain) → slice_get tree.domains id.0 ≡ Some domain
    → Each (SavesAsDeclared tree) (saved_from id 0 domain.entries)
saves_there tree id domain is =
    saved_as_declared tree id 0 domain.entries
    (λ k.
    let same : 0 + k ≡ k = omega arith in
    ap (entry_at tree.domains id) same
    ∙ ap (λ (o : Option Domain). option_and_then (λ (domain : Domain). slice_get domain.entries k) o) is)

no_other_saves : (tree : TreeModel) (id : NodeId) → Tells (SavesAsDeclared tree) id
no_other_saves tree id =
    record { begin = λ n. tt; refilled = λ n. tt; reached = λ n. tt; halted = λ n. tt; found = λ n. tt; complete = tt; escalate = tt }

there_throughout : (tree : TreeModel) → IsTree tree → (k : ℕ) (d : Node) → slice_get (nodes_from 0 tree.domains) k ≡ Some d
    → Throughout (TellsAll (SavesAsDeclared tree)) d
there_throughout tree is k d found =
    views_throughout (TellsAll (SavesAsDeclared tree)) 0 tree.domains
    (λ j e there.
    let b : Behind tree.domains (record { 0 = j }) e = behind_view tree is (record { 0 = j }) e there in
    subst (TellsAll (SavesAsDeclared tree)) (sym b.view)
    (no_other_saves tree (record { 0 = j }), saves_there tree (record { 0 = j }) b.domain b.there))
    k d found

pub readings_save : ReadingsSaveAsDeclared
readings_save tree is id d found w counts =
    all_every (SavesAsDeclared tree) (read_node w d counts).past.events
    (node_all (SavesAsDeclared tree) w d counts (there_throughout tree is id.0 d found)).every

pub records_save : RecordsSaveAsDeclared
records_save tree faults is =
    all_every (SavesAsDeclared tree) (record_of tree faults)
    (node_all (SavesAsDeclared tree) (case_of tree faults) (root_of tree.domains) no_begins
    (there_throughout tree is 0 (root_of tree.domains) (root_there tree.domains is.some))).every
