-- Marks of names.
use Rattle.std.proofs.Common.{◌≡◌, ℕ, zero, suc, ◌<◌, Bool, true, false, ◌&&◌, ◌||◌, List, [], ◌∷◌, ◌++◌, Option, None, Some, length, get_or, set, slice_get, refl, sym, ap, subst, ◌∙◌, arith}
use Rattle.std.specs.Str.{bytes_eq}
use Rattle.std.proofs.lemmas.Bool.{and_parts, eqb-true}
use Rattle.std.proofs.lemmas.List.{length-set}
use Rattle.std.proofs.lemmas.Slice.Eq.{bytes_eq-Decides}
use Rattle.cd_base.proofs.ListLemmas.{slice_get-set_same}
use Rattle.cd_tree.specs.declared.domain.NodeId.{NodeId}
use Rattle.cd_tree.specs.declared.domain.Domain.{Domain}
use Rattle.cd_parse.specs.Draft.{is_parent, has_child_named}
use Rattle.cd_parse.specs.Marks.{mark_of, IsMarked, AllMarked, AreMarked}

-- a domain that keeps its parent and its name keeps its mark
pub marks_kept : (marks : List Bool) (ds : List Domain) (at : ℕ) (d new : Domain) → d ≡ get_or ds at d
    → new.parent ≡ d.parent → new.name ≡ d.name → AllMarked marks ds → AllMarked marks (set ds at new)
marks_kept marks [] at d new is parent name all = all
marks_kept marks (x ∷ ds) zero d new is parent name all = (
  subst (λ (n : List ℕ). IsMarked marks new.parent n) (sym (name ∙ ap (λ (y : Domain). y.name) is))
      (subst (λ (p : Option NodeId). IsMarked marks p x.name) (sym (parent ∙ ap (λ (y : Domain). y.parent) is)) all.0),
  all.1,
)
marks_kept marks (x ∷ ds) (suc at) d new is parent name all = (all.0, marks_kept marks ds at d new is parent name all.1)

-- marks that stay
pub marks_stay : (marks more : List Bool) (ds : List Domain)
    → ((parent : Option NodeId) (name : List ℕ) → IsMarked marks parent name → IsMarked more parent name)
    → AllMarked marks ds → AllMarked more ds
marks_stay marks more [] stay all = tt
marks_stay marks more (x ∷ ds) stay all = (stay x.parent x.name all.0, marks_stay marks more ds stay all.1)

marked_too : (marks : List Bool) (at k : ℕ) → at < length marks → slice_get marks k ≡ Some true → slice_get (set marks at true) k ≡ Some true
marked_too [] at k within there = there
marked_too (m ∷ marks) zero zero within there = refl
marked_too (m ∷ marks) zero (suc k) within there = there
marked_too (m ∷ marks) (suc at) zero within there = there
marked_too (m ∷ marks) (suc at) (suc k) within there = marked_too marks at k (omega arith) there

-- one mark more
pub marks_set : (marks : List Bool) (ds : List Domain) (at : ℕ) → at < length marks → AllMarked marks ds → AllMarked (set marks at true) ds
marks_set marks ds at within all =
    marks_stay marks (set marks at true) ds (λ parent name there. marked_too marks at (mark_of parent name) within there) all

pub marks_grown : (marks : List Bool) (ds : List Domain) (d : Domain) → AllMarked marks ds → IsMarked marks d.parent d.name
    → AllMarked marks (ds ++ d ∷ [])
marks_grown marks [] d all here = (here, tt)
marks_grown marks (x ∷ ds) d all here = (all.0, marks_grown marks ds d all.1 here)

parents_same : (one other : Option NodeId) → is_parent one other ≡ true → one ≡ other
parents_same None None same = refl
parents_same None (Some other) same = absurd (cc)
parents_same (Some one) None same = absurd (cc)
parents_same (Some one) (Some other) same = ap (λ (n : ℕ). Some (record { 0 = n })) (eqb-true one.0 other.0 same)

-- a name without a mark is no child's
pub unmarked_is_free : (marks : List Bool) (parent : Option NodeId) (name : List ℕ) (ds : List Domain)
    → slice_get marks (mark_of parent name) ≡ Some false → AllMarked marks ds → has_child_named ds parent name ≡ false
unmarked_is_free marks parent name [] free all = refl
unmarked_is_free marks parent name (x ∷ ds) free all =
    by (is_parent x.parent parent && bytes_eq x.name name) refl (unmarked_is_free marks parent name ds free all.1)
  where
    by : (t : Bool) → (is_parent x.parent parent && bytes_eq x.name name) ≡ t → has_child_named ds parent name ≡ false
        → (t || has_child_named ds parent name) ≡ false
    by false is rest = rest
    by true is rest =
        let both = and_parts (is_parent x.parent parent) (bytes_eq x.name name) is in
        let above : x.parent ≡ parent = parents_same x.parent parent both.0 in
        let called : x.name ≡ name = (bytes_eq-Decides x.name name).0 both.1 in
        let there : IsMarked marks parent name =
        subst (λ (p : Option NodeId). IsMarked marks p name) above (subst (λ (n : List ℕ). IsMarked marks x.parent n) called all.0) in
        absurd (cc)

-- a domain more is marked
pub marked_more : (marks : List Bool) (ds : List Domain) (d : Domain) (at : ℕ) → at ≡ mark_of d.parent d.name → at < 16384
    → AreMarked marks ds → AreMarked (set marks at true) (ds ++ d ∷ [])
marked_more marks ds d at is below marked =
    let within : at < length marks = omega (arith, below, marked.count) in
    record {
      count = length-set marks at true ∙ marked.count;
      all = marks_grown (set marks at true) ds d (marks_set marks ds at within marked.all)
          (ap (λ (k : ℕ). slice_get (set marks at true) k) (sym is) ∙ slice_get-set_same marks at true within);
    }

-- a mark more does no harm
pub marked_yet : (marks : List Bool) (ds : List Domain) (at : ℕ) → at < 16384 → AreMarked marks ds → AreMarked (set marks at true) ds
marked_yet marks ds at below marked =
    let within : at < length marks = omega (arith, below, marked.count) in
    record { count = length-set marks at true ∙ marked.count; all = marks_set marks ds at within marked.all }
