-- What the reading of a domain is behind its last try.
use Rattle.std.proofs.Common.{◌≡◌, ℕ, false, subst, sym}
use Rattle.cd_base.specs.Words.{Words}
use Rattle.cd_tree.specs.declared.domain.Domain.{Domain}
use Rattle.cd_tree.specs.Domains.{Node, Body, node}
use Rattle.cd_tree.specs.Fronts.{Front, behind_arrival, behind_front}
use Rattle.cd_tree.specs.FrontLaws.{FrontsLead}
use Rattle.cd_tree.specs.Reading.{Case, Counts, Told, after, TryEnd, NodeEnd, tries, read_try, read_node}
use Rattle.cd_tree.specs.TreeModel.{TreeModel}
use Rattle.cd_field.specs.FieldModel.{FieldModel}
use Rattle.cd_core.proofs.Following.{case_on}
use Rattle.cd_core.proofs.Trying.{IsLast, EndsAfter, last_try}
use Rattle.cd_core.proofs.Judging.{Over, all_told}

module _ (tree : TreeModel) (loaded : Words) (halts : ℕ) (domain : Domain) (body : Body) (counts base : Counts) (begun : Words) (P : Type 0) where
  -- a try that is over and the last is followed by the domain's last events, and they are the whole reading
  pub over_reads : FrontsLead → (m : FieldModel) (attempt spare : ℕ) (end : TryEnd)
      → (o : Over tree loaded halts domain body counts base begun P m attempt spare end) → IsLast spare end
      → EndsAfter m.node domain (all_told tree loaded halts domain body counts base begun P m o.front)
      (read_node (case_on halts m) (node m.node domain body) counts)
  over_reads lead m attempt spare end o last =
      let w : Case = case_on halts m in
      let d : Node = node m.node domain body in
      let t : Told TryEnd = behind_arrival w o.front.answer.stand o.front.counts in
      let again : Counts → Told TryEnd = λ now. read_try w m.node domain body false now in
      let L : ℕ → Type 0 = λ n. IsLast n end in
      let K : TryEnd → Type 0 = λ e. IsLast o.front.answer.spare e in
      let Q : Told NodeEnd → Type 0 = λ u. EndsAfter m.node domain (after o.front.past t) u in
      subst Q (lead w d counts attempt o.point o.front o.is)
      (last_try m.node domain o.front.past again t o.front.answer.spare (subst K (sym o.ends) (subst L (sym o.left) last)))
