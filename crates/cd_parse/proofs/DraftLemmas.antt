-- Changes of one domain among all.
use Rattle.std.proofs.Common.{◌≡◌, ℕ, zero, suc, ◌<◌, ◌≤◌, List, [], ◌∷◌, length, get_or, set, refl, ap, arith}
use Rattle.cd_tree.specs.declared.domain.Domain.{Domain}
use Rattle.cd_parse.specs.Draft.{changed}

pub changed_set : (change : Domain → Domain) (ds : List Domain) (at : ℕ) (d : Domain) → at < length ds → d ≡ get_or ds at d
    → set ds at (change d) ≡ changed at change ds
changed_set change [] at d h e = absurd (omega arith)
changed_set change (x ∷ ds) zero d h e = ap (λ (y : Domain). change y ∷ ds) e
changed_set change (x ∷ ds) (suc at) d h e = ap (λ (ys : List Domain). x ∷ ys) (changed_set change ds at d (omega arith) e)

pub changed_none : (change : Domain → Domain) (ds : List Domain) (at : ℕ) → length ds ≤ at → ds ≡ changed at change ds
changed_none change [] at h = refl
changed_none change (x ∷ ds) zero h = absurd (omega arith)
changed_none change (x ∷ ds) (suc at) h = ap (λ (ys : List Domain). x ∷ ys) (changed_none change ds at (omega arith))
