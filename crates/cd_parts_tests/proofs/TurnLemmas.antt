-- A pass that was split off can be taken back at once.
use Rattle.std.proofs.Common.{◌≡◌, ◌+◌, ◌<◌, ◌≤◌, refl, sym, subst, arith}
use Rattle.cd_keep.specs.PassModel.{PassModel, CanJoin, child_of, without}

pub can_return : (p rest child : PassModel) → rest ≡ without p 1 → child ≡ child_of p 1 → 0 < p.room → p.held + p.room ≤ p.most → CanJoin rest child
can_return p rest child e d room within =
    subst (λ (x : PassModel). CanJoin x child) (sym e)
    (subst (λ (x : PassModel). CanJoin (without p 1) x) (sym d)
    (record { store = refl; nothing = record { none = λ id. refl; held = refl }; few = omega arith }))
