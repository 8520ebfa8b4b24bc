-- Legal records at work: one region of four words, preserved by a pattern.
use Rattle.std.proofs.Common.{◌≡◌, ℕ, [], ◌∷◌, Option, None, Some, unwrap_or, refl, ap, arith}
use Rattle.cd_base.specs.declared.place.Place.{Place}
use Rattle.cd_base.specs.declared.place.Range.{Range}
use Rattle.cd_base.specs.declared.pattern.Pattern.TheVariants.{Const}
use Rattle.cd_base.specs.Words.{Words}
use Rattle.cd_tree.specs.declared.domain.NodeId.{NodeId}
use Rattle.cd_tree.specs.declared.domain.How.{How}
use Rattle.cd_tree.specs.declared.domain.How.TheVariants.{Regen}
use Rattle.cd_tree.specs.declared.event.Kept.TheVariants as kept
use Rattle.cd_tree.specs.declared.event.Event.TheVariants.{Begin, Saved, Fell, Reached}
use Rattle.cd_tree.specs.TreeModel.{TreeModel}
use Rattle.cd_tree.specs.Legal.{MayFall, Legal, nothing, same, fell}
use Rattle.cd_tree.specs.LegalLaws.{SavesAsDeclared, LegalFront, nothing_yet, same_so_far, fell_so_far, falling}

abbrev y : Range
y = record { region = 0; low = 0; high = 4 }

abbrev preserved : How → TreeModel
preserved how = record {
  kinds = [];
  domains = record { name = []; parent = None; retry = 2; detects = 0; entries = record { range = y; how = how } ∷ []; items = [] } ∷ [];
}

abbrev zeros : Words
zeros = λ p. Some 0

abbrev root : NodeId
root = record { 0 = 0 }

-- the pattern gives the words: the record stands as the reading has it
pattern_kept : Legal (preserved (Regen (Const 0))) zeros (Begin root 1 ∷ Saved root 0 kept.Regen ∷ []) (Begin root 1 ∷ Saved root 0 kept.Regen ∷ [])
pattern_kept = same _ _ _ tt (same _ _ _ (λ at p within. refl) nothing)

-- the pattern does not give the words: the least place, its word by the pattern, its word, and a copy
pattern_fell : Legal (preserved (Regen (Const 1))) zeros
    (Begin root 1 ∷ Fell root 0 (record { region = 0; index = 0 }) 1 0 ∷ Saved root 0 kept.Copy ∷ Reached root 0 ∷ [])
    (Begin root 1 ∷ Saved root 0 kept.Regen ∷ Reached root 0 ∷ [])
pattern_fell =
    same _ _ _ tt (fell root 0 (record { region = 0; index = 0 }) 1 0 _ _
    (record { differs = (refl, refl, λ e. omega (arith, e)); first = λ at. (refl, λ p within before. absurd (omega arith)) })
    (same _ _ _ tt nothing))

-- a pattern that does not give the root's words is not kept to
pattern_not_kept : Legal (preserved (Regen (Const 1))) zeros (Saved root 0 kept.Regen ∷ []) (Saved root 0 kept.Regen ∷ []) → ⊥
pattern_not_kept (same event actual expected stands rest) =
    let place : Place = record { region = 0; index = 0 } in
    let wrong : 0 ≡ 1 = ap (λ (o : Option ℕ). unwrap_or o 2) (stands refl place refl) in
    absurd (omega (arith, wrong))

-- a record that stops between the fall and its copy is a legal front, and one that stops behind the copy is
abbrev falls_first : MayFall (preserved (Regen (Const 1))) zeros root 0 (record { region = 0; index = 0 }) 1 0
falls_first = record { differs = (refl, refl, λ e. omega (arith, e)); first = λ at. (refl, λ p within before. absurd (omega arith)) }

pattern_falling : LegalFront (preserved (Regen (Const 1))) zeros
    (Begin root 1 ∷ Fell root 0 (record { region = 0; index = 0 }) 1 0 ∷ [])
    (Begin root 1 ∷ Saved root 0 kept.Regen ∷ Reached root 0 ∷ [])
pattern_falling = same_so_far _ _ _ tt (falling root 0 (record { region = 0; index = 0 }) 1 0 _ falls_first)

copy_front : LegalFront (preserved (Regen (Const 1))) zeros
    (Begin root 1 ∷ Fell root 0 (record { region = 0; index = 0 }) 1 0 ∷ Saved root 0 kept.Copy ∷ [])
    (Begin root 1 ∷ Saved root 0 kept.Regen ∷ Reached root 0 ∷ [])
copy_front = same_so_far _ _ _ tt (fell_so_far root 0 (record { region = 0; index = 0 }) 1 0 _ _ falls_first (nothing_yet _))

-- a copy of which no fall was told is none
copy_alone : LegalFront (preserved (Regen (Const 1))) zeros (Saved root 0 kept.Copy ∷ []) (Saved root 0 kept.Regen ∷ []) → ⊥
copy_alone front = elim front [ ]

-- the entry is saved as it is declared, and as nothing else
declared : SavesAsDeclared (preserved (Regen (Const 1))) (Saved root 0 kept.Regen)
declared = refl

not_declared : SavesAsDeclared (preserved (Regen (Const 1))) (Saved root 0 kept.Copy) → ⊥
not_declared is = absurd (cc)
