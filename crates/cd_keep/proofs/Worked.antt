-- Worked cases of what calls do to a pass: one that keeps words, splits off another, gives up and takes back.
use Rattle.std.proofs.Common.{◌≡◌, ℕ, true, false, [], ◌∷◌, None, Some, refl, lit≤}
use Rattle.cd_keep.specs.declared.keep_id.KeepId.{KeepId}
use Rattle.cd_keep.specs.PassModel.{Gone, PassModel, CanJoin, opened, kept, shared, lapsed, gave_up, child_of, without, joined, same_id, words_of}

abbrev id : ℕ → ℕ → KeepId
id block serial = record { block = block; serial = serial }

ids_differ : (same_id (id 0 1) (id 0 1) ≡ true) × (same_id (id 0 1) (id 0 2) ≡ false) × (same_id (id 0 1) (id 1 1) ≡ false)
ids_differ = (refl, refl, refl)

-- room for three; the words 1 and 2 are kept, and the words 5
abbrev first : PassModel
first = kept (kept (opened 7 3) (id 0 1) (1 ∷ 2 ∷ [])) (id 0 2) (5 ∷ [])

keeps : (words_of first (id 0 1) ≡ 1 ∷ 2 ∷ []) × (words_of first (id 0 2) ≡ 5 ∷ []) × (first.known (id 0 3) ≡ None)
keeps = (refl, refl, refl)

counts : (first.holds (id 0 1) ≡ 1) × (first.holds (id 0 3) ≡ 0) × (first.held ≡ 2) × (first.room ≡ 1) × (first.most ≡ 3) × (first.store ≡ 7)
counts = (refl, refl, refl, refl, refl, refl)

-- the last room is given to a child, which knows both and holds neither
abbrev child : PassModel
child = child_of first 1

abbrev rest : PassModel
rest = without first 1

splits : (child.known (id 0 1) ≡ Some (1 ∷ 2 ∷ [])) × (child.holds (id 0 1) ≡ 0) × (child.held ≡ 0) × (child.room ≡ 1) × (child.most ≡ 3) × (child.store ≡ 7)
splits = (refl, refl, refl, refl, refl, refl)

leaves : (rest.room ≡ 0) × (rest.held ≡ 2) × (rest.holds (id 0 2) ≡ 1)
leaves = (refl, refl, refl)

-- the child shares what was kept first, though the one that kept it has given it up
abbrev sharer : PassModel
sharer = shared child (id 0 1)

shares : (words_of sharer (id 0 1) ≡ 1 ∷ 2 ∷ []) × (sharer.holds (id 0 1) ≡ 1) × (sharer.room ≡ 0) × (sharer.held ≡ 1)
shares = (refl, refl, refl, refl)

abbrev after : PassModel
after = gave_up rest (id 0 1)

gives_up : (after.holds (id 0 1) ≡ 0) × (after.holds (id 0 2) ≡ 1) × (words_of after (id 0 1) ≡ 1 ∷ 2 ∷ []) × (after.room ≡ 1) × (after.held ≡ 1)
gives_up = (refl, refl, refl, refl, refl)

-- one id held twice
abbrev twice : PassModel
twice = shared after (id 0 2)

holds_twice : (twice.holds (id 0 2) ≡ 2) × (twice.held ≡ 2) × (twice.room ≡ 0) × ((gave_up twice (id 0 2)).holds (id 0 2) ≡ 1)
holds_twice = (refl, refl, refl, refl)

-- the child meets a block that was taken again, and is taken back: its room and its gone answer come along
abbrev lost : PassModel
lost = lapsed child (id 0 1) (record { seen = 1; found = 2 })

abbrev back : PassModel
back = joined rest lost

abbrev answer : Gone
answer = record { id = id 0 1; note = record { seen = 1; found = 2 } }

loses : (lost.room ≡ 1) × (lost.holds (id 0 1) ≡ 0) × (words_of lost (id 0 1) ≡ 1 ∷ 2 ∷ [])
loses = (refl, refl, refl)

takes_back : (back.room ≡ 1) × (back.most ≡ 3) × (back.held ≡ 2) × (back.holds (id 0 1) ≡ 1) × (back.gone ≡ answer ∷ [])
takes_back = (refl, refl, refl, refl, refl)

can_take_back : CanJoin rest lost
can_take_back = record { store = refl; nothing = record { none = λ q. refl; held = refl }; few = lit≤ tt }
