-- Parsing keeps a draft sound, and a sound draft at the end is a program: the tree of a document that is read is one.
use Rattle.std.proofs.Common.{◌≡◌, ℕ, ◌+◌, ◌<◌, ◌≤◌, true, IsSomeAnd, List, [], ◌∷◌, None, Some, Ok, length, slice_get, sum_by, refl, subst, arith}
use Rattle.cd_tree.specs.declared.domain.Domain.{Domain}
use Rattle.cd_tree.specs.TreeModel.{IsTree}
use Rattle.cd_tokens.specs.declared.sums.Variable.{Variable}
use Rattle.cd_tokens.specs.Blocks.{Block}
use Rattle.cd_parse.specs.declared.draft.Stage.{Stage}
use Rattle.cd_parse.specs.declared.draft.Level.{Level}
use Rattle.cd_parse.specs.Draft.{DraftModel, may_end}
use Rattle.cd_parse.specs.Parsing.{draft_of, read}
use Rattle.cd_parse.specs.Sound.{open_groups, IsStaged, IsWalk, IsSound}
use Rattle.cd_parse.proofs.Stages.{of_stage, never}
use Rattle.cd_parse.proofs.SoundWalk.{walk_done}
use Rattle.cd_parse.proofs.SoundChanges.{items_in, entries_in, no_draft_is_sound, counted_is_sound}
use Rattle.cd_parse.proofs.SoundStatements.{statement_keeps_sound}
use Rattle.cd_parse.proofs.SoundKeeps.{IsKept, read_keeps, drawn_keeps}

-- ---- a sound draft at its end is a program

ended_stage : (stage : Stage) (domains : List Domain) (levels : List Level) → may_end stage ≡ true → IsStaged stage domains levels
    → (0 < length domains) × (levels ≡ [])
ended_stage stage domains levels =
    of_stage may_end (λ s. IsStaged s domains levels → (0 < length domains) × (levels ≡ [])) never never never never (λ _ staged. staged) (λ _ staged. staged) stage

root_there : (domains : List Domain) → 0 < length domains → ((domain : Domain) → slice_get domains 0 ≡ Some domain → domain.parent ≡ None)
    → IsSomeAnd (slice_get domains 0) (λ domain. domain.parent ≡ None)
root_there [] some root = absurd (omega arith)
root_there (domain ∷ domains) some root = root domain refl

pub sound_is_tree : (draft : DraftModel) → IsSound draft → may_end draft.stage ≡ true → IsTree (record { kinds = draft.kinds; domains = draft.domains })
sound_is_tree draft is ends =
    let end : (0 < length draft.domains) × (draft.levels ≡ []) = ended_stage draft.stage draft.domains draft.levels ends is.staged in
    let walk : IsWalk is.tree.ends is.tree.deep draft.domains [] = subst (λ (levels : List Level). IsWalk is.tree.ends is.tree.deep draft.domains levels) end.1 is.tree.walk in
    let done = walk_done is.tree.ends is.tree.deep draft.kinds draft.domains end.0 is.each walk in
    let items : sum_by items_in draft.domains + open_groups draft.levels ≡ draft.items = is.tree.all_items in
    let few_items : draft.items ≤ 16384 = is.tree.few_items in
    let preserves : sum_by entries_in draft.domains ≡ draft.preserves = is.tree.all_preserves in
    let few_preserves : draft.preserves ≤ 16384 = is.tree.few_preserves in
    record {
      some = end.0;
      root = root_there draft.domains end.0 is.tree.walk.root;
      preorder = done.0;
      each = is.each;
      siblings = is.tree.siblings;
      kinds = is.heads.kinds_differ;
      few_kinds = is.heads.few_kinds;
      few = is.tree.few;
      depth = done.1;
      items = omega arith;
      preserves = omega arith;
    }

-- ---- the whole text

pub sound_is_kept : IsKept IsSound
sound_is_kept = record { count = counted_is_sound; statement = statement_keeps_sound }

-- parsing keeps a draft sound
pub read_keeps_sound : (block : Block) (variables : List Variable) (draft next : DraftModel) → IsSound draft → read block variables draft ≡ Ok next
    → IsSound next
read_keeps_sound block variables draft next = read_keeps IsSound sound_is_kept block variables draft next

-- what a text has said at its end is a program
pub drawn_is_tree : (bytes : List ℕ) (draft : DraftModel) → draft_of bytes ≡ Ok draft → IsTree (record { kinds = draft.kinds; domains = draft.domains })
drawn_is_tree bytes draft is =
    let end = drawn_keeps IsSound sound_is_kept no_draft_is_sound bytes draft is in
    sound_is_tree draft end.0 end.1
