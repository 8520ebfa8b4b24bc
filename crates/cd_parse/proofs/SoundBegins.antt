-- A domain that begins or ends keeps a draft sound.
use Rattle.std.proofs.Common.{◌≡◌, ℕ, suc, ◌+◌, ◌<◌, ◌≤◌, ◌^◌, List, [], ◌∷◌, ◌++◌, Option, None, Some, length, slice_get, sum_by, refl, ap, sym, ◌∙◌, subst, arith, Contains, append-nil, append_assoc}
use Rattle.std.proofs.lemmas.Option.{slice_get_within}
use Rattle.std.proofs.lemmas.List.Sums.{sum_by_push}
use Rattle.std.proofs.lemmas.List.Elements.{All-nil}
use Rattle.cd_tree.specs.declared.domain.NodeId.{NodeId}
use Rattle.cd_tree.specs.declared.domain.Entry.{Entry}
use Rattle.cd_tree.specs.declared.domain.Item.TheVariants.{Group}
use Rattle.cd_tree.specs.declared.domain.Domain.{Domain}
use Rattle.cd_tree.specs.declared.kinds.KindName.{KindName}
use Rattle.cd_tree.specs.Operations.{IsFull}
use Rattle.cd_tree.specs.TreeModel.{NamesChildren, FitsDomain, EachFits}
use Rattle.cd_parse.specs.declared.draft.Stage.TheVariants.{Root}
use Rattle.cd_parse.specs.declared.draft.Level.{Level}
use Rattle.cd_parse.specs.Draft.{DraftModel, changed, with_item, level_of, add_domain, close_domain, stage_behind}
use Rattle.cd_parse.specs.Heads.{domain_named}
use Rattle.cd_parse.specs.Sound.{one_group, open_groups, ids_in, named_by, FitsGroup, IsLevel, IsStaged, IsSound}
use Rattle.cd_parse.proofs.SoundWalk.{names_append}
use Rattle.cd_parse.proofs.SoundLists.{Grown, Head, head_before, grown_by_one, grown_not, push_length, push_new, push_old, changed_length}
use Rattle.cd_parse.proofs.SoundSteps.{some_and, children_kept, Pushed, put_at, walk_grown, walk_begun, walk_ended}
use Rattle.cd_parse.proofs.SoundDomains.{each_kept, each_pushed, siblings_kept, siblings_pushed}
use Rattle.cd_parse.proofs.SoundChanges.{at_levels, in_domain, items_in, entries_in, named_more, items_more, entries_same, grown_item, each_item}

-- what a domain's statement has found: a name that is no path and no sibling's, tries and kinds within their limits
pub record Begins (kinds : List KindName) (domains : List Domain) (parent : Option NodeId) (name : List ℕ) (tries set : ℕ) : Type 0 where
  pub no_path : Contains name 47 → ⊥
  pub some : 0 < tries
  pub few : tries ≤ 100
  pub known : set < 2 ^ length kinds
  pub alone : (k : ℕ) (domain : Domain) → slice_get domains k ≡ Some domain → domain.parent ≡ parent → domain.name ≡ name → ⊥
  pub room : length domains < 2048

fits_new : (kinds : List KindName) (domains all : List Domain) (parent : Option NodeId) (name : List ℕ) (tries set at : ℕ)
    → Begins kinds domains parent name tries set → FitsDomain kinds all at (domain_named name parent tries set)
fits_new kinds domains all parent name tries set at begins =
    record {
      name = begins.no_path;
      tries = begins.some;
      retry = begins.few;
      detects = begins.known;
      entries = omega arith;
      ranges = All-nil (λ (e : Entry). IsFull e.range);
      items = tt;
    }

alone_in : (at : ℕ) (domains more : List Domain) → Grown at domains more → length more ≡ length domains → (parent : Option NodeId) (name : List ℕ)
    → ((k : ℕ) (domain : Domain) → slice_get domains k ≡ Some domain → domain.parent ≡ parent → domain.name ≡ name → ⊥)
    → (k : ℕ) (domain : Domain) → slice_get more k ≡ Some domain → domain.parent ≡ parent → domain.name ≡ name → ⊥
alone_in at domains more grown same parent name alone k domain is same_parent same_name =
    let was : Head domains k domain =
    head_before at domains more grown k domain is (subst (λ (n : ℕ). k < n) same (slice_get_within more k domain is)) in
    alone k was.other was.is (was.parent ∙ same_parent) (was.name ∙ same_name)

-- a domain begins in one that is open, which names it in itself or in its group
sound_begun : (draft : DraftModel) (at : ℕ) (group other : Option (List NodeId)) (outer : List Level) (domains : List Domain) (name : List ℕ) (tries set items : ℕ)
    → IsSound (in_domain draft at group outer)
    → Begins draft.kinds draft.domains (Some (record { 0 = at })) name tries set
    → suc (suc (length outer)) ≤ 16
    → Grown at draft.domains domains → length domains ≡ length draft.domains
    → FitsGroup (domains ++ domain_named name (Some (record { 0 = at })) tries set ∷ []) at other
    → named_by (domains ++ domain_named name (Some (record { 0 = at })) tries set ∷ []) (level_of at other)
    ≡ named_by draft.domains (level_of at group) ++ record { 0 = length draft.domains } ∷ []
    → EachFits draft.kinds (domains ++ domain_named name (Some (record { 0 = at })) tries set ∷ []) 0 domains
    → sum_by items_in domains + (one_group other + open_groups outer) ≡ items → items ≤ 16384
    → sum_by entries_in domains ≡ draft.preserves
    → IsSound (record draft {
      stage = Root;
      domains = domains ++ domain_named name (Some (record { 0 = at })) tries set ∷ [];
      levels = level_of (length draft.domains) None ∷ (level_of at other ∷ outer);
      items = items;
    })
sound_begun draft at group other outer domains name tries set items is begins deep grown same fits named each items_are few_items preserves_are =
    let new : Domain = domain_named name (Some (record { 0 = at })) tries set in
    let more : List Domain = domains ++ new ∷ [] in
    let size : length more ≡ suc (length domains) = push_length domains new in
    let there : slice_get more (length draft.domains) ≡ Some new =
    subst (λ (k : ℕ). slice_get more k ≡ Some new) same (push_new domains new) in
    let pushed : Pushed draft.domains more new = record { size = size ∙ ap suc same; is = there; items = refl } in
    let room : length draft.domains < 2048 = begins.room in
    let item_sums : sum_by items_in more ≡ sum_by items_in domains + 0 = sum_by_push items_in domains new in
    let entry_sums : sum_by entries_in more ≡ sum_by entries_in domains + 0 = sum_by_push entries_in domains new in
    record {
      staged = (omega arith, omega arith);
      heads = is.heads;
      tree = record {
        ends = is.tree.ends;
        deep = put_at is.tree.deep (length draft.domains) (suc (suc (length outer)));
        walk = walk_grown is.tree.ends is.tree.deep at group other outer draft.domains more new (grown_by_one at draft.domains domains new grown same) pushed refl
            is.tree.walk fits named deep;
        siblings = siblings_pushed domains new (siblings_kept at draft.domains domains grown same is.tree.siblings)
            (alone_in at draft.domains domains grown same (Some (record { 0 = at })) name begins.alone);
        few = omega arith;
        deep_levels = deep;
        all_items = omega arith;
        few_items = few_items;
        all_preserves = omega arith;
        few_preserves = is.tree.few_preserves;
      };
      each = each_pushed draft.kinds more 0 (length domains) domains new each (omega arith)
          (fits_new draft.kinds draft.domains more (Some (record { 0 = at })) name tries set (length domains) begins);
      few_faults = is.few_faults;
    }

-- a domain begins in the body of one that is open
pub domain_in_body_is_sound : (draft : DraftModel) (at : ℕ) (outer : List Level) (name : List ℕ) (tries set : ℕ)
    → IsSound (in_domain draft at None outer)
    → Begins draft.kinds draft.domains (Some (record { 0 = at })) name tries set
    → suc (suc (length outer)) ≤ 16 → draft.items < 16384
    → IsSound (add_domain (domain_named name (Some (record { 0 = at })) tries set) (in_domain draft at None outer))
domain_in_body_is_sound draft at outer name tries set is begins deep room =
    let mine : IsLevel is.tree.deep draft.domains (level_of at None) outer = is.tree.walk.each.0 in
    let id : NodeId = record { 0 = length draft.domains } in
    let new : Domain = domain_named name (Some (record { 0 = at })) tries set in
    let domains : List Domain = changed at (with_item (Group (id ∷ []))) draft.domains in
    let more : List Domain = domains ++ new ∷ [] in
    let same : length domains ≡ length draft.domains = changed_length at (with_item (Group (id ∷ []))) draft.domains in
    let grown : Grown at draft.domains domains = grown_item at (Group (id ∷ [])) draft.domains mine.domain mine.there in
    let whole : Grown at draft.domains more = grown_by_one at draft.domains domains new grown same in
    let within : at < length draft.domains = slice_get_within draft.domains at mine.domain mine.there in
    let there : slice_get more (length draft.domains) ≡ Some new =
    subst (λ (k : ℕ). slice_get more k ≡ Some new) same (push_new domains new) in
    let child : NamesChildren more at (id ∷ []) = (within, some_and (slice_get more (length draft.domains)) at new there refl, tt) in
    let sums : sum_by items_in domains ≡ sum_by items_in draft.domains + 1 = items_more at (Group (id ∷ [])) draft.domains mine.domain mine.there in
    let items : sum_by items_in draft.domains + (0 + open_groups outer) ≡ draft.items = is.tree.all_items in
    let old : ids_in (slice_get more at) ≡ ids_in (slice_get domains at) = ap ids_in (push_old domains new at (omega arith)) in
    let named : ids_in (slice_get domains at) ≡ ids_in (slice_get draft.domains at) ++ id ∷ [] =
    named_more at (Group (id ∷ [])) draft.domains mine.domain mine.there in
    sound_begun draft at None None outer domains name tries set (draft.items + 1) is begins deep grown same tt
    (append-nil (ids_in (slice_get more at)) ∙ old ∙ named
    ∙ ap (λ (ids : List NodeId). ids ++ id ∷ []) (sym (append-nil (ids_in (slice_get draft.domains at)))))
    (each_item draft.kinds at (Group (id ∷ [])) draft.domains more whole is.each (omega arith, omega arith, child, tt))
    (omega arith) (omega arith)
    (entries_same at (Group (id ∷ [])) draft.domains mine.domain mine.there ∙ is.tree.all_preserves)

-- a domain begins in the group that is open in another
pub domain_in_group_is_sound : (draft : DraftModel) (at : ℕ) (members : List NodeId) (outer : List Level) (name : List ℕ) (tries set : ℕ)
    → IsSound (in_domain draft at (Some members) outer)
    → Begins draft.kinds draft.domains (Some (record { 0 = at })) name tries set
    → suc (suc (length outer)) ≤ 16 → length members < 256
    → IsSound (add_domain (domain_named name (Some (record { 0 = at })) tries set) (in_domain draft at (Some members) outer))
domain_in_group_is_sound draft at members outer name tries set is begins deep room =
    let mine : IsLevel is.tree.deep draft.domains (level_of at (Some members)) outer = is.tree.walk.each.0 in
    let id : NodeId = record { 0 = length draft.domains } in
    let new : Domain = domain_named name (Some (record { 0 = at })) tries set in
    let more : List Domain = draft.domains ++ new ∷ [] in
    let grown : Grown at draft.domains draft.domains = grown_not at draft.domains mine.domain mine.there in
    let whole : Grown at draft.domains more = grown_by_one at draft.domains draft.domains new grown refl in
    let within : at < length draft.domains = slice_get_within draft.domains at mine.domain mine.there in
    let there : slice_get more (length draft.domains) ≡ Some new = push_new draft.domains new in
    let child : NamesChildren more at (id ∷ []) = (within, some_and (slice_get more (length draft.domains)) at new there refl, tt) in
    let fits : FitsGroup draft.domains at (Some members) = mine.group in
    let size : length (members ++ id ∷ []) ≡ suc (length members) = push_length members id in
    let old : ids_in (slice_get more at) ≡ ids_in (slice_get draft.domains at) = ap ids_in (push_old draft.domains new at within) in
    sound_begun draft at (Some members) (Some (members ++ id ∷ [])) outer draft.domains name tries set draft.items is begins deep grown refl
    (names_append more at members (id ∷ []) (children_kept at draft.domains more whole at members fits.0) child, omega arith)
    (ap (λ (ids : List NodeId). ids ++ (members ++ id ∷ [])) old ∙ sym (append_assoc (ids_in (slice_get draft.domains at)) members (id ∷ [])))
    (each_kept draft.kinds at draft.domains more whole 0 draft.domains is.each)
    is.tree.all_items is.tree.few_items is.tree.all_preserves

-- the root begins
root_begun : (draft : DraftModel) (name : List ℕ) (tries set : ℕ) → IsSound (record draft { domains = []; levels = [] })
    → Begins draft.kinds [] None name tries set
    → IsSound (add_domain (domain_named name None tries set) (record draft { domains = []; levels = [] }))
root_begun draft name tries set is begins =
    let new : Domain = domain_named name None tries set in
    let items : 0 + 0 ≡ draft.items = is.tree.all_items in
    let preserves : 0 ≡ draft.preserves = is.tree.all_preserves in
    record {
      staged = (omega arith, omega arith);
      heads = is.heads;
      tree = record {
        ends = λ _. 1;
        deep = λ _. 1;
        walk = walk_begun new refl refl;
        siblings = siblings_pushed [] new is.tree.siblings begins.alone;
        few = omega arith;
        deep_levels = omega arith;
        all_items = is.tree.all_items;
        few_items = is.tree.few_items;
        all_preserves = is.tree.all_preserves;
        few_preserves = is.tree.few_preserves;
      };
      each = (fits_new draft.kinds [] (new ∷ []) None name tries set 0 begins, tt);
      few_faults = is.few_faults;
    }

pub root_is_sound : (draft : DraftModel) (name : List ℕ) (tries set : ℕ) → IsSound (at_levels draft []) → draft.domains ≡ []
    → Begins draft.kinds draft.domains None name tries set
    → IsSound (add_domain (domain_named name None tries set) (at_levels draft []))
root_is_sound draft name tries set is none =
    subst (λ (domains : List Domain). IsSound (record draft { domains = domains; levels = [] }) → Begins draft.kinds domains None name tries set
    → IsSound (add_domain (domain_named name None tries set) (record draft { domains = domains; levels = [] })))
    (sym none) (root_begun draft name tries set) is

-- ---- a domain ends

staged_behind : (domains : List Domain) (outer : List Level) → 0 < length domains → IsStaged (stage_behind outer) domains outer
staged_behind domains [] some = (some, refl)
staged_behind domains (level ∷ outer) some = (some, omega arith)

pub ended_is_sound : (draft : DraftModel) (at : ℕ) (outer : List Level) → IsSound (in_domain draft at None outer)
    → IsSound (close_domain outer (in_domain draft at None outer))
ended_is_sound draft at outer is =
    let mine : IsLevel is.tree.deep draft.domains (level_of at None) outer = is.tree.walk.each.0 in
    let within : at < length draft.domains = slice_get_within draft.domains at mine.domain mine.there in
    let items : sum_by items_in draft.domains + (0 + open_groups outer) ≡ draft.items = is.tree.all_items in
    let deep : suc (length outer) ≤ 16 = is.tree.deep_levels in
    record {
      staged = staged_behind draft.domains outer (omega arith);
      heads = is.heads;
      tree = record {
        ends = put_at is.tree.ends at (length draft.domains);
        deep = is.tree.deep;
        walk = walk_ended is.tree.ends is.tree.deep draft.kinds at outer draft.domains is.each is.tree.walk;
        siblings = is.tree.siblings;
        few = is.tree.few;
        deep_levels = omega arith;
        all_items = omega arith;
        few_items = is.tree.few_items;
        all_preserves = is.tree.all_preserves;
        few_preserves = is.tree.few_preserves;
      };
      each = is.each;
      few_faults = is.few_faults;
    }
