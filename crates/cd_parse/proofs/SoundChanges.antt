-- Each kind of change of a draft keeps it sound, under what the statement that makes it has found.
use Rattle.std.proofs.Common.{◌≡◌, ℕ, suc, ◌+◌, ◌<◌, ◌≤◌, List, [], ◌∷◌, ◌++◌, Option, None, Some, length, slice_get, sum_by, refl, ap, sym, ◌∙◌, subst, arith, All, append-nil}
use Rattle.std.proofs.lemmas.Option.{slice_get_within}
use Rattle.std.proofs.lemmas.List.Elements.{All-append, All-cons, All-nil}
use Rattle.cd_tree.specs.declared.document.Region.{Region}
use Rattle.cd_tree.specs.declared.domain.NodeId.{NodeId}
use Rattle.cd_tree.specs.declared.domain.Entry.{Entry}
use Rattle.cd_tree.specs.declared.domain.Item.{Item}
use Rattle.cd_tree.specs.declared.domain.Item.TheVariants.{Run, Group}
use Rattle.cd_tree.specs.declared.domain.Domain.{Domain}
use Rattle.cd_tree.specs.declared.kinds.KindName.{KindName}
use Rattle.cd_tree.specs.declared.operation.Op.{Op}
use Rattle.cd_tree.specs.Operations.{op_reads, op_writes, IsFull, FitsShape}
use Rattle.cd_tree.specs.TreeModel.{FitsItems, FitsDomain, EachFits}
use Rattle.cd_parse.specs.declared.draft.Stage.{Stage}
use Rattle.cd_parse.specs.declared.draft.Level.{Level}
use Rattle.cd_parse.specs.Draft.{DraftModel, no_draft, changed, with_item, with_entry, add_item, add_entry, level_of, open_group, close_group}
use Rattle.cd_parse.specs.Sound.{one_group, open_groups, ids_of, ids_in, members_in, named_by, FitsGroup, Tiles, IsLevel, IsStaged, IsSound}
use Rattle.cd_parse.proofs.Stages.{in_root}
use Rattle.cd_parse.proofs.SoundLists.{Grown, grown_by_change, grown_not, push_length, changed_length, changed_here, ids_append}
use Rattle.cd_parse.proofs.SoundSteps.{children_kept, walk_changed}
use Rattle.cd_parse.proofs.SoundDomains.{refitted, items_append, each_kept, each_changed, siblings_kept, sum_changed}

-- the draft with these domains open
abbrev pub at_levels : DraftModel → List Level → DraftModel
at_levels draft levels = record draft { levels = levels }

-- the draft where domain `at` is open innermost, with this group
abbrev pub in_domain : DraftModel → ℕ → Option (List NodeId) → List Level → DraftModel
in_domain draft at group outer = at_levels draft (level_of at group ∷ outer)

-- a domain that is open is in the root
pub staged_inside : (stage : Stage) (domains more : List Domain) (level other : Level) (outer others : List Level)
    → IsStaged stage domains (level ∷ outer) → 0 < length more → IsStaged stage more (other ∷ others)
staged_inside stage domains more level other outer others staged some =
    in_root (λ s. IsStaged s more (other ∷ others)) (some, omega arith) stage domains level outer staged

-- ---- before the first statement

pub no_draft_is_sound : IsSound no_draft
no_draft_is_sound =
    record {
      staged = (refl, refl);
      heads = record { kinds_differ = λ i j one other is. absurd (cc); few_kinds = omega arith; some_words = All-nil (λ (region : Region). 0 < region.length); few_regions = omega arith; few_words = omega arith };
      tree = record {
        ends = λ _. 0;
        deep = λ _. 1;
        walk = record {
          walked = λ some. refl;
          shut = λ at domain is. absurd (cc);
          deeper = λ at domain is. absurd (cc);
          depth = λ at. (omega arith, omega arith);
          root = λ domain is. absurd (cc);
          each = tt;
        };
        siblings = λ i j one other is. absurd (cc);
        few = omega arith;
        deep_levels = omega arith;
        all_items = refl;
        few_items = omega arith;
        all_preserves = refl;
        few_preserves = omega arith;
      };
      each = tt;
      few_faults = omega arith;
    }

-- a statement or a turn more
pub counted_is_sound : (draft : DraftModel) (lines : ℕ) → IsSound draft → IsSound (record draft { lines = lines })
counted_is_sound draft lines is =
    record { staged = is.staged; heads = is.heads; tree = is.tree; each = is.each; few_faults = is.few_faults }

-- ---- the innermost domain changes

abbrev pub items_in : Domain → ℕ
items_in domain = length domain.items

abbrev pub entries_in : Domain → ℕ
entries_in domain = length domain.entries

-- what a change of the innermost domain keeps, where it names no other domain
pub sound_inside : (draft : DraftModel) (at : ℕ) (group other : Option (List NodeId)) (outer : List Level) (more : List Domain) (items preserves : ℕ)
    → IsSound (in_domain draft at group outer)
    → Grown at draft.domains more → length more ≡ length draft.domains → FitsGroup draft.domains at other
    → named_by more (level_of at other) ≡ named_by draft.domains (level_of at group)
    → EachFits draft.kinds more 0 more
    → sum_by items_in more + (one_group other + open_groups outer) ≡ items → items ≤ 16384
    → sum_by entries_in more ≡ preserves → preserves ≤ 16384
    → IsSound (record draft { domains = more; levels = level_of at other ∷ outer; items = items; preserves = preserves })
sound_inside draft at group other outer more items preserves is grown same fits named each items_are few_items preserves_are few_preserves =
    let within : at < length draft.domains = slice_get_within draft.domains at grown.before grown.was in
    let few : length draft.domains ≤ 2048 = is.tree.few in
    let deep_levels : suc (length outer) ≤ 16 = is.tree.deep_levels in
    record {
      staged = staged_inside draft.stage draft.domains more (level_of at group) (level_of at other) outer outer is.staged (omega arith);
      heads = is.heads;
      tree = record {
        ends = is.tree.ends;
        deep = is.tree.deep;
        walk = walk_changed is.tree.ends is.tree.deep at group other outer draft.domains more grown same is.tree.walk fits
            (subst (λ (ids : List NodeId). Tiles is.tree.ends (suc at) ids (length draft.domains)) (sym named) is.tree.walk.walked.0);
        siblings = siblings_kept at draft.domains more grown same is.tree.siblings;
        few = omega arith;
        deep_levels = deep_levels;
        all_items = items_are;
        few_items = few_items;
        all_preserves = preserves_are;
        few_preserves = few_preserves;
      };
      each = each;
      few_faults = is.few_faults;
    }

-- ---- an item more

pub named_more : (at : ℕ) (item : Item) (domains : List Domain) (domain : Domain) → slice_get domains at ≡ Some domain
    → ids_in (slice_get (changed at (with_item item) domains) at) ≡ ids_in (slice_get domains at) ++ ids_of (item ∷ [])
named_more at item domains domain is =
    let old : ids_in (slice_get domains at) ≡ ids_of domain.items = ap ids_in is in
    let new : ids_in (slice_get (changed at (with_item item) domains) at) ≡ ids_of (domain.items ++ item ∷ []) =
    ap ids_in (changed_here at (with_item item) domains domain is) in
    new ∙ ids_append domain.items (item ∷ []) ∙ ap (λ (ids : List NodeId). ids ++ ids_of (item ∷ [])) (sym old)

fits_item : (kinds : List KindName) (all : List Domain) (at : ℕ) (item : Item) (domain : Domain) → FitsItems all at (item ∷ [])
    → FitsDomain kinds all at domain → FitsDomain kinds all at (with_item item domain)
fits_item kinds all at item domain fits is =
    refitted kinds all all at domain domain.entries (domain.items ++ item ∷ []) is is.entries is.ranges
    (items_append all at domain.items (item ∷ []) is.items fits)

pub items_more : (at : ℕ) (item : Item) (domains : List Domain) (domain : Domain) → slice_get domains at ≡ Some domain
    → sum_by items_in (changed at (with_item item) domains) ≡ sum_by items_in domains + 1
items_more at item domains domain is =
    sum_changed items_in at (with_item item) domains domain 1 is
    (let size : length (domain.items ++ item ∷ []) ≡ suc (length domain.items) = push_length domain.items item in omega arith)

pub entries_same : (at : ℕ) (item : Item) (domains : List Domain) (domain : Domain) → slice_get domains at ≡ Some domain
    → sum_by entries_in (changed at (with_item item) domains) ≡ sum_by entries_in domains
entries_same at item domains domain is =
    let same : sum_by entries_in (changed at (with_item item) domains) ≡ sum_by entries_in domains + 0 =
    sum_changed entries_in at (with_item item) domains domain 0 is (omega arith) in
    omega arith

pub grown_item : (at : ℕ) (item : Item) (domains : List Domain) (domain : Domain) → slice_get domains at ≡ Some domain
    → Grown at domains (changed at (with_item item) domains)
grown_item at item domains domain is = grown_by_change at (with_item item) domains domain (λ d. (refl, refl)) is

pub each_item : (kinds : List KindName) (at : ℕ) (item : Item) (domains all : List Domain) → Grown at domains all
    → EachFits kinds domains 0 domains → FitsItems all at (item ∷ []) → EachFits kinds all 0 (changed at (with_item item) domains)
each_item kinds at item domains all grown each fits =
    each_changed kinds all (with_item item) 0 at at domains (each_kept kinds at domains all grown 0 domains each) (omega arith)
    (λ domain is here. fits_item kinds all at item domain fits here)

-- an operation more in the innermost domain
pub op_is_sound : (draft : DraftModel) (at : ℕ) (outer : List Level) (op : Op) → IsSound (in_domain draft at None outer)
    → All IsFull (op_writes op ∷ op_reads op) → FitsShape op → draft.items < 16384
    → IsSound (add_item at (Run op) (in_domain draft at None outer))
op_is_sound draft at outer op is full shape room =
    let domains : List Domain = draft.domains in
    let mine : IsLevel is.tree.deep draft.domains (level_of at None) outer = is.tree.walk.each.0 in
    let more : List Domain = changed at (with_item (Run op)) draft.domains in
    let grown : Grown at draft.domains more = grown_item at (Run op) draft.domains mine.domain mine.there in
    let sums : sum_by items_in more ≡ sum_by items_in draft.domains + 1 = items_more at (Run op) draft.domains mine.domain mine.there in
    let items : sum_by items_in draft.domains + (0 + open_groups outer) ≡ draft.items = is.tree.all_items in
    let named : ids_in (slice_get more at) ≡ ids_in (slice_get draft.domains at) ++ [] = named_more at (Run op) draft.domains mine.domain mine.there in
    sound_inside draft at None None outer more (draft.items + 1) draft.preserves is grown (changed_length at (with_item (Run op)) draft.domains) tt
    (append-nil (ids_in (slice_get more at)) ∙ named)
    (each_item draft.kinds at (Run op) draft.domains more grown is.each (full, shape, tt))
    (omega arith) (omega arith)
    (entries_same at (Run op) draft.domains mine.domain mine.there ∙ is.tree.all_preserves) is.tree.few_preserves

-- ---- a group opens and closes

pub group_is_sound : (draft : DraftModel) (at : ℕ) (outer : List Level) → IsSound (in_domain draft at None outer)
    → draft.items < 16384 → IsSound (open_group (level_of at None ∷ outer) (in_domain draft at None outer))
group_is_sound draft at outer is room =
    let mine : IsLevel is.tree.deep draft.domains (level_of at None) outer = is.tree.walk.each.0 in
    let items : sum_by items_in draft.domains + (0 + open_groups outer) ≡ draft.items = is.tree.all_items in
    sound_inside draft at None (Some []) outer draft.domains (draft.items + 1) draft.preserves is
    (grown_not at draft.domains mine.domain mine.there) refl (tt, omega arith) refl is.each
    (omega arith) (omega arith) is.tree.all_preserves is.tree.few_preserves

pub closed_group_is_sound : (draft : DraftModel) (at : ℕ) (members : List NodeId) (outer : List Level)
    → IsSound (in_domain draft at (Some members) outer) → 0 < length members
    → IsSound (close_group at members outer (in_domain draft at (Some members) outer))
closed_group_is_sound draft at members outer is some =
    let mine : IsLevel is.tree.deep draft.domains (level_of at (Some members)) outer = is.tree.walk.each.0 in
    let more : List Domain = changed at (with_item (Group members)) draft.domains in
    let grown : Grown at draft.domains more = grown_item at (Group members) draft.domains mine.domain mine.there in
    let sums : sum_by items_in more ≡ sum_by items_in draft.domains + 1 = items_more at (Group members) draft.domains mine.domain mine.there in
    let items : sum_by items_in draft.domains + (1 + open_groups outer) ≡ draft.items = is.tree.all_items in
    let named : ids_in (slice_get more at) ≡ ids_in (slice_get draft.domains at) ++ (members ++ []) =
    named_more at (Group members) draft.domains mine.domain mine.there in
    let fits : FitsGroup draft.domains at (Some members) = mine.group in
    sound_inside draft at (Some members) None outer more draft.items draft.preserves is grown
    (changed_length at (with_item (Group members)) draft.domains) tt
    (append-nil (ids_in (slice_get more at)) ∙ named ∙ ap (λ (ids : List NodeId). ids_in (slice_get draft.domains at) ++ ids) (append-nil members))
    (each_item draft.kinds at (Group members) draft.domains more grown is.each
    (some, fits.1, children_kept at draft.domains more grown at members fits.0, tt))
    (omega arith) is.tree.few_items
    (entries_same at (Group members) draft.domains mine.domain mine.there ∙ is.tree.all_preserves) is.tree.few_preserves

-- ---- an entry more

fits_entry : (kinds : List KindName) (all : List Domain) (at : ℕ) (entry : Entry) (domain : Domain) → IsFull entry.range
    → length domain.entries < 64 → FitsDomain kinds all at domain → FitsDomain kinds all at (with_entry entry domain)
fits_entry kinds all at entry domain full room is =
    let size : length (domain.entries ++ entry ∷ []) ≡ suc (length domain.entries) = push_length domain.entries entry in
    refitted kinds all all at domain (domain.entries ++ entry ∷ []) domain.items is (omega arith)
    (All-append (λ (e : Entry). IsFull e.range) domain.entries (entry ∷ []) is.ranges
    (All-cons (λ (e : Entry). IsFull e.range) entry [] full (All-nil (λ (e : Entry). IsFull e.range)))) is.items

pub entry_is_sound : (draft : DraftModel) (at : ℕ) (group : Option (List NodeId)) (outer : List Level) (entry : Entry)
    → IsSound (in_domain draft at group outer) → IsFull entry.range
    → ((domain : Domain) → slice_get draft.domains at ≡ Some domain → length domain.entries < 64) → draft.preserves < 16384
    → IsSound (add_entry at entry (in_domain draft at group outer))
entry_is_sound draft at group outer entry is full few room =
    let mine : IsLevel is.tree.deep draft.domains (level_of at group) outer = is.tree.walk.each.0 in
    let more : List Domain = changed at (with_entry entry) draft.domains in
    let grown : Grown at draft.domains more = grown_by_change at (with_entry entry) draft.domains mine.domain (λ d. (refl, refl)) mine.there in
    let size : length (mine.domain.entries ++ entry ∷ []) ≡ suc (length mine.domain.entries) = push_length mine.domain.entries entry in
    let sums : sum_by entries_in more ≡ sum_by entries_in draft.domains + 1 =
    sum_changed entries_in at (with_entry entry) draft.domains mine.domain 1 mine.there (omega arith) in
    let same : sum_by items_in more ≡ sum_by items_in draft.domains + 0 =
    sum_changed items_in at (with_entry entry) draft.domains mine.domain 0 mine.there (omega arith) in
    let items : sum_by items_in draft.domains + (one_group group + open_groups outer) ≡ draft.items = is.tree.all_items in
    let preserves : sum_by entries_in draft.domains ≡ draft.preserves = is.tree.all_preserves in
    let named : ids_in (slice_get more at) ≡ ids_in (slice_get draft.domains at) =
    ap ids_in (changed_here at (with_entry entry) draft.domains mine.domain mine.there) ∙ sym (ap ids_in mine.there) in
    sound_inside draft at group group outer more draft.items (draft.preserves + 1) is grown (changed_length at (with_entry entry) draft.domains) mine.group
    (ap (λ (ids : List NodeId). ids ++ members_in group) named)
    (each_changed draft.kinds more (with_entry entry) 0 at at draft.domains (each_kept draft.kinds at draft.domains more grown 0 draft.domains is.each) (omega arith)
    (λ domain there here. fits_entry draft.kinds more at entry domain full (few domain there) here))
    (omega arith) is.tree.few_items (omega arith) (omega arith)
