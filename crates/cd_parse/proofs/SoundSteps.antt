-- The walk stays in preorder when a domain, a group or an item is begun or ended.
use Rattle.std.proofs.Common.{◌≡◌, ℕ, zero, suc, ◌<◌, ◌≤◌, cond, ◌==◌, IsSomeAnd, List, [], ◌∷◌, ◌++◌, Option, None, Some, length, slice_get, refl, ap, sym, ◌∙◌, subst, arith, inl, inr, append-nil, ne_eqb, eq-eqb}
use Rattle.std.proofs.lemmas.Bool.{cases_eq, cond-true, cond-false}
use Rattle.std.proofs.lemmas.Option.{slice_get_within, same_Some}
use Rattle.cd_tree.specs.declared.domain.NodeId.{NodeId}
use Rattle.cd_tree.specs.declared.domain.Item.{Item}
use Rattle.cd_tree.specs.declared.domain.Domain.{Domain}
use Rattle.cd_tree.specs.declared.kinds.KindName.{KindName}
use Rattle.cd_tree.specs.TreeModel.{NamesChildren, EachFits, FitsDomain}
use Rattle.cd_parse.specs.declared.draft.Level.{Level}
use Rattle.cd_parse.specs.Draft.{level_of, parent_of}
use Rattle.cd_parse.specs.Sound.{ids_of, ids_in, members_in, named_by, FitsGroup, Tiles, IsLast, IsWithin, IsWalkedTo, IsShut, IsDeeper, IsLevel, EachLevel, IsWalk}
use Rattle.cd_parse.proofs.SoundWalk.{tiles_up, names_all, Child, child_of}
use Rattle.cd_parse.proofs.SoundLists.{Grown, Head, head_after, head_before, tiles_join, each_at}

-- ---- children and levels are kept

pub some_and : (found : Option Domain) (at : ℕ) (domain : Domain) → found ≡ Some domain → domain.parent ≡ Some (record { 0 = at })
    → IsSomeAnd found (λ child. child.parent ≡ Some (record { 0 = at }))
some_and found at domain is parent =
    subst (λ (o : Option Domain). IsSomeAnd o (λ child. child.parent ≡ Some (record { 0 = at }))) (sym is) parent

pub children_kept : (at : ℕ) (domains more : List Domain) → Grown at domains more → (k : ℕ) (ids : List NodeId)
    → NamesChildren domains k ids → NamesChildren more k ids
children_kept at domains more grown k [] named = tt
children_kept at domains more grown k (id ∷ ids) (above, child, named) =
    let was : Child (slice_get domains id.0) k = child_of (slice_get domains id.0) k child in
    let now : Head more id.0 was.domain = head_after at domains more grown id.0 was.domain was.is in
    (above, some_and (slice_get more id.0) k now.other now.is (now.parent ∙ was.parent), children_kept at domains more grown k ids named)

pub group_kept : (at : ℕ) (domains more : List Domain) → Grown at domains more → (k : ℕ) (group : Option (List NodeId))
    → FitsGroup domains k group → FitsGroup more k group
group_kept at domains more grown k None fits = tt
group_kept at domains more grown k (Some members) (named, few) = (children_kept at domains more grown k members named, few)

level_kept : (at : ℕ) (domains more : List Domain) → Grown at domains more → (deep other : ℕ → ℕ)
    → ((k : ℕ) → k < length domains → other k ≡ deep k) → (level : Level) (outer : List Level)
    → IsLevel deep domains level outer → IsLevel other more level outer
level_kept at domains more grown deep other agree level outer is =
    let now : Head more level.domain is.domain = head_after at domains more grown level.domain is.domain is.there in
    record {
      domain = now.other;
      there = now.is;
      parent = now.parent ∙ is.parent;
      group = group_kept at domains more grown level.domain level.group is.group;
      depth = agree level.domain (slice_get_within domains level.domain is.domain is.there) ∙ is.depth;
    }

levels_kept : (at : ℕ) (domains more : List Domain) → Grown at domains more → (deep other : ℕ → ℕ)
    → ((k : ℕ) → k < length domains → other k ≡ deep k) → (levels : List Level)
    → EachLevel deep domains levels → EachLevel other more levels
levels_kept at domains more grown deep other agree [] each = tt
levels_kept at domains more grown deep other agree (level ∷ outer) (is, each) =
    (level_kept at domains more grown deep other agree level outer is, levels_kept at domains more grown deep other agree outer each)

named_kept : (at : ℕ) (domains more : List Domain) → Grown at domains more → (level : Level) → level.domain < at
    → named_by more level ≡ named_by domains level
named_kept at domains more grown level below =
    let within : at < length domains = slice_get_within domains at grown.before grown.was in
    let same : slice_get more level.domain ≡ slice_get domains level.domain = grown.others level.domain (omega arith) (λ e. absurd (omega arith)) in
    ap (λ (found : Option Domain). ids_in found ++ members_in level.group) same

within_kept : (at : ℕ) (domains more : List Domain) → Grown at domains more → (ends : ℕ → ℕ) (inner : ℕ) (levels : List Level)
    → inner ≤ at → IsWithin ends domains inner levels → IsWithin ends more inner levels
within_kept at domains more grown ends inner [] up is = is
within_kept at domains more grown ends inner (level ∷ outer) up (last, is) =
    let below : level.domain < inner = last.below in (
      record {
        below = below;
        before = last.before;
        named = named_kept at domains more grown level (omega arith) ∙ last.named;
        tiles = last.tiles;
      },
      within_kept at domains more grown ends level.domain outer (omega arith) is,
    )

-- ---- the innermost domain changes

pub walk_changed : (ends deep : ℕ → ℕ) (at : ℕ) (group other : Option (List NodeId)) (outer : List Level) (domains more : List Domain)
    → Grown at domains more → length more ≡ length domains → IsWalk ends deep domains (level_of at group ∷ outer)
    → FitsGroup domains at other → Tiles ends (suc at) (named_by more (level_of at other)) (length domains)
    → IsWalk ends deep more (level_of at other ∷ outer)
walk_changed ends deep at group other outer domains more grown same walk fits tiles =
    let each : IsLevel deep domains (level_of at group) outer = walk.each.0 in
    let mine : IsLevel deep domains (level_of at other) outer =
    record { domain = each.domain; there = each.there; parent = each.parent; group = fits; depth = each.depth } in
    record {
      walked = (
        subst (Tiles ends (suc at) (named_by more (level_of at other))) (sym same) tiles,
        within_kept at domains more grown ends at outer (omega arith) walk.walked.1,
      );
      shut = λ k domain is (away, shut).
          walk.shut k domain (sym (grown.others k (subst (λ (n : ℕ). k < n) same (slice_get_within more k domain is)) away) ∙ is) (away, shut);
      deeper = λ k domain is.
          let was : Head domains k domain =
          head_before at domains more grown k domain is (subst (λ (n : ℕ). k < n) same (slice_get_within more k domain is)) in
          subst (IsDeeper deep k) was.parent (walk.deeper k was.other was.is);
      depth = walk.depth;
      root = λ domain is.
          let was : Head domains 0 domain =
          head_before at domains more grown 0 domain is (subst (λ (n : ℕ). 0 < n) same (slice_get_within more 0 domain is)) in
          sym was.parent ∙ walk.root was.other was.is;
      each = (
        level_kept at domains more grown deep deep (λ k within. refl) (level_of at other) outer mine,
        levels_kept at domains more grown deep deep (λ k within. refl) outer walk.each.1,
      );
    }

-- ---- a domain is begun

-- the values, but at this place this one
abbrev pub put_at : (ℕ → ℕ) → ℕ → ℕ → ℕ → ℕ
put_at values place value at = cond (at == place) value (values at)

put_here : (values : ℕ → ℕ) (place value at : ℕ) → at ≡ place → put_at values place value at ≡ value
put_here values place value at same = cond-true (at == place) value (values at) (eq-eqb at place same)

put_away : (values : ℕ → ℕ) (place value at : ℕ) → (at ≡ place → ⊥) → put_at values place value at ≡ values at
put_away values place value at other = cond-false (at == place) value (values at) (ne_eqb at place other)

deeper_kept : (deep : ℕ → ℕ) (new depth at : ℕ) (parent : Option NodeId) → at < new → IsDeeper deep at parent
    → IsDeeper (put_at deep new depth) at parent
deeper_kept deep new depth at None below is = tt
deeper_kept deep new depth at (Some parent) below (before, is) =
    let here : put_at deep new depth at ≡ deep at = put_away deep new depth at (λ e. absurd (omega arith)) in
    let there : put_at deep new depth parent.0 ≡ deep parent.0 = put_away deep new depth parent.0 (λ e. absurd (omega arith)) in
    (before, here ∙ is ∙ ap suc (sym there))

deeper_first : (deep : ℕ → ℕ) (new depth : ℕ) (parent : Option NodeId) (at : ℕ) → parent ≡ Some (record { 0 = at }) → at < new
    → depth ≡ suc (deep at) → IsDeeper (put_at deep new depth) new parent
deeper_first deep new depth parent at is before sum =
    let here : put_at deep new depth new ≡ depth = put_here deep new depth new refl in
    let there : put_at deep new depth at ≡ deep at = put_away deep new depth at (λ e. absurd (omega arith)) in
    let deeper : IsDeeper (put_at deep new depth) new (Some (record { 0 = at })) = (before, here ∙ sum ∙ ap suc (sym there)) in
    subst (IsDeeper (put_at deep new depth) new) (sym is) deeper

deeper_within : (deep : ℕ → ℕ) (new depth at : ℕ) → 0 < depth → depth ≤ 16 → (0 < deep at) × (deep at ≤ 16)
    → (0 < put_at deep new depth at) × (put_at deep new depth at ≤ 16)
deeper_within deep new depth at some few (above, below) =
    elim (cases_eq at new) [
      | inl same ↦
          let is : put_at deep new depth at ≡ depth = put_here deep new depth at same in
          (omega arith, omega arith)
      | inr other ↦
          let is : put_at deep new depth at ≡ deep at = put_away deep new depth at other in
          (omega arith, omega arith)
    ]

-- the domain that a list of one more ends with
pub record Pushed (domains more : List Domain) (new : Domain) : Type 0 where
  pub size : length more ≡ suc (length domains)
  pub is : slice_get more (length domains) ≡ Some new
  pub items : new.items ≡ []

pushed_same : (domains more : List Domain) (new domain : Domain) → Pushed domains more new → (k : ℕ) → slice_get more k ≡ Some domain
    → k ≡ length domains → new ≡ domain
pushed_same domains more new domain pushed k is here =
    let there : slice_get more (length domains) ≡ Some domain = ap (slice_get more) (sym here) ∙ is in
    let new_is = pushed.is in
    cc

pushed_old : (domains more : List Domain) (new domain : Domain) → Pushed domains more new → (k : ℕ) → slice_get more k ≡ Some domain
    → (k ≡ length domains → ⊥) → k < length domains
pushed_old domains more new domain pushed k is other =
    let within : k < length more = slice_get_within more k domain is in
    let size : length more ≡ suc (length domains) = pushed.size in
    omega arith

pushed_tiles : (ends : ℕ → ℕ) (domains more : List Domain) (new : Domain) → Pushed domains more new
    → Tiles ends (suc (length domains)) (named_by more (level_of (length domains) None)) (length more)
pushed_tiles ends domains more new pushed =
    let none : named_by more (level_of (length domains) None) ≡ [] =
    ap (λ (found : Option Domain). ids_in found ++ []) pushed.is ∙ ap (λ (items : List Item). ids_of items ++ []) pushed.items in
    subst (λ (ids : List NodeId). Tiles ends (suc (length domains)) ids (length more)) (sym none) (sym pushed.size)

pub walk_grown : (ends deep : ℕ → ℕ) (at : ℕ) (group other : Option (List NodeId)) (outer : List Level) (domains more : List Domain) (new : Domain)
    → Grown at domains more → Pushed domains more new → new.parent ≡ Some (record { 0 = at })
    → IsWalk ends deep domains (level_of at group ∷ outer) → FitsGroup more at other
    → named_by more (level_of at other) ≡ named_by domains (level_of at group) ++ record { 0 = length domains } ∷ []
    → suc (suc (length outer)) ≤ 16
    → IsWalk ends (put_at deep (length domains) (suc (suc (length outer)))) more
    (level_of (length domains) None ∷ (level_of at other ∷ outer))
walk_grown ends deep at group other outer domains more new grown pushed parent walk fits named few =
    let new_deep : ℕ → ℕ = put_at deep (length domains) (suc (suc (length outer))) in
    let within : at < length domains = slice_get_within domains at grown.before grown.was in
    let agree : (k : ℕ) → k < length domains → new_deep k ≡ deep k =
    λ k below. put_away deep (length domains) (suc (suc (length outer))) k (λ e. absurd (omega arith)) in
    let each : IsLevel deep domains (level_of at group) outer = walk.each.0 in
    let now : Head more at each.domain = head_after at domains more grown at each.domain each.there in
    let depth_here : deep at ≡ suc (length outer) = each.depth in
    let last : IsLast ends more (level_of at other) (length domains) =
    record { below = within; before = named_by domains (level_of at group); named = named; tiles = walk.walked.0 } in
    let first : IsLevel new_deep more (level_of (length domains) None) (level_of at other ∷ outer) =
    record {
      domain = new;
      there = pushed.is;
      parent = parent;
      group = tt;
      depth = put_here deep (length domains) (suc (suc (length outer))) (length domains) refl;
    } in
    let second : IsLevel new_deep more (level_of at other) outer =
    record { domain = now.other; there = now.is; parent = now.parent ∙ each.parent; group = fits; depth = agree at within ∙ each.depth } in
    record {
      walked = (pushed_tiles ends domains more new pushed, (last, within_kept at domains more grown ends at outer (omega arith) walk.walked.1));
      shut = λ k domain is (not_new, (away, shut)).
          walk.shut k domain (sym (grown.others k (pushed_old domains more new domain pushed k is not_new) away) ∙ is) (away, shut);
      deeper = λ k domain is.
          elim (cases_eq k (length domains)) [
            | inl here ↦
                let same : new ≡ domain = pushed_same domains more new domain pushed k is here in
                subst (λ (n : ℕ). IsDeeper new_deep n domain.parent) (sym here)
                (deeper_first deep (length domains) (suc (suc (length outer))) domain.parent at (ap (λ (d : Domain). d.parent) (sym same) ∙ parent) within
                (ap suc (sym depth_here)))
            | inr old ↦
                let below : k < length domains = pushed_old domains more new domain pushed k is old in
                let was : Head domains k domain = head_before at domains more grown k domain is below in
                deeper_kept deep (length domains) (suc (suc (length outer))) k domain.parent below
                (subst (IsDeeper deep k) was.parent (walk.deeper k was.other was.is))
          ];
      depth = λ k. deeper_within deep (length domains) (suc (suc (length outer))) k (omega arith) few (walk.depth k);
      root = λ domain is.
          let was : Head domains 0 domain = head_before at domains more grown 0 domain is (omega arith) in
          sym was.parent ∙ walk.root was.other was.is;
      each = (first, (second, levels_kept at domains more grown deep new_deep agree outer walk.each.1));
    }

only : (new : Domain) (k : ℕ) (domain : Domain) → slice_get (new ∷ []) k ≡ Some domain → (k ≡ 0 → ⊥) → ⊥
only new zero domain is away = away refl
only new (suc k) domain is away = cc

rootless : (new : Domain) → new.parent ≡ None → (k : ℕ) (domain : Domain) → slice_get (new ∷ []) k ≡ Some domain
    → IsDeeper (λ _. 1) k domain.parent
rootless new parent zero domain is =
    let same : new ≡ domain = cc in
    let none : domain.parent ≡ None = ap (λ (d : Domain). d.parent) (sym same) ∙ parent in
    subst (IsDeeper (λ _. 1) 0) (sym none) tt
rootless new parent (suc k) domain is = absurd (cc)

-- the root is begun
pub walk_begun : (new : Domain) → new.parent ≡ None → new.items ≡ []
    → IsWalk (λ _. 1) (λ _. 1) (new ∷ []) (level_of 0 None ∷ [])
walk_begun new parent items =
    record {
      walked = (pushed_tiles (λ _. 1) [] (new ∷ []) new (record { size = refl; is = refl; items = items }), refl);
      shut = λ k domain is (away, shut). absurd (only new k domain is away);
      deeper = λ k domain is. rootless new parent k domain is;
      depth = λ k. (omega arith, omega arith);
      root = λ domain is. let same : new ≡ domain = cc in ap (λ (d : Domain). d.parent) (sym same) ∙ parent;
      each = (record { domain = new; there = refl; parent = parent; group = tt; depth = refl }, tt);
    }

-- ---- a domain is ended

abbrev Avoids : ℕ → List NodeId → Type 0
Avoids at [] = Unit {0}
Avoids at (id ∷ ids) = (id.0 ≡ at → ⊥) × Avoids at ids

avoids_below : (ends : ℕ → ℕ) (low : ℕ) (ids : List NodeId) (high at : ℕ) → Tiles ends low ids high → high ≤ at → Avoids at ids
avoids_below ends low [] high at tiles up = tt
avoids_below ends low (id ∷ ids) high at (here, some, tiles) up =
    let rest : ends id.0 ≤ high = tiles_up ends (ends id.0) ids high tiles in
    (λ e. absurd (omega arith), avoids_below ends (ends id.0) ids high at tiles up)

avoids_above : (ends : ℕ → ℕ) (low : ℕ) (ids : List NodeId) (high at : ℕ) → Tiles ends low ids high → at < low → Avoids at ids
avoids_above ends low [] high at tiles below = tt
avoids_above ends low (id ∷ ids) high at (here, some, tiles) below =
    (λ e. absurd (omega arith), avoids_above ends (ends id.0) ids high at tiles (omega arith))

avoids_child : (at k : ℕ) (domain : Domain) (outer : List Level) → domain.parent ≡ parent_of outer → IsShut k outer
    → domain.parent ≡ Some (record { 0 = k }) → ⊥
avoids_child at k domain [] parent shut child = absurd (cc)
avoids_child at k domain (level ∷ outer) parent (away, shut) child =
    let number : ℕ → NodeId = λ n. record { 0 = n } in
    let same : Some (number level.domain) ≡ Some (number k) = sym parent ∙ child in
    let ids : number level.domain ≡ number k = same_Some (number level.domain) (number k) same in
    away (sym (ap (λ (id : NodeId). id.0) ids))

avoids_children : (domains : List Domain) (at k : ℕ) (domain : Domain) (outer : List Level) (ids : List NodeId)
    → slice_get domains at ≡ Some domain → domain.parent ≡ parent_of outer → IsShut k outer → NamesChildren domains k ids → Avoids at ids
avoids_children domains at k domain outer [] is parent shut named = tt
avoids_children domains at k domain outer (id ∷ ids) is parent shut (above, child, named) =
    let found : Child (slice_get domains id.0) k = child_of (slice_get domains id.0) k child in (
      λ here.
          let there : slice_get domains at ≡ Some found.domain = ap (slice_get domains) (sym here) ∙ found.is in
          let same : domain ≡ found.domain = cc in
          avoids_child at k domain outer parent shut (ap (λ (d : Domain). d.parent) same ∙ found.parent),
      avoids_children domains at k domain outer ids is parent shut named,
    )

tiles_kept : (ends : ℕ → ℕ) (closed end low : ℕ) (ids : List NodeId) (high : ℕ) → Avoids closed ids → Tiles ends low ids high
    → Tiles (put_at ends closed end) low ids high
tiles_kept ends closed end low [] high avoids tiles = tiles
tiles_kept ends closed end low (id ∷ ids) high (away, avoids) (here, some, tiles) =
    let same : ends id.0 ≡ put_at ends closed end id.0 = sym (put_away ends closed end id.0 away) in (
      here,
      subst (λ (n : ℕ). id.0 < n) same some,
      subst (λ (n : ℕ). Tiles (put_at ends closed end) n ids high) same (tiles_kept ends closed end (ends id.0) ids high avoids tiles),
    )

ended_within : (ends : ℕ → ℕ) (closed end : ℕ) (domains : List Domain) (inner : ℕ) (levels : List Level)
    → inner ≤ closed → IsWithin ends domains inner levels → IsWithin (put_at ends closed end) domains inner levels
ended_within ends closed end domains inner [] up is = is
ended_within ends closed end domains inner (level ∷ outer) up (last, is) =
    let below : level.domain < inner = last.below in
    let avoids : Avoids closed last.before = avoids_below ends (suc level.domain) last.before inner closed last.tiles up in (
      record {
        below = below;
        before = last.before;
        named = last.named;
        tiles = tiles_kept ends closed end (suc level.domain) last.before inner avoids last.tiles;
      },
      ended_within ends closed end domains level.domain outer (omega arith) is,
    )

ended_to : (ends : ℕ → ℕ) (at : ℕ) (domains : List Domain) (outer : List Level) → at < length domains
    → IsWithin ends domains at outer → IsWalkedTo (put_at ends at (length domains)) domains outer
ended_to ends at domains [] within is = λ some. put_here ends at (length domains) 0 (sym is)
ended_to ends at domains (level ∷ outer) within (last, is) =
    let new_ends : ℕ → ℕ = put_at ends at (length domains) in
    let end : new_ends at ≡ length domains = put_here ends at (length domains) at refl in
    let avoids : Avoids at last.before = avoids_below ends (suc level.domain) last.before at at last.tiles (omega arith) in
    let first : Tiles new_ends (suc level.domain) last.before at =
    tiles_kept ends at (length domains) (suc level.domain) last.before at avoids last.tiles in
    let own : Tiles new_ends at (record { 0 = at } ∷ []) (length domains) = (refl, subst (λ (n : ℕ). at < n) (sym end) within, end) in
    let both : Tiles new_ends (suc level.domain) (last.before ++ record { 0 = at } ∷ []) (length domains) =
    tiles_join new_ends (suc level.domain) last.before (record { 0 = at } ∷ []) at (length domains) first own in
    let below : level.domain < at = last.below in (
      subst (λ (ids : List NodeId). Tiles new_ends (suc level.domain) ids (length domains)) (sym last.named) both,
      ended_within ends at (length domains) domains level.domain outer (omega arith) is,
    )

ended_shut : (ends deep : ℕ → ℕ) (kinds : List KindName) (at : ℕ) (outer : List Level) (domains : List Domain)
    → EachFits kinds domains 0 domains → IsWalk ends deep domains (level_of at None ∷ outer)
    → (k : ℕ) (domain : Domain) → slice_get domains k ≡ Some domain → IsShut k outer
    → Tiles (put_at ends at (length domains)) (suc k) (ids_of domain.items) (put_at ends at (length domains) k)
ended_shut ends deep kinds at outer domains fits walk k domain is shut =
    let new_ends : ℕ → ℕ = put_at ends at (length domains) in
    let mine : IsLevel deep domains (level_of at None) outer = walk.each.0 in
    elim (cases_eq k at) [
      | inl here ↦
          let named : named_by domains (level_of k None) ≡ ids_of domain.items =
          ap (λ (found : Option Domain). ids_in found ++ []) is ∙ append-nil (ids_of domain.items) in
          let there : Tiles ends (suc k) (named_by domains (level_of k None)) (length domains) =
          subst (λ (n : ℕ). Tiles ends (suc n) (named_by domains (level_of n None)) (length domains)) (sym here) walk.walked.0 in
          let tiles : Tiles ends (suc k) (ids_of domain.items) (length domains) =
          subst (λ (ids : List NodeId). Tiles ends (suc k) ids (length domains)) named there in
          subst (λ (high : ℕ). Tiles new_ends (suc k) (ids_of domain.items) high) (sym (put_here ends at (length domains) k here))
          (tiles_kept ends at (length domains) (suc k) (ids_of domain.items) (length domains)
          (avoids_above ends (suc k) (ids_of domain.items) (length domains) at tiles (omega arith)) tiles)
      | inr away ↦
          let fit : FitsDomain kinds domains k domain = each_at (EachFits kinds domains) (FitsDomain kinds domains) (λ at first rest all. all) 0 domains k k domain fits (omega arith) is in
          let avoids : Avoids at (ids_of domain.items) =
          avoids_children domains at k mine.domain outer (ids_of domain.items) mine.there mine.parent shut (names_all domains k domain.items fit.items) in
          subst (λ (high : ℕ). Tiles new_ends (suc k) (ids_of domain.items) high) (sym (put_away ends at (length domains) k away))
          (tiles_kept ends at (length domains) (suc k) (ids_of domain.items) (ends k) avoids (walk.shut k domain is (away, shut)))
    ]

pub walk_ended : (ends deep : ℕ → ℕ) (kinds : List KindName) (at : ℕ) (outer : List Level) (domains : List Domain)
    → EachFits kinds domains 0 domains → IsWalk ends deep domains (level_of at None ∷ outer)
    → IsWalk (put_at ends at (length domains)) deep domains outer
walk_ended ends deep kinds at outer domains fits walk =
    let mine : IsLevel deep domains (level_of at None) outer = walk.each.0 in
    record {
      walked = ended_to ends at domains outer (slice_get_within domains at mine.domain mine.there) walk.walked.1;
      shut = ended_shut ends deep kinds at outer domains fits walk;
      deeper = walk.deeper;
      depth = walk.depth;
      root = walk.root;
      each = walk.each.1;
    }
