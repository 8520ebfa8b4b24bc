-- The statements of a program make its domains, one behind another.
use Rattle.std.proofs.Common.{◌≡◌, ℕ, suc, ◌+◌, ◌<◌, ◌≤◌, true, false, List, [], ◌∷◌, ◌++◌, length, map, slice_get, Option, Some, None, refl, sym, ap, ◌∙◌, subst, arith, append_assoc, append-nil, length-append}
use Rattle.std.specs.Prelude.{Ok, ◌==◌}
use Rattle.cd_tree.specs.declared.domain.NodeId.{NodeId}
use Rattle.cd_tree.specs.declared.domain.Item.{Item}
use Rattle.cd_tree.specs.declared.domain.Item.TheVariants.{Run, Group}
use Rattle.cd_tree.specs.declared.domain.Entry.{Entry}
use Rattle.cd_tree.specs.declared.domain.Domain.{Domain}
use Rattle.cd_tree.specs.declared.kinds.KindName.{KindName}
use Rattle.cd_tree.specs.declared.refusal.Which.TheVariants as which
use Rattle.cd_tree.specs.Domains.{Node, node, Body, stop, run, group, Members, no_more, member}
use Rattle.cd_parse.specs.Draft.{DraftModel, no_draft, is_empty_body, takes_entries, takes_domains, changed, with_item, with_entry, level_of, parent_of, named, entered, close_domain, stage_behind, has_child_named}
use Rattle.cd_parse.specs.Heads.{entries_of, room_for_domain, domain_named, end_in}
use Rattle.cd_parse.specs.Statements.{statement, statement_in}
use Rattle.cd_print.specs.Canonical.{end_statement, entry_statement, node_statements, body_statements, member_statements}
use Rattle.cd_parse.specs.WellRead.{AreReadKinds, AreReadEntries}
use Rattle.cd_print.proofs.OpsBack.{op_done, has_room}
use Rattle.cd_print.proofs.HeadsBack.{domain_done, entry_done, group_done}
use Rattle.cd_print.proofs.ReadsBack.{counting, Does, Do, do_both}
use Rattle.cd_print.proofs.TreeViews.{last_changed, last_found, changed_front, changed_twice, changed_not, changed_length, add_items, children_stay, AreFresh, fresh_front, fresh_back, SameChildren, same_more, fresh_same, id_of, ids_of, items_of, flat_node, flat_body, flat_members, node_items, body_items, member_items, node_preserves, body_preserves, member_preserves, IsTold, ToldNode, ToldBody, ToldMembers}

-- a draft in a program that is open
abbrev pub opened : DraftModel
opened = close_domain (level_of 0 None ∷ []) no_draft

-- a draft in a domain, with or without a group that is open there, within what is open in another draft
abbrev pub inside : ℕ → Option (List NodeId) → DraftModel → DraftModel → DraftModel
inside at members outer draft = record draft { stage = opened.stage; levels = level_of at members ∷ outer.levels }

-- ---- entries

abbrev keeping : ℕ → DraftModel → DraftModel → List Domain → Domain → List Entry → ℕ → DraftModel
keeping at outer draft front it entries preserves =
    inside at None outer (record draft { domains = front ++ (record it { entries = entries }) ∷ []; preserves = preserves })

pub entries_do : (entries : List Entry) (draft outer : DraftModel) (front : List Domain) (it : Domain) (at preserves : ℕ) → at ≡ length front → it.items ≡ []
    → length it.entries + length entries ≤ 64 → preserves + length entries ≤ 16384 → AreReadEntries draft.regions entries
    → Do (keeping at outer draft front it it.entries preserves) (map (entry_statement draft.regions) entries)
    (keeping at outer draft front it (it.entries ++ entries) (preserves + length entries))
entries_do [] draft outer front it at preserves here none few all read =
    let same : preserves ≡ preserves + length {A = Entry} [] = omega arith in
    ap (λ (es : List Entry). keeping at outer draft front it es preserves) (sym (append-nil it.entries))
    ∙ ap (λ (n : ℕ). keeping at outer draft front it (it.entries ++ []) n) same
entries_do (entry ∷ entries) draft outer front it at preserves here none few all read =
    let now : DraftModel = keeping at outer draft front it it.entries preserves in
    let next : DraftModel = keeping at outer draft front it (it.entries ++ entry ∷ []) (preserves + 1) in
    let found : slice_get (front ++ it ∷ []) at ≡ Some it = last_found front it [] at here in
    let empty : takes_entries now now.levels ≡ true = ap is_empty_body found ∙ ap (λ (items : List Item). length items == 0) none in
    let room : entries_of (slice_get (front ++ it ∷ []) at) < 64 = subst (λ (o : Option Domain). entries_of o < 64) (sym found) (omega (arith, few)) in
    let size : preserves + 1 + length entries ≡ preserves + length (entry ∷ entries) = omega arith in
    let count : length (it.entries ++ entry ∷ []) ≡ length it.entries + 1 = length-append it.entries (entry ∷ []) in (
      next,
      (λ n. entry_done (counting n now) entry empty read.0 read.1 room (omega (arith, all))
          ∙ ap (λ (ds : List Domain). Ok (counting n (inside at None outer (record draft { domains = ds; preserves = preserves + 1 })))) (last_changed (with_entry entry) front it [] at here)),
      subst (λ (behind : DraftModel). Do next (map (entry_statement draft.regions) entries) behind)
          (ap (λ (es : List Entry). keeping at outer draft front it es (preserves + 1 + length entries)) (append_assoc it.entries (entry ∷ []) entries)
          ∙ ap (λ (m : ℕ). keeping at outer draft front it (it.entries ++ entry ∷ entries) m) size)
          (entries_do entries draft outer front (record it { entries = it.entries ++ entry ∷ [] }) at (preserves + 1) here none (omega (arith, few, count)) (omega (arith, all)) read.2),
    )

-- ---- ends

end_domain : (at : ℕ) (outer draft : DraftModel) → Does (inside at None outer draft) end_statement (record draft { stage = stage_behind outer.levels; levels = outer.levels })
unfolding statement_in statement end_in
end_domain at outer draft n = refl

end_group : (at : ℕ) (first : NodeId) (members : List NodeId) (outer draft : DraftModel)
    → Does (inside at (Some (first ∷ members)) outer draft) end_statement
    (inside at None outer (record draft { domains = changed at (with_item (Group (first ∷ members))) draft.domains }))
unfolding statement_in statement end_in
end_group at first members outer draft n = refl

-- ---- what a program does to a draft

-- a draft with domains, items and entries
abbrev pub grown : DraftModel → List Domain → ℕ → ℕ → DraftModel
grown draft domains items preserves = record draft { domains = domains; items = items; preserves = preserves }

-- equal parts make equal drafts
regrown : (make : List Domain → ℕ → ℕ → DraftModel) (domains others : List Domain) (items other_items preserves other_preserves : ℕ)
    → domains ≡ others → items ≡ other_items → preserves ≡ other_preserves → make domains items preserves ≡ make others other_items other_preserves
regrown make domains others items other_items preserves other_preserves d i p =
    ap (λ (x : List Domain). make x items preserves) d ∙ ap (λ (x : ℕ). make others x preserves) i ∙ ap (λ (x : ℕ). make others other_items x) p

-- another draft's domains, items and levels
abbrev pub mixed : DraftModel → DraftModel → DraftModel
mixed draft with = record draft { domains = with.domains; items = with.items; levels = with.levels }

-- a draft behind a domain and all below it
abbrev pub behind_node : DraftModel → DraftModel → Node → DraftModel
behind_node draft with n =
    record draft { stage = stage_behind with.levels; levels = with.levels; domains = with.domains ++ flat_node n; items = with.items + node_items n; preserves = draft.preserves + node_preserves n }

-- what a draft has of kinds
pub record HasKinds (kinds : List KindName) : Type 0 where
  pub few : length kinds ≤ 16
  pub read : AreReadKinds [] kinds

-- a domain: its head makes `with` of the draft
pub record CanStand (draft with : DraftModel) (n : Node) : Type 0 where
  pub names : (k : ℕ) → named draft.levels (record { 0 = length draft.domains }) (counting k draft) ≡ counting k (mixed draft with)
  pub takes : takes_domains draft draft.levels ≡ true
  pub room : room_for_domain draft.levels draft.items ≡ Ok tt
  pub told : ToldNode draft.regions draft.kinds (length draft.domains) (parent_of draft.levels) (length draft.levels) n
  pub size : length with.domains ≡ length draft.domains
  pub depth : length with.levels ≡ length draft.levels
  pub same : SameChildren with.domains draft.domains
  pub fresh : AreFresh draft.domains (flat_node n)
  pub domains : length draft.domains + length (flat_node n) ≤ 2048
  pub items : with.items + node_items n ≤ 16384
  pub preserves : draft.preserves + node_preserves n ≤ 16384

-- a body that may follow in a domain
record CanFollow (draft outer : DraftModel) (at depth : ℕ) (b : Body) : Type 0 where
  told : ToldBody draft.regions draft.kinds at (length draft.domains) depth b
  here : at < length draft.domains
  deep : depth ≡ suc (length outer.levels)
  fresh : AreFresh draft.domains (flat_body b)
  domains : length draft.domains + length (flat_body b) ≤ 2048
  items : draft.items + body_items b ≤ 16384
  preserves : draft.preserves + body_preserves b ≤ 16384

-- members that may follow in a group
record CanJoin (draft outer : DraftModel) (at depth : ℕ) (before : List NodeId) (ms : Members) : Type 0 where
  told : ToldMembers draft.regions draft.kinds at (length draft.domains) depth ms
  deep : depth ≡ suc (length outer.levels)
  most : length before + length (ids_of ms) ≤ 256
  fresh : AreFresh draft.domains (flat_members ms)
  domains : length draft.domains + length (flat_members ms) ≤ 2048
  items : draft.items + member_items ms ≤ 16384
  preserves : draft.preserves + member_preserves ms ≤ 16384

-- the domain of a view, from its parts
rebuilt : (it : Domain) (parent : Option NodeId) (items : List Item) → it.parent ≡ parent → it.items ≡ items
    → record it { parent = parent; items = items } ≡ it
rebuilt it parent items above own =
    ap (λ (p : Option NodeId). record it { parent = p; items = items }) (sym above) ∙ ap (λ (is : List Item). record it { items = is }) (sym own)

no_items : (domains : List Domain) (at : ℕ) → changed at (add_items []) domains ++ [] ≡ domains
no_items domains at = append-nil (changed at (add_items []) domains) ∙ changed_not (add_items []) (λ d. ap (λ (items : List Item). record d { items = items }) (append-nil d.items)) domains at

then_items : (front back : List Item) (domains : List Domain) (at : ℕ) → changed at (add_items back) (changed at (add_items front) domains) ≡ changed at (add_items (front ++ back)) domains
then_items front back domains at =
    changed_twice (add_items front) (add_items back) (add_items (front ++ back))
    (λ d. ap (λ (items : List Item). record d { items = items }) (append_assoc d.items front back)) domains at

-- an item more, and the domains below it
behind_item : (it : Item) (items : List Item) (domains below rest : List Domain) (at : ℕ) → at < length domains
    → changed at (add_items items) (changed at (add_items (it ∷ [])) domains ++ below) ++ rest ≡ changed at (add_items (it ∷ items)) domains ++ (below ++ rest)
behind_item it items domains below rest at here =
    let size : length (changed at (add_items (it ∷ [])) domains) ≡ length domains = changed_length (add_items (it ∷ [])) domains at in
    ap (λ (ds : List Domain). ds ++ rest)
    (changed_front (add_items items) (changed at (add_items (it ∷ [])) domains) below at (omega (arith, here, size))
    ∙ ap (λ (ds : List Domain). ds ++ below) (then_items (it ∷ []) items domains at))
    ∙ append_assoc (changed at (add_items (it ∷ items)) domains) below rest

-- a body behind a group that is closed
record CanGoOn (draft outer : DraftModel) (at depth : ℕ) (ms : Members) (rest : Body) : Type 0 where
  told : ToldBody draft.regions draft.kinds at (length draft.domains + length (flat_members ms)) depth rest
  here : at < length draft.domains
  deep : depth ≡ suc (length outer.levels)
  fresh : AreFresh draft.domains (flat_members ms ++ flat_body rest)
  domains : length draft.domains + length (flat_members ms ++ flat_body rest) ≤ 2048
  items : draft.items + (1 + (member_items ms + body_items rest)) ≤ 16384
  preserves : draft.preserves + (member_preserves ms + body_preserves rest) ≤ 16384

-- a draft behind a group
abbrev grouped_draft : DraftModel → ℕ → Members → DraftModel
grouped_draft draft at ms =
    grown draft (changed at (add_items (Group (ids_of ms) ∷ [])) draft.domains ++ flat_members ms) (draft.items + 1 + member_items ms) (draft.preserves + member_preserves ms)

goes_on : (draft outer : DraftModel) (at depth : ℕ) (ms : Members) (rest : Body) → CanGoOn draft outer at depth ms rest → CanFollow (grouped_draft draft at ms) outer at depth rest
goes_on draft outer at depth ms rest can =
    let changed_one : List Domain = changed at (add_items (Group (ids_of ms) ∷ [])) draft.domains in
    let size : length (changed_one ++ flat_members ms) ≡ length draft.domains + length (flat_members ms) =
    length-append changed_one (flat_members ms) ∙ ap (λ (n : ℕ). n + length (flat_members ms)) (changed_length (add_items (Group (ids_of ms) ∷ [])) draft.domains at) in
    let parts : length (flat_members ms ++ flat_body rest) ≡ length (flat_members ms) + length (flat_body rest) = length-append (flat_members ms) (flat_body rest) in
    record {
      told = subst (λ (m : ℕ). ToldBody draft.regions draft.kinds at m depth rest) (sym size) can.told;
      here = omega (arith, size, can.here);
      deep = can.deep;
      fresh = fresh_back changed_one (flat_members ms) (flat_body rest)
          (fresh_same changed_one draft.domains (flat_members ms ++ flat_body rest) (children_stay (Group (ids_of ms) ∷ []) draft.domains at) can.fresh);
      domains = omega (arith, size, parts, can.domains);
      items = omega (arith, can.items);
      preserves = omega (arith, can.preserves);
    }

-- the draft behind a group and what follows it
behind_group : (draft outer : DraftModel) (at : ℕ) (ms : Members) (rest : Body) → at < length draft.domains
    → inside at None outer (grown (grouped_draft draft at ms) (changed at (add_items (items_of rest)) (grouped_draft draft at ms).domains ++ flat_body rest)
    (draft.items + 1 + member_items ms + body_items rest) (draft.preserves + member_preserves ms + body_preserves rest))
    ≡ inside at None outer (grown draft (changed at (add_items (items_of (group ms rest))) draft.domains ++ flat_body (group ms rest))
    (draft.items + body_items (group ms rest)) (draft.preserves + body_preserves (group ms rest)))
behind_group draft outer at ms rest here =
    let items : draft.items + 1 + member_items ms + body_items rest ≡ draft.items + (1 + (member_items ms + body_items rest)) = omega arith in
    let preserves : draft.preserves + member_preserves ms + body_preserves rest ≡ draft.preserves + (member_preserves ms + body_preserves rest) = omega arith in
    regrown (λ ds is ps. inside at None outer (grown draft ds is ps)) _ _ _ _ _ _
    (behind_item (Group (ids_of ms)) (items_of rest) draft.domains (flat_members ms) (flat_body rest) at here) items preserves

same_id : (id : NodeId) (n : ℕ) → id.0 ≡ n → record { 0 = n } ≡ id
same_id id n e = ap (λ (m : ℕ). record { 0 = m }) (sym e)

mutual
  pub node_do : (n : Node) (draft with : DraftModel) → HasKinds draft.kinds → CanStand draft with n
      → Do draft (node_statements draft.regions draft.kinds n) (behind_node draft with n)
  node_do (node id domain body) draft with kinds can =
      let k : ℕ = length draft.domains in
      let it : IsTold draft.regions draft.kinds (parent_of draft.levels) domain body = can.told.2 in
      let fresh : has_child_named draft.domains domain.parent domain.name ≡ false = can.fresh.0 in
      let bare : Domain = domain_named domain.name (parent_of draft.levels) domain.retry domain.detects in
      let full : Domain = record bare { entries = domain.entries } in
      let first : DraftModel = keeping k with (record draft { items = with.items }) with.domains bare [] draft.preserves in
      let kept : DraftModel = keeping k with (record draft { items = with.items }) with.domains bare domain.entries (draft.preserves + length domain.entries) in
      let start : DraftModel = record draft { items = with.items; domains = with.domains ++ full ∷ []; preserves = draft.preserves + length domain.entries } in
      let here : k ≡ length with.domains = sym can.size in
      let longer : length (with.domains ++ full ∷ []) ≡ k + 1 = omega (arith, length-append with.domains (full ∷ []), can.size) in
      let filled : DraftModel = grown start (changed k (add_items (items_of body)) start.domains ++ flat_body body) (with.items + body_items body) (draft.preserves + length domain.entries + body_preserves body) in
      let told : ToldBody draft.regions draft.kinds k (length start.domains) (length draft.levels + 1) body =
      subst (λ (m : ℕ). ToldBody draft.regions draft.kinds k m (length draft.levels + 1) body) (sym longer)
      (subst (λ (m : ℕ). ToldBody draft.regions draft.kinds m (k + 1) (length draft.levels + 1) body) can.told.0 can.told.3) in
      let follow : CanFollow start with k (length draft.levels + 1) body = record {
        told = told;
        here = omega (arith, longer);
        deep = omega (arith, can.depth);
        fresh = fresh_same (with.domains ++ full ∷ []) (draft.domains ++ domain ∷ []) (flat_body body)
            (same_more with.domains draft.domains full domain (sym it.above) refl can.same) can.fresh.1;
        domains = omega (arith, longer, can.domains);
        items = can.items;
        preserves = omega (arith, can.preserves);
      } in
      let whole : changed k (add_items (items_of body)) (with.domains ++ full ∷ []) ++ flat_body body ≡ with.domains ++ domain ∷ flat_body body =
      ap (λ (ds : List Domain). ds ++ flat_body body) (last_changed (add_items (items_of body)) with.domains full [] k here)
      ∙ append_assoc with.domains (add_items (items_of body) full ∷ []) (flat_body body)
      ∙ ap (λ (d : Domain). with.domains ++ d ∷ flat_body body) (rebuilt domain (parent_of draft.levels) (items_of body) it.above it.items) in
      let sum : draft.preserves + length domain.entries + body_preserves body ≡ draft.preserves + (length domain.entries + body_preserves body) = omega arith in (
        first,
        (λ n. domain_done (counting n draft) domain can.takes it.name kinds.few it.detects kinds.read
            (ap (λ (p : Option NodeId). has_child_named draft.domains p domain.name) (sym it.above) ∙ fresh) it.short
            (omega (arith, can.domains)) can.told.1 can.room it.some it.most
            ∙ ap (λ (d : DraftModel). Ok (entered k bare d)) (can.names n)),
        do_both first kept (behind_node draft with (node id domain body)) (map (entry_statement draft.regions) domain.entries)
            (body_statements draft.regions draft.kinds body ++ end_statement ∷ [])
            (entries_do domain.entries (record draft { items = with.items }) with with.domains bare k draft.preserves here refl (omega (arith, it.few)) (omega (arith, can.preserves)) it.entries)
            (do_both kept (inside k None with filled) (behind_node draft with (node id domain body)) (body_statements draft.regions draft.kinds body) (end_statement ∷ [])
            (body_do body start with k (length draft.levels + 1) kinds follow) (
              record filled { stage = stage_behind with.levels; levels = with.levels },
              end_domain k with filled,
              regrown (λ ds is ps. record draft { stage = stage_behind with.levels; levels = with.levels; domains = ds; items = is; preserves = ps })
                  _ _ _ _ _ _ whole refl sum,
            )),
      )

  body_do : (b : Body) (draft outer : DraftModel) (at depth : ℕ) → HasKinds draft.kinds → CanFollow draft outer at depth b
      → Do (inside at None outer draft) (body_statements draft.regions draft.kinds b)
      (inside at None outer (grown draft (changed at (add_items (items_of b)) draft.domains ++ flat_body b) (draft.items + body_items b) (draft.preserves + body_preserves b)))
  body_do stop draft outer at depth kinds can =
      let items : draft.items ≡ draft.items + 0 = omega arith in
      let preserves : draft.preserves ≡ draft.preserves + 0 = omega arith in
      regrown (λ ds is ps. inside at None outer (grown draft ds is ps)) _ _ _ _ _ _ (sym (no_items draft.domains at)) items preserves
  body_do (run op rest) draft outer at depth kinds can =
      let stepped : DraftModel = record draft { domains = changed at (add_items (Run op ∷ [])) draft.domains; items = draft.items + 1 } in
      let size : length stepped.domains ≡ length draft.domains = changed_length (add_items (Run op ∷ [])) draft.domains at in
      let follow : CanFollow stepped outer at depth rest = record {
        told = subst (λ (m : ℕ). ToldBody draft.regions draft.kinds at m depth rest) (sym size) can.told.2;
        here = omega (arith, size, can.here);
        deep = can.deep;
        fresh = fresh_same stepped.domains draft.domains (flat_body rest) (children_stay (Run op ∷ []) draft.domains at) can.fresh;
        domains = omega (arith, size, can.domains);
        items = omega (arith, can.items);
        preserves = can.preserves;
      } in
      let sum : draft.items + 1 + body_items rest ≡ draft.items + (1 + body_items rest) = omega arith in (
        inside at None outer stepped,
        (λ n. op_done (counting n (inside at None outer draft)) op can.told.0 refl can.told.1 (omega (arith, can.items))),
        subst (λ (behind : DraftModel). Do (inside at None outer stepped) (body_statements draft.regions draft.kinds rest) behind)
            (regrown (λ ds is ps. inside at None outer (grown draft ds is ps)) _ _ _ _ _ _
            (ap (λ (ds : List Domain). ds ++ flat_body rest) (then_items (Run op ∷ []) (items_of rest) draft.domains at)) sum refl)
            (body_do rest stepped outer at depth kinds follow),
      )
  body_do (group no_more rest) draft outer at depth kinds can = absurd (omega (arith, can.told.0))
  body_do (group (member (node id domain body) no_more) rest) draft outer at depth kinds can =
      let ms : Members = member (node id domain body) no_more in
      let below : List Domain = flat_node (node id domain body) in
      let with : DraftModel = inside at None outer (record draft { domains = changed at (add_items (Group (record { 0 = length draft.domains } ∷ []) ∷ [])) draft.domains; items = draft.items + 1 }) in
      let size : length with.domains ≡ length draft.domains = changed_length (add_items (Group (record { 0 = length draft.domains } ∷ []) ∷ [])) draft.domains at in
      let parts : length ((below ++ []) ++ flat_body rest) ≡ length below + length (flat_body rest) =
      length-append (below ++ []) (flat_body rest) ∙ ap (λ (ds : List Domain). length ds + length (flat_body rest)) (append-nil below) in
      let stand : CanStand (inside at None outer draft) with (node id domain body) = record {
        names = λ n. refl;
        takes = refl;
        room = has_room which.Items 16384 draft.items (omega (arith, can.items));
        told = subst (λ (d : ℕ). ToldNode draft.regions draft.kinds (length draft.domains) (Some (record { 0 = at })) d (node id domain body)) can.deep can.told.2.0;
        size = size;
        depth = refl;
        same = children_stay (Group (record { 0 = length draft.domains } ∷ []) ∷ []) draft.domains at;
        fresh = fresh_front draft.domains below [] (fresh_front draft.domains (below ++ []) (flat_body rest) can.fresh);
        domains = omega (arith, parts, can.domains);
        items = omega (arith, can.items);
        preserves = omega (arith, can.preserves);
      } in
      let go : CanGoOn draft outer at depth ms rest = record { told = can.told.3; here = can.here; deep = can.deep; fresh = can.fresh; domains = can.domains; items = can.items; preserves = can.preserves } in
      let items_same : draft.items + 1 + node_items (node id domain body) ≡ draft.items + 1 + (node_items (node id domain body) + 0) = omega arith in
      let preserves_same : draft.preserves + node_preserves (node id domain body) ≡ draft.preserves + (node_preserves (node id domain body) + 0) = omega arith in
      let closed : behind_node (inside at None outer draft) with (node id domain body) ≡ inside at None outer (grouped_draft draft at ms) =
      regrown (λ ds is ps. inside at None outer (grown draft ds is ps)) _ _ _ _ _ _
      (ap (λ (i : NodeId). changed at (add_items (Group (i ∷ []) ∷ [])) draft.domains ++ below) (same_id id (length draft.domains) can.told.2.0.0)
      ∙ ap (λ (ds : List Domain). changed at (add_items (Group (id ∷ []) ∷ [])) draft.domains ++ ds) (sym (append-nil below))) items_same preserves_same in
      do_both (inside at None outer draft) (inside at None outer (grouped_draft draft at ms)) _ (node_statements draft.regions draft.kinds (node id domain body) ++ []) (body_statements draft.regions draft.kinds rest)
      (do_both (inside at None outer draft) (behind_node (inside at None outer draft) with (node id domain body)) (inside at None outer (grouped_draft draft at ms)) (node_statements draft.regions draft.kinds (node id domain body)) []
      (node_do (node id domain body) (inside at None outer draft) with kinds stand) closed)
      (subst (λ (behind : DraftModel). Do (inside at None outer (grouped_draft draft at ms)) (body_statements draft.regions draft.kinds rest) behind)
      (behind_group draft outer at ms rest can.here)
      (body_do rest (grouped_draft draft at ms) outer at depth kinds (goes_on draft outer at depth ms rest go)))
  body_do (group (member first (member second more)) rest) draft outer at depth kinds can =
      let ms : Members = member first (member second more) in
      let start : DraftModel = record draft { items = draft.items + 1 } in
      let parts : length (flat_members ms ++ flat_body rest) ≡ length (flat_members ms) + length (flat_body rest) = length-append (flat_members ms) (flat_body rest) in
      let join : CanJoin start outer at depth [] ms = record {
        told = can.told.2;
        deep = can.deep;
        most = omega (arith, can.told.1);
        fresh = fresh_front draft.domains (flat_members ms) (flat_body rest) can.fresh;
        domains = omega (arith, parts, can.domains);
        items = omega (arith, can.items);
        preserves = omega (arith, can.preserves);
      } in
      let go : CanGoOn draft outer at depth ms rest = record { told = can.told.3; here = can.here; deep = can.deep; fresh = can.fresh; domains = can.domains; items = can.items; preserves = can.preserves } in
      let full : DraftModel = grown start (draft.domains ++ flat_members ms) (draft.items + 1 + member_items ms) (draft.preserves + member_preserves ms) in
      let closed : DraftModel = inside at None outer (record full { domains = changed at (with_item (Group (ids_of ms))) (draft.domains ++ flat_members ms) }) in
      let same : closed ≡ inside at None outer (grouped_draft draft at ms) =
      ap (λ (ds : List Domain). inside at None outer (record full { domains = ds })) (changed_front (add_items (Group (ids_of ms) ∷ [])) draft.domains (flat_members ms) at can.here) in (
        inside at (Some []) outer start,
        (λ n. group_done (counting n (inside at None outer draft)) refl (omega (arith, can.items))),
        do_both (inside at (Some []) outer start) (inside at None outer (grouped_draft draft at ms)) _ (member_statements draft.regions draft.kinds ms ++ end_statement ∷ []) (body_statements draft.regions draft.kinds rest)
            (do_both (inside at (Some []) outer start) (inside at (Some (ids_of ms)) outer full) (inside at None outer (grouped_draft draft at ms)) (member_statements draft.regions draft.kinds ms) (end_statement ∷ [])
            (members_do (member first (member second more)) start outer at depth [] kinds join)
            (closed, end_group at (id_of first) (ids_of (member second more)) outer full, same))
            (subst (λ (behind : DraftModel). Do (inside at None outer (grouped_draft draft at ms)) (body_statements draft.regions draft.kinds rest) behind)
            (behind_group draft outer at ms rest can.here)
            (body_do rest (grouped_draft draft at ms) outer at depth kinds (goes_on draft outer at depth ms rest go))),
      )

  members_do : (ms : Members) (draft outer : DraftModel) (at depth : ℕ) (before : List NodeId) → HasKinds draft.kinds → CanJoin draft outer at depth before ms
      → Do (inside at (Some before) outer draft) (member_statements draft.regions draft.kinds ms)
      (inside at (Some (before ++ ids_of ms)) outer (grown draft (draft.domains ++ flat_members ms) (draft.items + member_items ms) (draft.preserves + member_preserves ms)))
  members_do no_more draft outer at depth before kinds can =
      let items : draft.items ≡ draft.items + 0 = omega arith in
      let preserves : draft.preserves ≡ draft.preserves + 0 = omega arith in
      ap (λ (ids : List NodeId). inside at (Some ids) outer draft) (sym (append-nil before))
      ∙ regrown (λ ds is ps. inside at (Some (before ++ [])) outer (grown draft ds is ps)) _ _ _ _ _ _ (sym (append-nil draft.domains)) items preserves
  members_do (member (node id domain body) rest) draft outer at depth before kinds can =
      let below : List Domain = flat_node (node id domain body) in
      let k : NodeId = record { 0 = length draft.domains } in
      let with : DraftModel = inside at (Some (before ++ k ∷ [])) outer draft in
      let parts : length (below ++ flat_members rest) ≡ length below + length (flat_members rest) = length-append below (flat_members rest) in
      let stand : CanStand (inside at (Some before) outer draft) with (node id domain body) = record {
        names = λ n. refl;
        takes = refl;
        room = has_room which.Members 256 (length before) (omega (arith, can.most));
        told = subst (λ (d : ℕ). ToldNode draft.regions draft.kinds (length draft.domains) (Some (record { 0 = at })) d (node id domain body)) can.deep can.told.0;
        size = refl;
        depth = refl;
        same = λ parent name. refl;
        fresh = fresh_front draft.domains below (flat_members rest) can.fresh;
        domains = omega (arith, parts, can.domains);
        items = omega (arith, can.items);
        preserves = omega (arith, can.preserves);
      } in
      let next : DraftModel = grown draft (draft.domains ++ below) (draft.items + node_items (node id domain body)) (draft.preserves + node_preserves (node id domain body)) in
      let size : length (draft.domains ++ below) ≡ length draft.domains + length below = length-append draft.domains below in
      let more : length (before ++ k ∷ []) ≡ length before + 1 = length-append before (k ∷ []) in
      let join : CanJoin next outer at depth (before ++ k ∷ []) rest = record {
        told = subst (λ (m : ℕ). ToldMembers draft.regions draft.kinds at m depth rest) (sym size) can.told.1;
        deep = can.deep;
        most = omega (arith, more, can.most);
        fresh = fresh_back draft.domains below (flat_members rest) can.fresh;
        domains = omega (arith, size, parts, can.domains);
        items = omega (arith, can.items);
        preserves = omega (arith, can.preserves);
      } in
      let items : draft.items + node_items (node id domain body) + member_items rest ≡ draft.items + (node_items (node id domain body) + member_items rest) = omega arith in
      let preserves : draft.preserves + node_preserves (node id domain body) + member_preserves rest ≡ draft.preserves + (node_preserves (node id domain body) + member_preserves rest) = omega arith in
      let ids : (before ++ k ∷ []) ++ ids_of rest ≡ before ++ id ∷ ids_of rest =
      append_assoc before (k ∷ []) (ids_of rest) ∙ ap (λ (i : NodeId). before ++ i ∷ ids_of rest) (same_id id (length draft.domains) can.told.0.0) in
      do_both (inside at (Some before) outer draft) (inside at (Some (before ++ k ∷ [])) outer next) _ (node_statements draft.regions draft.kinds (node id domain body)) (member_statements draft.regions draft.kinds rest)
      (node_do (node id domain body) (inside at (Some before) outer draft) with kinds stand)
      (subst (λ (behind : DraftModel). Do (inside at (Some (before ++ k ∷ [])) outer next) (member_statements draft.regions draft.kinds rest) behind)
      (ap (λ (is : List NodeId). inside at (Some is) outer (grown next (next.domains ++ flat_members rest) (next.items + member_items rest) (next.preserves + member_preserves rest))) ids
      ∙ regrown (λ ds is ps. inside at (Some (before ++ id ∷ ids_of rest)) outer (grown draft ds is ps)) _ _ _ _ _ _ (append_assoc draft.domains below (flat_members rest)) items preserves)
      (members_do rest next outer at depth (before ++ k ∷ []) kinds join))
