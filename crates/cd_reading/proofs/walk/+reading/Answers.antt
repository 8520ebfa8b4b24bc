use Rattle.std.proofs.Common.{rules, ℕ, ◌≡◌, ◌<◌, ◌^◌, ◌+◌, ◌-◌, ◌∙◌, [], ◌∷◌, length, drop, get_or, set, slice_index, true, refl, sym, subst, length-set, arith}
use Rattle.std.proofs.lemmas.Option.{slice_get_within}
use Rattle.cd_tree.specs.Domains.{body_by, members_by, node_of}
use Rattle.cd_tree.specs.KindSets.{no_kinds}
use Rattle.cd_tree.specs.TreeModel.{FitsItems, NamesChildren}
use Rattle.cd_tree.specs.Reading.{read_node, read_try, read_points, read_members}
use Rattle.cd_tree.specs.Record.{case_of}
use Rattle.cd_tree.proofs.View.{domain_fits}
use Rattle.cd_reading.specs.Ends.{try_end, node_end, group_end}
use Rattle.cd_reading.specs.Steps.{try_of}
use Rattle.cd_reading.specs.Walk.{the_node, listed, AreCounts, item_counts}
use Rattle.cd_reading.proofs.Quiet.{try_failed}
use Rattle.cd_reading.proofs.Walking.{ItemLeft, kinds_are, point_over, point_on, item_few, item_over, item_on, end_over, end_on, member_here, member_few, member_read, members_end}
use Rattle.cd_reading.proofs.Following.{group_named, group_few, item_fits, points_next, points_none, no_id, members_next, members_none, tries_begin, try_few, begin_few, try_read, try_counts}
use Rattle.cd_reading.proofs.walk.+reading.Goals as goal
use Rattle.cd_reading.proofs.walk.+reading.Goals.{read_all_points-In-On}

-- ---- an item

pub pass_item-read_all_members-end-requires : goal.pass_item-read_all_members-end-requires
pass_item-read_all_members-end-requires t c =
    let tree = c.args.case.now.tree.now in
    let w = case_of tree c.args.case.now.script.now in
    let named : NamesChildren tree.domains c.args.hand.now.node.0 c.items.result.now =
    group_named tree.domains c.args.hand.now.node.0 c.args.item.now c.in-Group.members c.items.result.now c.in-Group.is c.items.ensures.value c.requires.item in
    let few : AreCounts (read_members w (members_by (node_of tree.domains) c.items.result.now) (listed c.args.counts.now)).counts =
    group_few w (node_of tree.domains) c.args.item.now c.in-Group.members c.items.result.now (listed c.args.counts.now)
    c.in-Group.is c.items.ensures.value c.requires.counts in
    search (rules, named, few)

pub pass_item-returns-in-Group-clause-fits : goal.pass_item-returns-in-Group-clause-fits
pass_item-returns-in-Group-clause-fits t c =
    c.behind.ensures.fits (length c.args.case.now.tree.now.domains) c.read_all_members-end.ensures.fits

-- ---- members

pub read_all_members-read_domain-requires : goal.read_all_members-read_domain-requires
read_all_members-read_domain-requires t c =
    let tree = c.args.case.now.tree.now in
    let w = case_of tree c.args.case.now.script.now in
    let i = c.loop-id.id-index in
    let id = get_or c.args.ids.now i no_id in
    let rest = drop (i + 1) c.args.ids.now in
    let whole = read_members w (members_by (node_of tree.domains) c.args.ids.now) (listed c.args.counts.now) in
    let left = members_next w tree.domains c.args.parent.0 (group_end c.loop-id.ends) (listed c.loop-id.counts) c.args.ids.now i whole
    c.loop-id-test.true c.loop-id.invariant.0 in
    let here = member_here tree c.args.parent.0 id rest left.named in
    let above : c.args.parent.0 < id.0 = here.0 in
    let within : id.0 < length tree.domains = here.1 in
    let few : AreCounts (read_node w (the_node tree.domains id) (listed c.loop-id.counts)).counts =
    member_few w tree c.requires.case.sound c.the_nested_view_follows_the_list.ensures c.args.parent.0 (group_end c.loop-id.ends) (listed c.loop-id.counts)
    id rest whole c.requires.counts left in
    let size : length c.loop-id.counts ≡ length tree.domains = c.loop-id.auto.counts ∙ c.requires.size in
    search (rules, above, within, few, size)

pub read_all_members-loop-id-preserved : goal.read_all_members-loop-id-preserved
read_all_members-loop-id-preserved t c =
    let tree = c.args.case.now.tree.now in
    let w = case_of tree c.args.case.now.script.now in
    let i = c.loop-id.id-index in
    let id = get_or c.args.ids.now i no_id in
    let rest = drop (i + 1) c.args.ids.now in
    let whole = read_members w (members_by (node_of tree.domains) c.args.ids.now) (listed c.args.counts.now) in
    let left = members_next w tree.domains c.args.parent.0 (group_end c.loop-id.ends) (listed c.loop-id.counts) c.args.ids.now i whole
    c.loop-id-test.true c.loop-id.invariant.0 in (
      member_read w tree c.requires.case.sound c.the_nested_view_follows_the_list.ensures c.args.parent.0 (group_end c.loop-id.ends)
          (group_end c.and-ends.result) (listed c.loop-id.counts) (listed c.read_domain.new.counts) (node_end c.read_domain.result) id rest whole
          c.read_domain.ensures.reads c.and-ends.ensures.end left,
      c.and-ends.ensures.fits (length tree.domains) c.loop-id.invariant.1 c.read_domain.ensures.fits,
    )

pub read_all_members-returns-clause-reads : goal.read_all_members-returns-clause-reads
read_all_members-returns-clause-reads t c =
    let tree = c.args.case.now.tree.now in
    let w = case_of tree c.args.case.now.script.now in
    let whole = read_members w (members_by (node_of tree.domains) c.args.ids.now) (listed c.args.counts.now) in
    members_end w tree.domains c.args.parent.0 (group_end c.loop-id.ends) (listed c.loop-id.counts) whole
    (members_none w tree.domains c.args.parent.0 (group_end c.loop-id.ends) (listed c.loop-id.counts) c.args.ids.now c.loop-id.id-index whole
    c.loop-id-test.false c.loop-id.invariant.0)

-- ---- points

pub read_all_points-returns-in-Over-clause-reads : goal.read_all_points-returns-in-Over-clause-reads
read_all_points-returns-in-Over-clause-reads t c =
    let tree = c.args.case.now.tree.now in
    let w = case_of tree c.args.case.now.script.now in
    let find = node_of tree.domains in
    let h = try_of c.args.hand.now in
    let i = c.loop-point.point in
    let items = c.args.items.now in
    let whole = read_points w (body_by find items) h 0 no_kinds (listed c.args.counts.now) in
    point_over w find h i c.kinds_at-kinds.result c.args.case.now.halts c.loop-point.notes c.in-Over.end (listed c.loop-point.counts)
    c.index-items-point.result (drop (i + 1) items) whole
    (kinds_are w.faults c.struck_at-faults.result.now h.node h.begin i c.kinds_at-kinds.result c.struck_at-faults.ensures c.kinds_at-kinds.ensures)
    c.requires.case.halts (record { each = c.in-Over.ensures.step })
    (points_next w find h c.loop-point.notes (listed c.loop-point.counts) items i c.index-items-point.result whole c.loop-point-test.true
    c.index-items-point.is c.loop-point.invariant)

-- where the try goes on to the item, the item and the rest are what is left of it
item_left : (t : ℕ) (c : read_all_points-In-On t)
    → ItemLeft (case_of c.args.case.now.tree.now c.args.case.now.script.now) (node_of c.args.case.now.tree.now.domains) (try_of c.args.hand.now)
    c.loop-point.point c.in-On.seen (listed c.loop-point.counts) c.index-items-point.result (drop (c.loop-point.point + 1) c.args.items.now)
    (read_points (case_of c.args.case.now.tree.now c.args.case.now.script.now) (body_by (node_of c.args.case.now.tree.now.domains) c.args.items.now)
    (try_of c.args.hand.now) 0 no_kinds (listed c.args.counts.now))
item_left t c =
    let w = case_of c.args.case.now.tree.now c.args.case.now.script.now in
    let find = node_of c.args.case.now.tree.now.domains in
    let h = try_of c.args.hand.now in
    let i = c.loop-point.point in
    point_on w find h i c.kinds_at-kinds.result c.args.case.now.halts c.loop-point.notes c.in-On.seen (listed c.loop-point.counts)
    c.index-items-point.result (drop (i + 1) c.args.items.now) (read_points w (body_by find c.args.items.now) h 0 no_kinds (listed c.args.counts.now))
    (kinds_are w.faults c.struck_at-faults.result.now h.node h.begin i c.kinds_at-kinds.result c.struck_at-faults.ensures c.kinds_at-kinds.ensures)
    c.requires.case.halts (record { each = c.in-On.ensures.step })
    (points_next w find h c.loop-point.notes (listed c.loop-point.counts) c.args.items.now i c.index-items-point.result
    (read_points w (body_by find c.args.items.now) h 0 no_kinds (listed c.args.counts.now)) c.loop-point-test.true
    c.index-items-point.is c.loop-point.invariant)

pub read_all_points-pass_item-requires : goal.read_all_points-pass_item-requires
read_all_points-pass_item-requires t c =
    let tree = c.args.case.now.tree.now in
    let item = c.index-items-point.result in
    let fits : FitsItems tree.domains c.args.hand.now.node.0 (item ∷ []) =
    item_fits tree.domains c.args.hand.now.node.0 c.args.items.now c.loop-point.point item c.loop-point-test.true c.index-items-point.is c.requires.items in
    let few : AreCounts (item_counts (case_of tree c.args.case.now.script.now) (node_of tree.domains) item (listed c.loop-point.counts)) =
    item_few _ _ _ _ _ _ _ _ _ c.requires.counts (item_left t ((goal.at.read_all_points-pass_item-requires t c).In-On)) in
    let size : length c.loop-point.counts ≡ length tree.domains = c.loop-point.auto.counts ∙ c.requires.size in
    search (rules, fits, few, size)

pub read_all_points-returns-in-Over-pass_item-clause-reads : goal.read_all_points-returns-in-Over-pass_item-clause-reads
read_all_points-returns-in-Over-pass_item-clause-reads t c =
    item_over _ _ _ _ _ c.in-Over-pass_item.end _ (listed c.pass_item.new.counts) _ _ _ (record { each = c.in-Over-pass_item.ensures.step })
    (item_left t ((goal.at.read_all_points-returns-in-Over-pass_item-clause-reads t c).In-On))

pub read_all_points-loop-point-preserved : goal.read_all_points-loop-point-preserved
read_all_points-loop-point-preserved t c =
    item_on _ _ _ _ _ c.in-On-pass_item.all _ (listed c.pass_item.new.counts) _ _ _ (record { each = c.in-On-pass_item.ensures.step })
    (item_left t ((goal.at.read_all_points-loop-point-preserved t c).In-On))

pub read_all_points-returns-in-On-arrive-clause-reads : goal.read_all_points-returns-in-On-arrive-clause-reads
read_all_points-returns-in-On-arrive-clause-reads t c =
    let tree = c.args.case.now.tree.now in
    let w = case_of tree c.args.case.now.script.now in
    let find = node_of tree.domains in
    let h = try_of c.args.hand.now in
    let items = c.args.items.now in
    let whole = read_points w (body_by find items) h 0 no_kinds (listed c.args.counts.now) in
    end_on w find h (length items) c.kinds_at-kinds-2.result c.args.case.now.halts c.loop-point.notes c.in-On-arrive.seen c.judge.result
    (listed c.loop-point.counts) whole
    (kinds_are w.faults c.struck_at-faults.result.now h.node h.begin (length items) c.kinds_at-kinds-2.result c.struck_at-faults.ensures c.kinds_at-kinds-2.ensures)
    c.requires.case.halts (record { each = c.in-On-arrive.ensures.step }) (c.judge.ensures.end (listed c.loop-point.counts))
    (points_none w find h c.loop-point.notes (listed c.loop-point.counts) items c.loop-point.point whole c.loop-point-test.false
    c.loop-point.auto.point-end c.loop-point.invariant)

pub read_all_points-returns-in-Over-arrive-clause-reads : goal.read_all_points-returns-in-Over-arrive-clause-reads
read_all_points-returns-in-Over-arrive-clause-reads t c =
    let tree = c.args.case.now.tree.now in
    let w = case_of tree c.args.case.now.script.now in
    let find = node_of tree.domains in
    let h = try_of c.args.hand.now in
    let items = c.args.items.now in
    let whole = read_points w (body_by find items) h 0 no_kinds (listed c.args.counts.now) in
    end_over w find h (length items) c.kinds_at-kinds-2.result c.args.case.now.halts c.loop-point.notes c.in-Over-arrive.end
    (listed c.loop-point.counts) whole
    (kinds_are w.faults c.struck_at-faults.result.now h.node h.begin (length items) c.kinds_at-kinds-2.result c.struck_at-faults.ensures c.kinds_at-kinds-2.ensures)
    c.requires.case.halts (record { each = c.in-Over-arrive.ensures.step })
    (points_none w find h c.loop-point.notes (listed c.loop-point.counts) items c.loop-point.point whole c.loop-point-test.false
    c.loop-point.auto.point-end c.loop-point.invariant)

-- ---- tries

pub read_tries-loop-init : goal.read_tries-loop-init
read_tries-loop-init t c =
    tries_begin (case_of c.args.case.now.tree.now c.args.case.now.script.now) c.args.case.now.tree.now c.requires.case.sound
    c.the_nested_view_follows_the_list.ensures c.args.id c.node-domain.result.now (listed c.args.counts.now) c.node-domain.ensures

pub read_tries-read_one_try-end-requires : goal.read_tries-read_one_try-end-requires
read_tries-read_one_try-end-requires t c =
    let tree = c.args.case.now.tree.now in
    let w = case_of tree c.args.case.now.script.now in
    let domain = c.node-domain.result.now in
    let few : AreCounts (read_try w c.args.id domain (body_by (node_of tree.domains) domain.items) true (listed c.loop.counts)).counts =
    try_few w c.args.id domain (body_by (node_of tree.domains) domain.items) (domain.retry - c.loop.counter) (listed c.loop.counts)
    (read_node w (the_node tree.domains c.args.id) (listed c.args.counts.now)) c.requires.counts c.loop.invariant in
    let size : length c.loop.counts ≡ length tree.domains = c.loop.auto.counts ∙ c.requires.size in
    search (rules, few, size)

pub read_tries-loop-preserved : goal.read_tries-loop-preserved
read_tries-loop-preserved t c =
    let tree = c.args.case.now.tree.now in
    let w = case_of tree c.args.case.now.script.now in
    let domain = c.node-domain.result.now in
    try_failed w c.args.id domain (body_by (node_of tree.domains) domain.items) (domain.retry - c.loop.counter) (domain.retry - (c.loop.counter + 1))
    (listed c.loop.counts) (listed c.read_one_try-end.new.counts) (try_end c.read_one_try-end.result)
    (read_node w (the_node tree.domains c.args.id) (listed c.args.counts.now))
    (let test : c.loop.counter < domain.retry = c.loop-test.true in omega arith)
    c.read_one_try-end.ensures.reads
    (sym c.is_failed.ensures ∙ c.if-not-is_failed.false) c.loop.invariant

-- ---- a begin

pub read_one_try-overflow_add-begin : goal.read_one_try-overflow_add-begin
read_one_try-overflow_add-begin t c =
    let tree = c.args.case.now.tree.now in
    let few : slice_index c.args.counts.now c.args.id.0 + 1 < 2 ^ 64 =
    begin_few (case_of tree c.args.case.now.script.now) c.args.id c.args.domain.now (body_by (node_of tree.domains) c.args.domain.now.items)
    c.args.counts.now c.requires.counts in
    search (rules, few)

pub read_one_try-bounds-counts-id-2 : goal.read_one_try-bounds-counts-id-2
read_one_try-bounds-counts-id-2 t c =
    let within : c.args.id.0 < length c.args.case.now.tree.now.domains =
    slice_get_within c.args.case.now.tree.now.domains c.args.id.0 c.args.domain.now c.requires.domain in
    omega (arith, c.requires.size)

pub read_one_try-read_all_points-requires : goal.read_one_try-read_all_points-requires
read_one_try-read_all_points-requires t c =
    let tree = c.args.case.now.tree.now in
    let w = case_of tree c.args.case.now.script.now in
    let find = node_of tree.domains in
    let domain = c.args.domain.now in
    let id = c.args.id in
    let items = c.items.result.now in
    let begin = slice_index c.args.counts.now id.0 + 1 in
    let now = set c.args.counts.now id.0 begin in
    let inside : id.0 < length tree.domains = slice_get_within tree.domains id.0 domain c.requires.domain in
    let within : id.0 < length c.args.counts.now = omega (arith, c.requires.size) in
    let fits : FitsItems tree.domains id.0 items =
    subst (FitsItems tree.domains id.0) (sym c.items.ensures.value)
    (domain_fits tree c.requires.case.sound id domain c.requires.domain).items in
    let size : length now ≡ length tree.domains = length-set c.args.counts.now id.0 begin ∙ c.requires.size in
    let few : AreCounts (read_points w (body_by find items) (record { node = id; detects = domain.detects; begin = begin }) 0 no_kinds (listed now)).counts =
    try_counts (read_try w id domain (body_by find domain.items) true (listed c.args.counts.now))
    (read_points w (body_by find items) (record { node = id; detects = domain.detects; begin = begin }) 0 no_kinds (listed now))
    (try_read w find id domain items c.args.counts.now now begin within refl refl c.items.ensures.value)
    c.requires.counts in
    search (rules, inside, fits, size, few)

pub read_one_try-returns-clause-reads : goal.read_one_try-returns-clause-reads
read_one_try-returns-clause-reads t c =
    let tree = c.args.case.now.tree.now in
    let w = case_of tree c.args.case.now.script.now in
    let find = node_of tree.domains in
    let domain = c.args.domain.now in
    let id = c.args.id in
    let begin = slice_index c.args.counts.now id.0 + 1 in
    let inside : id.0 < length tree.domains = slice_get_within tree.domains id.0 domain c.requires.domain in
    let within : id.0 < length c.args.counts.now = omega (arith, c.requires.size) in
    try_read w find id domain c.items.result.now c.args.counts.now (set c.args.counts.now id.0 begin) begin within refl refl c.items.ensures.value
    ∙ c.read_all_points.ensures.reads
