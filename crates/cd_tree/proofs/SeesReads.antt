-- A meaning sees the words that are read, and changes those that are written: operation by operation, and member by member.
use Rattle.std.proofs.Common.{◌≡◌, Bool, true, false, ◌||◌, refl, ◌∙◌}
use Rattle.std.proofs.lemmas.Bool.{or_left, or_right, or_parts, cond-false}
use Rattle.cd_base.specs.declared.place.Place.{Place}
use Rattle.cd_base.specs.Words.{Words, PlaceSet, in_range, in_ranges}
use Rattle.cd_tree.specs.Operations.{op_reads, op_writes, op_meaning}
use Rattle.cd_tree.specs.Domains.{Node, Body, Members, node, stop, run, group, no_more, member, domain_of, ThroughoutBody, ThroughoutMembers}
use Rattle.cd_tree.specs.Meaning.{in_entries, node_reads, node_writes, node_meaning, body_reads, body_writes, body_meaning, member_reads, member_writes, members_meaning, written, LieIn, IsCovered}
use Rattle.cd_tree.specs.Locality.{SameWords, in_either, ShapesFit, OwnShapesFit, AllShapesFit, BodyShapesFit}
use Rattle.cd_tree.proofs.SameColumns.{choice_same, first_of_two, operation_keeps_agreement, operation_leaves_others}
use Rattle.cd_tree.proofs.Reach.{node_within}

-- one of three, the first two taken together
or_joined : (a b c : Bool) → (a || (b || c)) ≡ true → ((a || b) || c) ≡ true
or_joined true b c h = refl
or_joined false b c h = h

-- words that are written into others
written_same : (writes kept : PlaceSet) (one other v w : Words) → SameWords writes one other → SameWords kept v w
    → SameWords (in_either kept writes) (written writes one v) (written writes other w)
written_same writes kept one other v w inside outside p h =
    choice_same (writes p) (one p) (other p) (v p) (w p) (inside p) (λ f. outside p (first_of_two (kept p) (writes p) h f))

mutual
  pub node_keeps : (d : Node) (places : PlaceSet) (v w : Words) → AllShapesFit d → LieIn (node_reads d) places → SameWords places v w
      → SameWords (in_either places (node_writes d)) (node_meaning d v) (node_meaning d w)
  node_keeps (node id domain body) places v w (own, below) reads same =
      body_keeps body places v w own below (λ p h. reads p (or_right (in_entries domain.entries p) (body_reads body p) h)) same

  pub body_keeps : (body : Body) (places : PlaceSet) (v w : Words) → ShapesFit body → ThroughoutBody OwnShapesFit body
      → LieIn (body_reads body) places → SameWords places v w
      → SameWords (in_either places (body_writes body)) (body_meaning body v) (body_meaning body w)
  body_keeps stop places v w own below reads same = λ p h. same p (first_of_two (places p) false h refl)
  body_keeps (run op rest) places v w (fits, own) below reads same =
      λ p h. body_keeps rest (in_either places (in_range (op_writes op))) (op_meaning op v) (op_meaning op w) own below
      (λ q r. or_left (places q) (in_range (op_writes op) q) (reads q (or_right (in_ranges (op_reads op) q) (body_reads rest q) r)))
      (operation_keeps_agreement op places v w fits (λ q r. reads q (or_left (in_ranges (op_reads op) q) (body_reads rest q) r)) same)
      p (or_joined (places p) (in_range (op_writes op) p) (body_writes rest p) h)
  body_keeps (group members rest) places v w own (here, below) reads same =
      λ p h. body_keeps rest (in_either places (member_writes members)) (members_meaning members v v) (members_meaning members w w) own below
      (λ q r. or_left (places q) (member_writes members q) (reads q (or_right (member_reads members q) (body_reads rest q) r)))
      (members_keep members places places v w v w here (λ q r. reads q (or_left (member_reads members q) (body_reads rest q) r)) same same)
      p (or_joined (places p) (member_writes members p) (body_writes rest p) h)

  pub members_keep : (members : Members) (places kept : PlaceSet) (v w after other : Words) → ThroughoutMembers OwnShapesFit members
      → LieIn (member_reads members) places → SameWords places v w → SameWords kept after other
      → SameWords (in_either kept (member_writes members)) (members_meaning members v after) (members_meaning members w other)
  members_keep no_more places kept v w after other fits reads same stay = λ p h. stay p (first_of_two (kept p) false h refl)
  members_keep (member first rest) places kept v w after other (here, fits) reads same stay =
      λ p h. members_keep rest places (in_either kept (node_writes first)) v w
      (written (node_writes first) (node_meaning first v) after) (written (node_writes first) (node_meaning first w) other) fits
      (λ q r. reads q (or_right (node_reads first q) (member_reads rest q) r)) same
      (written_same (node_writes first) kept (node_meaning first v) (node_meaning first w) after other
      (λ q r. node_keeps first places v w here (λ z s. reads z (or_left (node_reads first z) (member_reads rest z) s)) same
      q (or_right (places q) (node_writes first q) r))
      stay)
      p (or_joined (kept p) (node_writes first p) (member_writes rest p) h)

mutual
  pub node_leaves : (d : Node) (w : Words) (p : Place) → node_writes d p ≡ false → node_meaning d w p ≡ w p
  node_leaves (node id domain body) w p outside = body_leaves body w p outside

  pub body_leaves : (body : Body) (w : Words) (p : Place) → body_writes body p ≡ false → body_meaning body w p ≡ w p
  body_leaves stop w p outside = refl
  body_leaves (run op rest) w p outside =
      let parts : (in_range (op_writes op) p ≡ false) × (body_writes rest p ≡ false) =
      or_parts (in_range (op_writes op) p) (body_writes rest p) outside in
      body_leaves rest (op_meaning op w) p parts.1 ∙ operation_leaves_others op w p parts.0
  body_leaves (group members rest) w p outside =
      let parts : (member_writes members p ≡ false) × (body_writes rest p ≡ false) =
      or_parts (member_writes members p) (body_writes rest p) outside in
      body_leaves rest (members_meaning members w w) p parts.1 ∙ members_leave members w w p parts.0

  pub members_leave : (members : Members) (before after : Words) (p : Place) → member_writes members p ≡ false
      → members_meaning members before after p ≡ after p
  members_leave no_more before after p outside = refl
  members_leave (member first rest) before after p outside =
      let parts : (node_writes first p ≡ false) × (member_writes rest p ≡ false) =
      or_parts (node_writes first p) (member_writes rest p) outside in
      members_leave rest before (written (node_writes first) (node_meaning first before) after) p parts.1
      ∙ cond-false (node_writes first p) (node_meaning first before p) (after p) parts.0

pub meaning_is_local : (d : Node) (v w : Words) → AllShapesFit d → SameWords (node_reads d) v w
    → SameWords (node_writes d) (node_meaning d v) (node_meaning d w)
meaning_is_local d v w fits same p h =
    node_keeps d (node_reads d) v w fits (λ q r. r) same p (or_right (node_reads d p) (node_writes d p) h)

pub body_is_local : (body : Body) (v w : Words) → BodyShapesFit body → SameWords (body_reads body) v w
    → SameWords (body_writes body) (body_meaning body v) (body_meaning body w)
body_is_local body v w (own, below) same p h =
    body_keeps body (body_reads body) v w own below (λ q r. r) same p (or_right (body_reads body p) (body_writes body p) h)

-- the entries of a covered domain hold what it reads
pub entries_hold_reads : (d : Node) → IsCovered d → LieIn (node_reads d) (in_entries (domain_of d).entries)
entries_hold_reads d covered p h = node_within d p covered (or_left (node_reads d p) (node_writes d p) h)

pub agreement_in_entries : (d : Node) (v w : Words) → AllShapesFit d → IsCovered d → SameWords (in_entries (domain_of d).entries) v w
    → SameWords (in_entries (domain_of d).entries) (node_meaning d v) (node_meaning d w)
agreement_in_entries d v w fits covered same p h =
    node_keeps d (in_entries (domain_of d).entries) v w fits (entries_hold_reads d covered) same
    p (or_left (in_entries (domain_of d).entries p) (node_writes d p) h)
