-- A covered domain touches places of its entries alone, and computing takes no word away.
use Rattle.std.proofs.Common.{◌≡◌, ℕ, ◌-◌, Bool, true, false, ◌||◌, cond, Option, Some, IsSome, refl, inl, inr}
use Rattle.std.proofs.lemmas.Bool.{or_left, or_right, or_cases}
use Rattle.cd_base.specs.declared.place.Place.{Place}
use Rattle.cd_base.specs.Words.{Words, PlaceSet, in_range, in_ranges}
use Rattle.cd_tree.specs.Operations.{op_reads, op_writes, op_meaning, column}
use Rattle.cd_tree.specs.Domains.{Node, Body, Members, node, stop, run, group, no_more, member, domain_of}
use Rattle.cd_tree.specs.Meaning.{in_entries, node_reads, node_writes, node_reach, body_reads, body_writes, member_reads, member_writes, written, node_meaning, body_meaning, members_meaning, IsCovered, CoversBody, CoversMembers}

-- what the members of a group reach lies in the entries that cover them
pub members_within : (entries : PlaceSet) (members : Members) (p : Place) → CoversMembers entries members
    → (member_reads members p || member_writes members p) ≡ true → entries p ≡ true
members_within entries no_more p covered h = absurd (cc)
members_within entries (member first rest) p covered h =
    elim (or_cases (member_reads (member first rest) p) (member_writes (member first rest) p) h) [
      | inl read ↦ elim (or_cases (node_reads first p) (member_reads rest p) read) [
        | inl here ↦ covered.0 p (or_left (node_reads first p) (node_writes first p) here)
        | inr later ↦ members_within entries rest p covered.2 (or_left (member_reads rest p) (member_writes rest p) later)
      ]
      | inr wrote ↦ elim (or_cases (node_writes first p) (member_writes rest p) wrote) [
        | inl here ↦ covered.0 p (or_right (node_reads first p) (node_writes first p) here)
        | inr later ↦ members_within entries rest p covered.2 (or_right (member_reads rest p) (member_writes rest p) later)
      ]
    ]

-- what a body touches lies in the entries that cover it
pub body_within : (entries : PlaceSet) (body : Body) (p : Place) → CoversBody entries body
    → (body_reads body p || body_writes body p) ≡ true → entries p ≡ true
body_within entries stop p covered h = absurd (cc)
body_within entries (run op rest) p covered h =
    elim (or_cases (body_reads (run op rest) p) (body_writes (run op rest) p) h) [
      | inl read ↦ elim (or_cases (in_ranges (op_reads op) p) (body_reads rest p) read) [
        | inl here ↦ covered.0 p (or_right (in_range (op_writes op) p) (in_ranges (op_reads op) p) here)
        | inr later ↦ body_within entries rest p covered.1 (or_left (body_reads rest p) (body_writes rest p) later)
      ]
      | inr wrote ↦ elim (or_cases (in_range (op_writes op) p) (body_writes rest p) wrote) [
        | inl here ↦ covered.0 p (or_left (in_range (op_writes op) p) (in_ranges (op_reads op) p) here)
        | inr later ↦ body_within entries rest p covered.1 (or_right (body_reads rest p) (body_writes rest p) later)
      ]
    ]
body_within entries (group members rest) p covered h =
    elim (or_cases (body_reads (group members rest) p) (body_writes (group members rest) p) h) [
      | inl read ↦ elim (or_cases (member_reads members p) (body_reads rest p) read) [
        | inl here ↦ members_within entries members p covered.0 (or_left (member_reads members p) (member_writes members p) here)
        | inr later ↦ body_within entries rest p covered.1 (or_left (body_reads rest p) (body_writes rest p) later)
      ]
      | inr wrote ↦ elim (or_cases (member_writes members p) (body_writes rest p) wrote) [
        | inl here ↦ members_within entries members p covered.0 (or_right (member_reads members p) (member_writes members p) here)
        | inr later ↦ body_within entries rest p covered.1 (or_right (body_reads rest p) (body_writes rest p) later)
      ]
    ]

pub node_within : (d : Node) (p : Place) → IsCovered d → node_reach d p ≡ true → in_entries (domain_of d).entries p ≡ true
node_within (node id domain body) p covered h =
    elim (or_cases (node_reads (node id domain body) p) (node_writes (node id domain body) p) h) [
      | inl read ↦ elim (or_cases (in_entries domain.entries p) (body_reads body p) read) [
        | inl here ↦ here
        | inr later ↦ body_within (in_entries domain.entries) body p covered (or_left (body_reads body p) (body_writes body p) later)
      ]
      | inr wrote ↦ body_within (in_entries domain.entries) body p covered (or_right (body_reads body p) (body_writes body p) wrote)
    ]

-- a choice between two words is a word
either_some : (b : Bool) (x y : Option ℕ) → IsSome x → IsSome y → IsSome (cond b x y)
either_some true x y first second = first
either_some false x y first second = second

mutual
  pub node_keeps_words : (d : Node) (w : Words) (p : Place) → IsSome (w p) → IsSome (node_meaning d w p)
  node_keeps_words (node id domain body) w p some = body_keeps_words body w p some

  pub body_keeps_words : (body : Body) (w : Words) (p : Place) → IsSome (w p) → IsSome (body_meaning body w p)
  body_keeps_words stop w p some = some
  body_keeps_words (run op rest) w p some =
      body_keeps_words rest (op_meaning op w) p
      (either_some (in_range (op_writes op) p) (Some (column op w (p.index - (op_writes op).low))) (w p) refl some)
  body_keeps_words (group members rest) w p some =
      body_keeps_words rest (members_meaning members w w) p (members_keep_words members w w p some some)

  pub members_keep_words : (members : Members) (before after : Words) (p : Place) → IsSome (before p) → IsSome (after p)
      → IsSome (members_meaning members before after p)
  members_keep_words no_more before after p first second = second
  members_keep_words (member d rest) before after p first second =
      members_keep_words rest before (written (node_writes d) (node_meaning d before) after) p first
      (either_some (node_writes d p) (node_meaning d before p) (after p) (node_keeps_words d before p first) second)
