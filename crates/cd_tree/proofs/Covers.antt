-- A domain is covered where, from it down, the entries of each leave nothing out that its body touches.
use Rattle.std.proofs.Common.{◌≡◌, Bool, true, false, ◌&&◌, ◌||◌, not, refl, inl, inr}
use Rattle.std.proofs.lemmas.Bool.{or_left, or_right, or_cases}
use Rattle.cd_base.specs.declared.place.Place.{Place}
use Rattle.cd_base.specs.Words.{PlaceSet, in_range, in_ranges}
use Rattle.cd_base.proofs.BoolLemmas.{same_test}
use Rattle.cd_tree.specs.Operations.{op_reads, op_writes}
use Rattle.cd_tree.specs.Domains.{Node, Body, Members, node, stop, run, group, no_more, member, domain_of, Throughout, ThroughoutBody, ThroughoutMembers}
use Rattle.cd_tree.specs.Meaning.{in_entries, node_reads, node_writes, node_reach, body_reads, body_writes, member_reads, member_writes, uncovered, IsCovered, CoversBody, CoversMembers}
use Rattle.cd_tree.proofs.Reach.{body_within, node_within}

-- a covered domain reaches the places of its entries and no others
pub reach_is_entries : (d : Node) (p : Place) → IsCovered d → node_reach d p ≡ in_entries (domain_of d).entries p
reach_is_entries (node id domain body) p covered =
    same_test (node_reach (node id domain body) p) (in_entries domain.entries p)
    (node_within (node id domain body) p covered)
    (λ here.
    or_left (node_reads (node id domain body) p) (node_writes (node id domain body) p)
    (or_left (in_entries domain.entries p) (body_reads body p) here))

-- nothing is left out
none_left : (touched within : Bool) → (touched ≡ true → within ≡ true) → (touched && not within) ≡ false
none_left true true inside = refl
none_left true false inside = absurd (let wrong : false ≡ true = inside refl in cc)
none_left false within inside = refl

lies_within : (touched within : Bool) → (touched && not within) ≡ false → touched ≡ true → within ≡ true
lies_within true true none here = refl
lies_within true false none here = absurd (cc)
lies_within false within none here = absurd (cc)

-- the entries of a domain leave nothing out that its body touches
abbrev pub CoversOwn : Node → Type 0
CoversOwn d = (p : Place) → uncovered d p ≡ false

mutual
  pub covers_own : (d : Node) → IsCovered d → Throughout CoversOwn d
  covers_own (node id domain body) covered = (
    λ p.
        none_left (body_reads body p || body_writes body p) (in_entries domain.entries p)
        (body_within (in_entries domain.entries) body p covered),
    body_covers_own (in_entries domain.entries) body covered,
  )

  body_covers_own : (entries : PlaceSet) (body : Body) → CoversBody entries body → ThroughoutBody CoversOwn body
  body_covers_own entries stop covered = tt
  body_covers_own entries (run op rest) (here, covered) = body_covers_own entries rest covered
  body_covers_own entries (group members rest) (here, covered) =
      (members_cover_own entries members here, body_covers_own entries rest covered)

  members_cover_own : (entries : PlaceSet) (members : Members) → CoversMembers entries members → ThroughoutMembers CoversOwn members
  members_cover_own entries no_more covered = tt
  members_cover_own entries (member first rest) (reach, here, covered) =
      (covers_own first here, members_cover_own entries rest covered)

-- what the first part of a body touches, reading and writing, the body touches
of_first : (reads more writes others : Bool) → (reads || writes) ≡ true → ((reads || more) || (writes || others)) ≡ true
of_first true more writes others h = refl
of_first false more true others h = or_right more true refl
of_first false more false others h = absurd (cc)

of_rest : (reads more writes others : Bool) → (more || others) ≡ true → ((reads || more) || (writes || others)) ≡ true
of_rest true more writes others h = refl
of_rest false true writes others h = refl
of_rest false false writes true h = or_right writes true refl
of_rest false false writes false h = absurd (cc)

turned : (a b : Bool) → (a || b) ≡ true → (b || a) ≡ true
turned a b h = elim (or_cases a b h) [ inl e ↦ or_right b a e | inr e ↦ or_left b a e ]

-- all that a body touches lies in some places
abbrev BodyIn : PlaceSet → Body → Type 0
BodyIn entries body = (p : Place) → (body_reads body p || body_writes body p) ≡ true → entries p ≡ true

abbrev MembersIn : PlaceSet → Members → Type 0
MembersIn entries members = (p : Place) → (member_reads members p || member_writes members p) ≡ true → entries p ≡ true

mutual
  pub is_covered : (d : Node) → Throughout CoversOwn d → IsCovered d
  is_covered (node id domain body) (own, below) =
      body_covered (in_entries domain.entries) body
      (λ p touched. lies_within (body_reads body p || body_writes body p) (in_entries domain.entries p) (own p) touched) below

  body_covered : (entries : PlaceSet) (body : Body) → BodyIn entries body → ThroughoutBody CoversOwn body → CoversBody entries body
  body_covered entries stop within own = tt
  body_covered entries (run op rest) within own = (
    λ p here.
        within p
        (of_first (in_ranges (op_reads op) p) (body_reads rest p) (in_range (op_writes op) p) (body_writes rest p)
        (turned (in_range (op_writes op) p) (in_ranges (op_reads op) p) here)),
    body_covered entries rest
        (λ p later.
        within p
        (of_rest (in_ranges (op_reads op) p) (body_reads rest p) (in_range (op_writes op) p) (body_writes rest p) later)) own,
  )
  body_covered entries (group members rest) within (here, own) = (
    members_covered entries members
        (λ p first. within p (of_first (member_reads members p) (body_reads rest p) (member_writes members p) (body_writes rest p) first)) here,
    body_covered entries rest
        (λ p later. within p (of_rest (member_reads members p) (body_reads rest p) (member_writes members p) (body_writes rest p) later)) own,
  )

  members_covered : (entries : PlaceSet) (members : Members) → MembersIn entries members → ThroughoutMembers CoversOwn members
      → CoversMembers entries members
  members_covered entries no_more within own = tt
  members_covered entries (member first rest) within (here, own) = (
    λ p reached. within p (of_first (node_reads first p) (member_reads rest p) (node_writes first p) (member_writes rest p) reached),
    is_covered first here,
    members_covered entries rest
        (λ p later. within p (of_rest (node_reads first p) (member_reads rest p) (node_writes first p) (member_writes rest p) later)) own,
  )
