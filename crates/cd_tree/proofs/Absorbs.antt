-- The words after a group, place by place, from what its members give.
use Rattle.std.proofs.Common.{◌≡◌, ◌↔◌, Bool, true, false, ◌&&◌, ◌||◌, List, [], ◌∷◌, refl, ap, sym, subst, ◌∙◌, inl, inr}
use Rattle.std.proofs.Math.Path.{fun_ext}
use Rattle.std.proofs.lemmas.Bool.{or_left, or_right, or_cases, or_parts, or_from, both_ways, cases_Bool, cond-true, cond-false}
use Rattle.cd_base.specs.declared.place.Place.{Place}
use Rattle.cd_base.specs.Words.{Words, PlaceSet}
use Rattle.cd_tree.specs.Domains.{Node, Members, no_more, member}
use Rattle.cd_tree.specs.Meaning.{node_reach, node_reads, node_writes, node_meaning, member_writes, members_meaning, written, DoNotClash, IsApartFrom, MembersApart}
use Rattle.cd_tree.specs.Locality.{SameWords}
use Rattle.cd_tree.specs.Absorbing.{IsMember, GiveMeanings, absorbed}
use Rattle.cd_tree.proofs.SameColumns.{choice_same, first_of_two}
use Rattle.cd_tree.proofs.SeesReads.{members_leave}

-- words that agree where they are written make the same words
written_alike : (writes : PlaceSet) (one other w : Words) → SameWords writes one other → written writes one w ≡ written writes other w
written_alike writes one other w same =
    fun_ext (λ p. choice_same (writes p) (one p) (other p) (w p) (w p) (same p) (λ f. refl))

pub absorbing_one : (first : Node) (rest : Members) (before after one : Words) → SameWords (node_writes first) one (node_meaning first before)
    → members_meaning rest before (written (node_writes first) one after) ≡ members_meaning (member first rest) before after
absorbing_one first rest before after one same =
    ap (λ (w : Words). members_meaning rest before w) (written_alike (node_writes first) one (node_meaning first before) after same)

pub absorbing_is_meaning : (members : Members) (before after : Words) (given : List Words) → GiveMeanings members before given
    → absorbed members given after ≡ members_meaning members before after
absorbing_is_meaning no_more before after given give = refl
absorbing_is_meaning (member first rest) before after [] give = absurd give
absorbing_is_meaning (member first rest) before after (one ∷ given) (same, give) =
    absorbing_is_meaning rest before (written (node_writes first) one after) given give
    ∙ absorbing_one first rest before after one same

-- a member, and one of its places
pub record WritesThere (members : Members) (p : Place) : Type 0 where
  pub domain : Node
  pub is_member : IsMember domain members
  pub writes : node_writes domain p ≡ true

writer_later : (first : Node) (rest : Members) (p : Place) → WritesThere rest p → WritesThere (member first rest) p
writer_later first rest p w = record { domain = w.domain; is_member = inr w.is_member; writes = w.writes }

writer : (members : Members) (p : Place) → member_writes members p ≡ true → WritesThere members p
writer no_more p h = absurd (cc)
writer (member first rest) p h =
    elim (or_cases (node_writes first p) (member_writes rest p) h) [
      | inl here ↦ record { domain = first; is_member = inl refl; writes = here }
      | inr later ↦ writer_later first rest p (writer rest p later)
    ]

pub writes_there : (members : Members) (d : Node) (p : Place) → IsMember d members → node_writes d p ≡ true → member_writes members p ≡ true
writes_there no_more d p is h = absurd is
writes_there (member first rest) d p (inl same) h =
    let P : Node → Type 0 = λ e. node_writes e p ≡ true in
    or_left (node_writes first p) (member_writes rest p) (subst P same h)
writes_there (member first rest) d p (inr is) h =
    or_right (node_writes first p) (member_writes rest p) (writes_there rest d p is h)

pub group_writes_by_members : (members : Members) (p : Place)
    → (member_writes members p ≡ true) ↔ ((d : Node) × IsMember d members × (node_writes d p ≡ true))
group_writes_by_members members p = (
  λ h. let w : WritesThere members p = writer members p h in (w.domain, w.is_member, w.writes),
  λ (d, is, h). writes_there members d p is h,
)

-- what one of two that are apart writes, the other does not reach
unreached : (a b c d : Bool) → ((a && b) || (c && d)) ≡ false → a ≡ true → b ≡ false
unreached true true c d none h = absurd (cc)
unreached true false c d none h = refl
unreached false b c d none h = absurd (cc)

not_reached : (one other : Node) (p : Place) → DoNotClash one other → node_writes one p ≡ true → node_reach other p ≡ false
not_reached one other p apart h =
    unreached (node_writes one p) (node_reach other p) (node_writes other p) (node_reach one p) (apart p) h

not_written : (one other : Node) (p : Place) → DoNotClash one other → node_writes one p ≡ true → node_writes other p ≡ false
not_written one other p apart h = (or_parts (node_reads other p) (node_writes other p) (not_reached one other p apart h)).1

-- a domain that is apart from the members of a group writes where none of them does
none_writes : (one : Node) (members : Members) (p : Place) → IsApartFrom one members → node_writes one p ≡ true → member_writes members p ≡ false
none_writes one no_more p apart h = refl
none_writes one (member first rest) p (here, apart) h =
    or_from (node_writes first p) (member_writes rest p) (not_written one first p here h) (none_writes one rest p apart h)

pub members_give_their_own : (members : Members) (d : Node) (before after : Words) → MembersApart members → IsMember d members
    → SameWords (node_writes d) (members_meaning members before after) (node_meaning d before)
members_give_their_own no_more d before after apart is p h = absurd is
members_give_their_own (member first rest) d before after (here, apart) (inl same) p h =
    let P : Node → Type 0 = λ e. node_writes e p ≡ true in
    let wrote : node_writes first p ≡ true = subst P same h in
    members_leave rest before (written (node_writes first) (node_meaning first before) after) p (none_writes first rest p here wrote)
    ∙ cond-true (node_writes first p) (node_meaning first before p) (after p) wrote
    ∙ ap (λ (e : Node). node_meaning e before p) (sym same)
members_give_their_own (member first rest) d before after (here, apart) (inr is) p h =
    members_give_their_own rest d before (written (node_writes first) (node_meaning first before) after) apart is p h

-- whatever members write there, the word is that of one of them
record GivenThere (members : Members) (before after : Words) (p : Place) : Type 0 where
  domain : Node
  is_member : IsMember domain members
  writes : node_writes domain p ≡ true
  word : members_meaning members before after p ≡ node_meaning domain before p

given_there : (members : Members) (before after : Words) (p : Place) → member_writes members p ≡ true → GivenThere members before after p
given_there no_more before after p h = absurd (cc)
given_there (member first rest) before after p h =
    let now : Words = written (node_writes first) (node_meaning first before) after in
    elim (cases_Bool (member_writes rest p)) [
      | inl later ↦
          let g : GivenThere rest before now p = given_there rest before now p later in
          record { domain = g.domain; is_member = inr g.is_member; writes = g.writes; word = g.word }
      | inr none ↦
          let wrote : node_writes first p ≡ true = first_of_two (node_writes first p) (member_writes rest p) h none in
          record {
            domain = first;
            is_member = inl refl;
            writes = wrote;
            word = members_leave rest before now p none ∙ cond-true (node_writes first p) (node_meaning first before p) (after p) wrote;
          }
    ]

pub order_does_not_matter : (members others : Members) (before after : Words) → MembersApart members
    → ((d : Node) → IsMember d members ↔ IsMember d others)
    → members_meaning members before after ≡ members_meaning others before after
order_does_not_matter members others before after apart same =
    fun_ext (λ p.
    elim (cases_Bool (member_writes others p)) [
      | inl wrote ↦
          let g : GivenThere others before after p = given_there others before after p wrote in
          members_give_their_own members g.domain before after apart ((same g.domain).1 g.is_member) p g.writes ∙ sym g.word
      | inr none ↦ members_leave members before after p (no_writer p none) ∙ sym (members_leave others before after p none)
    ])
  where
    no_writer : (p : Place) → member_writes others p ≡ false → member_writes members p ≡ false
    no_writer p none =
        elim (cases_Bool (member_writes members p)) [
          | inl wrote ↦
              let w : WritesThere members p = writer members p wrote in
              absurd (both_ways (member_writes others p) none (writes_there others w.domain p ((same w.domain).0 w.is_member) w.writes))
          | inr not ↦ not
        ]

pub apart_is_unseen : (one other : Node) (given w : Words) → DoNotClash one other
    → SameWords (node_reach other) (written (node_writes one) given w) w
apart_is_unseen one other given w apart p h =
    elim (cases_Bool (node_writes one p)) [
      | inl wrote ↦ absurd (both_ways (node_reach other p) (not_reached one other p apart wrote) h)
      | inr not ↦ cond-false (node_writes one p) (given p) (w p) not
    ]
