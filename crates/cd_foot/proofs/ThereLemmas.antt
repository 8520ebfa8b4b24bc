-- What a domain reaches has a bound, and so each program has a first overlap, or none.
use Rattle.std.proofs.Common.{◌≡◌, ◌+◌, ◌<◌, ◌⊎◌, true, false, ◌&&◌, ◌||◌, List, [], ◌∷◌, Option, None, Some, refl, sym, ◌∙◌, inl, inr, arith}
use Rattle.std.proofs.lemmas.Bool.{true≢false, or_cases, and_parts}
use Rattle.std.proofs.lemmas.Bool.Decides.{nat_tests}
use Rattle.cd_base.specs.declared.place.Place.{Place}
use Rattle.cd_base.specs.declared.place.Range.{Range}
use Rattle.cd_base.specs.Words.{PlaceSet, in_range, in_ranges}
use Rattle.cd_base.specs.Places.{IsLeast}
use Rattle.cd_tree.specs.declared.refusal.Refusal.TheVariants.{Overlap}
use Rattle.cd_tree.specs.Domains.{Node, Body, Members, node, stop, run, group, no_more, member, number_of, body_of, nodes_from}
use Rattle.cd_tree.specs.Meaning.{node_reads, node_writes, node_reach, clash}
use Rattle.cd_tree.specs.Refusals.{FirstOf}
use Rattle.cd_tree.proofs.RefusalLemmas.{HasAnswer, first_there}
use Rattle.cd_foot.specs.declared.gathered.Side.{Side}
use Rattle.cd_foot.specs.declared.gathered.Side.TheVariants.{Reads, Writes}
use Rattle.cd_foot.specs.Gathered.{op_side, entry_side, node_side}
use Rattle.cd_foot.specs.Overlaps.{sibling_pairs, OverlapOf}
use Rattle.cd_foot.specs.Bounded.{IsBounded, BoundedHasLeast, ReachIsBounded, FirstOverlapIsThere}
use Rattle.cd_foot.proofs.SideLemmas.{body_side, member_side, member_side-member, body_side-run, body_side-group, none-of-members, none-of-body, node_side-node}

-- ---- bounds

no_places : IsBounded (λ p. false)
no_places = record { regions = 0; indices = 0; within = λ p has. absurd (true≢false (sym has)) }

range_bounded : (r : Range) → IsBounded (in_range r)
range_bounded r = record {
  regions = r.region + 1;
  indices = r.high;
  within = λ p has. (grind (has, arith, nat_tests), grind (has, arith, nat_tests));
}

-- the places of two sets with bounds
both_bounded : (s t : PlaceSet) → IsBounded s → IsBounded t → IsBounded (λ p. s p || t p)
both_bounded s t first second = record {
  regions = first.regions + second.regions;
  indices = first.indices + second.indices;
  within = λ p has. go p (or_cases (s p) (t p) has);
}
  where
    go : (p : Place) → (s p ≡ true) ⊎ (t p ≡ true) → (p.region < first.regions + second.regions) × (p.index < first.indices + second.indices)
    go p (inl here) = let low = first.within p here in (omega (arith, low.0), omega (arith, low.1))
    go p (inr there) = let low = second.within p there in (omega (arith, low.0), omega (arith, low.1))

ranges_bounded : (ranges : List Range) → IsBounded (in_ranges ranges)
ranges_bounded [] = no_places
ranges_bounded (r ∷ ranges) = both_bounded (in_range r) (in_ranges ranges) (range_bounded r) (ranges_bounded ranges)

-- a set whose places are those of two sets with bounds
joined_bounded : (s t whole : PlaceSet) → ((p : Place) → whole p ≡ (s p || t p)) → IsBounded s → IsBounded t → IsBounded whole
joined_bounded s t whole same first second =
    let both = both_bounded s t first second in
    record { regions = both.regions; indices = both.indices; within = λ p has. both.within p (sym (same p) ∙ has) }

empty_bounded : (whole : PlaceSet) → ((p : Place) → false ≡ whole p) → IsBounded whole
empty_bounded whole none = record {
  regions = 0;
  indices = 0;
  within = λ p has. absurd (true≢false (sym has ∙ sym (none p)));
}

-- what a domain reads, and what it writes
mutual
  node_bounded : (side : Side) (d : Node) → IsBounded (node_side side d)
  node_bounded side (node id domain body) =
      joined_bounded (in_ranges (entry_side side domain.entries)) (body_side side body) (node_side side (node id domain body))
      (node_side-node side id domain body) (ranges_bounded (entry_side side domain.entries)) (body_bounded side body)

  body_bounded : (side : Side) (body : Body) → IsBounded (body_side side body)
  body_bounded side stop = empty_bounded (body_side side stop) (none-of-body side)
  body_bounded side (run op rest) =
      joined_bounded (in_ranges (op_side side op)) (body_side side rest) (body_side side (run op rest)) (body_side-run side op rest)
      (ranges_bounded (op_side side op)) (body_bounded side rest)
  body_bounded side (group members rest) =
      joined_bounded (member_side side members) (body_side side rest) (body_side side (group members rest)) (body_side-group side members rest)
      (members_bounded side members) (body_bounded side rest)

  members_bounded : (side : Side) (members : Members) → IsBounded (member_side side members)
  members_bounded side no_more = empty_bounded (member_side side no_more) (none-of-members side)
  members_bounded side (member first rest) =
      joined_bounded (node_side side first) (member_side side rest) (member_side side (member first rest)) (member_side-member side first rest)
      (node_bounded side first) (members_bounded side rest)

pub reach_bounded : ReachIsBounded
reach_bounded d = both_bounded (node_reads d) (node_writes d) (node_bounded Reads d) (node_bounded Writes d)

-- ---- overlaps

-- both members reach a place at which they interfere
clash_reached : (one other : Node) (p : Place) → clash one other p ≡ true → node_reach other p ≡ true ⊎ node_reach one p ≡ true
clash_reached one other p has = go (or_cases (node_writes one p && node_reach other p) (node_writes other p && node_reach one p) has)
  where
    go : ((node_writes one p && node_reach other p) ≡ true) ⊎ ((node_writes other p && node_reach one p) ≡ true)
        → (node_reach other p ≡ true) ⊎ (node_reach one p ≡ true)
    go (inl here) = inl (and_parts (node_writes one p) (node_reach other p) here).1
    go (inr there) = inr (and_parts (node_writes other p) (node_reach one p) there).1

clash_bounded : ReachIsBounded → (one other : Node) → IsBounded (clash one other)
clash_bounded bounded one other = record {
  regions = (bounded one).regions + (bounded other).regions;
  indices = (bounded one).indices + (bounded other).indices;
  within = λ p has. go p (clash_reached one other p has);
}
  where
    go : (p : Place) → (node_reach other p ≡ true) ⊎ (node_reach one p ≡ true)
        → (p.region < (bounded one).regions + (bounded other).regions) × (p.index < (bounded one).indices + (bounded other).indices)
    go p (inl there) = let low = (bounded other).within p there in (omega (arith, low.0), omega (arith, low.1))
    go p (inr here) = let low = (bounded one).within p here in (omega (arith, low.0), omega (arith, low.1))

overlap_there : BoundedHasLeast → ReachIsBounded → (pair : Node × Node) → HasAnswer (OverlapOf pair)
overlap_there least bounded (one, other) = go (least (clash one other) (clash_bounded bounded one other))
  where
    go : (answer : Option Place) × IsLeast (clash one other) answer → HasAnswer (OverlapOf (one, other))
    go (None, apart) = (None, apart)
    go (Some place, here) = (
      Some (Overlap (record { 0 = number_of one }) (record { 0 = number_of other }) place),
      (refl, refl, here),
    )

-- each program has a first overlap, or none
pub first_overlap_there : BoundedHasLeast → ReachIsBounded → FirstOverlapIsThere
first_overlap_there least bounded domains =
    first_there (λ d. FirstOf OverlapOf (sibling_pairs (body_of d)))
    (λ d. first_there OverlapOf (overlap_there least bounded) (sibling_pairs (body_of d)))
    (nodes_from 0 domains)
