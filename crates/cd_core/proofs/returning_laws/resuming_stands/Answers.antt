use Rattle.cd_core.proofs.AfterGroups.{MembersLaws, resuming_stands}
use Rattle.cd_core.proofs.returning_laws.resuming_stands.Goals as goal

pub returns : goal.returns
returns c =
    let laws : MembersLaws = record {
      own = c.readings_know_their_own_counts.ensures.domains;
      order = c.members_are_read_each_by_itself.ensures;
      slices = c.subtrees_are_slices.ensures.slices;
      groups = record {
        follows = c.laws_below.ensures.follows;
        disjoint = c.each_domain_is_as_its_program.ensures.disjoint;
        slices = c.subtrees_are_slices.ensures.members;
        group = c.a_body_follows_its_items.ensures.group;
      };
      children = c.children_stand_once.ensures.children;
      named = c.a_body_follows_its_items.ensures.members;
      acts = c.a_domain_sees_what_it_reads_alone.ensures.acts;
      shapes = c.each_domain_is_as_its_program.ensures.shapes;
      touch = c.members_are_as_their_domain.ensures.touched;
      resume = c.members_give_what_a_domain_goes_on_with.ensures.places;
      lead = c.links_lead_to_what_is_kept.ensures;
      outer = c.outer_references_of_members.ensures.members;
      stay = c.members_find_what_their_links_keep.ensures.words;
      read = c.subtrees_are_seen_on_paths.ensures.entries;
    } in
    resuming_stands c.laws_below.ensures laws c.resuming_fits.ensures
