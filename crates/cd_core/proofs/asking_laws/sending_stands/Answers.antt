use Rattle.cd_core.proofs.Sent.{sends_stand}
use Rattle.cd_core.proofs.asking_laws.sending_stands.Goals as goal

pub returns : goal.returns
returns c =
    sends_stand
    (record {
      more = c.laws_below.ensures;
      own = c.readings_know_their_own_counts.ensures.domains;
      below = c.counts_inside_stay_below.ensures.members;
      groups = c.counts_inside_stay_below.ensures.groups;
      slices = c.subtrees_are_slices.ensures.slices;
      group = c.a_body_follows_its_items.ensures.group;
    })
    c.sending_fits.ensures
