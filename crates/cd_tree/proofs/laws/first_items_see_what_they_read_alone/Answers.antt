use Rattle.cd_tree.proofs.FirstFacts.{first_leave_others, first_keep_words, first_keep_agreement, first_agree_in_entries, next_item_agrees}
use Rattle.cd_tree.proofs.laws.first_items_see_what_they_read_alone.Goals as goal

pub returns : goal.returns
returns c =
    record {
      others = first_leave_others;
      words = first_keep_words;
      agreement = first_keep_agreement;
      entries = first_agree_in_entries;
      next = next_item_agrees;
    }
