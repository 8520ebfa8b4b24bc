use Rattle.cd_tree.proofs.FirstFacts.{first_then_rest, enough_are_all, one_item_more, run_comes_next, group_comes_next, one_item_less}
use Rattle.cd_tree.proofs.laws.first_items_and_the_rest_are_all.Goals as goal

pub returns : goal.returns
returns c =
    record {
      rest = first_then_rest;
      all = enough_are_all;
      more = one_item_more;
      run = run_comes_next;
      group = group_comes_next;
      less = one_item_less;
    }
