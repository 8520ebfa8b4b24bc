use Rattle.cd_cover.proofs.AtGroups.{written_by_first_items, outer_words_stay, links_serve_members}
use Rattle.cd_cover.proofs.laws.members_find_what_their_links_keep.Goals as goal

pub returns : goal.returns
returns c = record { first = written_by_first_items; words = outer_words_stay; links = links_serve_members }
