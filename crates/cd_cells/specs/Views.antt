-- What views list, and views of passes and tickets that have done nothing.
use Rattle.std.specs.Prelude.{ℕ, List, [], ◌∷◌, ◌++◌, Option, ◌+◌}
use Rattle.atomic_table.specs.Seated.{TableId}
use Rattle.cd_cells.specs.Asks.{Ask}
use Rattle.cd_cells.specs.declared.view.View.{View}
use Rattle.cd_cells.specs.Places.{Sort}
use Rattle.cd_cells.specs.Places.Sort.{rights, turns, holds, shuts, lasts, owes, takes, clears, names, posts, claims, arrives}
use Rattle.cd_cells.specs.Listing.{often, nodes}

-- the domains that a view lists
abbrev pub log : {K : Type 0} → Sort → View K → List ℕ
log rights v = v.rights
log turns v = nodes v.turns
log holds v = nodes v.holds
log shuts v = v.shuts
log lasts v = v.lasts
log owes v = v.owes
log takes v = v.takes
log clears v = v.clears
log names v = nodes v.named
log posts v = v.posts
log claims v = v.claims
log arrives v = v.arrives

unfoldable pub tally : {K : Type 0} → Sort → ℕ → View K → ℕ
tally q d v = often d (log q v)

-- a table among all tables, as a list of numbers; the empty list stands for none
abbrev pub name_of : TableId → List ℕ
name_of t = t.words ∷ t.slots ∷ t.views_name ∷ t.atom ∷ t.block ∷ t.offset ∷ t.slot_names

-- a view that knows its table and nothing else, and that of a ticket
abbrev pub newcomer : {K : Type 0} → Option K → List ℕ → View K
newcomer key table = record {
  key = key;
  table = table;
  fresh = 0;
  rights = [];
  turns = [];
  holds = [];
  shuts = [];
  lasts = [];
  owes = [];
  takes = [];
  clears = [];
  named = [];
  posts = [];
  claims = [];
  arrives = [];
  stops = 0;
  met = [];
}

abbrev pub naming : {K : Type 0} → Option K → List ℕ → Ask → View K
naming key table a = record (newcomer key table) { named = a ∷ [] }

-- the first view: it has the right to post the root, and does not know its table yet
abbrev pub first_view : {K : Type 0} → Option K → Ask → View K
first_view key root = record (newcomer key []) { fresh = 1; rights = 0 ∷ []; named = root ∷ [] }

-- two views in one: the words met by the second are not kept
abbrev pub joining : {K : Type 0} → View K → View K → View K
joining v w = record v {
  fresh = v.fresh + w.fresh;
  rights = v.rights ++ w.rights;
  turns = v.turns ++ w.turns;
  holds = v.holds ++ w.holds;
  shuts = v.shuts ++ w.shuts;
  lasts = v.lasts ++ w.lasts;
  owes = v.owes ++ w.owes;
  takes = v.takes ++ w.takes;
  clears = v.clears ++ w.clears;
  named = v.named ++ w.named;
  posts = v.posts ++ w.posts;
  claims = v.claims ++ w.claims;
  arrives = v.arrives ++ w.arrives;
  stops = v.stops + w.stops;
}
