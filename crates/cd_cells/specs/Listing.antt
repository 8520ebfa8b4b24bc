-- How often a number is listed, what is weighed, and what is taken out of a list.
use Rattle.std.specs.Prelude.{ℕ, ◌+◌, Bool, true, false, ◌==◌, List, [], ◌∷◌, None, if◌then◌else◌}
use Rattle.cd_cells.specs.Asks.{Ask}

abbrev pub one_if : Bool → ℕ
one_if true = 1
one_if false = 0

-- how often a number is in a list
abbrev pub often : ℕ → List ℕ → ℕ
often m [] = 0
often m (x ∷ xs) = one_if (x == m) + often m xs

abbrev pub weigh : (ℕ → ℕ) → List ℕ → ℕ
weigh f [] = 0
weigh f (x ∷ xs) = f x + weigh f xs

abbrev pub total : {A : Type 0} → (A → ℕ) → List A → ℕ
total f [] = 0
total f (v ∷ vs) = f v + total f vs

-- a list without the first that is m, and without one of each of these
abbrev pub one_out : ℕ → List ℕ → List ℕ
one_out m [] = []
one_out m (x ∷ xs) = if x == m then xs else x ∷ one_out m xs

abbrev pub all_out : List ℕ → List ℕ → List ℕ
all_out [] xs = xs
all_out (m ∷ ms) xs = all_out ms (one_out m xs)

-- the domains of asks
abbrev pub nodes : List Ask → List ℕ
nodes [] = []
nodes (a ∷ asks) = a.node.0 ∷ nodes asks

abbrev pub no_ask : Ask
no_ask = record { node = record { 0 = 0 }; words = []; counts = []; links = []; store = None }

-- the ask of a domain, the first if there are several
abbrev pub find : ℕ → List Ask → Ask
find m [] = no_ask
find m (a ∷ asks) = if a.node.0 == m then a else find m asks

abbrev pub ask_out : ℕ → List Ask → List Ask
ask_out m [] = []
ask_out m (a ∷ asks) = if a.node.0 == m then asks else a ∷ ask_out m asks

abbrev pub asks_out : List ℕ → List Ask → List Ask
asks_out [] asks = asks
asks_out (m ∷ ms) asks = asks_out ms (ask_out m asks)
