-- The limits of texts and of what they describe: of each the most that is taken. What is above one is refused by its name.
-- And the size of a block.
use Rattle.std.specs.Prelude.{ℕ, ◌+◌, ◌/◌}

-- the bytes of a text
abbrev pub text_limit : ℕ
text_limit = 1048576

-- the statements of a text, where those in loops count at each turn; and the loops that stand inside each other
abbrev pub lines_limit : ℕ
lines_limit = 65536

abbrev pub nesting_limit : ℕ
nesting_limit = 16

-- the bytes of a name
abbrev pub name_limit : ℕ
name_limit = 32

-- the kinds, the regions and the faults of a document, and the words of all its regions
abbrev pub kinds_limit : ℕ
kinds_limit = 16

abbrev pub regions_limit : ℕ
regions_limit = 64

abbrev pub words_limit : ℕ
words_limit = 1048576

abbrev pub faults_limit : ℕ
faults_limit = 256

-- the domains of a program, how many stand inside each other, and the items and the entries of all of them
abbrev pub domains_limit : ℕ
domains_limit = 2048

abbrev pub depth_limit : ℕ
depth_limit = 16

abbrev pub items_limit : ℕ
items_limit = 16384

abbrev pub preserves_limit : ℕ
preserves_limit = 16384

-- the entries of a domain, its tries, and the members of a group
abbrev pub entries_limit : ℕ
entries_limit = 64

abbrev pub retry_limit : ℕ
retry_limit = 100

abbrev pub members_limit : ℕ
members_limit = 256

-- the blocks that a program needs
abbrev pub need_limit : ℕ
need_limit = 65536

-- the blocks that so many words take: a block has 64 words
abbrev pub blocks_for : ℕ → ℕ
blocks_for n = (n + 63) / 64
