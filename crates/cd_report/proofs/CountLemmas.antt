-- Lemmas on sums over a list that are taken one by one, and on the line of an accepted document.
use Rattle.std.proofs.Common.{◌≡◌, ℕ, ◌+◌, ◌≤◌, ◌++◌, List, Some, length, take, sum_by, slice_get, get_or, codes, ap, ◌∙◌, arith}
use Rattle.std.proofs.lemmas.List.Sums.{sum_by_more, sum_by_more_le}
use Rattle.std.proofs.lemmas.Option.{slice_get_within, get_or_from_slice_get}
use Rattle.std.specs.Fmt.{decimal}
use Rattle.cd_tree.specs.declared.document.Document.{Document}
use Rattle.cd_report.specs.Texts.{line, item_count, entry_count, word_count, accepted_line}
use Rattle.cd_report.proofs.TextLemmas.{twelve_pieces}

-- the sum so far and the next part are within the whole sum
pub count_within : {X : Type 0} (f : X → ℕ) (xs : List X) (k : ℕ) (x : X) → slice_get xs k ≡ Some x → sum_by f (take k xs) + f x ≤ sum_by f xs
count_within f xs k x e =
    let at : f (get_or xs k x) ≡ f x = ap f (get_or_from_slice_get xs k x x e) in
    omega (arith, sum_by_more_le f xs k x (slice_get_within xs k x e), at)

-- the sum with one part more
pub count_next : {X : Type 0} (f : X → ℕ) (xs : List X) (k : ℕ) (x : X) (part count : ℕ) → slice_get xs k ≡ Some x → count ≡ sum_by f (take k xs)
    → part ≡ f x → count + part ≡ sum_by f (take (k + 1) xs)
count_next f xs k x part count e h p =
    let at : f (get_or xs k x) ≡ f x = ap f (get_or_from_slice_get xs k x x e) in
    omega (arith, sum_by_more f xs k x (slice_get_within xs k x e), at)

-- the line of six numbers
abbrev counts_line : ℕ → ℕ → ℕ → ℕ → ℕ → ℕ → List ℕ
counts_line domains items entries words need faults =
    line
    (codes "# accepted domains " ++ decimal domains ++ codes " items " ++ decimal items ++ codes " entries " ++ decimal entries
    ++ codes " words " ++ decimal words ++ codes " need " ++ decimal need ++ codes " faults " ++ decimal faults)

-- the line of an accepted document, made of its pieces
pub accepted_made : (document : Document) (domains items entries words need faults : ℕ) (made : List ℕ) → domains ≡ length document.tree.domains
    → items ≡ item_count document.tree.domains → entries ≡ entry_count document.tree.domains → words ≡ word_count document.regions
    → faults ≡ length document.faults
    → made ≡ codes "# accepted domains " ++ (decimal domains ++ (codes " items " ++ (decimal items ++ (codes " entries " ++ (decimal entries ++ (codes " words " ++ (decimal words ++ (codes " need " ++ (decimal need ++ (codes " faults " ++ decimal faults)))))))))) ++ codes "\n"
    → made ≡ accepted_line document need
accepted_made document domains items entries words need faults made d i e w f m =
    m
    ∙ ap line
    (twelve_pieces (codes "# accepted domains ") (decimal domains) (codes " items ") (decimal items) (codes " entries ") (decimal entries)
    (codes " words ") (decimal words) (codes " need ") (decimal need) (codes " faults ") (decimal faults))
    ∙ ap (λ (n : ℕ). counts_line n items entries words need faults) d
    ∙ ap (λ (n : ℕ). counts_line (length document.tree.domains) n entries words need faults) i
    ∙ ap (λ (n : ℕ). counts_line (length document.tree.domains) (item_count document.tree.domains) n words need faults) e
    ∙ ap (λ (n : ℕ). counts_line (length document.tree.domains) (item_count document.tree.domains) (entry_count document.tree.domains) n need faults) w
    ∙ ap (λ (n : ℕ). counts_line (length document.tree.domains) (item_count document.tree.domains) (entry_count document.tree.domains) (word_count document.regions) need n) f
