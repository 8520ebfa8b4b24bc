-- Parsing from a line on: a statement, a loop, the end of a block; and the turns of a loop.
use Rattle.std.proofs.Common.{◌≡◌, ℕ, suc, ◌+◌, ◌-◌, ◌<◌, ◌≤◌, List, ◌∷◌, length, drop, get_or, refl, sym, ap, ◌∙◌, subst, arith, drop-cons, add-one}
use Rattle.std.specs.Prelude.{Result, Ok}
use Rattle.std.proofs.lemmas.List.{drop_all}
use Rattle.cd_tree.specs.declared.refusal.Refusal.{Refusal}
use Rattle.cd_tree.specs.declared.refusal.Refuse.{Refuse}
use Rattle.cd_tree.specs.declared.refusal.Refuse.TheVariants as refuse
use Rattle.cd_tokens.specs.declared.lines.Role.{Role}
use Rattle.cd_tokens.specs.declared.lines.Role.TheVariants.{Says, Opens, Closes}
use Rattle.cd_tokens.specs.declared.lines.Line.{Line}
use Rattle.cd_tokens.specs.declared.sums.Variable.{Variable}
use Rattle.cd_tokens.specs.Wrongs.{◌>>=◌}
use Rattle.cd_tokens.specs.Steps.{Refuses}
use Rattle.cd_tokens.specs.Blocks.{Block, here, put, blocks}
use Rattle.cd_tokens.specs.Layouts.{Goes}
use Rattle.cd_parse.specs.Draft.{DraftModel}
use Rattle.cd_parse.specs.Parsing.{taken, looped, turns, read}
use Rattle.cd_parse.specs.Turns.{read_from, turn_from}

made : (step : Result DraftModel Refusal) (go : DraftModel → Result DraftModel Refusal) (next : DraftModel) → step ≡ Ok next → (step >>= go) ≡ go next
made step go next e = rw e refl

refused : (refuse : Refuse) (step : Result DraftModel Refusal) (go : DraftModel → Result DraftModel Refusal) → Refuses refuse step → Refuses refuse (step >>= go)
refused (refuse.Refused refusal) step go e = rw e refl
refused refuse.NoMemory step go e = tt

-- ---- lines

line_at : (ls : List Line) (at : ℕ) (line : Line) → at < length ls → line ≡ get_or ls at line → drop at ls ≡ line ∷ drop (at + 1) ls
line_at ls at line h e = rw (add-one, drop-cons ls at line) (ap (λ (x : Line). x ∷ drop (suc at) ls) (sym e))

put_as : (role : Role) (line : Line) (bs : List Block) → line.role ≡ role → put line.role line bs ≡ put role line bs
put_as role line bs e = ap (λ (r : Role). put r line bs) e

from_line : (ls : List Line) (at : ℕ) (line : Line) (role : Role) → at < length ls → line ≡ get_or ls at line → line.role ≡ role
    → blocks (drop at ls) ≡ put role line (blocks (drop (at + 1) ls))
from_line ls at line role h e r = ap blocks (line_at ls at line h e) ∙ put_as role line (blocks (drop (at + 1) ls)) r

pub from_says : (ls : List Line) (at : ℕ) (line : Line) (vs : List Variable) (d : DraftModel) → at < length ls → line ≡ get_or ls at line → line.role ≡ Says
    → read_from ls at vs d ≡ (taken vs line d >>= λ e. read_from ls (at + 1) vs e)
unfolding read
from_says ls at line vs d h e r = ap (λ (bs : List Block). read (here bs) vs d) (from_line ls at line Says h e r)

pub from_closes : (ls : List Line) (at : ℕ) (line : Line) (vs : List Variable) (d : DraftModel) → at < length ls → line ≡ get_or ls at line → line.role ≡ Closes
    → read_from ls at vs d ≡ Ok d
unfolding read
from_closes ls at line vs d h e r = ap (λ (bs : List Block). read (here bs) vs d) (from_line ls at line Closes h e r)

pub from_opens : (ls : List Line) (at next : ℕ) (line : Line) (vs : List Variable) (d : DraftModel) → at < length ls → line ≡ get_or ls at line → line.role ≡ Opens
    → Goes ls (at + 1) next
    → read_from ls at vs d ≡ (looped (read_from ls (at + 1)) vs line d >>= λ e. read_from ls next vs e)
unfolding read
from_opens ls at next line vs d h e r g =
    ap (λ (bs : List Block). read (here bs) vs d) (from_line ls at line Opens h e r)
    ∙ ap (λ (bs : List Block). looped (read_from ls (at + 1)) vs line d >>= λ e. read (here bs) vs e) g.around

pub from_end : (ls : List Line) (at : ℕ) (vs : List Variable) (d : DraftModel) → length ls ≤ at → read_from ls at vs d ≡ Ok d
unfolding read
from_end ls at vs d h = ap (λ (xs : List Line). read (here (blocks xs)) vs d) (drop_all at ls h)

-- what is left after a statement, and where it is refused
pub says_made : (ls : List Line) (at : ℕ) (line : Line) (vs us : List Variable) (d next : DraftModel) (whole : Result DraftModel Refusal)
    → at < length ls → line ≡ get_or ls at line → line.role ≡ Says → us ≡ vs
    → read_from ls at vs d ≡ whole → taken us line d ≡ Ok next → read_from ls (at + 1) vs next ≡ whole
says_made ls at line vs us d next whole h e r v f g =
    sym (made (taken vs line d) (λ e. read_from ls (at + 1) vs e) next (sym (ap (λ (xs : List Variable). taken xs line d) v) ∙ g))
    ∙ sym (from_says ls at line vs d h e r) ∙ f

pub says_refused : (ls : List Line) (at : ℕ) (line : Line) (vs us : List Variable) (d : DraftModel) (refuse : Refuse) (whole : Result DraftModel Refusal)
    → at < length ls → line ≡ get_or ls at line → line.role ≡ Says → us ≡ vs
    → read_from ls at vs d ≡ whole → Refuses refuse (taken us line d) → Refuses refuse whole
says_refused ls at line vs us d refuse whole h e r v f g =
    let k : Refuses refuse (taken vs line d) = subst (λ (xs : List Variable). Refuses refuse (taken xs line d)) v g in
    subst (Refuses refuse) (sym (from_says ls at line vs d h e r) ∙ f) (refused refuse (taken vs line d) (λ e. read_from ls (at + 1) vs e) k)

-- the same of a loop
pub opens_made : (ls : List Line) (at after : ℕ) (line : Line) (vs : List Variable) (d next : DraftModel) (whole : Result DraftModel Refusal)
    → at < length ls → line ≡ get_or ls at line → line.role ≡ Opens → Goes ls (at + 1) after
    → read_from ls at vs d ≡ whole → looped (read_from ls (at + 1)) vs line d ≡ Ok next → read_from ls after vs next ≡ whole
opens_made ls at after line vs d next whole h e r g f k =
    sym (made (looped (read_from ls (at + 1)) vs line d) (λ e. read_from ls after vs e) next k)
    ∙ sym (from_opens ls at after line vs d h e r g) ∙ f

pub opens_refused : (ls : List Line) (at after : ℕ) (line : Line) (vs : List Variable) (d : DraftModel) (refuse : Refuse) (whole : Result DraftModel Refusal)
    → at < length ls → line ≡ get_or ls at line → line.role ≡ Opens → Goes ls (at + 1) after
    → read_from ls at vs d ≡ whole → Refuses refuse (looped (read_from ls (at + 1)) vs line d) → Refuses refuse whole
opens_refused ls at after line vs d refuse whole h e r g f k =
    subst (Refuses refuse) (sym (from_opens ls at after line vs d h e r g) ∙ f)
    (refused refuse (looped (read_from ls (at + 1)) vs line d) (λ e. read_from ls after vs e) k)

-- ---- turns

pub no_turns : (body : List Variable → DraftModel → Result DraftModel Refusal) (vs : List Variable) (name : List ℕ) (low high : ℕ) (d : DraftModel)
    → high ≤ low → turns body vs name low (high - low) d ≡ Ok d
no_turns body vs name low high d h = let z : high - low ≡ 0 = omega arith in rw z refl

one_turn : (ls : List Line) (from : ℕ) (vs : List Variable) (name : List ℕ) (value high : ℕ) (d : DraftModel) → value < high
    → turns (read_from ls from) vs name value (high - value) d
    ≡ (turn_from ls from vs name value d >>= turns (read_from ls from) vs name (value + 1) (high - (value + 1)))
one_turn ls from vs name value high d h = let z : high - value ≡ suc (high - (value + 1)) = omega arith in rw z refl

pub turn_made : (ls : List Line) (from : ℕ) (vs : List Variable) (name : List ℕ) (value high : ℕ) (d next : DraftModel) (whole : Result DraftModel Refusal)
    → value < high → turns (read_from ls from) vs name value (high - value) d ≡ whole → turn_from ls from vs name value d ≡ Ok next
    → turns (read_from ls from) vs name (value + 1) (high - (value + 1)) next ≡ whole
turn_made ls from vs name value high d next whole h f g =
    sym (made (turn_from ls from vs name value d) (turns (read_from ls from) vs name (value + 1) (high - (value + 1))) next g)
    ∙ sym (one_turn ls from vs name value high d h) ∙ f

pub turn_refused : (ls : List Line) (from : ℕ) (vs : List Variable) (name : List ℕ) (value high : ℕ) (d : DraftModel) (refuse : Refuse) (whole : Result DraftModel Refusal)
    → value < high → turns (read_from ls from) vs name value (high - value) d ≡ whole → Refuses refuse (turn_from ls from vs name value d)
    → Refuses refuse whole
turn_refused ls from vs name value high d refuse whole h f g =
    subst (Refuses refuse) (sym (one_turn ls from vs name value high d h) ∙ f)
    (refused refuse (turn_from ls from vs name value d) (turns (read_from ls from) vs name (value + 1) (high - (value + 1))) g)
