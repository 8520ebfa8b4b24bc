-- What every statement keeps of a draft, parsing keeps: the draft that a document is of has it.
use Rattle.std.proofs.Common.{◌≡◌, ℕ, zero, suc, ◌+◌, ◌-◌, nat_lt, true, List, [], ◌∷◌, ◌++◌, Result, Ok, length, subst}
use Rattle.cd_tree.specs.declared.document.Document.{Document}
use Rattle.cd_tree.specs.declared.refusal.Refusal.{Refusal}
use Rattle.cd_tree.specs.declared.refusal.Refusal.TheVariants as refusal
use Rattle.cd_tree.specs.declared.refusal.Which.TheVariants.{Lines}
use Rattle.cd_tokens.specs.declared.lines.Line.{Line}
use Rattle.cd_tokens.specs.declared.sums.Variable.{Variable}
use Rattle.cd_tokens.specs.Wrongs.{at_line, ◌>>=◌}
use Rattle.cd_tokens.specs.Lines.{lines}
use Rattle.cd_tokens.specs.Blocks.{marked_lines, Block, stop, says, repeats, here, blocks}
use Rattle.cd_parse.specs.Draft.{DraftModel, no_draft, may_end, document_of}
use Rattle.cd_parse.specs.Statements.{statement_in}
use Rattle.cd_parse.specs.Parsing.{counted, taken, Loop, loop_in, variable_of, turns, all_turns, looped, read, ended, draft_of, parse}
use Rattle.cd_parse.proofs.SoundGuards.{Bound, bound, same_ok, if_else_err, at_line_ok}

-- a property of drafts that a count and every statement keep
pub record IsKept (P : DraftModel → Type 0) : Type 0 where
  pub count : (draft : DraftModel) (number : ℕ) → P draft → P (record draft { lines = number })
  pub statement : (variables : List Variable) (tokens : List (List ℕ)) (draft next : DraftModel) → P draft
      → statement_in variables tokens draft ≡ Ok next → P next

pub counted_keeps : (P : DraftModel → Type 0) → IsKept P → (draft next : DraftModel) → P draft → counted draft ≡ Ok next → P next
counted_keeps P kept draft next holds is =
    let made : DraftModel = record draft { lines = draft.lines + 1 } in
    let parts = if_else_err DraftModel Refusal (nat_lt draft.lines 65536) (Ok made) (refusal.Limit Lines 65537) next is in
    subst P (same_ok DraftModel Refusal made next parts.1) (kept.count draft (draft.lines + 1) holds)

pub taken_keeps : (P : DraftModel → Type 0) → IsKept P → (variables : List Variable) (line : Line) (draft next : DraftModel) → P draft
    → taken variables line draft ≡ Ok next → P next
unfolding taken
taken_keeps P kept variables line draft next holds is =
    let step : DraftModel → Result DraftModel Refusal = λ from. at_line line.number (statement_in variables line.tokens from) in
    let parts : Bound DraftModel DraftModel Refusal (counted draft) step next = bound DraftModel DraftModel Refusal (counted draft) step next is in
    kept.statement variables line.tokens parts.value next (counted_keeps P kept draft parts.value holds parts.is)
    (at_line_ok DraftModel line.number (statement_in variables line.tokens parts.value) next parts.next)

-- what each turn of a loop does keeps the property
abbrev pub Keeps : (DraftModel → Type 0) → (List Variable → DraftModel → Result DraftModel Refusal) → Type 0
Keeps P body = (variables : List Variable) (draft next : DraftModel) → P draft → body variables draft ≡ Ok next → P next

turns_keep : (P : DraftModel → Type 0) → IsKept P → (body : List Variable → DraftModel → Result DraftModel Refusal) → Keeps P body → (variables : List Variable)
    (name : List ℕ) (value more : ℕ) (draft next : DraftModel) → P draft → turns body variables name value more draft ≡ Ok next → P next
turns_keep P kept body keeps variables name value zero draft next holds is = subst P (same_ok DraftModel Refusal draft next is) holds
turns_keep P kept body keeps variables name value (suc more) draft next holds is =
    let turn : DraftModel → Result DraftModel Refusal = body (variables ++ variable_of name value ∷ []) in
    let rest : DraftModel → Result DraftModel Refusal = turns body variables name (value + 1) more in
    let parts : Bound DraftModel DraftModel Refusal (counted draft >>= turn) rest next = bound DraftModel DraftModel Refusal (counted draft >>= turn) rest next is in
    let first : Bound DraftModel DraftModel Refusal (counted draft) turn parts.value = bound DraftModel DraftModel Refusal (counted draft) turn parts.value parts.is in
    turns_keep P kept body keeps variables name (value + 1) more parts.value next
    (keeps (variables ++ variable_of name value ∷ []) first.value parts.value (counted_keeps P kept draft first.value holds first.is) first.next) parts.next

pub looped_keeps : (P : DraftModel → Type 0) → IsKept P → (body : List Variable → DraftModel → Result DraftModel Refusal) → Keeps P body → (variables : List Variable)
    (line : Line) (draft next : DraftModel) → P draft → looped body variables line draft ≡ Ok next → P next
unfolding looped
looped_keeps P kept body keeps variables line draft next holds is =
    let loop : Bound Loop DraftModel Refusal (at_line line.number (loop_in variables line.tokens)) (λ loop. all_turns body variables loop draft) next =
    bound Loop DraftModel Refusal (at_line line.number (loop_in variables line.tokens)) (λ loop. all_turns body variables loop draft) next is in
    turns_keep P kept body keeps variables loop.value.variable loop.value.low (loop.value.high - loop.value.low) draft next holds loop.next

pub read_keeps : (P : DraftModel → Type 0) → IsKept P → (block : Block) (variables : List Variable) (draft next : DraftModel) → P draft
    → read block variables draft ≡ Ok next → P next
unfolding read
read_keeps P kept stop variables draft next holds is = subst P (same_ok DraftModel Refusal draft next is) holds
read_keeps P kept (says line rest) variables draft next holds is =
    let parts : Bound DraftModel DraftModel Refusal (taken variables line draft) (λ from. read rest variables from) next =
    bound DraftModel DraftModel Refusal (taken variables line draft) (λ from. read rest variables from) next is in
    read_keeps P kept rest variables parts.value next (taken_keeps P kept variables line draft parts.value holds parts.is) parts.next
read_keeps P kept (repeats line body rest) variables draft next holds is =
    let parts : Bound DraftModel DraftModel Refusal (looped (read body) variables line draft) (λ from. read rest variables from) next =
    bound DraftModel DraftModel Refusal (looped (read body) variables line draft) (λ from. read rest variables from) next is in
    read_keeps P kept rest variables parts.value next
    (looped_keeps P kept (read body) (read_keeps P kept body) variables line draft parts.value holds parts.is) parts.next

-- what a text has said at its end has the property, and may end there
pub drawn_keeps : (P : DraftModel → Type 0) → IsKept P → P no_draft → (bytes : List ℕ) (draft : DraftModel) → draft_of bytes ≡ Ok draft
    → P draft × (may_end draft.stage ≡ true)
drawn_keeps P kept holds bytes draft is =
    let end : DraftModel → Result DraftModel Refusal = ended (length (lines bytes) + 1) in
    let step : List Line → Result DraftModel Refusal = λ ls. read (here (blocks ls)) [] no_draft >>= end in
    let marked : Bound (List Line) DraftModel Refusal (marked_lines bytes) step draft =
    bound (List Line) DraftModel Refusal (marked_lines bytes) step draft is in
    let block : Block = here (blocks marked.value) in
    let parts : Bound DraftModel DraftModel Refusal (read block [] no_draft) end draft =
    bound DraftModel DraftModel Refusal (read block [] no_draft) end draft marked.next in
    let done = if_else_err DraftModel Refusal (may_end parts.value.stage) (Ok parts.value) (refusal.Line (length (lines bytes) + 1)) draft parts.next in
    subst (λ (d : DraftModel). P d × (may_end d.stage ≡ true)) (same_ok DraftModel Refusal parts.value draft done.1)
    (read_keeps P kept block [] no_draft parts.value holds parts.is, done.0)

-- the draft that a document is of, at its end
pub record Draws (P : DraftModel → Type 0) (document : Document) : Type 0 where
  pub draft : DraftModel
  pub holds : P draft
  pub ends : may_end draft.stage ≡ true
  pub is : document_of draft ≡ document

pub parsed_draws : (P : DraftModel → Type 0) → IsKept P → P no_draft → (bytes : List ℕ) (document : Document) → parse bytes ≡ Ok document → Draws P document
unfolding parse
parsed_draws P kept holds bytes document is =
    let whole : Bound DraftModel Document Refusal (draft_of bytes) (λ draft. Ok (document_of draft)) document =
    bound DraftModel Document Refusal (draft_of bytes) (λ draft. Ok (document_of draft)) document is in
    let kept_at_end = drawn_keeps P kept holds bytes whole.value whole.is in
    record {
      draft = whole.value;
      holds = kept_at_end.0;
      ends = kept_at_end.1;
      is = same_ok Document Refusal (document_of whole.value) document whole.next;
    }
