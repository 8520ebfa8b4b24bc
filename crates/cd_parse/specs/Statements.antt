-- Statements: an operation adds an item; every other by its keyword.
use Rattle.std.specs.Prelude.{ℕ, List, [], ◌∷◌, Result, Ok, Err, codes, if◌then◌else◌}
use Rattle.std.specs.Str.{bytes_eq}
use Rattle.cd_tree.specs.Limits.{items_limit}
use Rattle.cd_tree.specs.declared.domain.Item.TheVariants.{Run}
use Rattle.cd_tree.specs.declared.operation.Op.{Op}
use Rattle.cd_tree.specs.declared.refusal.Which.TheVariants.{Items}
use Rattle.cd_tokens.specs.declared.wrong.Wrong.{Wrong}
use Rattle.cd_tokens.specs.declared.wrong.Wrong.TheVariants.{Form, Unfit}
use Rattle.cd_tokens.specs.declared.sums.Variable.{Variable}
use Rattle.cd_tokens.specs.Wrongs.{both, guard, room, all_hold, ◌>>=◌}
use Rattle.cd_parse.specs.Draft.{DraftModel, takes_items, add_item, innermost}
use Rattle.cd_parse.specs.Operations.{op_in, fits}
use Rattle.cd_parse.specs.Heads.{cd_in, kind_in, region_statement, domain_in, preserve_in, group_in, end_in, faults_in, strike_in}

unfoldable pub with_op : DraftModel → Op → Result DraftModel Wrong
with_op draft op =
    all_hold (guard (fits op) Unfit ∷ room Items items_limit draft.items ∷ [])
    >>= λ _. Ok (add_item (innermost draft.levels) (Run op) draft)

-- an operation, in a domain's body; a name that no operation has is of no statement
unfoldable pub operation_in : List Variable → DraftModel → List ℕ → List (List ℕ) → Result DraftModel Wrong
operation_in variables draft keyword rest =
    both (guard (takes_items draft.levels) Form) (op_in variables draft.regions keyword rest) >>= λ p. with_op draft p.1

-- a statement by its keyword and the tokens after it
unfoldable pub statement : List Variable → DraftModel → List ℕ → List (List ℕ) → Result DraftModel Wrong
statement variables draft keyword rest =
    if bytes_eq keyword (codes "cd") then cd_in draft rest
    else (if bytes_eq keyword (codes "kind") then kind_in draft rest
    else (if bytes_eq keyword (codes "region") then region_statement variables draft rest
    else (if bytes_eq keyword (codes "domain") then domain_in variables draft rest
    else (if bytes_eq keyword (codes "preserve") then preserve_in variables draft rest
    else (if bytes_eq keyword (codes "group") then group_in draft rest
    else (if bytes_eq keyword (codes "end") then end_in draft rest
    else (if bytes_eq keyword (codes "faults") then faults_in draft rest
    else (if bytes_eq keyword (codes "strike") then strike_in variables draft rest
    else operation_in variables draft keyword rest))))))))

-- a statement of these tokens, which are not none
unfoldable pub statement_in : List Variable → List (List ℕ) → DraftModel → Result DraftModel Wrong
statement_in variables [] draft = Err Form
statement_in variables (keyword ∷ rest) draft = statement variables draft keyword rest
