-- Worked cases of texts with loops: each is proved by computing both sides.
use Rattle.std.proofs.Common.{◌≡◌, [], ◌∷◌, refl}
use Rattle.std.specs.Fmt.{digits}
use Rattle.std.specs.Prelude.{Ok, Err, codes, map, None, Some}
use Rattle.cd_base.specs.declared.pattern.Pattern.TheVariants.{Const}
use Rattle.cd_tree.specs.declared.domain.Item.TheVariants.{Run, Group}
use Rattle.cd_tree.specs.declared.operation.Op.TheVariants.{Fill}
use Rattle.cd_tree.specs.declared.refusal.Refusal.TheVariants.{Line}
use Rattle.cd_tokens.specs.Blocks.{marked_lines}
use Rattle.cd_tokens.specs.Sums.{atom, times, term, plus, expression, bounds}
use Rattle.cd_tokens.specs.Names.{name}
use Rattle.cd_tokens.specs.Kinds.{kind, kind_set, pattern}
use Rattle.cd_parse.specs.Ranges.{region_in, range_in}
use Rattle.cd_parse.specs.Operations.{fill_in, op_in}
use Rattle.cd_parse.specs.Heads.{cd_in, with_region, region_statement, with_domain, domain_in, with_entry_of, how_in, preserve_in, group_in, end_in}
use Rattle.cd_parse.specs.Statements.{with_op, operation_in, statement, statement_in}
use Rattle.cd_parse.specs.Parsing.{taken, loop_in, looped, read, parse}
use Rattle.cd_parse.proofs.WorkedTexts.{part, copied, region, domain, number, first_version, with_fifth}

-- loops inside each other, with names and ranges that are computed
nested : parse (with_fifth (codes "group\nfor a in 0..2\nfor b in a..2\ndomain d:2*a+b retry b+1 detects none\nfill y[a+b] b\nend\nend\nend\nend")) ≡
    Ok (first_version (region (codes "y") 4 (Const 0) ∷ [])
    (domain (codes "root") None 2 1 (copied (part 0 0 4) ∷ []) (Group (number 1 ∷ number 2 ∷ number 3 ∷ []) ∷ [])
    ∷ domain (codes "d0") (Some (number 0)) 1 0 [] (Run (Fill (part 0 0 1) 0) ∷ [])
    ∷ domain (codes "d1") (Some (number 0)) 2 0 [] (Run (Fill (part 0 1 2) 1) ∷ [])
    ∷ domain (codes "d3") (Some (number 0)) 2 0 [] (Run (Fill (part 0 2 3) 1) ∷ []) ∷ []) [])
unfolding digits parse read taken loop_in looped statement_in statement operation_in with_op cd_in region_statement with_region domain_in with_domain preserve_in how_in with_entry_of group_in end_in op_in fill_in range_in region_in pattern kind_set kind name bounds expression plus term times atom marked_lines
nested = refl

-- a loop without turns stands for nothing: its lines are not looked at, and a group of such has no member
no_turn : map (λ lines. parse (with_fifth lines))
    (codes "for a in 3..2\nno statement\nfor\nend\nend\nfil" ∷ codes "group\nfor a in 0..0\ndomain a retry 1 detects none\nend\nend\nend" ∷ []) ≡
    Err (Line 10) ∷ Err (Line 10) ∷ []
unfolding digits parse read taken loop_in looped statement_in statement operation_in with_op cd_in region_statement with_region domain_in with_domain preserve_in how_in with_entry_of group_in end_in op_in fill_in range_in region_in pattern kind_set kind name bounds expression plus term times atom marked_lines
no_turn = refl
