-- Worked cases of whole texts, without loops: each is proved by computing both sides.
use Rattle.std.proofs.Common.{◌≡◌, [], ◌∷◌, refl}
use Rattle.std.specs.Fmt.{digits}
use Rattle.std.specs.Prelude.{Ok, Err, codes, map, None, Some}
use Rattle.cd_base.specs.declared.pattern.Pattern.TheVariants.{Const}
use Rattle.cd_tree.specs.declared.domain.Item.TheVariants.{Run, Group}
use Rattle.cd_tree.specs.declared.operation.Op.TheVariants.{Fill}
use Rattle.cd_tree.specs.declared.refusal.Refusal.TheVariants.{Line, UnknownRegion, OutsideRegion, NameTaken, Shape, Arithmetic}
use Rattle.cd_tokens.specs.Blocks.{marked_lines}
use Rattle.cd_tokens.specs.Sums.{atom, times, term, plus, expression, bounds}
use Rattle.cd_tokens.specs.Names.{name, path}
use Rattle.cd_tokens.specs.Kinds.{kind, kind_set, pattern}
use Rattle.cd_parse.specs.Ranges.{region_in, range_in, place_in}
use Rattle.cd_parse.specs.Operations.{two_ranges, fill_in, op_in}
use Rattle.cd_parse.specs.Heads.{cd_in, with_region, region_statement, with_domain, domain_in, with_entry_of, how_in, preserve_in, group_in, end_in, faults_in, time_in, damage_in, strike_in}
use Rattle.cd_parse.specs.Statements.{with_op, operation_in, statement, statement_in}
use Rattle.cd_parse.specs.Parsing.{taken, read, parse}
use Rattle.cd_parse.proofs.WorkedTexts.{part, copied, region, domain, number, strike, first_version, with_fifth, with_more, with_head}

-- a program of one domain
accepted : parse (with_fifth (codes "fill y 7")) ≡
    Ok (first_version (region (codes "y") 4 (Const 0) ∷ [])
    (domain (codes "root") None 2 1 (copied (part 0 0 4) ∷ []) (Run (Fill (part 0 0 4) 7) ∷ []) ∷ []) [])
unfolding parse read taken statement_in statement operation_in with_op cd_in region_statement with_region domain_in with_domain preserve_in how_in with_entry_of end_in op_in fill_in range_in region_in pattern kind_set kind name expression plus term times atom marked_lines
accepted = refl

-- the empty text, and a text without its last line
nothing : map parse ([] ∷ codes "cd 1\nregion y 4 const 0\ndomain root retry 2 detects flip\npreserve y copy\nfill y 7\n" ∷ []) ≡
    Err (Line 1) ∷ Err (Line 6) ∷ []
unfolding parse read marked_lines
nothing = refl

-- one line changed
fifth : map (λ line. parse (with_fifth line))
    (codes "fil y 7" ∷ codes "fill q 7" ∷ codes "fill y[4] 7" ∷ codes "copy y y[0..3]" ∷ codes "fill y 2-3" ∷ []) ≡
    Err (Line 5) ∷ Err (UnknownRegion 5) ∷ Err (OutsideRegion 5) ∷ Err (Shape 5) ∷ Err (Arithmetic 5) ∷ []
unfolding parse read taken statement_in statement operation_in with_op cd_in region_statement with_region domain_in with_domain preserve_in how_in with_entry_of end_in op_in fill_in two_ranges range_in region_in pattern kind_set kind name expression plus term times atom marked_lines bounds
fifth = refl

-- a region's name is taken
second_region : parse (with_head (codes "cd 1\nregion y 4 const 0\nregion y 1 const 0")) ≡ Err (NameTaken 3)
unfolding parse read taken statement_in statement cd_in region_statement with_region pattern name expression plus term times atom marked_lines
second_region = refl

-- strikes: their paths are not looked for, and all of their form comes before what leaves the range
strikes : map (λ more. parse (with_more more))
    (codes "faults\nstrike root 1-2 1 nokind y[0] 1" ∷ codes "faults\nstrike root 1-2 1 flip q[0] 1"
    ∷ codes "faults\nstrike root 1 1 flip y[4] 1" ∷ codes "strike root 1 1 flip y[0] 1" ∷ codes "faults\nfaults" ∷ codes "region z 1 const 0" ∷ []) ≡
    Err (Line 8) ∷ Err (Arithmetic 8) ∷ Err (OutsideRegion 8) ∷ Err (Line 7) ∷ Err (Line 8) ∷ Err (Line 7) ∷ []
unfolding parse read taken statement_in statement operation_in with_op cd_in region_statement with_region domain_in with_domain preserve_in how_in with_entry_of end_in faults_in strike_in time_in damage_in op_in fill_in range_in place_in region_in pattern kind_set kind name path expression plus term times atom marked_lines
strikes = refl

struck : parse (with_more (codes "faults\nstrike root/a:1+1/b 5 9 node y[3] 255\n")) ≡
    Ok (first_version (region (codes "y") 4 (Const 0) ∷ [])
    (domain (codes "root") None 2 1 (copied (part 0 0 4) ∷ []) (Run (Fill (part 0 0 4) 7) ∷ []) ∷ [])
    (strike (codes "root/a2/b") 5 9 3 0 3 255 ∷ []))
unfolding digits parse read taken statement_in statement operation_in with_op cd_in region_statement with_region domain_in with_domain preserve_in how_in with_entry_of end_in faults_in strike_in time_in damage_in op_in fill_in range_in place_in region_in pattern kind_set kind name path expression plus term times atom marked_lines
struck = refl

-- a domain alone is a group of one; the members of a group are its domains, and it has one at least
grouped : parse (with_fifth (codes "domain a retry 1 detects none\nend\ngroup\ndomain b retry 1 detects none\nend\ndomain c retry 1 detects none\nend\nend")) ≡
    Ok (first_version (region (codes "y") 4 (Const 0) ∷ [])
    (domain (codes "root") None 2 1 (copied (part 0 0 4) ∷ []) (Group (number 1 ∷ []) ∷ Group (number 2 ∷ number 3 ∷ []) ∷ [])
    ∷ domain (codes "a") (Some (number 0)) 1 0 [] [] ∷ domain (codes "b") (Some (number 0)) 1 0 [] []
    ∷ domain (codes "c") (Some (number 0)) 1 0 [] [] ∷ []) [])
unfolding parse read taken statement_in statement operation_in with_op cd_in region_statement with_region domain_in with_domain preserve_in how_in with_entry_of group_in end_in op_in range_in region_in pattern kind_set kind name expression plus term times atom marked_lines
grouped = refl

-- an empty group is refused at its end; items and entries stand in no group; entries stand before the first item
misplaced : map (λ lines. parse (with_fifth lines))
    (codes "group\nend" ∷ codes "group\nfill y 7\nend" ∷ codes "group\npreserve y copy\nend" ∷ codes "fill y 7\npreserve y copy"
    ∷ codes "fill y 18446744073709551616\nend\nfill z" ∷ codes "domain a retry 1 detects none\nend\ndomain a retry 1 detects none\nend" ∷ []) ≡
    Err (Line 6) ∷ Err (Line 6) ∷ Err (Line 6) ∷ Err (Line 6) ∷ Err (Line 8) ∷ Err (NameTaken 7) ∷ []
unfolding parse read taken statement_in statement operation_in with_op cd_in region_statement with_region domain_in with_domain preserve_in how_in with_entry_of group_in end_in op_in fill_in range_in region_in pattern kind_set kind name expression plus term times atom marked_lines
misplaced = refl
