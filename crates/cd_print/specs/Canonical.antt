-- The canonical text of a document: its statements as lists of tokens, one line for each.
use Rattle.std.specs.Prelude.{ℕ, ◌==◌, List, [], ◌∷◌, ◌++◌, map, if◌then◌else◌, codes, decimal}
use Rattle.std.specs.List.{flat_map}
use Rattle.cd_base.specs.declared.place.Range.{Range}
use Rattle.cd_base.specs.declared.pattern.Pattern.{Pattern}
use Rattle.cd_base.specs.declared.pattern.Pattern.TheVariants.{Const, Iota, Mix}
use Rattle.cd_tree.specs.declared.document.Region.{Region}
use Rattle.cd_tree.specs.declared.document.RawFault.{RawFault}
use Rattle.cd_tree.specs.declared.document.Document.{Document}
use Rattle.cd_tree.specs.declared.domain.Domain.{Domain}
use Rattle.cd_tree.specs.declared.domain.Entry.{Entry}
use Rattle.cd_tree.specs.declared.domain.How.{How}
use Rattle.cd_tree.specs.declared.domain.How.TheVariants as how
use Rattle.cd_tree.specs.declared.kinds.KindName.{KindName}
use Rattle.cd_tree.specs.declared.operation.Op.{Op}
use Rattle.cd_tokens.specs.Written.{region_token, place_token, kind_token, kinds_token}
use Rattle.cd_parse.specs.declared.signature.Operand.{Operand}
use Rattle.cd_parse.specs.declared.signature.Operand.TheVariants as operand
use Rattle.cd_parse.specs.Signatures.{op_text, name_of, operands}
use Rattle.cd_tree.specs.Domains.{Node, node, Body, stop, run, group, Members, no_more, member, root_of}

-- ---- the text of statements

-- the tokens of a line
abbrev pub Statement : Type 0
Statement = List (List ℕ)

-- what follows the first token of a line: a space before each further one, and a line feed
abbrev pub line_end : Statement → List ℕ
line_end [] = codes "\n"
line_end (token ∷ tokens) = 32 ∷ (token ++ line_end tokens)

-- a statement's line: its tokens with a space between each two, and a line feed
abbrev pub line : Statement → List ℕ
line [] = codes "\n"
line (token ∷ tokens) = token ++ line_end tokens

abbrev pub lines : List Statement → List ℕ
lines statements = flat_map line statements

-- ---- tokens

-- NAME[LOW..HIGH]
abbrev pub range_token : List Region → Range → List ℕ
range_token regions range =
    region_token regions range.region
    ++ (codes "[" ++ (decimal range.low ++ (codes ".." ++ (decimal range.high ++ codes "]"))))

-- ---- statements

-- const E, iota E E, mix E
abbrev pub pattern_tokens : Pattern → Statement
pattern_tokens (Const word) = codes "const" ∷ decimal word ∷ []
pattern_tokens (Iota first step) = codes "iota" ∷ decimal first ∷ decimal step ∷ []
pattern_tokens (Mix seed) = codes "mix" ∷ decimal seed ∷ []

-- kind NAME, kind NAME halt
abbrev pub kind_statement : KindName → Statement
kind_statement kind = codes "kind" ∷ kind.name ∷ (if kind.halts then codes "halt" ∷ [] else [])

-- region NAME E PATTERN
abbrev pub region_statement : Region → Statement
region_statement region = codes "region" ∷ region.name ∷ decimal region.length ∷ pattern_tokens region.pattern

-- domain NAME retry E detects KINDS
abbrev pub domain_statement : List KindName → Domain → Statement
domain_statement kinds domain =
    codes "domain" ∷ domain.name ∷ codes "retry" ∷ decimal domain.retry ∷ codes "detects" ∷ kinds_token kinds domain.detects ∷ []

-- copy, refer, regen PATTERN
abbrev pub how_tokens : How → Statement
how_tokens how.Copy = codes "copy" ∷ []
how_tokens how.Refer = codes "refer" ∷ []
how_tokens (how.Regen pattern) = codes "regen" ∷ pattern_tokens pattern

-- preserve RANGE HOW
abbrev pub entry_statement : List Region → Entry → Statement
entry_statement regions entry = codes "preserve" ∷ range_token regions entry.range ∷ how_tokens entry.how

abbrev pub operand_token : List Region → Operand → List ℕ
operand_token regions (operand.Range range) = range_token regions range
operand_token regions (operand.Number number) = decimal number

-- an operation: its name, and its operands in order
abbrev pub op_statement : List Region → Op → Statement
op_statement regions op = op_text (name_of op) ∷ map (operand_token regions) (operands op)

-- strike PATH E E KIND PLACE E
abbrev pub strike_statement : List Region → List KindName → RawFault → Statement
strike_statement regions kinds fault =
    codes "strike" ∷ fault.path ∷ decimal fault.begin ∷ decimal fault.item ∷ kind_token kinds fault.kind
    ∷ place_token regions fault.place ∷ decimal fault.mask ∷ []

abbrev pub end_statement : Statement
end_statement = codes "end" ∷ []

-- ---- a program

-- a group of one member is a plain domain, any other stands between `group` and `end`
abbrev pub grouped : Members → List Statement → List Statement
grouped (member only no_more) statements = statements
grouped _ statements = (codes "group" ∷ []) ∷ statements ++ end_statement ∷ []

abbrev mutual
  -- a domain: its head, its entries, its items, and its end
  pub node_statements : List Region → List KindName → Node → List Statement
  node_statements regions kinds (node id domain body) =
      domain_statement kinds domain
      ∷ map (entry_statement regions) domain.entries ++ (body_statements regions kinds body ++ end_statement ∷ [])

  pub body_statements : List Region → List KindName → Body → List Statement
  body_statements regions kinds stop = []
  body_statements regions kinds (run op rest) = op_statement regions op ∷ body_statements regions kinds rest
  body_statements regions kinds (group members rest) =
      grouped members (member_statements regions kinds members) ++ body_statements regions kinds rest

  pub member_statements : List Region → List KindName → Members → List Statement
  member_statements regions kinds no_more = []
  member_statements regions kinds (member first rest) =
      node_statements regions kinds first ++ member_statements regions kinds rest

-- ---- a document

-- version 1 has its four kinds without naming them
abbrev pub kind_statements : ℕ → List KindName → List Statement
kind_statements version kinds = if version == 1 then [] else map kind_statement kinds

-- `faults` and the strikes, where there is a strike
abbrev pub fault_statements : List Region → List KindName → List RawFault → List Statement
fault_statements regions kinds [] = []
fault_statements regions kinds (fault ∷ faults) =
    (codes "faults" ∷ []) ∷ map (strike_statement regions kinds) (fault ∷ faults)

-- the statements of a document: its version, its kinds in version 2, its regions, its program, its strikes
abbrev pub statements : Document → List Statement
statements document =
    (codes "cd" ∷ decimal document.version ∷ [])
    ∷ kind_statements document.version document.tree.kinds
    ++ (map region_statement document.regions
    ++ (node_statements document.regions document.tree.kinds (root_of document.tree.domains)
    ++ fault_statements document.regions document.tree.kinds document.faults))

-- the text that a document is written as
abbrev pub canonical : Document → List ℕ
canonical document = lines (statements document)

-- a document in version 2 of the language, all else the same
abbrev pub lifted : Document → Document
lifted document = record document { version = 2 }
