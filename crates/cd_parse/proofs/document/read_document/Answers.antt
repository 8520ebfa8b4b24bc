use Rattle.cd_parse.proofs.ParseLemmas.{parse_made, parse_refused}
use Rattle.cd_parse.proofs.SoundParsing.{drawn_is_tree}
use Rattle.cd_parse.proofs.document.read_document.Goals as goal

pub document-requires : goal.document-requires
document-requires c = drawn_is_tree c.args.bytes.now c.in-Ok.draft c.in-Ok.ensures

pub returns-in-Ok : goal.returns-in-Ok
returns-in-Ok c = rw c.document.ensures (parse_made c.args.bytes.now c.in-Ok.draft c.in-Ok.ensures)

pub returns-in-Err : goal.returns-in-Err
returns-in-Err c = parse_refused c.args.bytes.now c.in-Err.refuse c.in-Err.ensures
