use Rattle.cd_tokens.proofs.LineLemmas.{few_pieces}
use Rattle.cd_tokens.proofs.lines.tokens.Goals as goal

pub of-requires : goal.of-requires
of-requires c =
    few_pieces c.in_ok-pieces.pieces.items c.said-said.result.now c.args.line.now c.in_ok-pieces.ensures c.said-said.ensures.shorter c.requires
