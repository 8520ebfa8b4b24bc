use Rattle.cd_tree.proofs.SeesReads.{body_is_local, body_leaves, body_keeps}
use Rattle.cd_tree.proofs.laws.a_body_sees_what_it_reads_alone.Goals as goal

pub returns : goal.returns
returns c =
    record {
      written = body_is_local;
      others = body_leaves;
      agreement = λ body places v w (own, below) reads same. body_keeps body places v w own below reads same;
    }
