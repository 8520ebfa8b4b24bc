use Rattle.cd_cover.proofs.Frames.{frames_go_up, frames_end}
use Rattle.cd_cover.proofs.laws.frames_go_up.Goals as goal

pub returns : goal.returns
returns c = record { up = frames_go_up; end = frames_end }
