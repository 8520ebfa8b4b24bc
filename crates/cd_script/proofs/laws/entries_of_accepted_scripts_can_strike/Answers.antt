use Rattle.std.proofs.lemmas.List.Elements.{All-contains}
use Rattle.cd_tree.specs.Scripts.{CanStrike}
use Rattle.cd_script.proofs.Striking.{strikes_there}
use Rattle.cd_script.proofs.laws.entries_of_accepted_scripts_can_strike.Goals as goal

pub returns : goal.returns
returns c =
    λ tree faults accepted fault inside.
    strikes_there tree fault (All-contains (CanStrike tree) faults fault accepted.strikes inside)
