use Rattle.std.proofs.Common.{rules}
use Rattle.std.proofs.lemmas.List.{append_assoc}
use Rattle.std.proofs.lemmas.Result.{IfOk-equal}
use Rattle.gcode_measure.specs.Rest.{position_command}
use Rattle.gcode_measure.proofs.remainder.put_positions.Goals as goal

pub returns : goal.returns
unfolding position_command
returns c = search (rules, IfOk-equal, append_assoc)
