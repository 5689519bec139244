use Rattle.gcode_lines.proofs.SingleLaw.{single_is_job}
use Rattle.gcode_lines.proofs.laws.single_law.Goals as goal

pub returns : goal.returns
returns c = single_is_job
