use Rattle.gcode_lines.proofs.Sendable.{sendable_text}
use Rattle.gcode_lines.proofs.laws.line_law.Goals as goal

pub returns : goal.returns
returns c = sendable_text
