use Rattle.marlin_frame.proofs.PartLaws.{begins_with_n-fails, length-text_of}
use Rattle.marlin_frame.proofs.laws.line_law.Goals as goal

pub returns : goal.returns
returns c = record { failing = begins_with_n-fails; command = length-text_of }
