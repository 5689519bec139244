use Rattle.std.proofs.Common.{◌∙◌}
use Rattle.marlin_frame.proofs.PartLaws.{starts_with_n}
use Rattle.marlin_frame.proofs.parts.begins_with_n.Goals as goal

pub returns : goal.returns
returns c = c.starts_with.ensures.value ∙ starts_with_n c.args.line.now
