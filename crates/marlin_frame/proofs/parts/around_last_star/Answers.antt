use Rattle.std.proofs.Common.{sym}
use Rattle.byte_text.proofs.MarkLaws.{before_last_none, after_last_none}
use Rattle.marlin_frame.proofs.parts.around_last_star.Goals as goal

pub returns-in-None-clause-before : goal.returns-in-None-clause-before
returns-in-None-clause-before c = sym (before_last_none 42 c.args.line.now c.in-None.ensures.none)

pub returns-in-None-clause-after : goal.returns-in-None-clause-after
returns-in-None-clause-after c = sym (after_last_none 42 c.args.line.now c.in-None.ensures.none)
