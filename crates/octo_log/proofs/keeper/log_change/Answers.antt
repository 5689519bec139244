use Rattle.std.proofs.Common.{Some}
use Rattle.octo_log.specs.Lines.{begin_line, end_line}
use Rattle.octo_log.proofs.Logs.{logs_then}
use Rattle.octo_log.proofs.keeper.log_change.Goals as goal

pub returns-in-Begin : goal.returns-in-Begin
returns-in-Begin g c =
    rw c.in-Begin.is (logs_then (end_line c.args.began c.args.moment c.in-Begin.ended) (begin_line (Some c.in-Begin.print)) _ _ _ _ _ _ c.log_end.ensures c.log_begin.ensures)
