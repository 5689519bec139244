use Rattle.std.proofs.Common.{List, ◌++◌, subst}
use Rattle.job_desk.specs.declared.issued.Issued.{Issued}
use Rattle.octo_log.specs.Logged.{Logs}
use Rattle.octo_log.proofs.Logs.{logs_then}
use Rattle.octo_log_history.specs.Story.{fact_line, issued_line}
use Rattle.octo_log_history.proofs.lines.log_note.Goals as goal

pub returns : goal.returns
returns g c =
    let found = fact_line c.args.note.now.fact in
    subst (λ (lines : List Issued). Logs (issued_line lines ++ found) (g.G.Sink.written c.args.log.now) (g.G.Sink.written c.log_fact.new.log)
    (g.G.Sink.faults c.args.log.now) (g.G.Sink.faults c.log_fact.new.log)) c.as_slice.ensures.value
    (logs_then (issued_line c.as_slice.result.now) found _ _ _ _ _ _ c.log_issued.ensures c.log_fact.ensures)
