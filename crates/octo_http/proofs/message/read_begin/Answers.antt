use Rattle.octo_http.proofs.MessageLemmas.{head_stopped, head_patient, begins, has_waited, patience_is, failed_with}
use Rattle.octo_http.proofs.message.read_begin.Goals as goal

pub returns-in_err-head-clause-stopped : goal.returns-in_err-head-clause-stopped
returns-in_err-head-clause-stopped g c =
    head_stopped c.args.patience c.new-intake.result _ _ _ c.in_err-head.field-0.0 c.new-intake.ensures c.in_err-head.ensures.stops c.from_residual.ensures.1

pub returns-in_err-head-clause-patient : goal.returns-in_err-head-clause-patient
returns-in_err-head-clause-patient g c =
    head_patient c.args.patience c.new-intake.result _ _ _ _ _ _ _ c.in_err-head.field-0.0 c.new-intake.ensures c.in_err-head.ensures.waits c.in_err-head.ensures.caused c.from_residual.ensures.1

pub returns-in_err-head-clause-counts : goal.returns-in_err-head-clause-counts
returns-in_err-head-clause-counts g c = record {
  later = c.in_err-head.ensures.waits.kept;
  rose = failed_with c.read_head.new.intake _ _ _ c.in_err-head.field-0.0 c.in_err-head.ensures.caused c.from_residual.ensures.1;
}

pub returns-clause-begun : goal.returns-clause-begun
returns-clause-begun g c = begins c.args.patience c.new-intake.result c.read_head.new.intake _ _ c.in_ok-head.head c.new-intake.ensures c.in_ok-head.ensures.head

pub returns-clause-patience : goal.returns-clause-patience
returns-clause-patience g c = patience_is c.args.patience c.new-intake.result c.read_head.new.intake _ _ _ _ c.new-intake.ensures c.in_ok-head.ensures.waits

pub returns-clause-waited : goal.returns-clause-waited
returns-clause-waited g c = has_waited c.args.patience c.new-intake.result c.read_head.new.intake c.in_ok-head.head _ _ _ _ c.new-intake.ensures c.in_ok-head.ensures.waits
