use Rattle.printer_model.proofs.Laws.{apply-down, apply-log, apply-printer, apply-up, run-accepted, world_from-Grew, world_from-IsSameKind, world_from-linked, world_of-tidy}
use Rattle.printer_model.proofs.theorems.world_law.Goals as goal

pub returns-clause-log : goal.returns-clause-log
returns-clause-log c = apply-log

pub returns-clause-log_grows : goal.returns-clause-log_grows
returns-clause-log_grows c = world_from-Grew

pub returns-clause-accepted : goal.returns-clause-accepted
returns-clause-accepted c = run-accepted

pub returns-clause-printer : goal.returns-clause-printer
returns-clause-printer c = apply-printer

pub returns-clause-same_kind : goal.returns-clause-same_kind
returns-clause-same_kind c = world_from-IsSameKind

pub returns-clause-up : goal.returns-clause-up
returns-clause-up c = apply-up

pub returns-clause-down : goal.returns-clause-down
returns-clause-down c = apply-down

pub returns-clause-linked : goal.returns-clause-linked
returns-clause-linked c = world_from-linked

pub returns-clause-tidy : goal.returns-clause-tidy
returns-clause-tidy c = world_of-tidy
