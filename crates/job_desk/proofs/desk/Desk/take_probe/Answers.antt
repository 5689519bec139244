use Rattle.job_desk.proofs.Lists.{probe_sendable}
use Rattle.job_desk.proofs.desk.Desk.take_probe.Goals as goal

pub returns-clause-sendable : goal.returns-clause-sendable
returns-clause-sendable c = rw c.bounded_text.ensures probe_sendable
