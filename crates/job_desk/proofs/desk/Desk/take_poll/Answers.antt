use Rattle.job_desk.proofs.Lists.{poll_sendable}
use Rattle.job_desk.proofs.desk.Desk.take_poll.Goals as goal

pub returns-clause-sendable : goal.returns-clause-sendable
returns-clause-sendable c = rw c.bounded_text.ensures poll_sendable
