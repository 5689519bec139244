use Rattle.marlin_reply.proofs.Lines.{kind_of-resend, kind_of-error, kind_of-start}
use Rattle.marlin_reply.proofs.laws.request_law.Goals as goal

pub returns-clause-resend : goal.returns-clause-resend
returns-clause-resend c = kind_of-resend

pub returns-clause-error : goal.returns-clause-error
returns-clause-error c = kind_of-error

pub returns-clause-start : goal.returns-clause-start
returns-clause-start c = kind_of-start
