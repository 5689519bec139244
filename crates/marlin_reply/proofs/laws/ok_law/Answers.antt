use Rattle.marlin_reply.proofs.Lines.{kind_of-ok, kind_of-temps_ok, kind_of-plain_ok, kind_of-numbered_ok}
use Rattle.marlin_reply.proofs.laws.ok_law.Goals as goal

pub returns-clause-alone : goal.returns-clause-alone
returns-clause-alone c = kind_of-ok

pub returns-clause-temps : goal.returns-clause-temps
returns-clause-temps c = kind_of-temps_ok

pub returns-clause-places : goal.returns-clause-places
returns-clause-places c = kind_of-plain_ok

pub returns-clause-number : goal.returns-clause-number
returns-clause-number c = kind_of-numbered_ok
