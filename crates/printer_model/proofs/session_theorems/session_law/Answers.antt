use Rattle.printer_model.proofs.Sessions.{executed-append, executed-more}
use Rattle.printer_model.proofs.Starts.{executed-before, executed-from, session_of-last, opens-free, runs-free}
use Rattle.printer_model.proofs.session_theorems.session_law.Goals as goal

pub returns-clause-over : goal.returns-clause-over
returns-clause-over c = executed-append

pub returns-clause-grows : goal.returns-clause-grows
returns-clause-grows c = executed-more

pub returns-clause-before : goal.returns-clause-before
returns-clause-before c = executed-before

pub returns-clause-begun : goal.returns-clause-begun
returns-clause-begun c = executed-from

pub returns-clause-events : goal.returns-clause-events
returns-clause-events c = session_of-last

pub returns-clause-free : goal.returns-clause-free
returns-clause-free c = opens-free

pub returns-clause-runs : goal.returns-clause-runs
returns-clause-runs c = runs-free
