use Rattle.send_window.proofs.Issued.{step_holds, session_holds}
use Rattle.send_window.proofs.laws.held_law.Goals as goal

pub returns : goal.returns
returns c = (step_holds, session_holds)
