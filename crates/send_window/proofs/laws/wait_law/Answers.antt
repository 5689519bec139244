use Rattle.send_window.proofs.Waiting.{waits_five_limits}
use Rattle.send_window.proofs.laws.wait_law.Goals as goal

pub returns : goal.returns
returns c = waits_five_limits
