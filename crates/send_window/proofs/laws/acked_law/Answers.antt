use Rattle.send_window.proofs.Rising.{acked_rises}
use Rattle.send_window.proofs.laws.acked_law.Goals as goal

pub returns : goal.returns
returns c = acked_rises
