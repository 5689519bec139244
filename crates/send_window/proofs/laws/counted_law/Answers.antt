use Rattle.send_window.proofs.Tally.{acked_is_counted}
use Rattle.send_window.proofs.laws.counted_law.Goals as goal

pub returns : goal.returns
returns c = acked_is_counted
