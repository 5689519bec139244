use Rattle.send_window.proofs.Ending.{ends_by_rule}
use Rattle.send_window.proofs.laws.ends_law.Goals as goal

pub returns : goal.returns
returns c = ends_by_rule
