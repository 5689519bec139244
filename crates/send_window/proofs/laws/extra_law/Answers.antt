use Rattle.send_window.proofs.Widening.{extra_is_given}
use Rattle.send_window.proofs.laws.extra_law.Goals as goal

pub returns : goal.returns
returns c = extra_is_given
