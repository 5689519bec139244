use Rattle.send_window.proofs.Named.{acked_is_named, flags_are_named}
use Rattle.send_window.proofs.laws.named_law.Goals as goal

pub returns-clause-lines : goal.returns-clause-lines
returns-clause-lines c = acked_is_named

pub returns-clause-flags : goal.returns-clause-flags
returns-clause-flags c = flags_are_named
