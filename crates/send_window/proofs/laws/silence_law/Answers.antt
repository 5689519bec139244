use Rattle.send_window.proofs.Silence.{sends_in_silence, ends_in_silence}
use Rattle.send_window.proofs.laws.silence_law.Goals as goal

pub returns-clause-turns : goal.returns-clause-turns
returns-clause-turns c = sends_in_silence

pub returns-clause-ends : goal.returns-clause-ends
returns-clause-ends c = ends_in_silence
