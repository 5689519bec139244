use Rattle.printer_model.proofs.Judging.{judged-bare, judged-failing, judged-mismatch, judged-numbered, judged-out_of_turn, judged-plain}
use Rattle.printer_model.proofs.theorems.line_law.Goals as goal

pub returns-clause-plain : goal.returns-clause-plain
returns-clause-plain c = judged-plain

pub returns-clause-wrong_number : goal.returns-clause-wrong_number
returns-clause-wrong_number c = judged-out_of_turn

pub returns-clause-no_checksum : goal.returns-clause-no_checksum
returns-clause-no_checksum c = judged-bare

pub returns-clause-mismatch : goal.returns-clause-mismatch
returns-clause-mismatch c = judged-mismatch

pub returns-clause-accepted : goal.returns-clause-accepted
returns-clause-accepted c = judged-numbered

pub returns-clause-failing : goal.returns-clause-failing
returns-clause-failing c = judged-failing
