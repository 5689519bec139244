use Rattle.std.proofs.Common.{◌∙◌, ap}
use Rattle.marlin_reply.specs.Kind.{kind_of}
use Rattle.printer_model.proofs.Judging.{kind_of-error_line, kind_of-named, kind_of-ok_line, kind_of-resend_line, kind_of-start_line, kind_of-temperatures_line, kind_of-unnamed, run_reply-numbered, run_reply-plain, run_reply-temperatures}
use Rattle.std.proofs.Common.{Some, None}
use Rattle.printer_model.proofs.theorems.reply_law.Goals as goal

pub returns-clause-error : goal.returns-clause-error
returns-clause-error c = kind_of-error_line

pub returns-clause-resend : goal.returns-clause-resend
returns-clause-resend c = kind_of-resend_line

pub returns-clause-ok : goal.returns-clause-ok
returns-clause-ok c = kind_of-ok_line

pub returns-clause-start : goal.returns-clause-start
returns-clause-start c = kind_of-start_line

pub returns-clause-temperatures : goal.returns-clause-temperatures
returns-clause-temperatures c = λ numbered n_parameter text free asks. ap kind_of (run_reply-temperatures numbered n_parameter text free asks) ∙ kind_of-temperatures_line

pub returns-clause-plain : goal.returns-clause-plain
returns-clause-plain c = λ n_parameter text free other. ap kind_of (run_reply-plain n_parameter text free other) ∙ kind_of-ok_line

pub returns-clause-named : goal.returns-clause-named
returns-clause-named c = λ n_parameter text free other small few. ap kind_of (run_reply-numbered (Some n_parameter) text free other) ∙ kind_of-named n_parameter free small few

pub returns-clause-unnamed : goal.returns-clause-unnamed
returns-clause-unnamed c = λ text free other few. ap kind_of (run_reply-numbered None text free other) ∙ kind_of-unnamed free few
