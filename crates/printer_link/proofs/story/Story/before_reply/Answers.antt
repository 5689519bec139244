use Rattle.printer_link.proofs.Stories.{on_err_so, on_ok_so, restarted_free, restarted_then}
use Rattle.printer_link.proofs.story.Story.before_reply.Goals as goal

pub returns-clause-ok : goal.returns-clause-ok
returns-clause-ok c =
    on_ok_so c.let_print.result c.let_print.ensures.ok
    (λ is. restarted_then c.args.self.now c.restart_due.new.self c.let_print.new.self c.args.restarts c.args.due c.in_ok-restart_due.ensures.ok is)

pub returns-clause-err : goal.returns-clause-err
returns-clause-err c =
    on_err_so c.let_print.result c.let_print.ensures.err
    (λ free. restarted_free c.args.self.now c.restart_due.new.self c.let_print.new.self c.args.restarts c.in_ok-restart_due.ensures.ok free)
