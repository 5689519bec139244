use Rattle.printer_link.proofs.Links.{moved_by}
use Rattle.printer_link.proofs.Stories.{on_err_so}
use Rattle.printer_link.proofs.memory_link.MemoryLink.take_reply.Goals as goal

pub returns-clause-err : goal.returns-clause-err
returns-clause-err c =
    on_err_so c.take_front.result c.take_front.ensures.err
    (λ same. moved_by c.args.self.now c.let_print.new.self c.take_front.new.self c.args.restarts c.args.due c.in_ok-let_print.ensures.ok same)
