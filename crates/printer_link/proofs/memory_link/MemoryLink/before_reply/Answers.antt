use Rattle.std.proofs.Common.{refl}
use Rattle.printer_link.proofs.Links.{moved_from}
use Rattle.printer_link.proofs.Stories.{on_err_so}
use Rattle.printer_link.proofs.memory_link.MemoryLink.before_reply.Goals as goal

pub returns-clause-err : goal.returns-clause-err
returns-clause-err c =
    on_err_so c.before_reply.result c.before_reply.ensures.err (λ free. moved_from c.args.self.now _ _ c.self.view_is free refl)
