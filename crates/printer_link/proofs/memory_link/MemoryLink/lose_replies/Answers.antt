use Rattle.std.proofs.Common.{refl}
use Rattle.printer_link.proofs.Links.{moved_from}
use Rattle.printer_link.proofs.Stories.{on_err}
use Rattle.printer_link.proofs.memory_link.MemoryLink.lose_replies.Goals as goal

pub returns-in_err-lose_replies-clause-err : goal.returns-in_err-lose_replies-clause-err
returns-in_err-lose_replies-clause-err c =
    on_err c.from_residual.result (moved_from c.args.self.now _ _ c.self.view_is c.in_err-lose_replies.ensures.err refl)
