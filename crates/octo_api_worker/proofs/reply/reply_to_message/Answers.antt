use Rattle.std.proofs.Common.{[], sym}
use Rattle.octo_outside.proofs.Recorded.{adds_none}
use Rattle.octo_api_worker.specs.Served.{shown}
use Rattle.octo_api_worker.proofs.reply.reply_to_message.Goals as goal

pub returns-in-Some-clause-replied : goal.returns-in-Some-clause-replied
returns-in-Some-clause-replied g c = ([], adds_none (g.A.Asker.state c.args.asker.now).mine, shown c.in-Some.page (sym c.in-Some.ensures))

pub returns-in-None-clause-replied : goal.returns-in-None-clause-replied
returns-in-None-clause-replied g c = c.reply_to_request.ensures.replied (sym c.in-None.ensures)
