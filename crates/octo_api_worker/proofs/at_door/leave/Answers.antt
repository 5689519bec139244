use Rattle.octo_api_worker.proofs.Calls.{left_by_ask}
use Rattle.octo_api_worker.proofs.at_door.leave.Goals as goal

pub returns-clause-left : goal.returns-clause-left
returns-clause-left g c = left_by_ask c.leave_ask.result c.ask.result (g.A.Asker.state c.args.asker.now).mine (g.A.Asker.state c.ask.new.self).mine
    (g.A.Asker.state c.ask.new.self).saw_close c.ask.ensures.ok c.leave_ask.ensures c.ask.ensures.err c.ask.ensures.closed
