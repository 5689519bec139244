use Rattle.job_desk.proofs.Lists.{got_item}
use Rattle.job_desk.proofs.scripts.Script.get.Goals as goal

pub returns-clause-sendable : goal.returns-clause-sendable
returns-clause-sendable c = (got_item c.self.inside.texts.items c.args.i c.get.result c.self.invariant.sendable
    (rw c.deref.ensures.value at c.get.ensures.lookup))
