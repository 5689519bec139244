use Rattle.job_desk.proofs.Lists.{drop_sendable}
use Rattle.job_desk.proofs.desk.Desk.take_manual.Goals as goal

pub invariant_of-self-2 : goal.invariant_of-self-2
invariant_of-self-2 c = record {
  few = c.self.invariant.few;
  room = rw c.pop_front.ensures.items c.self.invariant.room;
  sendable = rw c.pop_front.ensures.items (drop_sendable c.self.inside.manual.items c.self.invariant.sendable);
  going = c.self.invariant.going;
}
