use Rattle.marlin_sim.proofs.Serving.{sent, not_sent}
use Rattle.marlin_sim.proofs.simulate.begin.Goals as goal

pub returns-in-Ok-clause-follows : goal.returns-in-Ok-clause-follows
returns-in-Ok-clause-follows g c input first v =
    c.take_turns.ensures.follows input first (sent c.args.plan.now input first _ _ _ _ _ c.args.sim.now c.send_replies.new.sim v c.send_replies.ensures.left c.in-Ok.ensures.ok c.in-Ok.ensures.after)

pub returns-in-Err-clause-follows : goal.returns-in-Err-clause-follows
returns-in-Err-clause-follows g c input first v =
    not_sent c.args.plan.now input first _ _ _ _ _ c.args.sim.now c.send_replies.new.sim v c.in-Err.ensures.err c.in-Err.ensures.same
