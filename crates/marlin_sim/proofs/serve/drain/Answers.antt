use Rattle.std.proofs.Common.{◌∙◌, refl, arith}
use Rattle.marlin_sim.proofs.serve.drain.Goals as goal

pub returns-in-Over-clause-follows : goal.returns-in-Over-clause-follows
returns-in-Over-clause-follows g c plan input first v empty =
    let i = c.loop.invariant in
    record {
      going = c.in-Over.ensures.follows plan input first (i.follows plan input first v);
      idle = c.in-Over.ensures.idle refl (omega (arith, c.requires, i.slots));
      all_read = c.step_and_reply.ensures.left ∙ i.left ∙ empty;
    }
