use Rattle.marlin_sim.proofs.Serving.{held_breaks, serves_kept}
use Rattle.marlin_sim.proofs.serve.step_and_reply.Goals as goal

pub returns-in-Ok-clause-follows : goal.returns-in-Ok-clause-follows
returns-in-Ok-clause-follows g c plan input first v =
    c.deliver.ensures.follows plan input first (serves_kept plan input first _ c.args.sim.now c.step.new.self c.in-Ok.ensures.kept v)

pub returns-in-Err-clause-follows : goal.returns-in-Err-clause-follows
returns-in-Err-clause-follows g c plan input first v =
    held_breaks plan input v.rest v.wrote v.printed first _ _ _ c.args.sim.now c.step.new.self v.wrote_is v.printed_is v.follows_model c.in-Err.ensures.err.unprinted
