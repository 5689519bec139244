use Rattle.std.proofs.Common.{◌++◌, ap}
use Rattle.marlin_sim.specs.Sim.{SimData}
use Rattle.marlin_sim.proofs.Serving.{held_breaks}
use Rattle.marlin_sim.proofs.serve.receive.Goals as goal

pub returns-in-Ok-clause-follows : goal.returns-in-Ok-clause-follows
returns-in-Ok-clause-follows g c input rest wrote printed first wrote_is printed_is left t =
    c.go_on.ensures.follows c.args.plan.now input first
    (record { rest = rest; left = left; wrote = wrote; wrote_is = wrote_is; printed = printed; printed_is = printed_is; follows_model = c.in-Ok.ensures.follows input rest wrote printed t })

pub returns-in-Err-clause-follows : goal.returns-in-Err-clause-follows
returns-in-Err-clause-follows g c input rest wrote printed first wrote_is printed_is left t =
    held_breaks c.args.plan.now input (c.args.bytes.now ++ rest) wrote printed first _ _ _ c.args.sim.now c.receive.new.self wrote_is printed_is t (ap (λ (s : SimData). s.text) c.receive.ensures.others)
