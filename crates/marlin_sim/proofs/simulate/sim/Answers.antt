use Rattle.marlin_sim.proofs.Serving.{nothing_cut, if_some}
use Rattle.marlin_sim.proofs.simulate.sim.Goals as goal

pub returns-in-Err-clause-served : goal.returns-in-Err-clause-served
returns-in-Err-clause-served g c plan is = if_some (g.C.Conn.state c.args.conn.now).left _ (λ input follows. nothing_cut plan input _ _ _)
