use Rattle.std.proofs.Common.{sym, subst}
use Rattle.marlin_sim.specs.Sim.{SimData}
use Rattle.marlin_sim.specs.Served.{Outside, outside, Serves}
use Rattle.marlin_sim.proofs.Serving.{new_serves, nothing_cut, if_some}
use Rattle.marlin_sim.proofs.simulate.simulate.Goals as goal

pub returns-clause-served : goal.returns-clause-served
returns-clause-served g c =
    let plan = c.args.plan.now in
    let left = (g.C.Conn.state c.args.conn.now).left in
    let wrote = (g.C.Conn.state c.args.conn.now).written in
    let printed = g.O.Sink.written c.args.out.now in
    let first : Outside = outside left wrote printed in
    if_some left _
    (λ input follows. (let New : SimData → Type 0 = λ s. Serves plan input first first s in
    c.finish.ensures.follows plan input first _ _ (c.begin-ending.ensures.follows input first (subst New (sym c.in-Ok.ensures) (new_serves plan input left wrote printed follows)))))

pub returns-in-Err-clause-served : goal.returns-in-Err-clause-served
returns-in-Err-clause-served g c = if_some (g.C.Conn.state c.args.conn.now).left _ (λ input follows. nothing_cut c.args.plan.now input _ _ _)
