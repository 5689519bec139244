use Rattle.std.proofs.Common.{◌≡◌, ◌≤◌, List, ℕ}
use Rattle.marlin_sim.specs.declared.plan.SimPlan.{SimPlan}
use Rattle.marlin_sim.specs.Sim.{work}
use Rattle.marlin_sim.specs.Served.{Outside, outside, Serves}
use Rattle.marlin_sim.proofs.serve.drain.Given as goal

abbrev pub invariant-loop : goal.invariant-loop
invariant-loop g l = record {
  follows : (plan : SimPlan) (input : List ℕ) (first : Outside) → Serves plan input first (outside (g.C.Conn.state l.initial.conn).left (g.C.Conn.state l.initial.conn).written (g.O.Sink.written l.initial.out)) l.initial.sim → Serves plan input first (outside (g.C.Conn.state l.conn).left (g.C.Conn.state l.conn).written (g.O.Sink.written l.out)) l.sim;
  left : (g.C.Conn.state l.conn).left ≡ (g.C.Conn.state l.initial.conn).left;
  quiets : (g.C.Conn.state l.conn).quiets ≡ (g.C.Conn.state l.initial.conn).quiets;
  slots : l.sim.printer.slots ≡ l.initial.sim.printer.slots;
  conn_counted : (g.C.Conn.state l.initial.conn).faults ≤ (g.C.Conn.state l.conn).faults;
  sink_counted : g.O.Sink.faults l.initial.out ≤ g.O.Sink.faults l.out;
}

abbrev pub decreases-loop : goal.decreases-loop
decreases-loop g l = work l.sim
