use Rattle.std.proofs.Common.{◌≡◌, ◌≤◌, List, ℕ}
use Rattle.std.specs.Prelude.{IfSome}
use Rattle.marlin_sim.specs.Served.{Outside, outside, Going, IsUsed}
use Rattle.marlin_sim.proofs.serve.take_turns.Given as goal

abbrev pub invariant-loop : goal.invariant-loop
invariant-loop g l = record {
  follows : (input : List ℕ) (first : Outside) → Going l.plan input first (outside (g.C.Conn.state l.initial.conn).left (g.C.Conn.state l.initial.conn).written (g.O.Sink.written l.initial.out)) l.initial.sim → Going l.plan input first (outside (g.C.Conn.state l.conn).left (g.C.Conn.state l.conn).written (g.O.Sink.written l.out)) l.sim;
  used : IfSome (g.C.Conn.state l.initial.conn).left (λ before. IsUsed l.counter before (g.C.Conn.state l.conn).left (g.C.Conn.state l.initial.conn).quiets (g.C.Conn.state l.conn).quiets);
  slots : l.sim.printer.slots ≡ l.plan.slots;
  quiets_counted : (g.C.Conn.state l.initial.conn).quiets ≤ (g.C.Conn.state l.conn).quiets;
  conn_counted : (g.C.Conn.state l.initial.conn).faults ≤ (g.C.Conn.state l.conn).faults;
  sink_counted : g.O.Sink.faults l.initial.out ≤ g.O.Sink.faults l.out;
}
