use Rattle.std.proofs.Common.{◌≡◌, ◌+◌, ◌-◌, List, ℕ, ◌++◌, length}
use Rattle.octo_http.specs.Input.{Took, Knows, Waits}
use Rattle.octo_http.proofs.Reading.{weight}
use Rattle.octo_http.proofs.fill.fill.Given as goal

abbrev pub invariant-filling : goal.invariant-filling
invariant-filling g l = record {
  sofar : (taken : List ℕ) × (length taken + l.due ≡ l.count) × (l.body ≡ l.initial.body ++ taken)
      × Took l.initial.intake.bytes (g.C.Conn.state l.initial.conn).left l.intake.bytes (g.C.Conn.state l.conn).left taken
      × Knows l.came l.intake taken l.initial.intake.bytes (g.C.Conn.state l.initial.conn).left (g.C.Conn.state l.initial.conn).faults (g.C.Conn.state l.conn).faults;
  waits : Waits l.initial.intake l.intake (g.C.Conn.state l.initial.conn).faults (g.C.Conn.state l.conn).faults (g.C.Conn.state l.initial.conn).quiets (g.C.Conn.state l.conn).quiets;
  written : (g.C.Conn.state l.conn).written ≡ (g.C.Conn.state l.initial.conn).written;
}

abbrev pub decreases-filling : goal.decreases-filling
decreases-filling g l = (l.due - length l.intake.bytes) + l.intake.allowed + weight l.came
