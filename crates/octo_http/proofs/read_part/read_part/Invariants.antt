use Rattle.std.proofs.Common.{◌≡◌, ◌+◌, ◌-◌, [], length}
use Rattle.octo_http.specs.Input.{Took, Knows, Waits}
use Rattle.octo_http.specs.Part.{most_of}
use Rattle.octo_http.proofs.Reading.{weight}
use Rattle.octo_http.proofs.read_part.read_part.Given as goal

abbrev pub invariant-reading : goal.invariant-reading
invariant-reading g l = record {
  took : Took l.initial.intake.bytes (g.C.Conn.state l.initial.conn).left l.intake.bytes (g.C.Conn.state l.conn).left [];
  knows : Knows l.came l.intake [] l.initial.intake.bytes (g.C.Conn.state l.initial.conn).left (g.C.Conn.state l.initial.conn).faults (g.C.Conn.state l.conn).faults;
  waits : Waits l.initial.intake l.intake (g.C.Conn.state l.initial.conn).faults (g.C.Conn.state l.conn).faults (g.C.Conn.state l.initial.conn).quiets (g.C.Conn.state l.conn).quiets;
  written : (g.C.Conn.state l.conn).written ≡ (g.C.Conn.state l.initial.conn).written;
}

abbrev pub decreases-reading : goal.decreases-reading
decreases-reading g l = (most_of l.part - length l.intake.bytes) + l.intake.allowed + weight l.came
