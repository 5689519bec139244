use Rattle.std.proofs.Common.{length, ◌≡◌, ◌-◌, ◌≤◌, take}
use Rattle.octo_outside.specs.Recorded.{Adds}
use Rattle.octo_outside.proofs.conn.send_all.Given as goal

abbrev pub invariant-loop-done : goal.invariant-loop-done
invariant-loop-done g l = record {
  within : l.done ≤ length l.bytes;
  left : (g.C.Conn.state l.conn).left ≡ (g.C.Conn.state l.initial.conn).left;
  quiets : (g.C.Conn.state l.conn).quiets ≡ (g.C.Conn.state l.initial.conn).quiets;
  counted : (g.C.Conn.state l.initial.conn).faults ≤ (g.C.Conn.state l.conn).faults;
  written : Adds (g.C.Conn.state l.initial.conn).written (g.C.Conn.state l.conn).written (take l.done l.bytes);
}

abbrev pub decreases-loop-done : goal.decreases-loop-done
decreases-loop-done g l = length l.bytes - l.done
