use Rattle.std.proofs.Common.{◌≡◌, ◌≤◌, ◌-◌, List, ℕ, length}
use Rattle.octo_http.specs.Input.{Took, Waits}
use Rattle.octo_http.proofs.ChunkLemmas.{Leads}
use Rattle.octo_http.proofs.chunks.read_chunks.Given as goal

abbrev pub invariant-chunks : goal.invariant-chunks
invariant-chunks g l = record {
  sofar : (taken : List ℕ) × Took l.initial.intake.bytes (g.C.Conn.state l.initial.conn).left l.intake.bytes (g.C.Conn.state l.conn).left taken × Leads l.body taken;
  few : length l.body ≤ 68157440;
  waits : Waits l.initial.intake l.intake (g.C.Conn.state l.initial.conn).faults (g.C.Conn.state l.conn).faults (g.C.Conn.state l.initial.conn).quiets (g.C.Conn.state l.conn).quiets;
  written : (g.C.Conn.state l.conn).written ≡ (g.C.Conn.state l.initial.conn).written;
}

abbrev pub decreases-chunks : goal.decreases-chunks
decreases-chunks g l = 68157440 - length l.body
