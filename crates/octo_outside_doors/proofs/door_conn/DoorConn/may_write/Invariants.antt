use Rattle.std.proofs.Common.{◌≡◌}
use Rattle.octo_outside_doors.proofs.door_conn.DoorConn.may_write.Given as goal

-- the counts are as they were
abbrev pub invariant-loop : goal.invariant-loop
invariant-loop g l = (l.self.faults ≡ l.fn.self.faults) × (l.self.quiets ≡ l.fn.self.quiets)
