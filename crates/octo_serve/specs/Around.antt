-- The doors that a host serves.
use Rattle.octo_outside_doors.specs.Doors.{DoorState}
use Rattle.octo_outside_doors.specs.declared.door.Doors.{Doors}

-- what four doors say of themselves
abbrev pub door_states : {D : Type 0} → (D → DoorState) → Doors D → Doors DoorState
door_states state doors = record { a = state doors.a; b = state doors.b; c = state doors.c; d = state doors.d }
