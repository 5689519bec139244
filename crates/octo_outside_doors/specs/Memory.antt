-- What a door in memory holds.
use Rattle.std.specs.Prelude.{◌≡◌, ℕ, Bool, true, ◌&&◌, not, List, [], ◌∷◌, drop, map, Option, Some, if◌then◌else◌}
use Rattle.octo_outside.specs.Memory.{ConnData, is_listed, one_more}
use Rattle.octo_outside.specs.Conns.{ConnState}
use Rattle.octo_outside_doors.specs.declared.door.Knock.{Knock}
use Rattle.octo_outside_doors.specs.declared.door.Knock.TheVariants.{Conn, Quiet, Ended}

-- the connections to come, those that were given back (none once one was lost), its calls, and which of them are to fail or to find nothing yet
pub record DoorData : Type 0 where
  pub coming : List ConnData
  pub served : Option (List ConnData)
  pub calls : ℕ
  pub faults : ℕ
  pub has_failed : Bool
  pub quiet_at : List ℕ
  pub fail_at : List ℕ

-- a connection at which nothing has happened
pub record IsUntouched (conn : ConnData) : Type 0 where
  pub written : conn.written ≡ []
  pub faults : conn.faults ≡ 0
  pub quiets : conn.quiets ≡ 0

-- what a connection in memory says of itself
abbrev pub conn_state : ConnData → ConnState
conn_state conn = record { left = Some conn.left; written = Some conn.written; faults = conn.faults; quiets = conn.quiets }

-- the inputs of connections, each as it is left
abbrev pub inputs_of : List ConnData → List (List ℕ)
inputs_of conns = map (λ (conn : ConnData). conn.left) conns

-- whether the next call fails: it is listed, and none has failed before it
abbrev pub fails_next : DoorData → Bool
fails_next door = not door.has_failed && is_listed door.fail_at (one_more door.calls)

-- the door after a failed call: nothing comes any more
abbrev pub after_failure : DoorData → DoorData
after_failure door = record door { coming = []; calls = one_more door.calls; faults = one_more door.faults; has_failed = true }

-- what knocks next, if the call doesn't fail: nothing yet if that call is listed and a connection is to come
abbrev pub knock_of : Bool → List ConnData → Knock ConnData
knock_of quiet [] = Ended
knock_of quiet (conn ∷ conns) = if quiet then Quiet else Conn conn

-- what the next call finds, if it doesn't fail
abbrev pub next_knock : DoorData → Knock ConnData
next_knock door = knock_of (is_listed door.quiet_at (one_more door.calls)) door.coming

-- the door after a call that returned this
abbrev pub after_knock : DoorData → Knock ConnData → DoorData
after_knock door (Conn conn) = record door { coming = drop 1 door.coming; calls = one_more door.calls }
after_knock door Quiet = record door { calls = one_more door.calls }
after_knock door Ended = record door { calls = one_more door.calls }
