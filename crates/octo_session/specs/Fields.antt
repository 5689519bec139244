-- A session's fields, seen as plain data.
use Rattle.octo_session.specs.Data.{SessionData, IsSession}
use Rattle.octo_session.specs.declared.session.Session.TheInside.{Inside}

-- the data that the fields hold
abbrev pub session_of : Inside → SessionData
session_of s = record { desk = s.desk; sender = s.sender; up = s.up }

-- desk and sender are joined
abbrev pub IsKept : Inside → Type 0
IsKept s = IsSession (session_of s)
