-- The session as plain data.
use Rattle.std.specs.Prelude.{◌≡◌, ◌⊎◌, ℕ, Bool, true, false, ◌&&◌, not, if◌then◌else◌, List, [], None, unwrap_or}
use Rattle.job_desk.specs.Data.{Data}
use Rattle.job_desk.specs.Table.{is_closable_at}
use Rattle.job_desk.specs.declared.state.State.{State}
use Rattle.job_desk.specs.declared.state.State.TheVariants.{Offline, Connecting, Operational, Printing, Pausing, Paused, Cancelling, Finishing, Closing, Fault}
use Rattle.send_window.specs.Data.{SenderData, NoneEarly}
use Rattle.octo_session.specs.declared.found.Doing.{Doing}
use Rattle.octo_session.specs.declared.found.Doing.TheVariants.{Dialling, HangingUp, UsingLink, Resting}

-- a session's desk and sender, and its link
pub record SessionData : Type 0 where
  pub desk : Data
  pub sender : SenderData
  -- whether the link is up
  pub up : Bool

-- the line that stops the printer was issued: the next turn hangs up
pub record IsStopped (d : Data) : Type 0 where
  pub closes : d.state ≡ Closing
  pub stops : d.stopped ≡ true
  pub issued : d.manual ≡ []

-- desk and sender count the same lines, the desk knows whether the link is open, and the sender of an open link hasn't ended; that one
-- issued no line before the `ok` of the hello, but for the one that stops the printer
pub record IsJoined (d : Data) (s : SenderData) (open_link : Bool) : Type 0 where
  pub issued : d.issued ≡ s.issued
  pub acked : d.acked ≡ s.acked
  pub running : open_link ≡ true → s.ended ≡ None
  pub linked : d.linked ≡ open_link
  pub early : open_link ≡ true → NoneEarly s ⊎ IsStopped d

-- a session holds between its calls
abbrev pub IsSession : SessionData → Type 0
IsSession s = IsJoined s.desk s.sender s.up

-- whether a desk begins to connect
abbrev pub is_connecting : State → Bool
is_connecting Offline = false
is_connecting Connecting = true
is_connecting Operational = false
is_connecting Printing = false
is_connecting Pausing = false
is_connecting Paused = false
is_connecting Cancelling = false
is_connecting Finishing = false
is_connecting Closing = false
is_connecting Fault = false

-- what the next turn does, the first of these that applies: it dials, it hangs up, or it receives and sends
abbrev pub doing : SessionData → Doing
doing s =
    if not s.up && is_connecting s.desk.state then Dialling
    else (if is_closable_at s.desk.state s.desk then HangingUp
    else (if s.up then UsingLink else Resting))

-- the port that a desk connects to, the empty name if it has none
abbrev pub port_of : Data → List ℕ
port_of d = unwrap_or d.port []

-- whether a turn dials or receives
abbrev pub is_calling : Doing → Bool
is_calling Dialling = true
is_calling HangingUp = false
is_calling UsingLink = true
is_calling Resting = false
