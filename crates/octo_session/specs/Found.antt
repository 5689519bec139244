-- What a turn finds of the link.
use Rattle.std.specs.Prelude.{ℕ, Bool, true, false, ◌&&◌, List, Option, None, Some}
use Rattle.marlin_reply.specs.Kind.{kind_of}
use Rattle.marlin_reply.specs.declared.reply.Reply.{Reply}
use Rattle.marlin_reply.specs.declared.reply.Reply.TheVariants as reply
use Rattle.marlin_reply.specs.declared.reply.Temps.{Temps}
use Rattle.send_window.specs.declared.session_end.SessionEnd.{SessionEnd}
use Rattle.job_desk.specs.declared.link_fact.LinkFact.{LinkFact}
use Rattle.job_desk.specs.declared.link_fact.LinkFact.TheVariants as fact
use Rattle.send_window.specs.Data.{SenderData}
use Rattle.send_window.specs.Hearing.{hear_step, tick_step}
use Rattle.octo_session.specs.declared.found.Doing.{Doing}
use Rattle.octo_session.specs.declared.found.Doing.TheVariants.{Dialling, HangingUp, UsingLink, Resting}
use Rattle.octo_session.specs.declared.found.Received.{Received}
use Rattle.octo_session.specs.declared.found.Received.TheVariants as received

-- what the receiving of a turn returned
pub data Got : Type 0 where
  -- the turn received nothing
  unasked : Got
  -- the receiving failed
  lost : Got
  -- no line had arrived
  nothing : Got
  -- a whole reply line
  whole : List ℕ → Got

-- what was received into these bytes
abbrev pub got_of : Received → List ℕ → Got
got_of received.Unasked bytes = unasked
got_of received.Lost bytes = lost
got_of received.Nothing bytes = nothing
got_of (received.Line temps) bytes = whole bytes

-- whether a line was received
abbrev pub is_whole : Got → Bool
is_whole unasked = false
is_whole lost = false
is_whole nothing = false
is_whole (whole bytes) = true

-- whether a receiving didn't fail
abbrev pub is_got : Got → Bool
is_got unasked = false
is_got lost = false
is_got nothing = true
is_got (whole bytes) = true

-- the temperatures that a reply reports
abbrev pub temps_of_reply : Reply → Option Temps
temps_of_reply (reply.Ok _ _ _ temps) = temps
temps_of_reply (reply.Resend _) = None
temps_of_reply reply.Start = None
temps_of_reply reply.Busy = None
temps_of_reply (reply.Temps temps) = Some temps
temps_of_reply reply.Error = None
temps_of_reply reply.Other = None

-- the temperatures that were received
abbrev pub temps_in : Got → Option Temps
temps_in unasked = None
temps_in lost = None
temps_in nothing = None
temps_in (whole bytes) = temps_of_reply (kind_of bytes)

-- the same, as they were kept
abbrev pub temps_kept : Received → Option Temps
temps_kept received.Unasked = None
temps_kept received.Lost = None
temps_kept received.Nothing = None
temps_kept (received.Line temps) = temps

-- the sender after it heard what was received
abbrev pub hears_got : Got → ℕ → SenderData → SenderData
hears_got unasked moment s = s
hears_got lost moment s = s
hears_got nothing moment s = s
hears_got (whole bytes) moment s = hear_step (kind_of bytes) moment s

-- how the session ends by what was received and the moment, if a receiving didn't fail
abbrev pub end_by : Got → ℕ → SenderData → Option SessionEnd
end_by unasked moment s = None
end_by lost moment s = None
end_by nothing moment s = (tick_step moment s).ended
end_by (whole bytes) moment s = (tick_step moment (hear_step (kind_of bytes) moment s)).ended

-- whether each kind of turn may find this
abbrev pub can_find : Doing → LinkFact → Bool
can_find Dialling fact.Opened = true
can_find Dialling fact.NoPort = true
can_find Dialling fact.Failed = true
can_find HangingUp fact.Closed = true
can_find UsingLink fact.Quiet = true
can_find UsingLink fact.Ready = true
can_find UsingLink fact.Failed = true
can_find UsingLink (fact.Ended end) = true
can_find Resting fact.Quiet = true
can_find _ _ = false

-- whether a turn that found this may have issued lines: it stayed quiet, or a call of the link failed
abbrev pub may_have_issued : LinkFact → Bool
may_have_issued fact.Quiet = true
may_have_issued fact.Failed = true
may_have_issued _ = false

-- whether a turn may have issued lines: its receiving didn't fail, nor did it end the session or make it ready
abbrev pub may_issue : Got → LinkFact → Bool
may_issue got found = is_got got && may_have_issued found

-- whether the hello is acknowledged after a turn that found this
abbrev pub ready_after : LinkFact → Bool → Bool
ready_after fact.Quiet was_ready = was_ready
ready_after fact.Opened was_ready = false
ready_after fact.Ready was_ready = true
ready_after fact.Closed was_ready = was_ready
ready_after fact.NoPort was_ready = was_ready
ready_after fact.Failed was_ready = was_ready
ready_after (fact.Ended end) was_ready = was_ready

-- whether the link is up after a turn that found this
abbrev pub up_after : LinkFact → Bool → Bool
up_after fact.Quiet was_up = was_up
up_after fact.Opened was_up = true
up_after fact.Ready was_up = true
up_after fact.Closed was_up = false
up_after fact.NoPort was_up = false
up_after fact.Failed was_up = false
up_after (fact.Ended end) was_up = false
