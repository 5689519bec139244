-- What the desk makes of what one turn of the link found.
use Rattle.std.specs.Prelude.{ℕ, Bool, true, false, ◌&&◌, ◌==◌, nat_le, nat_lt, [], length, Option, None, Some, if◌then◌else◌}
use Rattle.job_desk.specs.Data.{Data, with_script, moment_after}
use Rattle.job_desk.specs.Pull.{settled}
use Rattle.job_desk.specs.declared.state.State.{State}
use Rattle.job_desk.specs.declared.state.State.TheVariants.{Offline, Connecting, Operational, Printing, Pausing, Paused, Cancelling, Finishing, Closing, Fault}
use Rattle.job_desk.specs.declared.state.Point.TheVariants as point
use Rattle.job_desk.specs.declared.link_fact.LinkFact.{LinkFact}
use Rattle.job_desk.specs.declared.link_fact.LinkFact.TheVariants as fact
use Rattle.print_queue.specs.declared.ending.Ending.{Ending}
use Rattle.print_queue.specs.declared.ending.Outcome.{Outcome}
use Rattle.print_queue.specs.declared.ending.Outcome.TheVariants as outcome

-- the end of a print, if this was one, and the desk after it
abbrev pub Noted : Type 0
Noted = Option Ending × Data

-- no script line waits, and every issued line of the print is acknowledged
abbrev pub is_over : Data → Bool
is_over d = (length d.waiting == 0) && nat_le d.print_line d.acked

-- the print ends, and the desk is free for the next one
abbrev pub finish : Outcome → Data → Noted
finish how d = (Some (record { print = d.greatest; outcome = how }), record d { state = Operational; active = false })

-- what ends by acknowledgement
abbrev pub end_at : State → Data → Noted
end_at Offline d = (None, d)
end_at Connecting d = (None, d)
end_at Operational d = (None, d)
end_at Printing d = (None, d)
end_at Pausing d = if is_over d then (None, record d { state = Paused }) else (None, d)
end_at Paused d = (None, d)
end_at Cancelling d = if is_over d then finish outcome.Cancelled d else (None, d)
end_at Finishing d = if is_over d then finish outcome.Done d else (None, d)
end_at Closing d = (None, d)
end_at Fault d = (None, d)

-- what ends by acknowledgement in the desk's own state
abbrev pub after_ending : Data → Noted
after_ending d = end_at d.state d

-- a link is made, and a session begins: nothing was issued in it yet
abbrev pub after_open : Data → Data
after_open d = record d { issued = 0; acked = 0; print_line = 0; poll_line = 0; last_line = 0; linked = true }

-- the hello was acknowledged
abbrev pub ready_at : State → ℕ → Data → Data
ready_at Offline moment d = d
ready_at Connecting moment d =
    with_script point.Connected 0
    (record d { state = Operational; poll_at = moment_after moment d.poll_ms; probe_at = moment_after moment d.poll_ms })
ready_at Operational moment d = d
ready_at Printing moment d = d
ready_at Pausing moment d = d
ready_at Paused moment d = d
ready_at Cancelling moment d = d
ready_at Finishing moment d = d
ready_at Closing moment d = d
ready_at Fault moment d = d

-- the connection is gone: what waits is dropped, and an active print ends
abbrev pub leave : State → Outcome → Data → Noted
leave state how d = (
  if d.active then Some (record { print = d.greatest; outcome = how }) else None,
  record d { state = state; active = false; waiting = []; manual = []; stopped = false; linked = false },
)

-- a failure comes after the ends by acknowledgement, so what this very note completes is done
abbrev pub fail : Noted → Noted
fail (None, d) = leave Fault outcome.Failed d
fail (Some ending, d) = (Some ending, (leave Fault outcome.Failed d).1)

-- the link was hung up: a print that it cuts off is cancelled, or failed if the printer was stopped
abbrev pub hung_up : Bool → Data → Noted
hung_up false d = leave Offline outcome.Cancelled d
hung_up true d = leave Fault outcome.Failed d

-- what the fact and the acknowledgements do; after Closed and NoPort no state is left that ends by them
abbrev pub note_fact : LinkFact → ℕ → Data → Noted
note_fact fact.Quiet moment d = after_ending d
note_fact fact.Opened moment d = after_ending (after_open d)
note_fact fact.Ready moment d = after_ending (ready_at d.state moment (record d { ready = true }))
note_fact fact.Closed moment d = hung_up d.stopped d
note_fact fact.NoPort moment d = leave Fault outcome.Failed d
note_fact fact.Failed moment d = fail (after_ending d)
note_fact (fact.Ended end) moment d = fail (after_ending d)

-- the acknowledged lines are counted, and if there are more than before no probe is due for a while
abbrev pub with_acked : ℕ → ℕ → Data → Data
with_acked acked moment d = record d { acked = acked; probe_at = if nat_lt d.acked acked then moment_after moment d.poll_ms else d.probe_at }

-- what one note returns and leaves
abbrev pub note_step : ℕ → LinkFact → ℕ → Data → Noted
note_step acked fact moment d = let noted = note_fact fact moment (with_acked acked moment d) in (noted.0, settled noted.1)

-- the fact that the desk notes before the pulls: a failure comes last, since what was acknowledged before it counts
abbrev pub first_fact : LinkFact → LinkFact
first_fact fact.Quiet = fact.Quiet
first_fact fact.Opened = fact.Opened
first_fact fact.Ready = fact.Ready
first_fact fact.Closed = fact.Closed
first_fact fact.NoPort = fact.NoPort
first_fact fact.Failed = fact.Quiet
first_fact (fact.Ended end) = fact.Ended end
