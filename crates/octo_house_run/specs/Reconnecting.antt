-- When a host connects by itself, by the states in which its desk is seen. Times are in milliseconds.
use Rattle.std.specs.Prelude.{ℕ, ◌*◌, Bool, true, false, min, nat_le}
use Rattle.job_desk.specs.Data.{moment_after}
use Rattle.job_desk.specs.declared.state.State.{State}
use Rattle.job_desk.specs.declared.state.State.TheVariants.{Offline, Connecting, Operational, Printing, Pausing, Paused, Cancelling, Finishing, Closing, Fault}
use Rattle.octo_house_run.specs.declared.reconnect.Reconnect.{Reconnect}
use Rattle.octo_house_run.specs.declared.reconnect.Reconnect.TheVariants.{Off, First, Watching, Due, Stopped}

-- the wait after the first error since the printer answered
abbrev pub first_wait : ℕ
first_wait = 10000

-- the longest wait
abbrev pub most_wait : ℕ
most_wait = 300000

-- at a host's beginning
abbrev pub new_reconnect : Bool → Reconnect
new_reconnect true = First
new_reconnect false = Off

-- the wait after one more error
abbrev pub doubled : ℕ → ℕ
doubled wait = min (2 * wait) most_wait

-- an error is seen for the first time, or again
abbrev pub after_error : ℕ → Reconnect → Reconnect
after_error moment (Watching wait) = Due (moment_after moment wait) (doubled wait)
after_error moment r = r

-- a connection is being made, by whomever
abbrev pub while_connecting : Reconnect → Reconnect
while_connecting (Due at wait) = Watching wait
while_connecting Stopped = Watching first_wait
while_connecting r = r

-- what each state of the desk makes of it
abbrev pub watched_in : State → ℕ → Reconnect → Reconnect
watched_in Offline moment r = Stopped
watched_in Connecting moment r = while_connecting r
watched_in Operational moment r = Watching first_wait
watched_in Printing moment r = Watching first_wait
watched_in Pausing moment r = Watching first_wait
watched_in Paused moment r = Watching first_wait
watched_in Cancelling moment r = Watching first_wait
watched_in Finishing moment r = Watching first_wait
watched_in Closing moment r = Stopped
watched_in Fault moment r = after_error moment r

-- whether it looks at the desk's states
abbrev pub is_running : Reconnect → Bool
is_running Off = false
is_running First = false
is_running _ = true

-- after the desk was seen in a state at a moment
abbrev pub seen_in : State → ℕ → Reconnect → Reconnect
seen_in state moment r = by (is_running r)
  where
    by : Bool → Reconnect
    by true = watched_in state moment r
    by false = r

-- whether it connects now
abbrev pub is_due : ℕ → Reconnect → Bool
is_due moment First = true
is_due moment (Due at wait) = nat_le at moment
is_due moment _ = false

-- after it has asked for a connection
abbrev pub after_asking : Reconnect → Reconnect
after_asking First = Watching first_wait
after_asking (Due at wait) = Watching wait
after_asking r = r
