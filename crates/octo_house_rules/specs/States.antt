-- What is possible in each state of the desk.
use Rattle.std.specs.Prelude.{ℕ, Bool, true, false, List, Option, None}
use Rattle.job_desk.specs.declared.state.State.{State}
use Rattle.job_desk.specs.declared.state.State.TheVariants.{Offline, Connecting, Operational, Printing, Pausing, Paused, Cancelling, Finishing, Closing, Fault}

-- a file may be selected
abbrev pub may_select : State → Bool
may_select Offline = true
may_select Connecting = true
may_select Operational = true
may_select Printing = false
may_select Pausing = false
may_select Paused = false
may_select Cancelling = false
may_select Finishing = false
may_select Closing = false
may_select Fault = true

-- a print may be started
abbrev pub may_start : State → Bool
may_start Offline = false
may_start Connecting = false
may_start Operational = true
may_start Printing = false
may_start Pausing = false
may_start Paused = false
may_start Cancelling = false
may_start Finishing = false
may_start Closing = false
may_start Fault = false

-- the printer's state may be shown
abbrev pub may_show : State → Bool
may_show Offline = false
may_show Connecting = false
may_show Operational = true
may_show Printing = true
may_show Pausing = true
may_show Paused = true
may_show Cancelling = true
may_show Finishing = true
may_show Closing = false
may_show Fault = false

-- the host may be shut down
abbrev pub may_shut_down : State → Bool
may_shut_down Offline = true
may_shut_down Connecting = false
may_shut_down Operational = true
may_shut_down Printing = false
may_shut_down Pausing = false
may_shut_down Paused = false
may_shut_down Cancelling = false
may_shut_down Finishing = false
may_shut_down Closing = false
may_shut_down Fault = true

-- the port as it is shown: none while nothing is connected
abbrev pub shown_port : State → Option (List ℕ) → Option (List ℕ)
shown_port Offline port = None
shown_port Connecting port = port
shown_port Operational port = port
shown_port Printing port = port
shown_port Pausing port = port
shown_port Paused port = port
shown_port Cancelling port = port
shown_port Finishing port = port
shown_port Closing port = port
shown_port Fault port = None
