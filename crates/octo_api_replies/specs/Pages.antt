-- What answers show, as JSON. Members are in the byte order of their names.
use Rattle.std.specs.Prelude.{ℕ, Bool, true, false, List, codes, Option, Some, None}
use Rattle.serde_json.specs.Data.{Data, null, string, boolean, array, object, Members, no_members, member, put}
use Rattle.serde_json.specs.View.{items_of}
use Rattle.job_desk.specs.declared.state.State.{State}
use Rattle.job_desk.specs.declared.state.State.TheVariants as state
use Rattle.octo_asks.specs.declared.shown.Progress.{Progress}
use Rattle.octo_asks.specs.declared.shown.ShownHeat.{ShownHeat}
use Rattle.octo_asks.specs.declared.shown.ShownFile.{ShownFile}
use Rattle.octo_api_replies.specs.Texts.{state_text}
use Rattle.octo_api_replies.specs.Items.{count, texts_data, heat_data}
use Rattle.octo_asks.specs.declared.answer.PrintRefusal.{PrintRefusal}
use Rattle.octo_asks.specs.declared.answer.PrintRefusal.TheVariants as refusal
use Rattle.octo_api_replies.specs.Refusals.{denied_data, wrong_state_data, too_hot_line_data, full_data}

-- the version
abbrev pub version_data : Data
version_data = object (
    member (codes "api") (string (codes "0.1"))
    (member (codes "server") (string (codes "profile-1"))
    (member (codes "text") (string (codes "OctoPrint profile-1"))
    no_members)))

-- a text, or null
abbrev pub text_or_null : Option (List ℕ) → Data
text_or_null None = null
text_or_null (Some text) = string text

-- whom a key names
abbrev pub caller_data : Option (List ℕ) → List (List ℕ) → Data
caller_data name groups = object (
    member (codes "groups") (texts_data groups)
    (member (codes "name") (text_or_null name)
    no_members))

-- what a login shows of the caller: there is no session
abbrev pub login_data : Option (List ℕ) → List (List ℕ) → Data
login_data name groups = object (
    member (codes "active") (boolean true)
    (member (codes "groups") (texts_data groups)
    (member (codes "name") (text_or_null name)
    (member (codes "session") null
    no_members))))

-- the port and the state
abbrev pub current_data : Option (List ℕ) → State → Data
current_data port state = object (
    member (codes "port") (text_or_null port)
    (member (codes "state") (string (state_text state))
    no_members))

-- the ports to choose from
abbrev pub options_data : List (List ℕ) → Data
options_data ports = object (member (codes "ports") (texts_data ports) no_members)

-- the connection
abbrev pub connection_data : Option (List ℕ) → State → List (List ℕ) → Data
connection_data port state ports = object (
    member (codes "current") (current_data port state)
    (member (codes "options") (options_data ports)
    no_members))

-- whether a flag is true in a state
abbrev pub is_cancelling : State → Bool
is_cancelling state.Cancelling = true
is_cancelling _ = false

abbrev pub is_closed_or_error : State → Bool
is_closed_or_error state.Offline = true
is_closed_or_error state.Fault = true
is_closed_or_error _ = false

abbrev pub is_error : State → Bool
is_error state.Fault = true
is_error _ = false

abbrev pub is_finishing : State → Bool
is_finishing state.Finishing = true
is_finishing _ = false

abbrev pub is_operational : State → Bool
is_operational state.Offline = false
is_operational state.Connecting = false
is_operational state.Closing = false
is_operational state.Fault = false
is_operational _ = true

abbrev pub is_paused : State → Bool
is_paused state.Paused = true
is_paused _ = false

abbrev pub is_pausing : State → Bool
is_pausing state.Pausing = true
is_pausing _ = false

abbrev pub is_printing : State → Bool
is_printing state.Printing = true
is_printing _ = false

abbrev pub is_ready : State → Bool
is_ready state.Operational = true
is_ready _ = false

-- the flags of a state
abbrev pub flags_data : State → Data
flags_data state = object (
    member (codes "cancelling") (boolean (is_cancelling state))
    (member (codes "closedOrError") (boolean (is_closed_or_error state))
    (member (codes "error") (boolean (is_error state))
    (member (codes "finishing") (boolean (is_finishing state))
    (member (codes "operational") (boolean (is_operational state))
    (member (codes "paused") (boolean (is_paused state))
    (member (codes "pausing") (boolean (is_pausing state))
    (member (codes "printing") (boolean (is_printing state))
    (member (codes "ready") (boolean (is_ready state))
    (member (codes "sdReady") (boolean false)
    no_members))))))))))

-- the state, and the flags that it has
abbrev pub state_data : State → Data
state_data state = object (
    member (codes "flags") (flags_data state)
    (member (codes "text") (string (state_text state))
    no_members))

-- a heater that was reported, before other members
abbrev pub heater : List ℕ → Option ShownHeat → Members → Members
heater name None rest = rest
heater name (Some heat) rest = member name (heat_data heat) rest

-- the members and a heater, if it was reported, in the byte order of the names
abbrev pub with_heater : List ℕ → Option ShownHeat → Members → Members
with_heater name None members = members
with_heater name (Some heat) members = put name (heat_data heat) members

-- the heaters that were reported
abbrev pub heaters_data : Option ShownHeat → Option ShownHeat → Data
heaters_data tool bed = object (heater (codes "bed") bed (heater (codes "tool0") tool no_members))

-- the printer
abbrev pub printer_data : State → Option ShownHeat → Option ShownHeat → Data
printer_data state tool bed = object (
    member (codes "state") (state_data state)
    (member (codes "temperature") (heaters_data tool bed)
    no_members))

-- the selected file, nulls without one
abbrev pub selected_data : Option ShownFile → Data
selected_data None = object (
    member (codes "name") null
    (member (codes "origin") null
    (member (codes "size") null
    no_members)))
selected_data (Some file) = object (
    member (codes "name") (string file.name)
    (member (codes "origin") (string (codes "local"))
    (member (codes "size") (count file.size)
    no_members)))

-- the progress of an active print, nulls without one
abbrev pub progress_data : Option Progress → Data
progress_data None = object (
    member (codes "completion") null
    (member (codes "filepos") null
    no_members))
progress_data (Some progress) = object (
    member (codes "completion") (count progress.completion)
    (member (codes "filepos") (count progress.place)
    no_members))

-- what a job prints
abbrev pub printed_data : Option ShownFile → Data
printed_data file = object (member (codes "file") (selected_data file) no_members)

-- how far a job is: its progress and the state
abbrev pub course_members : Option Progress → State → Members
course_members progress state =
    member (codes "progress") (progress_data progress)
    (member (codes "state") (string (state_text state))
    no_members)

-- the job
abbrev pub job_data : Option ShownFile → Option Progress → State → Data
job_data file progress state = object (member (codes "job") (printed_data file) (course_members progress state))

-- a list under a name
abbrev pub list_data : List ℕ → List Data → Data
list_data name items = object (member name (array (items_of items)) no_members)

-- the place of a file that was stored
abbrev pub stored_place : List ℕ → Data
stored_place name = object (
    member (codes "local") (object (
    member (codes "name") (string name)
    (member (codes "origin") (string (codes "local"))
    (member (codes "path") (string name)
    no_members))))
    no_members)

-- an upload
abbrev pub uploaded_data : List ℕ → Bool → Bool → Data
uploaded_data name select print = object (
    member (codes "done") (boolean true)
    (member (codes "effectivePrint") (boolean print)
    (member (codes "effectiveSelect") (boolean select)
    (member (codes "files") (stored_place name)
    no_members))))

-- what the print of an upload is refused for, as the refusal of a start
abbrev pub print_refusal_data : PrintRefusal → Data
print_refusal_data (refusal.Denied permission) = denied_data (Some permission)
print_refusal_data (refusal.WrongState state) = wrong_state_data state
print_refusal_data (refusal.TooHotLine line asked limit) = too_hot_line_data line asked limit
print_refusal_data (refusal.Full held) = full_data held

-- an upload whose print is refused
abbrev pub unprinted_data : List ℕ → Bool → PrintRefusal → Data
unprinted_data name select why = object (
    member (codes "done") (boolean true)
    (member (codes "effectivePrint") (boolean false)
    (member (codes "effectiveSelect") (boolean select)
    (member (codes "files") (stored_place name)
    (member (codes "printRefused") (print_refusal_data why)
    no_members)))))

-- an upload whose print wasn't started for this cause
abbrev pub stored_data : List ℕ → List ℕ → Data
stored_data name cause = object (
    member (codes "done") (boolean true)
    (member (codes "effectivePrint") (boolean false)
    (member (codes "effectiveSelect") (boolean true)
    (member (codes "error") (string cause)
    (member (codes "files") (stored_place name)
    no_members)))))
