-- The texts of states, outcomes and permissions in JSON.
use Rattle.std.specs.Prelude.{ℕ, List, codes, Option, Some, None}
use Rattle.job_desk.specs.declared.state.State.{State}
use Rattle.job_desk.specs.declared.state.State.TheVariants as state
use Rattle.print_queue.specs.declared.ending.Outcome.{Outcome}
use Rattle.print_queue.specs.declared.ending.Outcome.TheVariants as outcome
use Rattle.octo_access.specs.declared.permission.Permission.{Permission}
use Rattle.octo_access.specs.Permissions.{permission_name}

-- a state's text
abbrev pub state_text : State → List ℕ
state_text state.Offline = codes "Offline"
state_text state.Connecting = codes "Connecting"
state_text state.Operational = codes "Operational"
state_text state.Printing = codes "Printing"
state_text state.Pausing = codes "Pausing"
state_text state.Paused = codes "Paused"
state_text state.Cancelling = codes "Cancelling"
state_text state.Finishing = codes "Finishing"
state_text state.Closing = codes "Closing"
state_text state.Fault = codes "Error"

-- an outcome's text
abbrev pub outcome_text : Outcome → List ℕ
outcome_text outcome.Active = codes "Active"
outcome_text outcome.Done = codes "Done"
outcome_text outcome.Cancelled = codes "Cancelled"
outcome_text outcome.Failed = codes "Failed"

-- the permission that a caller lacks, `KEY` if the key names nobody
abbrev pub permission_text : Option Permission → List ℕ
permission_text None = codes "KEY"
permission_text (Some permission) = permission_name permission
