-- Refusals, and tests in the order in which they are made.
use Rattle.std.specs.Prelude.{Bool, true, false, Option, None, Some, Result, Ok, Err}
use Rattle.gcode_lines.specs.Job.{JobData}
use Rattle.gcode_lines.specs.declared.fault.FileFault.{FileFault}
use Rattle.temp_rules.specs.declared.limits.TooHot.{TooHot}
use Rattle.job_desk.specs.declared.state.Refusal.{Refusal}
use Rattle.job_desk.specs.declared.state.Refusal.TheVariants as refusal
use Rattle.octo_access.specs.declared.refusal.UserRefusal.{UserRefusal}
use Rattle.octo_access.specs.declared.refusal.UserRefusal.TheVariants as user_refusal
use Rattle.print_queue.specs.declared.refusal.QueueRefusal.{QueueRefusal}
use Rattle.print_queue.specs.declared.refusal.QueueRefusal.TheVariants as queue_refusal
use Rattle.octo_asks.specs.Shown.{shown_entry}
use Rattle.octo_asks.specs.declared.answer.Answer.{Answer}
use Rattle.octo_asks.specs.declared.answer.Answer.TheVariants as answer
use Rattle.octo_house_rules.specs.Verdict.{Verdict, gives}

-- the desk's refusal as an answer
abbrev pub answer_of_refusal : Refusal → Answer
answer_of_refusal (refusal.WrongState state) = answer.WrongState state
answer_of_refusal refusal.NoFile = answer.NoneSelected
answer_of_refusal (refusal.Full held) = answer.Full held
answer_of_refusal refusal.FileBusy = answer.FileBusy
answer_of_refusal (refusal.TooHotLine line asked limit) = answer.TooHotLine line asked limit

-- the users' refusal as an answer
abbrev pub answer_of_user_refusal : UserRefusal → Answer
answer_of_user_refusal (user_refusal.BadGroup group) = answer.BadGroup group
answer_of_user_refusal user_refusal.NoUser = answer.NoUser
answer_of_user_refusal user_refusal.NameTaken = answer.NameTaken None
answer_of_user_refusal (user_refusal.KeyTaken name) = answer.KeyTaken name
answer_of_user_refusal (user_refusal.Full count) = answer.Full count
answer_of_user_refusal user_refusal.NoMemory = answer.NoMemory

-- the queue's refusal as an answer
abbrev pub answer_of_queue_refusal : QueueRefusal → Answer
answer_of_queue_refusal (queue_refusal.NameTaken kept) = answer.NameTaken (Some (shown_entry kept))
answer_of_queue_refusal queue_refusal.NoEntry = answer.NoEntry
answer_of_queue_refusal (queue_refusal.Full count) = answer.Full count
answer_of_queue_refusal queue_refusal.ArrivalsUsed = answer.ArrivalsUsed
answer_of_queue_refusal queue_refusal.NoMemory = answer.NoMemory

-- refused if a test holds
abbrev pub refused_if : Bool → Answer → Verdict → Verdict
refused_if true a v = gives a
refused_if false a v = v

-- goes on if the desk allows it
abbrev pub if_desk_allows : {A : Type 0} → Result A Refusal → Verdict → Verdict
if_desk_allows (Ok a) v = v
if_desk_allows (Err r) v = gives (answer_of_refusal r)

-- goes on if the users allow it
abbrev pub if_users_allow : Option UserRefusal → Verdict → Verdict
if_users_allow None v = v
if_users_allow (Some r) v = gives (answer_of_user_refusal r)

-- goes on if no value is too hot
abbrev pub unless_too_hot : Option TooHot → Verdict → Verdict
unless_too_hot None v = v
unless_too_hot (Some hot) v = gives (answer.TooHot hot.asked hot.limit)

-- goes on with what was found
abbrev pub found_or : {A : Type 0} → Option A → Answer → (A → Verdict) → Verdict
found_or None a next = gives a
found_or (Some found) a next = next found

-- goes on with the job of a file
abbrev pub read_as : Result JobData FileFault → (JobData → Verdict) → Verdict
read_as (Ok job) next = next job
read_as (Err fault) next = gives (answer.BadFile fault)
