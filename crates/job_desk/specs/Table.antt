-- What each call does in each state: its answer and the desk after it.
use Rattle.std.specs.Prelude.{ℕ, ◌+◌, Bool, true, false, codes, ◌&&◌, nat_lt, nat_eq, nat_le, not, ◌==◌, ◌||◌, List, [], ◌∷◌, ◌++◌, length, Option, None, Some, Result, Ok, Err, if◌then◌else◌}
use Rattle.std.specs.Cmp.Lexicographic.{pointwise}
use Rattle.temp_rules.specs.declared.job.HotLine.{HotLine}
use Rattle.temp_rules.specs.Hot.{first_hot_of}
use Rattle.job_desk.specs.Data.{Data, File, with_script}
use Rattle.job_desk.specs.declared.state.State.{State}
use Rattle.job_desk.specs.declared.state.State.TheVariants.{Offline, Connecting, Operational, Printing, Pausing, Paused, Cancelling, Finishing, Closing, Fault}
use Rattle.job_desk.specs.declared.state.Point.TheVariants as point
use Rattle.job_desk.specs.declared.state.Refusal.{Refusal}
use Rattle.job_desk.specs.declared.state.Refusal.TheVariants as refusal

-- an answer, and the desk after it
abbrev pub Answer : Type 0
Answer = Result (Unit {0}) Refusal × Data

-- the call was done
abbrev pub ok_answer : Data → Answer
ok_answer d = (Ok tt, d)

-- the call isn't for this state
abbrev pub wrong_state : Data → Answer
wrong_state d = (Err (refusal.WrongState d.state), d)

-- the desk begins to connect
abbrev pub connecting : List ℕ → Data → Data
connecting port d = record d { state = Connecting; port = Some port; ready = false }

-- a call to connect to a port
abbrev pub connect_at : State → List ℕ → Data → Answer
connect_at Offline port d = ok_answer (connecting port d)
connect_at Connecting port d = wrong_state d
connect_at Operational port d = wrong_state d
connect_at Printing port d = wrong_state d
connect_at Pausing port d = wrong_state d
connect_at Paused port d = wrong_state d
connect_at Cancelling port d = wrong_state d
connect_at Finishing port d = wrong_state d
connect_at Closing port d = wrong_state d
connect_at Fault port d = ok_answer (connecting port d)

-- the users' lines go, and the script for the end of a connection waits
abbrev pub closing : Data → Data
closing d = with_script point.Disconnect 0 (record d { state = Closing; manual = [] })

-- the connection is closed at the next turn, whatever waits or is unacknowledged
abbrev pub hanging_up : Data → Data
hanging_up d = record d { ready = false }

-- a call to disconnect, which no state refuses; a second one doesn't wait for the script
abbrev pub disconnect_at : State → Data → Data
disconnect_at Offline d = d
disconnect_at Connecting d = record d { state = Closing }
disconnect_at Operational d = closing d
disconnect_at Printing d = closing d
disconnect_at Pausing d = closing d
disconnect_at Paused d = closing d
disconnect_at Cancelling d = closing d
disconnect_at Finishing d = closing d
disconnect_at Closing d = hanging_up d
disconnect_at Fault d = record d { state = Offline }

-- a call to select a file
abbrev pub select_at : State → File → Data → Answer
select_at Offline file d = ok_answer (record d { file = Some file })
select_at Connecting file d = ok_answer (record d { file = Some file })
select_at Operational file d = ok_answer (record d { file = Some file })
select_at Printing file d = wrong_state d
select_at Pausing file d = wrong_state d
select_at Paused file d = wrong_state d
select_at Cancelling file d = wrong_state d
select_at Finishing file d = wrong_state d
select_at Closing file d = wrong_state d
select_at Fault file d = ok_answer (record d { file = Some file })

-- whether the selected file has this name
abbrev pub is_named : List ℕ → Option File → Bool
is_named name None = false
is_named name (Some file) = pointwise nat_eq file.name name

-- in every state alike: a file that is being printed stays
abbrev pub drop_file_step : List ℕ → Data → Answer
drop_file_step name d =
    if is_named name d.file then (if d.active then (Err refusal.FileBusy, d) else ok_answer (record d { file = None })) else ok_answer d

-- a new print of the selected file begins
abbrev pub printing : ℕ → Data → Data
printing print d =
    with_script point.Started print (record d { state = Printing; greatest = print; active = true; cursor = 0; print_line = 0 })

-- a file whose first hot command, if any, is known
abbrev pub start_checked : Option HotLine → ℕ → Data → Answer
start_checked None print d = ok_answer (printing print d)
start_checked (Some hot) print d = (Err (refusal.TooHotLine hot.line hot.asked hot.limit), d)

-- a start of the selected file
abbrev pub start_file : Option File → ℕ → Data → Answer
start_file None print d = (Err refusal.NoFile, d)
start_file (Some file) print d = start_checked (first_hot_of d.limits file.job.commands) print d

-- a call to start the print of this number
abbrev pub start_at : State → ℕ → Data → Answer
start_at Offline print d = wrong_state d
start_at Connecting print d = wrong_state d
start_at Operational print d = start_file d.file print d
start_at Printing print d = wrong_state d
start_at Pausing print d = wrong_state d
start_at Paused print d = wrong_state d
start_at Cancelling print d = wrong_state d
start_at Finishing print d = wrong_state d
start_at Closing print d = wrong_state d
start_at Fault print d = wrong_state d

-- the paused print ends as Cancelled without a script, and a new one begins; the answer names the ended print
abbrev pub restart_at : State → ℕ → Data → Result ℕ Refusal × Data
restart_at Offline print d = (Err (refusal.WrongState d.state), d)
restart_at Connecting print d = (Err (refusal.WrongState d.state), d)
restart_at Operational print d = (Err (refusal.WrongState d.state), d)
restart_at Printing print d = (Err (refusal.WrongState d.state), d)
restart_at Pausing print d = (Err (refusal.WrongState d.state), d)
restart_at Paused print d = (Ok d.greatest, printing print d)
restart_at Cancelling print d = (Err (refusal.WrongState d.state), d)
restart_at Finishing print d = (Err (refusal.WrongState d.state), d)
restart_at Closing print d = (Err (refusal.WrongState d.state), d)
restart_at Fault print d = (Err (refusal.WrongState d.state), d)

-- a call to pause the print
abbrev pub pause_at : State → Data → Answer
pause_at Offline d = wrong_state d
pause_at Connecting d = wrong_state d
pause_at Operational d = wrong_state d
pause_at Printing d = ok_answer (with_script point.Paused d.greatest (record d { state = Pausing }))
pause_at Pausing d = ok_answer d
pause_at Paused d = ok_answer d
pause_at Cancelling d = wrong_state d
pause_at Finishing d = wrong_state d
pause_at Closing d = wrong_state d
pause_at Fault d = wrong_state d

-- a call to resume the print
abbrev pub resume_at : State → Data → Answer
resume_at Offline d = wrong_state d
resume_at Connecting d = wrong_state d
resume_at Operational d = wrong_state d
resume_at Printing d = ok_answer d
resume_at Pausing d = wrong_state d
resume_at Paused d = ok_answer (with_script point.Resumed d.greatest (record d { state = Printing }))
resume_at Cancelling d = wrong_state d
resume_at Finishing d = wrong_state d
resume_at Closing d = wrong_state d
resume_at Fault d = wrong_state d

-- a call to pause or to resume, whichever fits
abbrev pub toggle_at : State → Data → Answer
toggle_at Offline d = wrong_state d
toggle_at Connecting d = wrong_state d
toggle_at Operational d = wrong_state d
toggle_at Printing d = pause_at Printing d
toggle_at Pausing d = wrong_state d
toggle_at Paused d = resume_at Paused d
toggle_at Cancelling d = wrong_state d
toggle_at Finishing d = wrong_state d
toggle_at Closing d = wrong_state d
toggle_at Fault d = wrong_state d

-- no more file commands are issued, and the script for a cancelled print waits
abbrev pub cancelling : Data → Data
cancelling d = with_script point.Cancelled d.greatest (record d { state = Cancelling })

-- a call to cancel the print
abbrev pub cancel_at : State → Data → Answer
cancel_at Offline d = wrong_state d
cancel_at Connecting d = wrong_state d
cancel_at Operational d = wrong_state d
cancel_at Printing d = ok_answer (cancelling d)
cancel_at Pausing d = ok_answer (cancelling d)
cancel_at Paused d = ok_answer (cancelling d)
cancel_at Cancelling d = wrong_state d
cancel_at Finishing d = wrong_state d
cancel_at Closing d = wrong_state d
cancel_at Fault d = wrong_state d

-- the most lines of users that wait
abbrev pub most_manual : ℕ
most_manual = 256

-- all the users' lines or, if too many would wait, none
abbrev pub add_manual : List (List ℕ) → Data → Answer
add_manual lines d =
    if nat_lt most_manual (length d.manual + length lines) then (Err (refusal.Full (length d.manual)), d) else ok_answer (record d { manual = d.manual ++ lines })

-- Marlin's emergency stop
abbrev pub stop_text : List ℕ
stop_text = codes "M112"

-- whether these lines stop the printer: one line, which is that
abbrev pub is_stop : List (List ℕ) → Bool
is_stop [] = false
is_stop (text ∷ []) = pointwise nat_eq text stop_text
is_stop (text ∷ next ∷ texts) = false

-- the line that stops the printer is all that is still issued, and then the link is hung up
abbrev pub stopping : List (List ℕ) → Data → Data
stopping lines d = record d { state = Closing; manual = lines; ready = false; stopped = true }

-- the lines of a user over a ready link
abbrev pub take_manual : List (List ℕ) → Data → Answer
take_manual lines d = if is_stop lines then ok_answer (stopping lines d) else add_manual lines d

-- only the stop is taken, and only if it may be
abbrev pub stop_alone : Bool → List (List ℕ) → Data → Answer
stop_alone may lines d = if is_stop lines && may then ok_answer (stopping lines d) else wrong_state d

-- whether it may be while the link is being closed: that must still wait for its script, and no stop was taken before
abbrev pub may_stop_closing : Data → Bool
may_stop_closing d = d.ready && not d.stopped

-- a call to issue lines of a user; before the `ok` of the hello only the stop is taken, once a link is made
abbrev pub manual_at : State → List (List ℕ) → Data → Answer
manual_at Offline lines d = wrong_state d
manual_at Connecting lines d = stop_alone d.linked lines d
manual_at Operational lines d = take_manual lines d
manual_at Printing lines d = take_manual lines d
manual_at Pausing lines d = take_manual lines d
manual_at Paused lines d = take_manual lines d
manual_at Cancelling lines d = take_manual lines d
manual_at Finishing lines d = take_manual lines d
manual_at Closing lines d = stop_alone (may_stop_closing d) lines d
manual_at Fault lines d = wrong_state d

-- the line up to which all must be acknowledged before a connection is closed: the last one, or, if `ok`s have numbers, the last one
-- that is no poll, since a poll's `ok` may have none
abbrev pub closing_line : Data → ℕ
closing_line d = if d.numbered then d.last_line else d.issued

-- whether a connection that is being closed may be closed now: its last script is over, or it isn't waited for; or
-- the line that stops the printer was issued
abbrev pub is_closable : Bool → Data → Bool
is_closable false d = ((length d.waiting == 0) && nat_le (closing_line d) d.acked) || not d.ready
is_closable true d = length d.manual == 0

-- whether the line that stops the printer is to be issued next
abbrev pub is_stopping_at : State → Data → Bool
is_stopping_at Closing d = d.stopped && (length d.manual == 1)
is_stopping_at _ d = false

-- the same in the desk's own state
abbrev pub is_stopping : Data → Bool
is_stopping d = is_stopping_at d.state d

-- whether the connection may be closed now
abbrev pub is_closable_at : State → Data → Bool
is_closable_at Offline d = false
is_closable_at Connecting d = false
is_closable_at Operational d = false
is_closable_at Printing d = false
is_closable_at Pausing d = false
is_closable_at Paused d = false
is_closable_at Cancelling d = false
is_closable_at Finishing d = false
is_closable_at Closing d = is_closable d.stopped d
is_closable_at Fault d = false

-- the print that is going on
abbrev pub active_print : Data → Option ℕ
active_print d = if d.active then Some d.greatest else None
