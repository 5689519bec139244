-- What calls make of a desk.
use Rattle.std.specs.Prelude.{List, [], ◌∷◌, Option, None, Some}
use Rattle.job_desk.specs.Data.{Data, Line}
use Rattle.job_desk.specs.Table.{connect_at, disconnect_at, select_at, drop_file_step, start_at, restart_at, pause_at, resume_at, toggle_at, cancel_at, manual_at}
use Rattle.job_desk.specs.Pull.{pull_step}
use Rattle.job_desk.specs.Note.{note_step}
use Rattle.job_desk.specs.Run.{DeskCall, Connect, Disconnect, Select, DropFile, Start, Restart, Pause, Resume, Toggle, Cancel, Manually, Pull, Note}
use Rattle.print_queue.specs.declared.ending.Ending.{Ending}

-- the desk after a call
abbrev pub desk_after : DeskCall → Data → Data
desk_after (Connect port) d = (connect_at d.state port d).1
desk_after Disconnect d = disconnect_at d.state d
desk_after (Select file) d = (select_at d.state file d).1
desk_after (DropFile name) d = (drop_file_step name d).1
desk_after (Start print) d = (start_at d.state print d).1
desk_after (Restart print) d = (restart_at d.state print d).1
desk_after Pause d = (pause_at d.state d).1
desk_after Resume d = (resume_at d.state d).1
desk_after Toggle d = (toggle_at d.state d).1
desk_after Cancel d = (cancel_at d.state d).1
desk_after (Manually lines) d = (manual_at d.state lines d).1
desk_after (Pull moment) d = (pull_step moment d).1
desk_after (Note acked fact moment) d = (note_step acked fact moment d).1

-- the desk after calls, in order
abbrev pub desk_after_all : List DeskCall → Data → Data
desk_after_all [] d = d
desk_after_all (call ∷ calls) d = desk_after_all calls (desk_after call d)

-- how a call ends a print; the desk doesn't say what a restart leaves
abbrev pub ended_by : DeskCall → Data → Option Ending
ended_by (Note acked fact moment) d = (note_step acked fact moment d).0
ended_by _ d = None

-- the line that a call pulls
abbrev pub line_pulled : DeskCall → Data → Option Line
line_pulled (Pull moment) d = (pull_step moment d).0
line_pulled _ d = None

-- lines with one more in front, if it was pulled
abbrev pub with_line : Option Line → List Line → List Line
with_line None lines = lines
with_line (Some line) lines = line ∷ lines

-- the lines that calls pull, in order
abbrev pub lines_pulled : List DeskCall → Data → List Line
lines_pulled [] d = []
lines_pulled (call ∷ calls) d = with_line (line_pulled call d) (lines_pulled calls (desk_after call d))
