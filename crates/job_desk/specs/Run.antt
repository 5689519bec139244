-- Whole runs of calls on a desk.
use Rattle.std.specs.Prelude.{ℕ, ◌<◌, Bool, false, ◌==◌, List, [], ◌∷◌, ◌++◌, Option, None, Some, Result, Ok, Err, if◌then◌else◌}
use Rattle.job_desk.specs.Data.{Data, File, Line, commands_of}
use Rattle.job_desk.specs.Table.{connect_at, disconnect_at, select_at, drop_file_step, start_at, restart_at, pause_at, resume_at, toggle_at, cancel_at, manual_at}
use Rattle.job_desk.specs.Pull.{pull_step}
use Rattle.job_desk.specs.Note.{note_step}
use Rattle.job_desk.specs.declared.state.State.{State}
use Rattle.job_desk.specs.declared.state.Refusal.{Refusal}
use Rattle.job_desk.specs.declared.state.Tag.{Tag}
use Rattle.job_desk.specs.declared.state.Tag.TheVariants.{Script, Job, Manual, Poll}
use Rattle.job_desk.specs.declared.link_fact.LinkFact.{LinkFact}
use Rattle.job_desk.specs.declared.link_fact.LinkFact.TheVariants as fact
use Rattle.print_queue.specs.declared.ending.Ending.{Ending}
use Rattle.print_queue.specs.declared.ending.Outcome.{Outcome}
use Rattle.print_queue.specs.declared.ending.Outcome.TheVariants as outcome

-- a call on the desk
pub data DeskCall : Type 0 where
  Connect : List ℕ → DeskCall
  Disconnect : DeskCall
  Select : File → DeskCall
  DropFile : List ℕ → DeskCall
  Start : ℕ → DeskCall
  Restart : ℕ → DeskCall
  Pause : DeskCall
  Resume : DeskCall
  Toggle : DeskCall
  Cancel : DeskCall
  Manually : List (List ℕ) → DeskCall
  Pull : ℕ → DeskCall
  Note : ℕ → LinkFact → ℕ → DeskCall

-- what a print came to
pub data Fate : Type 0 where
  -- Done
  Finished : Fate
  -- Cancelled: by the call, left for another print, by the end of the connection
  Stopped : Fate
  Left : Fate
  Unplugged : Fate
  -- Failed
  Broken : Fate

-- a pulled line, and the state in which it was pulled
pub record Pulled : Type 0 where
  pub line : Line
  pub state : State

-- the desk after some calls, and in order what they began, pulled and ended
pub record Run : Type 0 where
  pub desk : Data
  -- each print with its file's commands
  pub begun : List (ℕ × List (List ℕ))
  pub pulled : List Pulled
  pub ends : List (ℕ × Fate)

-- a desk's calls are only beginning
abbrev pub new_run : Data → Run
new_run d = record { desk = d; begun = []; pulled = []; ends = [] }

-- the run with another desk
abbrev pub moved : Data → Run → Run
moved d run = record run { desk = d }

-- a run after a start, by its answer
abbrev pub after_start : ℕ → Result (Unit {0}) Refusal × Data → Run → Run
after_start print (Ok u, d) run = record run { desk = d; begun = run.begun ++ (print, commands_of d.file) ∷ [] }
after_start print (Err refusal, d) run = moved d run

-- a run after a restart, by its answer
abbrev pub after_restart : ℕ → Result ℕ Refusal × Data → Run → Run
after_restart print (Ok former, d) run = record run { desk = d; begun = run.begun ++ (print, commands_of d.file) ∷ []; ends = run.ends ++ (former, Left) ∷ [] }
after_restart print (Err refusal, d) run = moved d run

-- a run after a pull in a state, by the line that was pulled
abbrev pub after_pull : State → Option Line × Data → Run → Run
after_pull state (None, d) run = moved d run
after_pull state (Some line, d) run = record run { desk = d; pulled = run.pulled ++ record { line = line; state = state } ∷ [] }

-- a print that ends as Cancelled in a note was cancelled, unless it is the end of the connection that ended it
abbrev pub cancelled_by : LinkFact → Fate
cancelled_by fact.Quiet = Stopped
cancelled_by fact.Opened = Stopped
cancelled_by fact.Ready = Stopped
cancelled_by fact.Closed = Unplugged
cancelled_by fact.NoPort = Stopped
cancelled_by fact.Failed = Stopped
cancelled_by (fact.Ended end) = Stopped

-- what a print came to that ends with this outcome in a note of this fact
abbrev pub fate_of : LinkFact → Outcome → Fate
fate_of fact outcome.Active = Broken
fate_of fact outcome.Done = Finished
fate_of fact outcome.Cancelled = cancelled_by fact
fate_of fact outcome.Failed = Broken

-- a run after a note of this fact, by the print that it ended
abbrev pub after_note : LinkFact → Option Ending × Data → Run → Run
after_note fact (None, d) run = moved d run
after_note fact (Some ending, d) run = record run { desk = d; ends = run.ends ++ (ending.print, fate_of fact ending.outcome) ∷ [] }

-- a run after a call
abbrev pub after : DeskCall → Run → Run
after (Connect port) run = moved (connect_at run.desk.state port run.desk).1 run
after Disconnect run = moved (disconnect_at run.desk.state run.desk) run
after (Select file) run = moved (select_at run.desk.state file run.desk).1 run
after (DropFile name) run = moved (drop_file_step name run.desk).1 run
after (Start print) run = after_start print (start_at run.desk.state print run.desk) run
after (Restart print) run = after_restart print (restart_at run.desk.state print run.desk) run
after Pause run = moved (pause_at run.desk.state run.desk).1 run
after Resume run = moved (resume_at run.desk.state run.desk).1 run
after Toggle run = moved (toggle_at run.desk.state run.desk).1 run
after Cancel run = moved (cancel_at run.desk.state run.desk).1 run
after (Manually lines) run = moved (manual_at run.desk.state lines run.desk).1 run
after (Pull moment) run = after_pull run.desk.state (pull_step moment run.desk) run
after (Note acked fact moment) run = after_note fact (note_step acked fact moment run.desk) run

-- a print's number is above all earlier ones
abbrev pub MayCall : DeskCall → Data → Type 0
MayCall (Connect port) d = Unit {0}
MayCall Disconnect d = Unit {0}
MayCall (Select file) d = Unit {0}
MayCall (DropFile name) d = Unit {0}
MayCall (Start print) d = d.greatest < print
MayCall (Restart print) d = d.greatest < print
MayCall Pause d = Unit {0}
MayCall Resume d = Unit {0}
MayCall Toggle d = Unit {0}
MayCall Cancel d = Unit {0}
MayCall (Manually lines) d = Unit {0}
MayCall (Pull moment) d = Unit {0}
MayCall (Note acked fact moment) d = Unit {0}

-- the calls of a list, in order
abbrev pub run_of : List DeskCall → Run → Run
run_of [] run = run
run_of (call ∷ calls) run = run_of calls (after call run)

-- each call of a list may come when its turn comes
abbrev pub MayCallAll : List DeskCall → Run → Type 0
MayCallAll [] run = Unit {0}
MayCallAll (call ∷ calls) run = MayCall call run.desk × MayCallAll calls (after call run)

-- whether a line with this tag is a script line or a file command of the print
abbrev pub is_of : ℕ → Tag → Bool
is_of print (Script point of) = of == print
is_of print (Job of index) = of == print
is_of print Manual = false
is_of print Poll = false

-- the lines of a print among lines
abbrev pub print_lines : ℕ → List Line → List Line
print_lines print [] = []
print_lines print (line ∷ lines) = if is_of print line.tag then line ∷ print_lines print lines else print_lines print lines

-- the pulled lines of a print
abbrev pub pulled_of : ℕ → List Pulled → List Line
pulled_of print [] = []
pulled_of print (one ∷ all) = if is_of print one.line.tag then one.line ∷ pulled_of print all else pulled_of print all

-- the entries of a print in a list by print
abbrev pub of_print : {X : Type 0} → ℕ → List (ℕ × X) → List X
of_print print [] = []
of_print print (one ∷ all) = if one.0 == print then one.1 ∷ of_print print all else of_print print all
