-- The desk as plain data.
use Rattle.std.specs.Prelude.{ℕ, ◌+◌, Bool, false, min, List, [], ◌++◌, map, Option, None, Some}
use Rattle.send_window.specs.Hearing.{last_moment}
use Rattle.gcode_lines.specs.Job.{JobData, texts_of}
use Rattle.temp_rules.specs.declared.limits.Limits.{Limits}
use Rattle.job_desk.specs.declared.state.State.{State}
use Rattle.job_desk.specs.declared.state.State.TheVariants.{Offline}
use Rattle.job_desk.specs.declared.state.Point.{Point}
use Rattle.job_desk.specs.declared.state.Point.TheVariants as point
use Rattle.job_desk.specs.declared.state.Tag.{Tag}
use Rattle.job_desk.specs.declared.state.Tag.TheVariants.{Script}

-- the texts of each script, in order
pub record ScriptTexts : Type 0 where
  pub connected : List (List ℕ)
  pub disconnect : List (List ℕ)
  pub started : List (List ℕ)
  pub paused : List (List ℕ)
  pub resumed : List (List ℕ)
  pub cancelled : List (List ℕ)
  pub done : List (List ℕ)

-- the texts of the script at a point
abbrev pub texts_at : Point → ScriptTexts → List (List ℕ)
texts_at point.Connected scripts = scripts.connected
texts_at point.Disconnect scripts = scripts.disconnect
texts_at point.Started scripts = scripts.started
texts_at point.Paused scripts = scripts.paused
texts_at point.Resumed scripts = scripts.resumed
texts_at point.Cancelled scripts = scripts.cancelled
texts_at point.Done scripts = scripts.done

-- a line to be issued, and where it comes from
pub record Line : Type 0 where
  pub text : List ℕ
  pub tag : Tag

-- texts that all come from one place
abbrev pub tagged : Tag → List (List ℕ) → List Line
tagged tag texts = map (λ text. record { text = text; tag = tag }) texts

-- the lines of a script for a print, which is 0 if the script belongs to none
abbrev pub script_lines : ScriptTexts → Point → ℕ → List Line
script_lines scripts point print = tagged (Script point print) (texts_at point scripts)

-- the selected file: its name and its commands
pub record File : Type 0 where
  pub name : List ℕ
  pub job : JobData

-- the file commands of a selection, none if nothing is selected
abbrev pub commands_of : Option File → List (List ℕ)
commands_of None = []
commands_of (Some file) = texts_of file.job

-- a desk: what it was made with, its state, its file, its print, and the lines that wait
pub record Data : Type 0 where
  -- what the desk was made with; no step changes it
  pub scripts : ScriptTexts
  pub limits : Limits
  pub poll_ms : ℕ
  -- whether the printer's `ok`s have numbers
  pub numbered : Bool
  pub state : State
  pub port : Option (List ℕ)
  pub file : Option File
  -- the greatest print so far, and whether it is active
  pub greatest : ℕ
  pub active : Bool
  -- the index of the next file command
  pub cursor : ℕ
  -- the script lines and the users' lines that wait
  pub waiting : List Line
  pub manual : List (List ℕ)
  -- from this moment on a poll is due
  pub poll_at : ℕ
  -- and from this one on a probe is due, if something waits for its `ok`
  pub probe_at : ℕ
  -- how many lines of the session were issued and acknowledged
  pub issued : ℕ
  pub acked : ℕ
  -- the numbers of the print's last issued line and of the last poll, 0 for none
  pub print_line : ℕ
  pub poll_line : ℕ
  -- the number of the last issued line that is no poll, 0 for none
  pub last_line : ℕ
  -- whether the end of the connection waits for its script: the hello was acknowledged since the last accepted connect, and no second
  -- disconnect came
  pub ready : Bool
  -- whether a user's line stops the printer: it alone is issued, and then the link is hung up
  pub stopped : Bool
  -- whether a link is made
  pub linked : Bool

-- a desk at which nothing was done yet
abbrev pub new_desk : ScriptTexts → Limits → ℕ → Bool → Data
new_desk scripts limits poll_ms numbered = record {
  scripts = scripts;
  limits = limits;
  poll_ms = poll_ms;
  numbered = numbered;
  state = Offline;
  port = None;
  file = None;
  greatest = 0;
  active = false;
  cursor = 0;
  waiting = [];
  manual = [];
  poll_at = 0;
  probe_at = 0;
  issued = 0;
  acked = 0;
  print_line = 0;
  poll_line = 0;
  last_line = 0;
  ready = false;
  stopped = false;
  linked = false;
}

-- a script's lines join those that wait
abbrev pub with_script : Point → ℕ → Data → Data
with_script point print d = record d { waiting = d.waiting ++ script_lines d.scripts point print }

-- a moment some milliseconds later, at most the last one of a u64
abbrev pub moment_after : ℕ → ℕ → ℕ
moment_after moment ms = min (moment + ms) last_moment

-- a file of this name with this job
abbrev pub named_file : List ℕ → JobData → File
named_file name job = record { name = name; job = job }
