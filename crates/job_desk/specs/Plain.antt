-- What a course says in plain lists.
use Rattle.std.specs.Prelude.{◌≡◌, ℕ, zero, suc, ◌+◌, ◌≤◌, Bool, true, false, List, [], ◌∷◌, ◌++◌, length, take, if◌then◌else◌}
use Rattle.job_desk.specs.Data.{ScriptTexts, Line, script_lines}
use Rattle.job_desk.specs.Course.{End, Open, Paused, Cancelled, Done, Course, job_line}
use Rattle.job_desk.specs.Story.{IsBegun}
use Rattle.job_desk.specs.declared.state.Point.TheVariants as point
use Rattle.job_desk.specs.declared.state.Tag.{Tag}
use Rattle.job_desk.specs.declared.state.Tag.TheVariants.{Script, Job, Manual, Poll}

-- whether a line is a file command
abbrev pub is_job : Tag → Bool
is_job (Script point print) = false
is_job (Job print index) = true
is_job Manual = false
is_job Poll = false

-- whether a line is a script's
abbrev pub is_script : Tag → Bool
is_script (Script point print) = true
is_script (Job print index) = false
is_script Manual = false
is_script Poll = false

-- the lines whose tags pass a test
abbrev pub part : (Tag → Bool) → List Line → List Line
part test [] = []
part test (line ∷ lines) = if test line.tag then line ∷ part test lines else part test lines

-- all commands of a file as they are issued, with their indexes from a number on
abbrev pub numbered : ℕ → ℕ → List (List ℕ) → List Line
numbered print index [] = []
numbered print index (text ∷ texts) = job_line print index text ∷ numbered print (index + 1) texts

-- a list repeated a number of times
abbrev pub repeated : ℕ → List Line → List Line
repeated zero lines = []
repeated (suc times) lines = repeated times lines ++ lines

-- the scripts at an end, whole
abbrev pub last_scripts : ScriptTexts → ℕ → End → List Line
last_scripts scripts print Open = []
last_scripts scripts print Paused = script_lines scripts point.Paused print
last_scripts scripts print Cancelled = script_lines scripts point.Cancelled print
last_scripts scripts print Done = script_lines scripts point.Done print

-- the Started script and a number of rounds of the Paused and the Resumed script, each whole
abbrev pub first_scripts : ScriptTexts → ℕ → ℕ → List Line
first_scripts scripts print rounds =
    script_lines scripts point.Started print ++ repeated rounds (script_lines scripts point.Paused print ++ script_lines scripts point.Resumed print)

-- the file commands are the file's first ones, under the indexes 0, 1, 2 and so on without a gap
pub record CommandsInOrder (print : ℕ) (commands : List (List ℕ)) (lines : List Line) : Type 0 where
  pub count : ℕ
  pub within : count ≤ length commands
  pub first : part is_job lines ≡ take count (numbered print 0 commands)

-- the scripts at an end are alone, or for a cancelled print after a whole Paused script
pub data LastScripts (scripts : ScriptTexts) (print : ℕ) : End → List Line → Type 0 where
  alone : (end : End) → LastScripts scripts print end (last_scripts scripts print end)
  after_pause : LastScripts scripts print Cancelled (script_lines scripts point.Paused print ++ script_lines scripts point.Cancelled print)

-- each script is whole, in order
pub record ScriptsWhole (scripts : ScriptTexts) (print : ℕ) (end : End) (lines : List Line) : Type 0 where
  pub rounds : ℕ
  pub last : List Line
  pub last_is : LastScripts scripts print end last
  pub whole : part is_script lines ≡ first_scripts scripts print rounds ++ last

-- all commands of the file are in a course with the end Done
abbrev pub HasAllWhere : End → ℕ → List (List ℕ) → List Line → Type 0
HasAllWhere Open print commands lines = Unit {0}
HasAllWhere Paused print commands lines = Unit {0}
HasAllWhere Cancelled print commands lines = Unit {0}
HasAllWhere Done print commands lines = part is_job lines ≡ numbered print 0 commands

-- what a course says: its file commands in order, all of them if it is done, and each script whole
pub record ReadsPlainly (scripts : ScriptTexts) (print : ℕ) (commands : List (List ℕ)) (end : End) (lines : List Line) : Type 0 where
  pub in_order : CommandsInOrder print commands lines
  pub all : HasAllWhere end print commands lines
  pub scripts_whole : ScriptsWhole scripts print end lines

-- the law of courses, and what of it holds of lines that begin one
abbrev pub EveryCourseReadsPlainly : Type 0
EveryCourseReadsPlainly = (scripts : ScriptTexts) (print : ℕ) (commands : List (List ℕ)) (end : End) (lines : List Line) →
    Course scripts print commands end lines → ReadsPlainly scripts print commands end lines

-- the law of beginnings: their file commands are in order
abbrev pub EveryBeginningIsInOrder : Type 0
EveryBeginningIsInOrder = (scripts : ScriptTexts) (print : ℕ) (commands : List (List ℕ)) (lines : List Line) → IsBegun scripts print commands lines →
    CommandsInOrder print commands lines
