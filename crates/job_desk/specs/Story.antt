-- What whole runs of a desk come to.
use Rattle.std.specs.Prelude.{◌≡◌, ℕ, ◌<◌, Bool, List, [], ◌∷◌, ◌++◌, All}
use Rattle.job_desk.specs.Data.{ScriptTexts, Line, new_desk}
use Rattle.temp_rules.specs.declared.limits.Limits.{Limits}
use Rattle.job_desk.specs.Course.{End, Paused, Cancelled, Done, Course}
use Rattle.job_desk.specs.Run.{DeskCall, Fate, Finished, Stopped, Left, Unplugged, Broken, Pulled, Run, new_run, run_of, MayCallAll, pulled_of, of_print}
use Rattle.job_desk.specs.declared.state.State.{State}
use Rattle.job_desk.specs.declared.state.State.TheVariants.{Printing}
use Rattle.job_desk.specs.declared.state.Tag.{Tag}
use Rattle.job_desk.specs.declared.state.Tag.TheVariants.{Script, Job, Manual, Poll}

-- lines that begin a course
pub record IsBegun (scripts : ScriptTexts) (print : ℕ) (commands : List (List ℕ)) (lines : List Line) : Type 0 where
  pub end : End
  pub rest : List Line
  pub course : Course scripts print commands end (lines ++ rest)

-- What may be known of one print: the commands of the files that it began with, its pulled lines, and what it came to.
pub data Story (scripts : ScriptTexts) (print : ℕ) : List (List (List ℕ)) → List Line → List Fate → Type 0 where
  -- it never began
  never : Story scripts print [] [] []
  -- it is going on
  going : (commands : List (List ℕ)) (lines : List Line) → IsBegun scripts print commands lines → Story scripts print (commands ∷ []) lines []
  -- it is done: a whole course with the end Done
  finished : (commands : List (List ℕ)) (lines : List Line) → Course scripts print commands Done lines →
      Story scripts print (commands ∷ []) lines (Finished ∷ [])
  -- it was cancelled: a whole course with the end Cancelled
  stopped : (commands : List (List ℕ)) (lines : List Line) → Course scripts print commands Cancelled lines →
      Story scripts print (commands ∷ []) lines (Stopped ∷ [])
  -- it was left while paused: a whole course with the end Paused
  left : (commands : List (List ℕ)) (lines : List Line) → Course scripts print commands Paused lines → Story scripts print (commands ∷ []) lines (Left ∷ [])
  -- the connection ended, or failed, before it had
  unplugged : (commands : List (List ℕ)) (lines : List Line) → IsBegun scripts print commands lines → Story scripts print (commands ∷ []) lines (Unplugged ∷ [])
  broken : (commands : List (List ℕ)) (lines : List Line) → IsBegun scripts print commands lines → Story scripts print (commands ∷ []) lines (Broken ∷ [])

-- a file command comes only in the state Printing
abbrev pub IsPulledWell : Tag → State → Type 0
IsPulledWell (Script point print) state = Unit {0}
IsPulledWell (Job print index) state = state ≡ Printing
IsPulledWell Manual state = Unit {0}
IsPulledWell Poll state = Unit {0}

-- every run from a new desk has such a story of each print, and pulls file commands only in the state Printing
pub record HasStories (scripts : ScriptTexts) (run : Run) : Type 0 where
  pub stories : (print : ℕ) → 0 < print → Story scripts print (of_print print run.begun) (pulled_of print run.pulled) (of_print print run.ends)
  pub only_printing : All (λ (one : Pulled). IsPulledWell one.line.tag one.state) run.pulled

-- the law
abbrev pub EveryRunHasStories : Type 0
EveryRunHasStories = (scripts : ScriptTexts) (limits : Limits) (poll_ms : ℕ) (numbered : Bool) (calls : List DeskCall) →
    MayCallAll calls (new_run (new_desk scripts limits poll_ms numbered)) →
    HasStories scripts (run_of calls (new_run (new_desk scripts limits poll_ms numbered)))
