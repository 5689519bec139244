-- The courses of the prints of a history.
use Rattle.std.specs.Prelude.{Bool, ◌≡◌, ◌⊎◌, ℕ, ◌<◌, ◌≤◌, List, [], ◌∷◌, length, All}
use Rattle.temp_rules.specs.declared.limits.Limits.{Limits}
use Rattle.job_desk.specs.Course.{Course, End, Cancelled, Done}
use Rattle.job_desk.specs.Data.{ScriptTexts, new_desk}
use Rattle.job_desk.specs.Run.{Run, Stopped, of_print}
use Rattle.job_desk.specs.Story.{IsBegun}
use Rattle.octo_asks.specs.History.{History}
use Rattle.print_queue.specs.declared.ending.Outcome.TheVariants as outcome
use Rattle.print_queue.specs.declared.row.PrintRow.{PrintRow}
use Rattle.octo_house_rules.specs.Issued.{trace}
use Rattle.octo_house_rules.specs.Legal.{Standing, after_all, Legal}
use Rattle.octo_house_rules.specs.Scripts.{run_in}

-- by a run of the desk: a print's issued lines begin a course of the scripts and of the commands of the file that it began with, if it began
pub record BeginsCourse (scripts : ScriptTexts) (run : Run) (history : History) (print : ℕ) : Type 0 where
  pub commands : List (List ℕ)
  pub file : (of_print print run.begun ≡ []) ⊎ (of_print print run.begun ≡ commands ∷ [])
  pub course : IsBegun scripts print commands (trace print history)

-- a print began once, with these commands of its file, and its issued lines are a whole course with this end
pub record HasWholeCourse (end : End) (scripts : ScriptTexts) (run : Run) (history : History) (print : ℕ) : Type 0 where
  pub commands : List (List ℕ)
  pub file : of_print print run.begun ≡ commands ∷ []
  pub course : Course scripts print commands end (trace print history)

-- the courses of all prints
pub record FollowsCourses (scripts : ScriptTexts) (run : Run) (history : History) : Type 0 where
  pub each : (print : ℕ) → 0 < print → BeginsCourse scripts run history print
  -- one that was cancelled by a request
  pub cancelled : (print : ℕ) → 0 < print → of_print print run.ends ≡ Stopped ∷ []
      → HasWholeCourse Cancelled scripts run history print

-- the law of courses: so it is in each legal history of a host that begins with a new desk
abbrev pub EveryPrintFollowsACourse : Type 0
EveryPrintFollowsACourse =
    (scripts : ScriptTexts) (limits : Limits) (poll_ms : ℕ) (numbered : Bool) (history : History) (s : Standing)
    → s.known.desk ≡ new_desk scripts limits poll_ms numbered
    → Legal history s → FollowsCourses scripts (run_in history s) history

-- a record that says Done, if its print began in the history, is of one with a whole course
abbrev pub HasCourseIfDone : ScriptTexts → ℕ → Run → History → PrintRow → Type 0
HasCourseIfDone scripts before run history row =
    before < row.number → row.outcome ≡ outcome.Done → HasWholeCourse Done scripts run history row.number

-- so it is for a host whose records have no number above their count
abbrev pub EveryDoneRecordHasACourse : Type 0
EveryDoneRecordHasACourse =
    (scripts : ScriptTexts) (limits : Limits) (poll_ms : ℕ) (numbered : Bool) (history : History) (s : Standing)
    → s.known.desk ≡ new_desk scripts limits poll_ms numbered
    → All (λ (row : PrintRow). row.number ≤ length s.known.prints) s.known.prints → Legal history s
    → All (HasCourseIfDone scripts (length s.known.prints) (run_in history s) history) (after_all history s).known.prints
