-- The scripts of the prints in a history.
use Rattle.std.specs.Prelude.{Bool, ◌≡◌, ℕ, ◌<◌, List, [], ◌∷◌, ◌++◌, All}
use Rattle.temp_rules.specs.declared.limits.Limits.{Limits}
use Rattle.job_desk.specs.Data.{ScriptTexts, new_desk}
use Rattle.job_desk.specs.Run.{DeskCall, Run, Pulled, new_run, run_of, of_print}
use Rattle.job_desk.specs.Story.{Story, IsPulledWell}
use Rattle.octo_asks.specs.History.{History}
use Rattle.octo_asks.specs.declared.entry.Entry.{Entry}
use Rattle.octo_asks.specs.declared.entry.Entry.TheVariants as entry
use Rattle.octo_house_rules.specs.Answers.{verdict}
use Rattle.octo_house_rules.specs.Verdict.{calls_after}
use Rattle.octo_house_rules.specs.Noted.{calls_of}
use Rattle.octo_house_rules.specs.Issued.{trace}
use Rattle.octo_house_rules.specs.Legal.{Standing, after_entry, Legal}

-- the calls at the desk that an entry records
abbrev pub calls_at : Entry → Standing → List DeskCall
calls_at (entry.Call worker ask moment x) s = calls_after (verdict ask s.files s.known) x
calls_at (entry.Note note) s = calls_of note
calls_at entry.Close s = []

-- those of a history, in order
abbrev pub calls_of_all : History → Standing → List DeskCall
calls_of_all [] s = []
calls_of_all (e ∷ es) s = calls_at e s ++ calls_of_all es (after_entry e s)

-- the run of the desk that a history records
abbrev pub run_in : History → Standing → Run
run_in history s = run_of (calls_of_all history s) (new_run s.known.desk)

-- by a run of the desk: the issued lines of each print begin a course, and are a whole one if it is done or was cancelled; no
-- file command is issued but in the state Printing
pub record HasScripts (scripts : ScriptTexts) (run : Run) (history : History) : Type 0 where
  pub stories : (print : ℕ) → 0 < print → Story scripts print (of_print print run.begun) (trace print history) (of_print print run.ends)
  pub only_printing : All (λ (one : Pulled). IsPulledWell one.line.tag one.state) run.pulled

-- by the run that the history records
abbrev pub KeepsScripts : ScriptTexts → History → Standing → Type 0
KeepsScripts scripts history s = HasScripts scripts (run_in history s) history

-- the law: so does every legal history of a host that begins with a new desk
abbrev pub EveryHistoryKeepsScripts : Type 0
EveryHistoryKeepsScripts =
    (scripts : ScriptTexts) (limits : Limits) (poll_ms : ℕ) (numbered : Bool) (history : History) (s : Standing)
    → s.known.desk ≡ new_desk scripts limits poll_ms numbered → Legal history s
    → KeepsScripts scripts history s
