-- What holds of each call and line of a history over contents of the shelf, whatever it records.
use Rattle.std.specs.Prelude.{Bool, ◌≡◌, ℕ, ◌≤◌, List, length, All}
use Rattle.temp_rules.specs.declared.limits.Limits.{Limits}
use Rattle.job_desk.specs.Data.{ScriptTexts, new_desk}
use Rattle.print_queue.specs.declared.row.PrintRow.{PrintRow}
use Rattle.octo_keeper.specs.declared.shelf.ShelfFile.{ShelfFile}
use Rattle.octo_asks.specs.History.{History}
use Rattle.octo_settings.specs.Sound.{IsSettings}
use Rattle.octo_settings.specs.declared.settings.Settings.{Settings}
use Rattle.octo_house_laws.specs.OverContents.{EachOver, LegalOver, after_over, run_over}
use Rattle.octo_house_rules.specs.Legal.{Standing}
use Rattle.octo_house_rules.specs.Outcomes.{HasOutcome}
use Rattle.octo_house_rules.specs.Scripts.{HasScripts}
use Rattle.octo_house_laws.specs.Calls.{IsPermittedEntry, IsEntryOnce}
use Rattle.octo_house_laws.specs.Courses.{FollowsCourses, HasCourseIfDone}
use Rattle.octo_house_laws.specs.Limits.{IssuesCoolLines}
use Rattle.octo_house_laws.specs.Own.{IsEntryIsolated}

-- each call has the answer that its verdict allows; who was denied, which puts were repeated, and what callers learned of each other
pub record KeepsLawsOver (contents : List (List ShelfFile)) (history : History) (s : Standing) : Type 0 where
  pub legal : LegalOver contents history s
  pub permitted : EachOver IsPermittedEntry contents history s
  pub once : EachOver IsEntryOnce contents history s
  pub isolated : EachOver IsEntryIsolated contents history s

-- the law, over whatever contents
abbrev pub EveryHistoryKeepsLawsOver : Type 0
EveryHistoryKeepsLawsOver =
    (contents : List (List ShelfFile)) (history : History) (s : Standing) → LegalOver contents history s → KeepsLawsOver contents history s

-- prints: their scripts and commands, their courses, and what their records say
pub record KeepsPrintsOver (scripts : ScriptTexts) (contents : List (List ShelfFile)) (history : History) (s : Standing) : Type 0 where
  pub scripts_kept : HasScripts scripts (run_over contents history s) history
  pub courses : FollowsCourses scripts (run_over contents history s) history
  pub outcomes : All (HasOutcome (length s.known.prints) (run_over contents history s).ends) (after_over contents history s).known.prints
  pub done : All (HasCourseIfDone scripts (length s.known.prints) (run_over contents history s) history) (after_over contents history s).known.prints

-- the law, for a host that begins with a new desk, and whose records have no number above their count
abbrev pub EveryHistoryKeepsPrintsOver : Type 0
EveryHistoryKeepsPrintsOver =
    (scripts : ScriptTexts) (limits : Limits) (poll_ms : ℕ) (numbered : Bool) (contents : List (List ShelfFile)) (history : History) (s : Standing)
    → s.known.desk ≡ new_desk scripts limits poll_ms numbered
    → All (λ (row : PrintRow). row.number ≤ length s.known.prints) s.known.prints → LegalOver contents history s
    → KeepsPrintsOver scripts contents history s

-- no line asks a heater for more than the limits of the settings that a host began with, over whatever contents
abbrev pub EveryLineOverIsCool : Type 0
EveryLineOverIsCool =
    (settings : Settings) (contents : List (List ShelfFile)) (history : History) (s : Standing) → IsSettings settings
    → s.known.desk ≡ new_desk settings.scripts settings.limits settings.poll_ms settings.numbered_oks
    → LegalOver contents history s → IssuesCoolLines settings.limits history
