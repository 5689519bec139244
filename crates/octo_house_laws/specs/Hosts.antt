-- What all laws say of a host that has just begun.
use Rattle.std.specs.Prelude.{Bool, ℕ, List, length, All}
use Rattle.temp_rules.specs.declared.limits.Limits.{Limits}
use Rattle.job_desk.specs.Data.{ScriptTexts}
use Rattle.octo_access.specs.declared.policy.Policy.{Policy}
use Rattle.octo_keeper.specs.Tables.{AreNumbered}
use Rattle.octo_keeper.specs.declared.shelf.ShelfFile.{ShelfFile}
use Rattle.octo_keeper.specs.declared.tables.Tables.{Tables}
use Rattle.octo_asks.specs.History.{History}
use Rattle.octo_house_rules.specs.Known.{Known}
use Rattle.octo_house_rules.specs.Begins.{Begins}
use Rattle.octo_house_rules.specs.Legal.{Standing, beginning, after_all, Legal}
use Rattle.octo_house_rules.specs.Outcomes.{HasOutcome}
use Rattle.octo_house_rules.specs.Scripts.{KeepsScripts, run_in}
use Rattle.octo_house_laws.specs.Calls.{ArePermitted, AreMadeOnce}
use Rattle.octo_house_laws.specs.Courses.{FollowsCourses, HasCourseIfDone}
use Rattle.octo_house_laws.specs.Limits.{AreCoolScripts, IssuesCoolLines}
use Rattle.octo_house_laws.specs.Own.{AreIsolated}

-- what holds of a history from where it began
pub record KeepsLaws (scripts : ScriptTexts) (limits : Limits) (history : History) (s : Standing) : Type 0 where
  -- prints: their scripts and commands, their courses, and what their records say
  pub scripts_kept : KeepsScripts scripts history s
  pub courses : FollowsCourses scripts (run_in history s) history
  pub outcomes : All (HasOutcome (length s.known.prints) (run_in history s).ends) (after_all history s).known.prints
  pub done : All (HasCourseIfDone scripts (length s.known.prints) (run_in history s) history) (after_all history s).known.prints
  -- no issued line is too hot if no script's is
  pub cool : AreCoolScripts limits scripts → IssuesCoolLines limits history
  -- calls: who was denied, and puts that were repeated
  pub permitted : ArePermitted history s
  pub once : AreMadeOnce history s
  -- what callers without the permission ADMIN learn of queue and prints: what their own rows determine
  pub isolated : AreIsolated history s

-- the law, for a host that begins on kept tables whose prints are numbered from 1 without a gap
abbrev pub EveryHostKeepsTheLaws : Type 0
EveryHostKeepsTheLaws =
    (scripts : ScriptTexts) (limits : Limits) (poll_ms : ℕ) (numbered : Bool) (policy : Policy) (ports : List (List ℕ)) (material : List ℕ)
    (tables : Tables) (files held : List ShelfFile) (k : Known) (window limit : ℕ) (history : History)
    → Begins scripts limits poll_ms numbered policy ports material tables files k → AreNumbered tables.prints
    → Legal history (beginning window limit k held) → KeepsLaws scripts limits history (beginning window limit k held)
