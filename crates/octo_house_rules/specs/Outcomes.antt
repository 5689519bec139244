-- The outcomes of the prints in a history.
use Rattle.std.specs.Prelude.{Bool, ◌≡◌, ℕ, ◌<◌, ◌≤◌, List, length, fold, All}
use Rattle.temp_rules.specs.declared.limits.Limits.{Limits}
use Rattle.job_desk.specs.Data.{ScriptTexts, new_desk}
use Rattle.job_desk.specs.Run.{Fate, Finished, Stopped, Left, Unplugged, Broken, of_print}
use Rattle.octo_asks.specs.History.{History}
use Rattle.print_queue.specs.declared.ending.Outcome.{Outcome}
use Rattle.print_queue.specs.declared.ending.Outcome.TheVariants as outcome
use Rattle.print_queue.specs.declared.row.PrintRow.{PrintRow}
use Rattle.octo_house_rules.specs.Legal.{Standing, after_all, Legal}
use Rattle.octo_house_rules.specs.Scripts.{run_in}

-- the outcome that a print has after what it came to
abbrev pub outcome_of : Fate → Outcome
outcome_of Finished = outcome.Done
outcome_of Stopped = outcome.Cancelled
outcome_of Left = outcome.Cancelled
outcome_of Unplugged = outcome.Cancelled
outcome_of Broken = outcome.Failed

-- the outcome by all that is known; a print that came to nothing yet is active
abbrev pub outcome_by : List Fate → Outcome
outcome_by fates = fold (λ before fate. outcome_of fate) outcome.Active fates

-- the record of a print that began in a history has the outcome of what the print came to in its run
abbrev pub HasOutcome : ℕ → List (ℕ × Fate) → PrintRow → Type 0
HasOutcome before ends row = before < row.number → row.outcome ≡ outcome_by (of_print row.number ends)

-- the law, for a host whose records have no number above their count
abbrev pub EveryHistoryKeepsOutcomes : Type 0
EveryHistoryKeepsOutcomes =
    (scripts : ScriptTexts) (limits : Limits) (poll_ms : ℕ) (numbered : Bool) (history : History) (s : Standing) → s.known.desk ≡ new_desk scripts limits poll_ms numbered
    → All (λ (row : PrintRow). row.number ≤ length s.known.prints) s.known.prints → Legal history s
    → All (HasOutcome (length s.known.prints) (run_in history s).ends) (after_all history s).known.prints
