-- How many prints of a floor were started, are done and have failed.
use Rattle.std.specs.Prelude.{◌≡◌, ℕ, Bool, true, false, length, count_by}
use Rattle.print_queue.specs.declared.ending.Ending.{Ending}
use Rattle.print_queue.specs.declared.ending.Outcome.{Outcome}
use Rattle.print_queue.specs.declared.ending.Outcome.TheVariants as outcome
use Rattle.octo_floor_bay.specs.Events.{FloorHistory, started_rows, endings}
use Rattle.octo_floor.specs.declared.tally.Tally.{Tally}

-- whether an outcome is that of a print that is done
abbrev pub is_done_as : Outcome → Bool
is_done_as outcome.Active = false
is_done_as outcome.Done = true
is_done_as outcome.Cancelled = false
is_done_as outcome.Failed = false

-- whether it is that of a print that failed
abbrev pub is_failed_as : Outcome → Bool
is_failed_as outcome.Active = false
is_failed_as outcome.Done = false
is_failed_as outcome.Cancelled = false
is_failed_as outcome.Failed = true

-- the same of how a print ended
abbrev pub is_done : Ending → Bool
is_done ending = is_done_as ending.outcome

abbrev pub is_failed : Ending → Bool
is_failed ending = is_failed_as ending.outcome

-- 1 for true, 0 for false
abbrev pub one_if : Bool → ℕ
one_if true = 1
one_if false = 0

-- a tally counts the prints of a history
pub record IsTallyOf (history : FloorHistory) (tally : Tally) : Type 0 where
  pub prints : tally.prints ≡ length (started_rows history)
  pub done : tally.done ≡ count_by is_done (endings history)
  pub failed : tally.failed ≡ count_by is_failed (endings history)
