-- How long a print waited for an answer.
use Rattle.std.specs.Prelude.{ℕ, ◌*◌, ◌≤◌, Option, Some}
use Rattle.send_window.specs.Data.{most_silent, most_told}
use Rattle.send_window.specs.Hearing.{later}
use Rattle.send_window.specs.declared.session_end.SessionEnd.TheVariants.{NoAnswer, LostOk}
use Rattle.octo_session_print.specs.declared.end.PrintEnd.{PrintEnd}
use Rattle.octo_session_print.specs.declared.end.PrintEnd.TheVariants as end

-- a print that ended with no answer waited five limits, and one that ended for a missing `ok` twenty, by a clock that shows its moment
abbrev pub HasWaited : PrintEnd → Option ℕ → ℕ → Option ℕ → Type 0
HasWaited (end.Ended (NoAnswer count)) (Some began) limit (Some now) = later began (most_silent * limit) ≤ now
HasWaited (end.Ended (LostOk count)) (Some began) limit (Some now) = later began (most_told * limit) ≤ now
HasWaited _ _ limit _ = Unit {0}
