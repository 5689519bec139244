-- How many lines of its plan a print's desk has still to issue.
use Rattle.std.specs.Prelude.{◌≡◌, ◌⊎◌, ◌≤◌, ℕ, Bool, true, false, ◌+◌, ◌-◌, ◌==◌, List, [], ◌∷◌, length, Option, None, Some, if◌then◌else◌}
use Rattle.job_desk.specs.Data.{Data, Line, moment_after}
use Rattle.job_desk.specs.Pull.{Drawn}
use Rattle.job_desk.specs.declared.state.State.{State}
use Rattle.job_desk.specs.declared.state.State.TheVariants.{Connecting, Operational, Printing, Finishing, Closing}
use Rattle.job_desk.specs.declared.state.Tag.{Tag}
use Rattle.job_desk.specs.declared.state.Tag.TheVariants.{Script, Job, Manual, Poll}
use Rattle.octo_session_print.specs.Plan.{PrintData, print_commands}
use Rattle.octo_session.specs.Plan.{plan}
use Rattle.octo_session_print.specs.Underway.{Standing}

-- by the state, the greatest print, the index of the next command, and how many script lines wait
abbrev pub remaining_at : PrintData → State → ℕ → ℕ → ℕ → ℕ
remaining_at p Connecting print cursor waits = length (plan p.scripts (print_commands p))
remaining_at p Operational print cursor waits =
    waits
    + (if print == 0
    then length p.scripts.started + length (print_commands p) + length p.scripts.done + length p.scripts.disconnect
    else length p.scripts.disconnect)
remaining_at p Printing print cursor waits = waits + (length (print_commands p) - cursor) + length p.scripts.done + length p.scripts.disconnect
remaining_at p Finishing print cursor waits = waits + length p.scripts.disconnect
remaining_at p Closing print cursor waits = waits
remaining_at p _ print cursor waits = 0

-- how many lines of the plan a desk has still to issue, by how far its print is
abbrev pub remaining : PrintData → Standing → ℕ
remaining p s = remaining_at p s.state s.print s.cursor (length s.waiting)

-- a line of the plan isn't a poll
abbrev pub planned_tag : Tag → ℕ
planned_tag (Script point print) = 1
planned_tag (Job print index) = 1
planned_tag Manual = 0
planned_tag Poll = 0

-- how many lines of the plan a pull returned
abbrev pub planned_in : Option Line → ℕ
planned_in None = 0
planned_in (Some line) = planned_tag line.tag

-- whether a desk in this state returns its waiting lines
abbrev pub is_giving : State → Bool
is_giving Operational = true
is_giving Printing = true
is_giving Finishing = true
is_giving Closing = true
is_giving _ = false

-- how many lines of the plan are among lines
abbrev pub planned_count : List Line → ℕ
planned_count [] = 0
planned_count (line ∷ lines) = planned_tag line.tag + planned_count lines

-- a pull that returned a line: it's the plan's and leaves the poll's moment, or it's a poll that was due and puts off the next
pub record IsPacedBy (moment : ℕ) (old new : Data) (line : Line) : Type 0 where
  pub same_ms : new.poll_ms ≡ old.poll_ms
  pub by_tag : (planned_tag line.tag ≡ 1) × (new.poll_at ≡ old.poll_at)
      ⊎ (planned_tag line.tag ≡ 0) × (old.poll_at ≤ moment) × (new.poll_at ≡ moment_after moment old.poll_ms)

-- the line that a pull returned, if any, is so
abbrev pub IsPaced : ℕ → Data → Drawn → Type 0
IsPaced moment d drawn = (line : Line) → drawn.0 ≡ Some line → IsPacedBy moment d drawn.1 line

-- the lines of successive pulls at one moment: all are the plan's, or all but one, which is a poll that was due
abbrev pub ArePaced : ℕ → List Line → Data → Data → Type 0
ArePaced moment lines old new =
    (length lines ≡ planned_count lines) × (new.poll_at ≡ old.poll_at)
    ⊎ (length lines ≡ planned_count lines + 1) × (old.poll_at ≤ moment) × (new.poll_at ≡ moment_after moment old.poll_ms)
