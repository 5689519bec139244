-- A measure, command by command, and the bounds of its sums.
use Rattle.std.specs.Prelude.{ℕ, ◌+◌, ◌*◌, ◌≤◌, ℤ, pos, ◌+ℤ◌, ◌≤ℤ◌, if◌then◌else◌, List, Option, None, Some}
use Rattle.std.specs.Int.{int_min, int_max, int_gap}
use Rattle.gcode_lines.specs.Job.{most_bytes}
use Rattle.gcode_measure.specs.declared.head.Head.{Head}
use Rattle.gcode_measure.specs.declared.totals.Extent.{Extent}
use Rattle.gcode_measure.specs.declared.totals.Measure.{Measure}
use Rattle.gcode_measure.specs.Position.{is_move}

-- an extent with one more position
abbrev pub widened : Option Extent → ℤ → Extent
widened None at = record { low = at; high = at }
widened (Some extent) at = record { low = int_min extent.low at; high = int_max extent.high at }

-- a measure with one more command, which is no move
abbrev pub with_command : Measure → Measure
with_command measure = record measure { commands = measure.commands + 1 }

-- a measure with one more move from one head to another
abbrev pub with_move : Measure → Head → Head → Measure
with_move measure from next =
    record {
      commands = measure.commands + 1;
      moves = measure.moves + 1;
      fed = measure.fed +ℤ pos (int_gap from.e next.e);
      drawn = measure.drawn +ℤ pos (int_gap next.e from.e);
      x = Some (widened measure.x next.x);
      y = Some (widened measure.y next.y);
      z =
          Some (widened measure.z next.z);
    }

-- a measure with one more command from one head to another
abbrev pub measure_then : Measure → List ℕ → Head → Head → Measure
measure_then measure text from next = if is_move text then with_move measure from next else with_command measure

-- what holds of every measure: no sum is greater than its moves allow
pub record IsBounded (measure : Measure) : Type 0 where
  pub moves : measure.moves ≤ measure.commands
  pub commands : measure.commands ≤ most_bytes
  pub fed_low : pos 0 ≤ℤ measure.fed
  pub fed_high : measure.fed ≤ℤ pos (measure.moves * 2000000000000)
  pub drawn_low : pos 0 ≤ℤ measure.drawn
  pub drawn_high : measure.drawn ≤ℤ pos (measure.moves * 2000000000000)
