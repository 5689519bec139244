-- The head: the modes and positions of the axes after commands.
use Rattle.std.specs.Prelude.{ℕ, ℤ, ◌+ℤ◌, Bool, ◌||◌, ◌&&◌, nat_lt, unsigned_abs, if◌then◌else◌, List, Option, None, Some, unwrap_or}
use Rattle.gcode_measure.specs.declared.head.Head.{Head}
use Rattle.gcode_measure.specs.declared.kind.Mode.{Mode}
use Rattle.gcode_measure.specs.declared.values.Axis.{Axis}
use Rattle.gcode_measure.specs.declared.values.Axis.TheVariants.{X, Y, Z, E}
use Rattle.gcode_measure.specs.Values.{value_of}
use Rattle.gcode_measure.specs.Position.{mode_of, mode_set, is_move, is_relative, position_of}

-- modes and positions after commands
abbrev pub head_of : List (List ℕ) → Head
head_of texts =
    record {
      axes = mode_of X texts;
      extruder = mode_of E texts;
      x = position_of X texts;
      y = position_of Y texts;
      z = position_of Z texts;
      e = position_of E texts;
    }

-- a position after a value is added to it or takes its place
abbrev pub moved : Bool → Option ℤ → ℤ → ℤ
moved adds None at = at
moved adds (Some value) at = if adds then at +ℤ value else value

-- a position after one more command in a mode
abbrev pub position_then : Axis → Mode → List ℕ → ℤ → ℤ
position_then axis mode text at = moved (is_move text && is_relative mode) (value_of axis text) at

-- modes and positions after one more command
abbrev pub head_then : Head → List ℕ → Head
head_then head text =
    record {
      axes = unwrap_or (mode_set X text) head.axes;
      extruder = unwrap_or (mode_set E text) head.extruder;
      x = position_then X head.axes text head.x;
      y = position_then Y head.axes text head.y;
      z = position_then Z head.axes text head.z;
      e = position_then E head.extruder text head.e;
    }

-- whether a position is too far from 0
abbrev pub is_far : ℤ → Bool
is_far at = nat_lt 1000000000000 (unsigned_abs at)

-- whether a position of a head is too far from 0
abbrev pub has_far : Head → Bool
has_far head = is_far head.x || is_far head.y || is_far head.z || is_far head.e
