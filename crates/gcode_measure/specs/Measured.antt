-- What the commands of a job measure: its moves, its filament and its extent.
use Rattle.std.specs.Prelude.{ℕ, ℤ, pos, Bool, true, false, if◌then◌else◌, List, [], ◌∷◌, ◌++◌, length, map, filter, fold, sum_by, Option, None, Some, Result, Ok, Err}
use Rattle.std.specs.Int.{int_min, int_max, int_gap}
use Rattle.std.specs.Option.{option_or}
use Rattle.gcode_lines.specs.Job.{Command, JobData, texts_of}
use Rattle.gcode_measure.specs.declared.fault.MeasureFault.{MeasureFault}
use Rattle.gcode_measure.specs.declared.fault.MeasureFault.TheVariants as fault
use Rattle.gcode_measure.specs.declared.head.Head.{Head}
use Rattle.gcode_measure.specs.declared.kind.Kind.{Kind}
use Rattle.gcode_measure.specs.declared.kind.Kind.TheVariants.{Inches}
use Rattle.gcode_measure.specs.declared.totals.Extent.{Extent}
use Rattle.gcode_measure.specs.declared.totals.Measure.{Measure}
use Rattle.gcode_measure.specs.declared.values.Axis.{Axis}
use Rattle.gcode_measure.specs.declared.values.Axis.TheVariants.{X, Y, Z, E}
use Rattle.gcode_measure.specs.Kind.{kind_of}
use Rattle.gcode_measure.specs.Position.{Step, steps_of, is_move, position_of}
use Rattle.gcode_measure.specs.Head.{head_of, has_far}

-- the moves among commands
abbrev pub moves_of : List (List ℕ) → List Step
moves_of texts = filter (λ step. is_move step.text) (steps_of texts)

-- the position of an axis before a step
abbrev pub start_of : Axis → Step → ℤ
start_of axis step = position_of axis step.before

-- the position of an axis after a step
abbrev pub end_of : Axis → Step → ℤ
end_of axis step = position_of axis (step.before ++ step.text ∷ [])

-- how far up all moves take the extruder
abbrev pub fed_by : List Step → ℕ
fed_by moves = sum_by (λ step. int_gap (start_of E step) (end_of E step)) moves

-- how far down all moves take the extruder
abbrev pub drawn_by : List Step → ℕ
drawn_by moves = sum_by (λ step. int_gap (end_of E step) (start_of E step)) moves

-- the least and the greatest of positions
abbrev pub extent_of : List ℤ → Option Extent
extent_of [] = None
extent_of (at ∷ ats) = Some (record { low = fold int_min at ats; high = fold int_max at ats })

-- the extent of an axis over the ends of moves
abbrev pub extent_by : Axis → List Step → Option Extent
extent_by axis moves = extent_of (map (end_of axis) moves)

-- what commands measure
abbrev pub measured : List (List ℕ) → Measure
measured texts =
    let moves = moves_of texts in
    record {
      commands = length texts;
      moves = length moves;
      fed = pos (fed_by moves);
      drawn = pos (drawn_by moves);
      x = extent_by X moves;
      y = extent_by Y moves;
      z = extent_by Z moves;
    }

-- whether a kind of command sets inches
abbrev pub is_inches : Kind → Bool
is_inches Inches = true
is_inches kind = false

-- why a command is refused, if it is: it sets inches, or a position after it is too far from 0
abbrev pub fault_by : List ℕ → ℕ → Head → Option MeasureFault
fault_by text line head =
    if is_inches (kind_of text) then Some (fault.Inches line) else (if has_far head then Some (fault.TooFar line) else None)

-- why a command that comes after others is refused, if it is
abbrev pub fault_at : List (List ℕ) → Command → Option MeasureFault
fault_at before command = fault_by command.text command.line (head_of (before ++ command.text ∷ []))

-- the first refusal of commands that come after others
abbrev pub first_fault : List (List ℕ) → List Command → Option MeasureFault
first_fault before [] = None
first_fault before (command ∷ commands) =
    option_or (fault_at before command) (first_fault (before ++ command.text ∷ []) commands)

-- the measure, unless a command is refused
abbrev pub unless_fault : Option MeasureFault → Measure → Result Measure MeasureFault
unless_fault None measure = Ok measure
unless_fault (Some fault) measure = Err fault

-- what a job measures, or its first fault
unfoldable pub measure_of : JobData → Result Measure MeasureFault
measure_of job = unless_fault (first_fault [] job.commands) (measured (texts_of job))
