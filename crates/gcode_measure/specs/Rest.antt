-- A file that goes on with a job at one of its commands.
use Rattle.std.specs.Prelude.{◌≡◌, ℕ, ◌+◌, ◌≤◌, ℤ, Bool, ◌||◌, false, nat_lt, if◌then◌else◌, List, [], ◌∷◌, ◌++◌, length, map, take, drop, codes, Option, None, Some, Result, Ok, Err, IsOkAnd}
use Rattle.std.specs.List.{flat_map}
use Rattle.gcode_lines.specs.Job.{JobData, texts_of, most_bytes}
use Rattle.gcode_lines.specs.Commands.{job_of}
use Rattle.gcode_lines.specs.Text.{has_order_mark, is_numbered}
use Rattle.gcode_measure.specs.declared.fault.MeasureFault.{MeasureFault}
use Rattle.gcode_measure.specs.declared.fault.RestFault.{RestFault}
use Rattle.gcode_measure.specs.declared.fault.RestFault.TheVariants as fault
use Rattle.gcode_measure.specs.declared.head.Head.{Head}
use Rattle.gcode_measure.specs.declared.kind.Mode.{Mode}
use Rattle.gcode_measure.specs.declared.kind.Mode.TheVariants.{Absolute, Relative}
use Rattle.gcode_measure.specs.declared.values.Axis.{Axis}
use Rattle.gcode_measure.specs.Decimal.{micro_text}
use Rattle.gcode_measure.specs.Head.{head_of, has_far}
use Rattle.gcode_measure.specs.Measured.{first_fault}
use Rattle.gcode_measure.specs.Position.{mode_of, position_of}
use Rattle.octo_outside.specs.Lists.{with_line_feed}

-- a head is where the commands before one leave it: none of them is refused, and no axis is too far
pub record IsHeadBefore (job : JobData) (from : ℕ) (head : Head) : Type 0 where
  pub sound : first_fault [] (take from job.commands) ≡ None
  pub head_is : head ≡ head_of (take from (texts_of job))
  pub near : has_far head ≡ false

-- the command that sets the mode of X, Y and Z, and of E with them
abbrev pub axes_command : Mode → List ℕ
axes_command Absolute = codes "G90"
axes_command Relative = codes "G91"

-- the command that sets the mode of E alone
abbrev pub extruder_command : Mode → List ℕ
extruder_command Absolute = codes "M82"
extruder_command Relative = codes "M83"

-- an axis's letter with the text before it, and its position
abbrev pub axis_text : List ℕ → ℤ → List ℕ
axis_text name at = name ++ micro_text at

-- the command that sets all positions
unfoldable pub position_command : Head → List ℕ
position_command head =
    axis_text (codes "G92 X") head.x ++ axis_text (codes " Y") head.y ++ axis_text (codes " Z") head.z ++ axis_text (codes " E") head.e

-- whether a line of this text alone says another text: its front could be taken for a line number or a byte order mark
abbrev pub needs_number : List ℕ → Bool
needs_number text = is_numbered text || has_order_mark text

-- a command as a line: after a number of its own if it needs one
abbrev pub line_of : List ℕ → List ℕ
line_of text = if needs_number text then codes "N0 " ++ text else text

-- the lines of a file that goes on with commands where a head is
abbrev pub rest_lines : Head → List (List ℕ) → List (List ℕ)
rest_lines head texts =
    axes_command head.axes ∷ extruder_command head.extruder ∷ position_command head ∷ map line_of texts

-- lines, each with its line feed
abbrev pub text_of_lines : List (List ℕ) → List ℕ
text_of_lines lines = flat_map with_line_feed lines

-- the file that goes on at a command
unfoldable pub rest_text : List (List ℕ) → ℕ → List ℕ
rest_text texts from = text_of_lines (rest_lines (head_of (take from texts)) (drop from texts))

-- a text, unless a command before it is refused
abbrev pub unless_measured : Option MeasureFault → List ℕ → Result (List ℕ) RestFault
unless_measured None text = Ok text
unless_measured (Some refused) text = Err (fault.Measure refused)

-- the file that goes on at a command, or why none does
unfoldable pub rest_of : JobData → ℕ → Result (List ℕ) RestFault
rest_of job from =
    if nat_lt (length job.commands) from then Err (fault.Past (length job.commands)) else unless_measured (first_fault [] (take from job.commands))
    (rest_text (texts_of job) from)

-- a job goes on like another one at a command: after the three that set modes and positions it has the same commands, and
-- before each of them and after the last the modes and positions of the other
pub record GoesOn (job : JobData) (from : ℕ) (rest : JobData) : Type 0 where
  pub commands : drop 3 (texts_of rest) ≡ drop from (texts_of job)
  pub modes : (axis : Axis) (i : ℕ) → from + i ≤ length job.commands → mode_of axis (take (3 + i) (texts_of rest)) ≡ mode_of axis
      (take (from + i) (texts_of job))
  pub positions : (axis : Axis) (i : ℕ) → from + i ≤ length job.commands →
      position_of axis (take (3 + i) (texts_of rest)) ≡ position_of axis (take (from + i) (texts_of job))

-- a text of a size that a file may have is a file that goes on with a file's job at a command
abbrev pub IsRest : JobData → ℕ → List ℕ → Type 0
IsRest job from text =
    (bytes : List ℕ) → job_of bytes ≡ Ok job → length text ≤ most_bytes → IsOkAnd (job_of text) (GoesOn job from)
