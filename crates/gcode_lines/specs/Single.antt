-- A line that is read by itself, as one command.
use Rattle.std.specs.Prelude.{ℕ, ◌==◌, List, [], ◌∷◌, length, if◌then◌else◌, Result, Ok, Err}
use Rattle.byte_text.specs.Marks.{has_byte, has_m110}
use Rattle.gcode_lines.specs.declared.fault.NotOne.{NotOne}
use Rattle.gcode_lines.specs.declared.fault.NotOne.TheVariants.{LineEnd, Empty, HasM110, TooLong, ControlByte}
use Rattle.gcode_lines.specs.Job.{Command, JobData}
use Rattle.gcode_lines.specs.Text.{command_text, begin_of, is_too_long, has_control}

-- a text as a command, or the first of the rules that it breaks
abbrev pub checked : List ℕ → Result (List ℕ) NotOne
checked text =
    if length text == 0 then Err Empty
    else (if has_m110 text then Err HasM110
    else (if is_too_long text then Err TooLong else (if has_control text then Err ControlByte else Ok text)))

-- a line that is read by itself: its text as a command, or why it is none
unfoldable pub single_of : List ℕ → Result (List ℕ) NotOne
single_of line = if has_byte 10 line then Err LineEnd else checked (command_text line)

-- a job of one command, in a file that is one line
abbrev pub single_job : List ℕ → List ℕ → JobData
single_job line text =
    record { file = line; commands = command ∷ []; skipped = 0; bytes = length line }
  where
    command : Command
    command = record { text = text; line = 1; place = 0; begin = begin_of line }
