-- The lines of a G-code file, and the commands that they hold.
use Rattle.std.specs.Prelude.{ℕ, ◌+◌, Bool, not, ◌==◌, nat_lt, List, [], ◌∷◌, length, map, if◌then◌else◌, filter, count_by, Option, Some, None, Result, Ok, Err}
use Rattle.std.specs.Option.{option_or}
use Rattle.gcode_lines.specs.declared.fault.FileFault.{FileFault}
use Rattle.gcode_lines.specs.declared.fault.FileFault.TheVariants.{TooLong, ControlByte, TooLarge}
use Rattle.gcode_lines.specs.Job.{Command, JobData, most_bytes}
use Rattle.gcode_lines.specs.Text.{command_text, begin_of, is_skipped, is_too_long, has_control}

-- a line of a file: its bytes, its number, and the place of its first byte
pub record FileLine : Type 0 where
  pub bytes : List ℕ
  pub number : ℕ
  pub place : ℕ

-- a line of these bytes, with its number and place
abbrev pub file_line : List ℕ → ℕ → ℕ → FileLine
file_line bytes number place = record { bytes = bytes; number = number; place = place }

-- one more byte at the front of the first piece
abbrev pub in_front : ℕ → List (List ℕ) → List (List ℕ)
in_front byte [] = (byte ∷ []) ∷ []
in_front byte (piece ∷ pieces) = (byte ∷ piece) ∷ pieces

-- the bytes cut at line feeds; after a last line feed there is no piece
abbrev pub pieces_of : List ℕ → List (List ℕ)
pieces_of [] = []
pieces_of (byte ∷ bytes) = if byte == 10 then [] ∷ pieces_of bytes else in_front byte (pieces_of bytes)

-- pieces as lines, the first of which has this number and place
abbrev pub numbered : ℕ → ℕ → List (List ℕ) → List FileLine
numbered number place [] = []
numbered number place (piece ∷ pieces) =
    file_line piece number place ∷ numbered (number + 1) (place + length piece + 1) pieces

-- the lines of a file, counted from 1
unfoldable pub lines_of : List ℕ → List FileLine
lines_of bytes = numbered 1 0 (pieces_of bytes)

-- whether a line is skipped
abbrev pub is_skipped_line : FileLine → Bool
is_skipped_line line = is_skipped (command_text line.bytes)

-- a line as a command
abbrev pub command_at : FileLine → Command
command_at line = record {
  text = command_text line.bytes;
  line = line.number;
  place = line.place;
  begin = line.place + begin_of line.bytes;
}

-- why a line refuses its file, if it does
abbrev pub fault_at : FileLine → Option FileFault
fault_at line =
    if is_skipped_line line then None
    else (if is_too_long (command_text line.bytes) then Some (TooLong line.number)
    else (if has_control (command_text line.bytes) then Some (ControlByte line.number) else None))

-- the first fault of the lines
abbrev pub first_fault : List FileLine → Option FileFault
first_fault [] = None
first_fault (line ∷ lines) = option_or (fault_at line) (first_fault lines)

-- the commands among the lines
abbrev pub commands_in : List FileLine → List Command
commands_in lines = map command_at (filter (λ line. not (is_skipped_line line)) lines)

-- how many of the lines are skipped
abbrev pub skipped_in : List FileLine → ℕ
skipped_in lines = count_by is_skipped_line lines

-- a job, unless there is a fault
abbrev pub unless_fault : Option FileFault → JobData → Result JobData FileFault
unless_fault None job = Ok job
unless_fault (Some fault) job = Err fault

-- the job of a file's lines
abbrev pub job_in : List ℕ → List FileLine → JobData
job_in bytes lines =
    record { file = bytes; commands = commands_in lines; skipped = skipped_in lines; bytes = length bytes }

-- what a file is read as: the job of its commands, or why it is refused
unfoldable pub job_of : List ℕ → Result JobData FileFault
job_of bytes =
    if nat_lt most_bytes (length bytes) then Err (TooLarge (length bytes)) else unless_fault (first_fault (lines_of bytes)) (job_in bytes (lines_of bytes))
