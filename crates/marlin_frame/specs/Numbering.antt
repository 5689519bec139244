-- How the lines of a session are numbered: the hello sets the printer's number, and the lines count on from it.
use Rattle.std.specs.Prelude.{ℕ, ◌+◌, ◌-◌, List, codes}
use Rattle.marlin_frame.specs.Frame.{frame_of}

-- the printer's number after the hello; no command carries it, so a printer that restarted takes no command
abbrev pub hello_number : ℕ
hello_number = 1

-- the number of the line at a place in its session; places are counted from 1
abbrev pub wire_number : ℕ → ℕ
wire_number place = place + hello_number

-- the place of the line that a number names
abbrev pub place_of : ℕ → ℕ
place_of number = number - hello_number

-- the command of the hello
abbrev pub hello_text : List ℕ
hello_text = codes "M110 N1"

-- the hello: its own number is 0, which any printer takes, since its command sets the number
abbrev pub hello_frame : List ℕ
hello_frame = frame_of 0 hello_text
