-- Why a call of a link failed, in words.
use Rattle.std.specs.Prelude.{ℕ, ℤ, ◌==◌, ◌++◌, if◌then◌else◌, unsigned_abs, List, [], codes, decimal, Option, Some, None}
use Rattle.printer_link_cause.specs.declared.cause.Cause.{Cause}
use Rattle.printer_link_cause.specs.declared.cause.Cause.TheVariants as cause

-- an error of the system, by its number if it has one
abbrev pub cause_of : Option ℤ → Cause
cause_of (Some number) = cause.System (unsigned_abs number)
cause_of None = cause.Unnumbered

-- the words of the errors that a link may meet
abbrev pub known_words : ℕ → List ℕ
known_words number =
    if number == 2 then codes "no such file or directory"
    else (if number == 5 then codes "input/output error"
    else (if number == 6 then codes "no such device or address"
    else (if number == 13 then codes "permission denied"
    else (if number == 16 then codes "device or resource busy"
    else (if number == 19 then codes "no such device"
    else (if number == 24 then codes "too many open files"
    else (if number == 32 then codes "broken pipe"
    else (if number == 100 then codes "network is down"
    else (if number == 101 then codes "network is unreachable"
    else (if number == 103 then codes "connection aborted"
    else (if number == 104 then codes "connection reset by peer"
    else (if number == 110 then codes "connection timed out"
    else (if number == 111 then codes "connection refused"
    else (if number == 112 then codes "host is down"
    else (if number == 113 then codes "no route to host"
    else [])))))))))))))))

-- an error of the system: its words, or its number
abbrev pub words_or_number : List ℕ → ℕ → List ℕ
words_or_number [] number = codes "system error " ++ decimal number
words_or_number words number = words

abbrev pub system_words : ℕ → List ℕ
system_words number = words_or_number (known_words number) number

-- why a serial device can't be used, with a hint
abbrev pub device_words : List ℕ → List ℕ
device_words words = words ++ codes "; docs/SERIAL.md says more"

-- a cause in words
abbrev pub cause_words : Cause → List ℕ
cause_words (cause.System number) = system_words number
cause_words cause.Unnumbered = codes "an error of the system"
cause_words cause.Closed = codes "closed by the printer"
cause_words cause.TakesNothing = codes "the connection takes no more bytes"
cause_words cause.ReadsNothing = codes "the printer doesn't read what is sent"
cause_words cause.NeverSilent = codes "the printer speaks and doesn't start"
cause_words cause.NoAddress = codes "its name has no address"
cause_words (cause.NoDevice number) = device_words (codes "the device can't be opened: " ++ system_words number)
cause_words cause.NoTerminal = device_words (codes "it is no serial device")
cause_words cause.Taken = device_words (codes "another program uses the device")
cause_words cause.NoStty = device_words (codes "the program stty (of coreutils) can't be run")
cause_words cause.Refused = device_words (codes "stty refused the line's settings, as a speed that it doesn't know")
cause_words cause.Blocking = device_words (codes "the device can't be set non-blocking")
