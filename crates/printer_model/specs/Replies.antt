-- The lines that the printer replies.
use Rattle.std.specs.Prelude.{ℕ, ◌+◌, Bool, if◌then◌else◌, List, [], ◌∷◌, ◌++◌, min, codes, decimal, bytes_eq, Option, Some, None}
use Rattle.byte_text.specs.Number.{most_u32}
use Rattle.printer_model.specs.declared.printer.Reason.{Reason}
use Rattle.printer_model.specs.declared.printer.Reason.TheVariants.{WrongNumber, NoChecksum, Mismatch}
use Rattle.printer_model.specs.declared.printer.Taken.{Taken}
use Rattle.printer_model.specs.declared.printer.Taken.TheVariants.{Accepted, Full, Refused}

-- why a line was refused, as the printer says it
unfoldable pub reason_text : Reason → List ℕ
reason_text WrongNumber = codes "Line Number is not Last Line Number+1"
reason_text NoChecksum = codes "No Checksum with line number"
reason_text Mismatch = codes "checksum mismatch"

-- the line that a refusal asks for: the next one, or the greatest number
unfoldable pub asked_after : ℕ → ℕ
asked_after last = min (last + 1) most_u32

-- the first of the three lines of a refusal
unfoldable pub error_line : Reason → ℕ → List ℕ
error_line reason last = codes "Error:" ++ reason_text reason ++ codes ", Last Line: " ++ decimal last

-- the second
unfoldable pub resend_line : ℕ → List ℕ
resend_line last = codes "Resend: " ++ decimal (asked_after last)

-- the third, and the reply to a run line if replies aren't numbered
unfoldable pub ok_line : List ℕ
ok_line = codes "ok"

-- the reply lines to a line that was taken
abbrev pub taken_replies : Taken → List (List ℕ)
taken_replies Accepted = []
taken_replies Full = []
taken_replies (Refused reason last) = error_line reason last ∷ resend_line last ∷ ok_line ∷ []

-- what the printer says as it starts
unfoldable pub start_line : List ℕ
start_line = codes "start"

-- the reply to a question for temperatures
unfoldable pub temperatures_line : List ℕ
temperatures_line = codes "ok T:21.30 /0.00 B:21.22 /0.00 @:0 B@:0"

-- the N parameter in a numbered acknowledgement
abbrev pub n_parameter_text : Option ℕ → List ℕ
n_parameter_text None = []
n_parameter_text (Some n_parameter) = codes " N" ++ decimal n_parameter

-- a numbered acknowledgement, with the free buffer slots
unfoldable pub numbered_ok : Option ℕ → ℕ → List ℕ
numbered_ok n_parameter free = codes "ok" ++ n_parameter_text n_parameter ++ codes " P15 B" ++ decimal free

-- the reply to a run line, with numbered acknowledgements or without
unfoldable pub run_reply : Bool → Option ℕ → List ℕ → ℕ → List ℕ
run_reply numbered n_parameter text free =
    if bytes_eq text (codes "M105") then temperatures_line
    else if numbered then numbered_ok n_parameter free
    else ok_line
