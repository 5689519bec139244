-- Line numbers below 0, as Marlin reads them. The printer of the theorem has numbers without a sign: here is what it takes in place of
-- such lines, and what is replied.
use Rattle.std.specs.Prelude.{ℕ, ◌+◌, ◌-◌, Bool, false, ◌&&◌, ◌||◌, ◌==◌, not, if◌then◌else◌, List, [], ◌∷◌, ◌++◌, drop, codes, decimal}
use Rattle.std.specs.List.{list_all}
use Rattle.byte_text.specs.Marks.{has_m110}
use Rattle.byte_text.specs.Number.{number_of}
use Rattle.marlin_frame.specs.Frame.{begins_with_n, has_checksum, fails, has_second_n, line_number_of, text_of}
use Rattle.printer_model.specs.Replies.{taken_replies, reason_text, ok_line}
use Rattle.printer_model.specs.declared.printer.Taken.{Taken}
use Rattle.printer_model.specs.declared.printer.Taken.TheVariants.{Accepted, Full, Refused}
use Rattle.printer_model.specs.declared.printer.Reason.{Reason}
use Rattle.printer_model.specs.declared.printer.Reason.TheVariants.{WrongNumber, NoChecksum, Mismatch}

-- whether a line begins with `N` and a minus sign
unfoldable pub begins_with_minus : List ℕ → Bool
begins_with_minus [] = false
begins_with_minus (letter ∷ []) = false
begins_with_minus (letter ∷ sign ∷ rest) = (letter == 78) && (sign == 45)

-- how far a line's number is below 0: not at all without a sign, or if the number after a second `N` counts
unfoldable pub minus_of : List ℕ → ℕ
minus_of line = if begins_with_minus line && not (has_second_n line) then number_of (drop 2 line) else 0

-- whether a line's number is one above a last number that is this far below 0
unfoldable pub follows_below : ℕ → List ℕ → Bool
follows_below below line = (line_number_of line == 0) && (below == minus_of line + 1)

-- the command of a numbered line, whose number may have a sign
unfoldable pub command_of : List ℕ → List ℕ
command_of line = if begins_with_minus line then text_of (drop 1 line) else text_of line

-- a line that the printer refuses for a reason, whatever its last number is
unfoldable pub line_refused_for : Reason → List ℕ
line_refused_for WrongNumber = codes "N0"
line_refused_for NoChecksum = codes "N M110"
line_refused_for Mismatch = codes "N M110*"

-- what is taken in place of a numbered line without M110 after a last number that is this far below 0
unfoldable pub given_below : ℕ → List ℕ → List ℕ
given_below below line =
    if not (follows_below below line) then line_refused_for WrongNumber
    else if not (has_checksum line) then line_refused_for NoChecksum
    else if fails line then line_refused_for Mismatch
    else command_of line

-- what is taken in place of a numbered line with M110: if it sets a number below 0, a line that sets 0
unfoldable pub given_setting : List ℕ → List ℕ
given_setting line = if fails line || (minus_of line == 0) then line else codes "N0 M110*35"

-- what is taken in place of a line, if the last number is this far below 0
unfoldable pub given : ℕ → List ℕ → List ℕ
given below line =
    if not (begins_with_n line) then line
    else if has_m110 line then given_setting line
    else if below == 0 then line
    else given_below below line

-- how far below 0 the last number is once a line was taken
unfoldable pub below_after : ℕ → List ℕ → Taken → ℕ
below_after below line Accepted = if begins_with_n line then minus_of line else below
below_after below line Full = below
below_after below line (Refused reason last) = below

-- the first line of a refusal at a last number that is this far below 0
unfoldable pub error_below : Reason → ℕ → List ℕ
error_below reason below = codes "Error:" ++ reason_text reason ++ codes ", Last Line: -" ++ decimal below

-- the number one above that one
unfoldable pub number_above : ℕ → List ℕ
number_above below = if below == 1 then codes "0" else codes "-" ++ decimal (below - 1)

-- the second line of such a refusal
unfoldable pub resend_below : ℕ → List ℕ
resend_below below = codes "Resend: " ++ number_above below

-- the reply lines to a line that was taken at such a last number
abbrev pub replies_below : ℕ → Taken → List (List ℕ)
replies_below below Accepted = []
replies_below below Full = []
replies_below below (Refused reason last) = error_below reason below ∷ resend_below below ∷ ok_line ∷ []

-- the reply lines to a line that was taken, if the last number is this far below 0
unfoldable pub signed_replies : ℕ → Taken → List (List ℕ)
signed_replies below taken = if below == 0 then taken_replies taken else replies_below below taken

-- whether no line has a number below 0
abbrev pub are_unsigned : List (List ℕ) → Bool
are_unsigned lines = list_all (λ line. minus_of line == 0) lines
