-- The reply that a line of the printer is.
use Rattle.std.specs.Prelude.{ℕ, nat_le, bytes_eq, Bool, true, false, ◌||◌, ◌&&◌, if◌then◌else◌, codes, List, length, drop, Option, None, Some}
use Rattle.byte_text.specs.Number.{leading_digits}
use Rattle.marlin_reply.specs.Pieces.{trimmed, begins, after_spaces, field_of, small_number}
use Rattle.marlin_reply.specs.Temperatures.{temps_of}
use Rattle.marlin_reply.specs.declared.reply.Reply.{Reply}
use Rattle.marlin_reply.specs.declared.reply.Reply.TheVariants as reply
use Rattle.marlin_reply.specs.declared.reply.Temps.{Temps}

-- an `ok` with the numbers of its pieces `N`, `P` and `B`, and its temperatures
unfoldable pub ok_of : List ℕ → Reply
ok_of text = reply.Ok (field_of 78 text) (field_of 80 text) (field_of 66 text) (temps_of text)

-- a request for the line of that number
abbrev pub request_of : Option ℕ → Reply
request_of None = reply.Other
request_of (Some number) = reply.Resend number

-- after `Resend:` one to ten digits up to 4,294,967,295, if no eleventh digit follows
unfoldable pub resend_of : List ℕ → Reply
resend_of digits =
    if nat_le 1 (length digits) && nat_le (length digits) 10 then request_of (small_number digits) else reply.Other

-- a report of temperatures, another line if no heater is whole
abbrev pub report_of : Option Temps → Reply
report_of None = reply.Other
report_of (Some temps) = reply.Temps temps

-- what a line that is neither `ok` nor a request nor `start` says
unfoldable pub other_reply_of : List ℕ → Reply
other_reply_of text =
    if begins text (codes "echo:busy:") || begins text (codes "busy:") then reply.Busy
    else (if begins text (codes "T:") || begins text (codes "B:") then report_of (temps_of text)
    else (if begins text (codes "Error:") then reply.Error
    else reply.Other))

-- what a line without blanks at its ends says, the first of these that fits
unfoldable pub kind_of_text : List ℕ → Reply
kind_of_text text =
    if bytes_eq text (codes "ok") || begins text (codes "ok ") then ok_of text
    else (if begins text (codes "Resend:") then resend_of (leading_digits (after_spaces (drop 7 text)))
    else (if bytes_eq text (codes "start") then reply.Start
    else other_reply_of text))

-- the reply that a line is
unfoldable pub kind_of : List ℕ → Reply
kind_of line = kind_of_text (trimmed line)

-- whether a reply is neither Ok, Resend nor Start
abbrev pub is_other_reply : Reply → Bool
is_other_reply (reply.Ok number planner block temps) = false
is_other_reply (reply.Resend number) = false
is_other_reply reply.Start = false
is_other_reply reply.Busy = true
is_other_reply (reply.Temps temps) = true
is_other_reply reply.Error = true
is_other_reply reply.Other = true

-- whether a line is another reply, which moves nothing: neither Ok, Resend nor Start
unfoldable pub is_chatter : List ℕ → Bool
is_chatter line = is_other_reply (kind_of line)
