-- What a sender does with a reply and at a tick of the clock.
use Rattle.std.specs.Prelude.{ℕ, ◌+◌, ◌-◌, min, max, Bool, true, false, not, ◌&&◌, ◌||◌, drop, Option, None, Some, Result, Ok, Err, if◌then◌else◌, nat_lt, nat_le, ◌==◌, ◌*◌}
use Rattle.byte_text.specs.Number.{most_u64}
use Rattle.marlin_reply.specs.declared.reply.Reply.{Reply}
use Rattle.marlin_reply.specs.declared.reply.Reply.TheVariants as reply
use Rattle.send_window.specs.declared.session_end.SessionEnd.{SessionEnd}
use Rattle.send_window.specs.declared.session_end.SessionEnd.TheVariants.{NoAnswer, AskedBack, AskedAhead, Counts, Restarted, LostOk, NumbersUsed}
use Rattle.marlin_frame.specs.Numbering.{wire_number, place_of}
use Rattle.send_window.specs.Data.{SenderData, most_lines, most_hellos, most_open, most_silent, most_told}

-- the greatest moment
abbrev pub last_moment : ℕ
last_moment = most_u64

-- a moment this number of milliseconds later, at most the greatest one
unfoldable pub later : ℕ → ℕ → ℕ
later moment span = min (moment + span) last_moment

-- the deadline at a moment: none if every issued line is acknowledged
abbrev pub deadline_at : ℕ → ℕ → ℕ → ℕ → Option ℕ
deadline_at moment span acknowledged all = if acknowledged == all then None else Some (later moment span)

-- the deadline after a Resend, which is never sooner than the one that was set
abbrev pub renewed : Option ℕ → Option ℕ → Option ℕ
renewed None next = next
renewed (Some wanted) None = None
renewed (Some wanted) (Some next) = Some (max wanted next)

-- the end of a session whose line numbers are used up
abbrev pub end_of_numbers : ℕ → ℕ → Option SessionEnd
end_of_numbers acknowledged all = if acknowledged == most_lines then Some (NumbersUsed all) else None

-- something was heard
abbrev pub after_hearing : SenderData → SenderData
after_hearing s = record s { heard = true }

-- the printer is at work, so an `ok` may still come
abbrev pub after_busy : SenderData → SenderData
after_busy s = record s { heard = true; asked_anew = false; told = 0 }

-- the session ends
abbrev pub ended_by : SessionEnd → SenderData → SenderData
ended_by why s = record s { ended = Some why }

-- the `ok` after a Resend counts for nothing
abbrev pub after_swallowed_ok : SenderData → SenderData
after_swallowed_ok s = record s { swallow = false; heard = true }

-- the `ok` of the hello
abbrev pub made_ready : SenderData → SenderData
made_ready s = record s { ready = true; hello_due = false; deadline = None; silent = 0; heard = false }

-- the `ok` of the next line
abbrev pub acknowledged : ℕ → SenderData → SenderData
acknowledged moment s = record s {
  acked = s.acked + 1;
  held = drop 1 s.held;
  cursor = max s.cursor (s.acked + 2);
  deadline = deadline_at moment s.limit (s.acked + 1) s.issued;
  silent = 0;
  heard = false;
  asked_anew = false;
  told = 0;
  ended = end_of_numbers (s.acked + 1) s.issued;
}

-- an `ok` of a ready session: of a line if one is unacknowledged, else it counts for nothing
abbrev pub line_ok : ℕ → SenderData → SenderData
line_ok moment s = if nat_lt s.acked s.issued then acknowledged moment s else after_hearing s

-- an `ok` of a ready session that may name its line, which is the next one to acknowledge
abbrev pub named_ok : Option ℕ → ℕ → SenderData → SenderData
named_ok None moment s = line_ok moment s
named_ok (Some number) moment s =
    if number == wire_number (s.acked + 1) then line_ok moment s
    else ended_by (Counts number (wire_number (s.acked + 1))) s

-- an `ok`, by whether it is swallowed and whether the session is ready
abbrev pub heard_ok : Bool → Bool → Option ℕ → ℕ → SenderData → SenderData
heard_ok true _ number moment s = after_swallowed_ok s
heard_ok false false number moment s = made_ready s
heard_ok false true number moment s = named_ok number moment s

-- the `ok` of the line at a place, and with it of all before
abbrev pub acknowledged_to : ℕ → ℕ → SenderData → SenderData
acknowledged_to place moment s = record s {
  acked = place;
  held = drop (place - s.acked) s.held;
  cursor = max s.cursor (place + 1);
  deadline = deadline_at moment s.limit place s.issued;
  silent = 0;
  heard = false;
  asked_anew = false;
  told = 0;
  extra = 0;
  ended = end_of_numbers place s.issued;
}

-- an `ok` of a ready session that names a line: through it if it is issued and above acked, and nothing if it is acknowledged
abbrev pub place_ok : ℕ → ℕ → SenderData → SenderData
place_ok number moment s =
    if nat_lt (wire_number s.issued) number then ended_by (Counts number (wire_number (s.acked + 1))) s
    else (if nat_lt (wire_number s.acked) number then acknowledged_to (place_of number) moment s else after_hearing s)

-- an `ok` that counts only by the number that it names, by whether the session is ready: before, only the one of the last hello
-- that was sent counts, since no hello is behind it
abbrev pub ok_named : Bool → Option ℕ → ℕ → SenderData → SenderData
ok_named ready None moment s = after_hearing s
ok_named false (Some number) moment s = if number + 1 == s.hellos then made_ready s else after_hearing s
ok_named true (Some number) moment s = place_ok number moment s

-- an `ok`, by whether it counts only by its number
abbrev pub ok_in : Bool → Option ℕ → ℕ → SenderData → SenderData
ok_in false number moment s = heard_ok s.swallow s.ready number moment s
ok_in true number moment s = ok_named s.ready number moment s

-- a Resend of the hello, if each has the number 0
abbrev pub hello_asked : SenderData → SenderData
hello_asked s = record s {
  swallow = true;
  hello_due = true;
  deadline = None;
  silent = 0;
  heard = false;
}

-- another hello is due, if one has a number left
abbrev pub another_hello : SenderData → SenderData
another_hello s = record s { hello_due = nat_lt s.hellos most_hellos; heard = true }

-- a Resend of the hello, by whether each hello has a number of its own
abbrev pub hello_resent : Bool → ℕ → SenderData → SenderData
hello_resent false moment s = hello_asked s
hello_resent true moment s = another_hello s

-- a Resend is one of those to ignore: each line that was sent after a lost one brings the same again
abbrev pub is_repeated : ℕ → SenderData → Bool
is_repeated place s = place == s.asked && nat_lt 0 s.left

-- whether a Resend says that the printer has all issued lines
abbrev pub has_all : ℕ → SenderData → Bool
has_all place s = place == s.issued + 1

-- whether lines are unacknowledged that fill the window, and one more may be
abbrev pub may_widen : SenderData → Bool
may_widen s = nat_lt s.acked s.issued && (nat_le (s.window + s.extra) (s.issued - s.acked) && nat_lt (s.window + s.extra) most_open)

-- how many more lines than the window may be unacknowledged after such a Resend: after a limit one more, since the printer has lines whose
-- `ok` was lost, which the next line's makes good
abbrev pub extra_after : ℕ → SenderData → ℕ
extra_after place s = if has_all place s && (s.doubts && may_widen s) then s.extra + 1 else s.extra

-- a Resend of a line that may be asked for
abbrev pub line_asked : ℕ → ℕ → SenderData → SenderData
line_asked place moment s = record s {
  swallow = not s.numbered;
  cursor = if is_repeated place s then s.cursor else place;
  asked = place;
  left = if is_repeated place s then s.left - 1 else s.sent - place;
  extra = extra_after place s;
  doubts = s.doubts && not (has_all place s);
  deadline = renewed s.deadline (deadline_at moment s.limit s.acked s.issued);
  silent = 0;
  heard = false;
  asked_anew = true;
}

-- a Resend of a ready session: neither of an acknowledged line nor past the next line to issue
abbrev pub resend_asked : ℕ → ℕ → SenderData → SenderData
resend_asked number moment s =
    if nat_le number (wire_number s.acked)
    then ended_by (AskedBack number (wire_number s.acked)) (record s { swallow = not s.numbered })
    else if nat_lt (wire_number (s.issued + 1)) number
    then ended_by (AskedAhead number (wire_number s.issued)) (record s { swallow = not s.numbered })
    else line_asked (place_of number) moment s

-- a Resend, by whether the session is ready
abbrev pub heard_resend : Bool → ℕ → ℕ → SenderData → SenderData
heard_resend false number moment s = hello_resent s.numbered moment s
heard_resend true number moment s = resend_asked number moment s

-- the printer began anew, by whether the session is ready
abbrev pub heard_start : Bool → SenderData → SenderData
heard_start false s = after_hearing s
heard_start true s = ended_by Restarted s

-- a reply in a session that hasn't ended
abbrev pub heard_reply : Reply → ℕ → SenderData → SenderData
heard_reply (reply.Ok number _ _ _) moment s = ok_in s.numbered number moment s
heard_reply (reply.Resend number) moment s = heard_resend s.ready number moment s
heard_reply reply.Start moment s = heard_start s.ready s
heard_reply reply.Busy moment s = after_busy s
heard_reply (reply.Temps _) moment s = after_hearing s
heard_reply reply.Error moment s = after_hearing s
heard_reply reply.Other moment s = after_hearing s

-- a step of a session, which changes nothing once it has ended
abbrev pub unless_ended : Option SessionEnd → SenderData → SenderData → SenderData
unless_ended None after s = after
unless_ended (Some _) after s = s

-- a reply
abbrev pub hear_step : Reply → ℕ → SenderData → SenderData
hear_step heard_line moment s = unless_ended s.ended (heard_reply heard_line moment s) s

-- whether there is a deadline and the moment has come
abbrev pub is_past : Option ℕ → ℕ → Bool
is_past None moment = false
is_past (Some wanted) moment = nat_le wanted moment

-- the count of silent limits if one more has passed; before the `ok` of the hello each limit counts, whatever was heard
abbrev pub silent_limits : SenderData → ℕ
silent_limits s = if s.heard && s.ready then 0 else s.silent + 1

-- the count of limits in which the printer asked for the line after the last issued one, if one more has passed
abbrev pub told_limits : SenderData → ℕ
told_limits s = if s.asked_anew && s.asked == s.issued + 1 then s.told + 1 else 0

-- the hello has no `ok` yet, and each has a number of its own
abbrev pub is_greeting : SenderData → Bool
is_greeting s = s.numbered && not s.ready

-- whether a hello is to be sent after a limit: another one, if each has a number of its own and one is left
abbrev pub due_again : SenderData → Bool
due_again s = if is_greeting s then nat_lt s.hellos most_hellos else s.hello_due

-- how long the next answer may take after this count of silent limits: such a hello's as many limits more
abbrev pub wait_after : ℕ → SenderData → ℕ
wait_after count s = if is_greeting s then (count + 1) * s.limit else s.limit

-- a limit passed: at the fifth that counts the session ends, else all that is unacknowledged is sent again
abbrev pub limit_passed : ℕ → SenderData → SenderData
limit_passed moment s =
    if silent_limits s == most_silent
    then ended_by (NoAnswer most_silent) (record s { silent = most_silent })
    else if told_limits s == most_told
    then ended_by (LostOk most_told) (record s { silent = silent_limits s; told = most_told })
    else record s {
      silent = silent_limits s;
      asked_anew = false;
      told = told_limits s;
      cursor = if s.ready then s.acked + 1 else s.cursor;
      left = if s.ready then 0 else s.left;
      doubts = s.doubts || (s.numbered && s.ready);
      hello_due = due_again s;
      heard = false;
      deadline = Some (later moment (wait_after (silent_limits s) s));
    }

-- a tick of the clock in a session that hasn't ended
abbrev pub ticked : ℕ → SenderData → SenderData
ticked moment s = if is_past s.deadline moment then limit_passed moment s else s

-- a tick of the clock
abbrev pub tick_step : ℕ → SenderData → SenderData
tick_step moment s = unless_ended s.ended (ticked moment s) s

-- what hearing and ticking answer: the end, if the session has ended
abbrev pub answer_of : Option SessionEnd → Result (Unit {0}) SessionEnd
answer_of None = Ok tt
answer_of (Some why) = Err why
