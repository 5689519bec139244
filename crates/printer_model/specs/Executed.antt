-- What was executed in a session of a recorded history.
use Rattle.std.specs.Prelude.{ℕ, zero, suc, pred, Bool, true, false, not, ◌==◌, if◌then◌else◌, List, [], ◌∷◌, length, drop, filter, Option, Some, None}
use Rattle.marlin_frame.specs.Numbering.{hello_number, wire_number}
use Rattle.printer_model.specs.Printer.{Logged}
use Rattle.printer_model.specs.World.{world_of, is_opened}
use Rattle.printer_model.specs.declared.oks.Oks.{Oks}
use Rattle.printer_model.specs.declared.event.WorldEvent.{WorldEvent}

-- how many sessions a recorded history has
abbrev pub opens : List WorldEvent → ℕ
opens [] = 0
opens (event ∷ past) = if is_opened event then suc (opens past) else opens past

-- how many sessions are still to come after an event, none if it opens one too many
abbrev pub sessions_left_after : ℕ → Bool → Option ℕ
sessions_left_after s false = Some s
sessions_left_after zero true = None
sessions_left_after (suc s) true = Some s

-- the events from an Opened on, if sessions are still to come
abbrev pub open_on : ℕ → List WorldEvent → List WorldEvent
open_on zero events = []
open_on (suc s) events = events

-- the events before the Opened that follows session s
abbrev pub till : ℕ → List WorldEvent → List WorldEvent
till s [] = []
till s (event ∷ past) =
    if is_opened event then open_on s (event ∷ till (pred s) past) else event ∷ till s past

-- whether a number is the hello's
abbrev pub is_hello : Option ℕ → Bool
is_hello None = false
is_hello (Some number) = number == hello_number

-- whether a line that was run has another number than the hello
abbrev pub is_counted : Logged → Bool
is_counted line = not (is_hello line.number)

-- what the printer had run by the end of session s
abbrev pub log_till : ℕ → Oks → ℕ → List WorldEvent → List Logged
log_till slots oks s past = (world_of slots oks (till s past)).log

-- the lines run in session s, without the hello; the first session is 1, and a session lasts till the next `Opened`
abbrev pub executed : ℕ → Oks → List WorldEvent → ℕ → List Logged
executed slots oks past s =
    filter is_counted (drop (length (log_till slots oks (pred s) past)) (log_till slots oks s past))

-- texts as the printer's log has them, numbered from the line at a place on
abbrev pub logged_from : ℕ → List (List ℕ) → List Logged
logged_from place [] = []
logged_from place (text ∷ texts) =
    record { number = Some (wire_number place); text = text } ∷ logged_from (suc place) texts
