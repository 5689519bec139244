-- What host and printer exchanged in a history: the replies that the host received, and the lines that it sent.
use Rattle.std.specs.Prelude.{ℕ, ◌+◌, pred, Bool, true, false, ◌&&◌, ◌||◌, if◌then◌else◌, List, [], ◌∷◌, ◌++◌, length, drop, map}
use Rattle.printer_model.specs.World.{WorldData, apply, is_free}
use Rattle.printer_model.specs.Executed.{till}
use Rattle.printer_model.specs.declared.event.WorldEvent.{WorldEvent}
use Rattle.printer_model.specs.declared.event.WorldEvent.TheVariants.{Send, Recv, Closed}
use Rattle.marlin_reply.specs.Kind.{kind_of}
use Rattle.marlin_reply.specs.declared.reply.Reply.{Reply}

-- the events of session s, counted from 1: from its Opened to the next one
abbrev pub events_of_session : ℕ → List WorldEvent → List WorldEvent
events_of_session s past = drop (length (till (pred s) past)) (till s past)

-- the line at the front of a wire, if there is one
abbrev pub front_line : List (List ℕ) → List (List ℕ)
front_line [] = []
front_line (reply ∷ rest) = reply ∷ []

-- the reply lines that the host receives by an event
abbrev pub received_by : WorldData → WorldEvent → List (List ℕ)
received_by w Recv = if w.linked then front_line w.down else []
received_by w _ = []

-- the reply lines that the host receives by events
abbrev pub received_from : WorldData → List WorldEvent → List (List ℕ)
received_from w [] = []
received_from w (event ∷ events) = received_by w event ++ received_from (apply w event) events

-- the replies that the host received by these events
abbrev pub replies_from : WorldData → List WorldEvent → List Reply
replies_from w events = map kind_of (received_from w events)

-- how many lines were sent since a reply was received, after one more event
abbrev pub sent_by : ℕ → WorldEvent → ℕ
sent_by count (Send line) = count + 1
sent_by count Recv = 0
sent_by count _ = count

-- how many lines were sent since a reply was received, after more events
abbrev pub sends_since : ℕ → List WorldEvent → ℕ
sends_since count [] = count
sends_since count (event ∷ events) = sends_since (sent_by count event) events

-- whether an event closes the link
abbrev pub is_closed : WorldEvent → Bool
is_closed Closed = true
is_closed _ = false

-- whether the host does nothing more before the link is closed
abbrev pub closes_next : List WorldEvent → Bool
closes_next [] = false
closes_next (event ∷ events) = is_closed event || (is_free event && closes_next events)
