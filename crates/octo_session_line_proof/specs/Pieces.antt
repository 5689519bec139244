-- The lines and replies of a session without their bytes: what is on the wires and in the printer.
use Rattle.std.specs.Prelude.{◌≡◌, ℕ, suc, ◌<◌, ◌^◌, Bool, true, false, List, [], ◌∷◌, ◌++◌, Option, Some, None, All}
use Rattle.byte_text.specs.Sendable.{IsSendable}
use Rattle.marlin_frame.specs.Frame.{frame_of, fails}
use Rattle.marlin_frame.specs.Numbering.{hello_number, wire_number, hello_text}
use Rattle.marlin_reply.specs.Kind.{kind_of}
use Rattle.marlin_reply.specs.declared.reply.Reply.{Reply}
use Rattle.marlin_reply.specs.declared.reply.Reply.TheVariants as reply
use Rattle.printer_model.specs.Printer.{Entry, Logged}
use Rattle.send_window.specs.Data.{most_hellos}
use Rattle.octo_session.specs.Sends.{IsIssued}

-- a line of a session: a hello by its own number, or an issued line by its place, counted from 1, with its text
pub data Piece : Type 0 where
  greeting : ℕ → Piece
  command : ℕ → List ℕ → Piece

-- the number that the printer counts a line by
abbrev pub number_in : Piece → ℕ
number_in (greeting number) = hello_number
number_in (command place text) = wire_number place

-- the number at a line's front; a hello's differs from the number that it sets
abbrev pub front_in : Piece → ℕ
front_in (greeting number) = number
front_in (command place text) = wire_number place

-- the text of a line
abbrev pub text_in : Piece → List ℕ
text_in (greeting number) = hello_text
text_in (command place text) = text

-- the bytes of a line
abbrev pub bytes_in : Piece → List ℕ
bytes_in piece = frame_of (front_in piece) (text_in piece)

-- a line as it waits in the printer
abbrev pub entry_in : Piece → Entry
entry_in piece = record { number = Some (number_in piece); n_parameter = Some (front_in piece); text = text_in piece }

-- a line as the printer's log keeps it
abbrev pub logged_in : Piece → Logged
logged_in piece = record { number = Some (number_in piece); text = text_in piece }

-- what is on the wire to the printer: a line as it was sent, or bytes that fail their checksum
pub data Sent : Type 0 where
  intact : Piece → Sent
  corrupted : List ℕ → Sent

-- its bytes
abbrev pub bytes_on : Sent → List ℕ
bytes_on (intact piece) = bytes_in piece
bytes_on (corrupted bytes) = bytes

-- what is on the wire from the printer: an `ok` of a hello or of the line at a place, which names its line or not; a
-- refusal that asks for a number, as three replies, the last two or the last one; another reply; a `start`
pub data Answer : Type 0 where
  greeting_ok : Option ℕ → Answer
  command_ok : ℕ → Bool → Answer
  refusal : ℕ → Answer
  asking : ℕ → Answer
  closing : Answer
  chat : Answer
  restart : Answer

-- a reply by what it does to a sender
pub data Heard : Type 0 where
  ok_heard : Option ℕ → Heard
  resend_heard : ℕ → Heard
  start_heard : Heard
  talk_heard : Heard

-- a reply by what it does
abbrev pub heard_of : Reply → Heard
heard_of (reply.Ok number _ _ _) = ok_heard number
heard_of (reply.Resend number) = resend_heard number
heard_of reply.Start = start_heard
heard_of reply.Busy = talk_heard
heard_of (reply.Temps _) = talk_heard
heard_of reply.Error = talk_heard
heard_of reply.Other = talk_heard

-- a reply line by what it does
abbrev pub heard_in : List ℕ → Heard
heard_in line = heard_of (kind_of line)

-- the number that an `ok` names, if it names one
abbrev pub named_by : Bool → ℕ → Option ℕ
named_by true number = Some number
named_by false number = None

-- the next reply of an answer
abbrev pub reply_to : Answer → Heard
reply_to (greeting_ok number) = ok_heard number
reply_to (command_ok place named) = ok_heard (named_by named (wire_number place))
reply_to (refusal number) = talk_heard
reply_to (asking number) = resend_heard number
reply_to closing = ok_heard None
reply_to chat = talk_heard
reply_to restart = start_heard

-- what is on the way after that reply was received
abbrev pub rest_of : Answer → List Answer → List Answer
rest_of (greeting_ok number) way = way
rest_of (command_ok place named) way = way
rest_of (refusal number) way = asking number ∷ way
rest_of (asking number) way = closing ∷ way
rest_of closing way = way
rest_of chat way = way
rest_of restart way = way

-- the replies of an answer
abbrev pub replies_in : Answer → List Heard
replies_in (greeting_ok number) = ok_heard number ∷ []
replies_in (command_ok place named) = ok_heard (named_by named (wire_number place)) ∷ []
replies_in (refusal number) = talk_heard ∷ resend_heard number ∷ ok_heard None ∷ []
replies_in (asking number) = resend_heard number ∷ ok_heard None ∷ []
replies_in closing = ok_heard None ∷ []
replies_in chat = talk_heard ∷ []
replies_in restart = start_heard ∷ []

-- the replies on the way
abbrev pub replies_on : List Answer → List Heard
replies_on [] = []
replies_on (answer ∷ way) = replies_in answer ++ replies_on way

-- each item is so
abbrev pub Each : {X : Type 0} → (X → Type 0) → List X → Type 0
Each P [] = Unit {0}
Each P (x ∷ xs) = P x × Each P xs

-- a text that may be issued: it may be sent, and consists of bytes
pub record IsFit (text : List ℕ) : Type 0 where
  pub sendable : IsSendable text
  pub bytes : All (λ b. b < 2 ^ 8) text

-- the line is a hello
abbrev pub IsGreeting : Piece → Type 0
IsGreeting (greeting number) = number < most_hellos
IsGreeting (command place text) = ⊥

-- the line is an issued one
abbrev pub IsCommand : Piece → Type 0
IsCommand (greeting number) = ⊥
IsCommand (command place text) = Unit {0}

-- bytes that fail their checksum
abbrev pub IsFailing : List ℕ → Type 0
IsFailing bytes = fails bytes ≡ true

-- before a hello's `ok` was read: a hello, or bytes that fail
abbrev pub IsSentEarly : Sent → Type 0
IsSentEarly (intact (greeting number)) = number < most_hellos
IsSentEarly (intact (command place text)) = ⊥
IsSentEarly (corrupted bytes) = IsFailing bytes

-- afterwards: an issued line, or bytes that fail
abbrev pub IsSentLate : List (List ℕ) → Sent → Type 0
IsSentLate issued (intact (greeting number)) = ⊥
IsSentLate issued (intact (command place text)) = IsIssued issued place text
IsSentLate issued (corrupted bytes) = IsFailing bytes

-- the line at a place of the session is this one
abbrev pub IsLineAt : List (List ℕ) → ℕ → Piece → Type 0
IsLineAt issued place (greeting number) = ⊥
IsLineAt issued place (command at text) = (at ≡ place) × IsIssued issued at text

-- the lines are the issued ones from a place on, in order
abbrev pub AreLinesFrom : List (List ℕ) → ℕ → List Piece → Type 0
AreLinesFrom issued place [] = Unit {0}
AreLinesFrom issued place (piece ∷ pieces) = IsLineAt issued place piece × AreLinesFrom issued (suc place) pieces

-- hellos, and after them the issued lines from the first one on, in order
abbrev pub AreAccepted : List (List ℕ) → List Piece → Type 0
AreAccepted issued [] = Unit {0}
AreAccepted issued (greeting number ∷ pieces) = (number < most_hellos) × AreAccepted issued pieces
AreAccepted issued (command place text ∷ pieces) = AreLinesFrom issued 1 (command place text ∷ pieces)
