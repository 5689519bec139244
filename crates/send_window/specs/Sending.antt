-- What a sender issues, and what it returns to be sent.
use Rattle.std.specs.Prelude.{◌≡◌, ℕ, ◌+◌, ◌-◌, ◌≤◌, min, max, Bool, true, false, List, [], ◌∷◌, ◌++◌, length, Option, None, Some, unwrap_or, is_some, if◌then◌else◌, ◌&&◌, nat_le, slice_index_or}
use Rattle.send_window.specs.declared.session_end.SessionEnd.{SessionEnd}
use Rattle.byte_text.specs.Marks.{has_byte}
use Rattle.marlin_frame.specs.Frame.{star, frame_of}
use Rattle.marlin_frame.specs.Numbering.{hello_number, wire_number, hello_text}
use Rattle.send_window.specs.Data.{SenderData, most_lines}
use Rattle.send_window.specs.Hearing.{later}

-- a text that a frame can carry: 1 to 79 bytes, no `*`, no line feed
pub record IsFramable (text : List ℕ) : Type 0 where
  pub some : 1 ≤ length text
  pub short : length text ≤ 79
  pub no_star : has_byte star text ≡ false
  pub no_line_feed : has_byte 10 text ≡ false

-- the hello under a number of its own; the first one is `N0 M110 N1*124`
abbrev pub hello_with : ℕ → List ℕ
hello_with number = frame_of number hello_text

-- what a sender returns to be sent: the hello under a number, or the line at a place in the session
pub data Outgoing : Type 0 where
  hello : ℕ → Outgoing
  line : ℕ → List ℕ → Outgoing

-- the number that the printer counts it by
abbrev pub number_of_outgoing : Outgoing → ℕ
number_of_outgoing (hello number) = hello_number
number_of_outgoing (line place text) = wire_number place

-- its bytes
abbrev pub bytes_of_outgoing : Outgoing → List ℕ
bytes_of_outgoing (hello number) = hello_with number
bytes_of_outgoing (line place text) = frame_of (wire_number place) text

-- how many more lines may be issued, by whether the session has ended and is ready
abbrev pub room_at : Option SessionEnd → Bool → SenderData → ℕ
room_at (Some _) _ s = 0
room_at None false s = 0
room_at None true s = min (s.window + s.extra - (s.issued - s.acked)) (most_lines - s.issued)

-- how many more lines may be issued
abbrev pub room_of : SenderData → ℕ
room_of s = room_at s.ended s.ready s

-- the same if the last of them stops the printer: such a line may be one more than the window holds, or, before the `ok` of the hello,
-- the only one
abbrev pub last_room_at : Option SessionEnd → Bool → SenderData → ℕ
last_room_at (Some _) _ s = 0
last_room_at None false s = 1 - s.issued
last_room_at None true s = room_at None true (record s { window = s.window + 1 })

-- by whether the session has ended and is ready
abbrev pub last_room_of : SenderData → ℕ
last_room_of s = last_room_at s.ended s.ready s

-- a line is issued
abbrev pub push_step : List ℕ → SenderData → SenderData
push_step text s = record s { issued = s.issued + 1; held = s.held ++ text ∷ [] }

-- the line at the cursor, if it was issued
abbrev pub next_line : SenderData → Option Outgoing
next_line s =
    if nat_le s.cursor s.issued
    then Some (line s.cursor (slice_index_or s.held (s.cursor - s.acked - 1) []))
    else None

-- what is to be sent next, by whether the session has ended and the hello is due
abbrev pub next_at : Option SessionEnd → Bool → SenderData → Option Outgoing
next_at (Some _) _ s = None
next_at None true s = Some (hello s.hellos)
next_at None false s = next_line s

-- what is to be sent next
abbrev pub next_of : SenderData → Option Outgoing
next_of s = next_at s.ended s.hello_due s

-- something was returned to be sent: a deadline is set, unless one was set before
abbrev pub with_deadline : ℕ → SenderData → SenderData
with_deadline moment s = record s {
  deadline = Some (unwrap_or s.deadline (later moment s.limit));
  heard = is_some s.deadline && s.heard;
}

-- what was to be sent is returned
abbrev pub after_giving : Option Outgoing → ℕ → SenderData → SenderData
after_giving None moment s = s
after_giving (Some (hello number)) moment s =
    with_deadline moment (record s { hello_due = false; hellos = if s.numbered then s.hellos + 1 else s.hellos })
after_giving (Some (line place text)) moment s = with_deadline moment (record s { cursor = s.cursor + 1; sent = max s.sent s.cursor })

-- a call for the next frame
abbrev pub frame_step : ℕ → SenderData → SenderData
frame_step moment s = after_giving (next_of s) moment s
