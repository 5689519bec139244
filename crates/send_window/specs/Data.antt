-- What a sender knows of its session with a printer.
use Rattle.std.specs.Prelude.{◌≡◌, ℕ, ◌+◌, ◌<◌, ◌≤◌, Bool, true, false, List, [], length, Option, None}
use Rattle.send_window.specs.declared.session_end.SessionEnd.{SessionEnd}

-- the most lines of a session
abbrev pub most_lines : ℕ
most_lines = 1999999999

-- the most hellos of a session, if each has a number of its own
abbrev pub most_hellos : ℕ
most_hellos = 10

-- the most lines that may be unacknowledged, without one that stops the printer
abbrev pub most_open : ℕ
most_open = 16

-- the number of limits in a row in silence, or before the `ok` of the hello, that ends a session
abbrev pub most_silent : ℕ
most_silent = 5

-- the number of limits in a row that ends a session of which the printer has all issued lines
abbrev pub most_told : ℕ
most_told = 20

-- the sender as plain data; lines go by their places in the session, from 1, and times are in milliseconds
pub record SenderData : Type 0 where
  -- the most lines that may be unacknowledged
  pub window : ℕ
  -- whether an `ok` counts only by the number that it names
  pub numbered : Bool
  -- how long an answer may take
  pub limit : ℕ
  -- how many lines were issued
  pub issued : ℕ
  -- how many of them were acknowledged
  pub acked : ℕ
  -- the texts of the others, in order
  pub held : List (List ℕ)
  -- the next line to send
  pub cursor : ℕ
  -- the last line that was ever sent, 0 for none
  pub sent : ℕ
  -- the next `ok` only ends a Resend
  pub swallow : Bool
  -- the line that the last Resend asked for, and how many more of the same are ignored
  pub asked : ℕ
  pub left : ℕ
  -- the moment by which an answer is wanted
  pub deadline : Option ℕ
  -- something was heard since the deadline was set
  pub heard : Bool
  -- how many limits in a row passed in silence
  pub silent : ℕ
  -- a Resend of a line was heard since the last limit
  pub asked_anew : Bool
  -- in how many limits in a row the printer asked for the line after the last issued one
  pub told : ℕ
  -- how many lines more than the window may be unacknowledged, and that a limit has passed since a Resend last said what the printer has
  pub extra : ℕ
  pub doubts : Bool
  -- how many hellos were sent, if each has a number of its own: the number of the next one
  pub hellos : ℕ
  -- the hello is to be sent
  pub hello_due : Bool
  -- the hello was acknowledged
  pub ready : Bool
  -- why the session ended
  pub ended : Option SessionEnd

-- a sender that has sent and heard nothing
abbrev pub new_sender : ℕ → Bool → ℕ → SenderData
new_sender w by_number l = record {
  window = w;
  numbered = by_number;
  limit = l;
  issued = 0;
  acked = 0;
  held = [];
  cursor = 1;
  sent = 0;
  swallow = false;
  asked = 0;
  left = 0;
  deadline = None;
  heard = false;
  silent = 0;
  asked_anew = false;
  told = 0;
  extra = 0;
  doubts = false;
  hellos = 0;
  hello_due = false;
  ready = false;
  ended = None;
}

-- the same sender at the beginning of a session
abbrev pub sender_after_dial : SenderData → SenderData
sender_after_dial s = record (new_sender s.window s.numbered s.limit) { hello_due = true }

-- what holds of a sender between its calls
pub record IsSound (s : SenderData) : Type 0 where
  -- the window is 1 to 16 lines, the limit a millisecond at least
  pub open_window : 1 ≤ s.window
  pub small_window : s.window ≤ most_open
  pub some_limit : 1 ≤ s.limit
  -- an `ok` that counts by its number is never passed over
  pub unswallowed : s.numbered ≡ true → s.swallow ≡ false
  -- the lines held are as many as were issued above acked, and the window holds all but one that stops the printer; if `ok`s count by
  -- their numbers, it may hold more while one was lost, 16 in all
  pub counted : s.acked + length s.held ≡ s.issued
  pub in_window : s.numbered ≡ false → length s.held ≤ s.window + 1
  pub few_held : length s.held ≤ most_open + 1
  pub few_extra : s.window + s.extra ≤ most_open
  pub no_extra : s.numbered ≡ false → s.extra ≡ 0
  pub no_doubts : s.numbered ≡ false → s.doubts ≡ false
  pub few : s.issued ≤ most_lines
  -- the cursor is above acked, and at most one past the last line
  pub above_acked : s.acked + 1 ≤ s.cursor
  pub not_past : s.cursor ≤ s.issued + 1
  -- a line is sent only once it was issued, and no more Resends are ignored than lines were sent
  pub sent_issued : s.sent ≤ s.issued
  pub left_sent : s.left ≤ s.sent
  -- before the hello's `ok` at most one line is issued, and none acknowledged; and the hello isn't sent after it
  pub one_early : s.ready ≡ false → s.issued ≤ 1
  pub none_acked : s.ready ≡ false → s.acked ≡ 0
  pub hello_before : s.ready ≡ true → s.hello_due ≡ false
  -- no answer is waited for if all lines are acknowledged, or, if `ok`s are counted, if the hello is still to be sent
  pub none_awaited : s.ready ≡ true → s.acked ≡ s.issued → s.deadline ≡ None
  pub hello_unsent : s.numbered ≡ false → s.hello_due ≡ true → s.deadline ≡ None
  -- a hello that is to be sent has a number left; if `ok`s are counted, each has the number 0
  pub hello_left : s.hello_due ≡ true → s.hellos < most_hellos
  pub few_hellos : s.hellos ≤ most_hellos
  pub one_number : s.numbered ≡ false → s.hellos ≡ 0
  -- a session that goes on has had fewer silent limits, and none is counted if no answer is waited for
  pub silent_most : s.silent ≤ most_silent
  pub silent_few : s.ended ≡ None → s.silent < most_silent
  pub silent_none : s.deadline ≡ None → s.silent ≡ 0
  -- likewise the limits in which the printer has all issued lines, of which there are none before the `ok` of the hello
  pub told_most : s.told ≤ most_told
  pub told_few : s.ended ≡ None → s.told < most_told
  pub told_none : s.deadline ≡ None → s.told ≡ 0
  pub told_unready : s.ready ≡ false → s.told ≡ 0
  pub anew_unready : s.ready ≡ false → s.asked_anew ≡ false

-- no line was issued before the `ok` of the hello
abbrev pub NoneEarly : SenderData → Type 0
NoneEarly s = s.ready ≡ false → s.issued ≡ 0
