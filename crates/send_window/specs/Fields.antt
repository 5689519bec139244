-- A sender's fields, seen as plain data.
use Rattle.send_window.specs.declared.sender.Sender.TheInside.{Inside}
use Rattle.send_window.specs.Data.{SenderData, IsSound}

-- the data that the fields hold
abbrev pub data_of : Inside → SenderData
data_of s = record {
  window = s.window;
  numbered = s.numbered;
  limit = s.limit;
  issued = s.issued;
  acked = s.acked;
  held = s.held;
  cursor = s.cursor;
  sent = s.sent;
  swallow = s.swallow;
  asked = s.asked;
  left = s.left;
  deadline = s.deadline;
  heard = s.heard;
  silent = s.silent;
  asked_anew = s.asked_anew;
  told = s.told;
  extra = s.extra;
  doubts = s.doubts;
  hellos = s.hellos;
  hello_due = s.hello_due;
  ready = s.ready;
  ended = s.ended;
}

-- they make sense together
abbrev pub IsInOrder : Inside → Type 0
IsInOrder s = IsSound (data_of s)
