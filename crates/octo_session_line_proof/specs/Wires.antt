-- What holds of a sender, its two wires and the printer through a session, whatever the line does.
use Rattle.std.specs.Prelude.{◌≡◌, ◌⊎◌, ℕ, suc, ◌+◌, ◌<◌, ◌≤◌, max, Bool, true, false, List, [], ◌∷◌, ◌++◌, length, map, Option, Some, None}
use Rattle.marlin_frame.specs.Numbering.{wire_number, place_of}
use Rattle.send_window.specs.declared.session_end.SessionEnd.{SessionEnd}
use Rattle.send_window.specs.declared.session_end.SessionEnd.TheVariants.{NoAnswer, AskedBack, AskedAhead, Counts, Restarted, LostOk, NumbersUsed}
use Rattle.printer_model.specs.Printer.{Logged}
use Rattle.printer_model.specs.World.{WorldData}
use Rattle.printer_model.specs.declared.oks.Oks.{Oks}
use Rattle.send_window.specs.Data.{SenderData, IsSound, NoneEarly}
use Rattle.send_window.specs.Session.{HoldsIssued}
use Rattle.octo_session_line_proof.specs.Pieces.{Piece, greeting, command, Sent, intact, corrupted, Answer, greeting_ok, command_ok, refusal, asking, closing, chat, restart, Heard, ok_heard, resend_heard, start_heard, talk_heard, heard_in, replies_on, entry_in, logged_in, bytes_on, Each, IsFit, IsGreeting, IsCommand, IsSentEarly, IsSentLate, AreAccepted}

-- the session as the printer and the wires have it
pub record Wires : Type 0 where
  -- a hello has run; the printer restarted after that, which drops its queue, and has taken no hello since
  pub ran : Bool
  pub dropped : Bool
  -- what waits in the printer, and what it ran since the session was opened
  pub queue : List Piece
  pub log : List Piece
  pub up : List Sent

-- how a session began: what the log had before it, and whether its sender counts by the numbers of `ok`s; and whether the
-- printer may restart in it
pub record Start : Type 0 where
  pub log : List Logged
  pub numbered : Bool
  pub restarted : Bool

-- a world shows these wires
pub record Shows (start : Start) (a : Wires) (w : WorldData) : Type 0 where
  pub few : w.printer.slots ≤ 16
  pub queue : w.printer.queue ≡ map entry_in a.queue
  pub log : w.log ≡ start.log ++ map logged_in a.log
  pub up : w.up ≡ map bytes_on a.up

-- the printer's last number: the number of the last line accepted, or 0 after a restart
abbrev pub last_at : Bool → ℕ → ℕ
last_at false count = wire_number count
last_at true count = 0

-- how many lines there are, without hellos
abbrev pub lines_run : List Piece → ℕ
lines_run [] = 0
lines_run (greeting number ∷ pieces) = lines_run pieces
lines_run (command place text ∷ pieces) = suc (lines_run pieces)

-- no hello has run, and no line was accepted
pub record IsBefore (ran dropped : Bool) (queue log : List Piece) : Type 0 where
  pub unran : ran ≡ false
  pub kept : dropped ≡ false
  pub none_run : log ≡ []
  pub greetings : Each IsGreeting queue

-- a hello has run, and what was accepted are hellos and then the first of the issued lines, those in the log first; while a hello waits no
-- line was accepted
pub record IsAfter (issued : List (List ℕ)) (ran dropped : Bool) (last : ℕ) (queue log : List Piece) : Type 0 where
  pub has_run : ran ≡ true
  pub accepted : AreAccepted issued (log ++ queue)
  pub waiting : Each IsCommand queue ⊎ (lines_run (log ++ queue) ≡ 0)
  pub last_is : last ≡ last_at dropped (lines_run (log ++ queue))
  pub emptied : dropped ≡ true → queue ≡ []

-- what the printer accepted and ran
pub data Printed (issued : List (List ℕ)) (ran dropped : Bool) (last : ℕ) (queue log : List Piece) : Type 0 where
  before : IsBefore ran dropped queue log → Printed issued ran dropped last queue log
  after : IsAfter issued ran dropped last queue log → Printed issued ran dropped last queue log

-- what an answer on the way weighs against sending the hello again: an `ok` of the hello, or a Resend, unread
abbrev pub weight_of : Answer → ℕ
weight_of (greeting_ok number) = 1
weight_of (command_ok place named) = 0
weight_of (refusal number) = 1
weight_of (asking number) = 1
weight_of closing = 0
weight_of chat = 0
weight_of restart = 0

-- what all answers on the way weigh
abbrev pub weights : List Answer → ℕ
weights [] = 0
weights (answer ∷ way) = weight_of answer + weights way

-- how many `ok`s of the hello are on the way
abbrev pub greeting_count : Answer → ℕ
greeting_count (greeting_ok number) = 1
greeting_count (command_ok place named) = 0
greeting_count (refusal number) = 0
greeting_count (asking number) = 0
greeting_count closing = 0
greeting_count chat = 0
greeting_count restart = 0

-- the same of all answers on the way
abbrev pub greetings_on : List Answer → ℕ
greetings_on [] = 0
greetings_on (answer ∷ way) = greeting_count answer + greetings_on way

-- whether the next reply is the `ok` after a Resend that was read
abbrev pub is_closing : List Answer → Bool
is_closing (closing ∷ way) = true
is_closing _ = false

-- before the hello's `ok` was read no line has an `ok`; only the first answer may be read in part
abbrev pub IsEarlyWay : Bool → List Answer → Type 0
IsEarlyWay first [] = Unit {0}
IsEarlyWay first (greeting_ok number ∷ way) = IsEarlyWay false way
IsEarlyWay first (command_ok place named ∷ way) = ⊥
IsEarlyWay first (refusal number ∷ way) = IsEarlyWay false way
IsEarlyWay first (asking number ∷ way) = (first ≡ true) × IsEarlyWay false way
IsEarlyWay first (closing ∷ way) = (first ≡ true) × IsEarlyWay false way
IsEarlyWay first (chat ∷ way) = IsEarlyWay false way
IsEarlyWay first (restart ∷ way) = IsEarlyWay false way

-- if the printer restarted, a `start` is on the way
abbrev pub IsRestartKnown : Bool → List Answer → Type 0
IsRestartKnown dropped [] = dropped ≡ false
IsRestartKnown dropped (restart ∷ way) = Unit {0}
IsRestartKnown dropped (_ ∷ way) = IsRestartKnown dropped way

-- the same of what follows the hello's `ok`
abbrev pub IsBegun : Bool → List Answer → Type 0
IsBegun dropped [] = Unit {0}
IsBegun dropped (greeting_ok number ∷ way) = IsRestartKnown dropped way
IsBegun dropped (_ ∷ way) = IsBegun dropped way

-- a Resend asks for a line above the acknowledged ones, at most for the next one to issue
pub record IsAsked (all acked number : ℕ) : Type 0 where
  pub place : ℕ
  pub is : number ≡ wire_number place
  pub above : acked < place
  pub within : place ≤ all + 1

-- the answers on the way up to a `start`, if `all` lines were issued, `acked` acknowledged and `run` have run: one `ok`
-- for each line that ran above acked, in order, and refusals, of which only the first answer may be read in part
abbrev pub Answers : Bool → Bool → ℕ → ℕ → List Answer → ℕ → Type 0
Answers first dropped all acked [] run = (dropped ≡ false) × (acked ≡ run)
Answers first dropped all acked (greeting_ok number ∷ way) run = ⊥
Answers first dropped all acked (command_ok place named ∷ way) run = (place ≡ suc acked) × Answers false dropped all (suc acked) way run
Answers first dropped all acked (refusal number ∷ way) run = IsAsked all acked number × Answers false dropped all acked way run
Answers first dropped all acked (asking number ∷ way) run = (first ≡ true) × IsAsked all acked number × Answers false dropped all acked way run
Answers first dropped all acked (closing ∷ way) run = (first ≡ true) × Answers false dropped all acked way run
Answers first dropped all acked (chat ∷ way) run = Answers false dropped all acked way run
Answers first dropped all acked (restart ∷ way) run = acked ≤ run

-- before the hello's `ok` was read
pub record IsEarly (s : SenderData) (ran dropped : Bool) (queue : List Piece) (up : List Sent) (way : List Answer) : Type 0 where
  pub ups : Each IsSentEarly up
  pub one : length up + length queue + weights way ≤ 1
  pub due : s.hello_due ≡ true → length up + length queue + weights way ≡ 0
  pub run_ok : ran ≡ true → greetings_on way ≡ 1
  pub unrun_ok : ran ≡ false → greetings_on way ≡ 0
  pub way_so : IsEarlyWay true way
  pub begun_so : IsBegun dropped way
  pub swallows : s.swallow ≡ is_closing way

-- where a session is: its link is closed, the hello's `ok` wasn't read, or it was
pub data Phase (issued : List (List ℕ)) (s : SenderData) (linked : Bool) (a : Wires) (way : List Answer) : Type 0 where
  shut : linked ≡ false → a.up ≡ [] → way ≡ [] → Phase issued s linked a way
  early : linked ≡ true → s.ready ≡ false → IsEarly s a.ran a.dropped a.queue a.up way → Phase issued s linked a way
  late : linked ≡ true → s.ready ≡ true → a.ran ≡ true → Each (IsSentLate issued) a.up → Each IsCommand a.queue → Phase issued s linked a way

-- the ends that a session may have, by whether the printer may ask for an acknowledged line
abbrev pub IsFair : Bool → Option SessionEnd → Type 0
IsFair asks_back None = Unit {0}
IsFair asks_back (Some (NoAnswer count)) = Unit {0}
IsFair asks_back (Some (AskedBack number acknowledged)) = asks_back ≡ true
IsFair asks_back (Some (AskedAhead number all)) = ⊥
IsFair asks_back (Some (Counts number expected)) = ⊥
IsFair asks_back (Some Restarted) = Unit {0}
IsFair asks_back (Some (LostOk limits)) = Unit {0}
IsFair asks_back (Some (NumbersUsed all)) = Unit {0}

-- what the replies on the way say while the session hasn't ended
pub record IsRead (s : SenderData) (dropped : Bool) (way : List Answer) (run : ℕ) : Type 0 where
  pub swallows : s.swallow ≡ is_closing way
  pub answers : Answers true dropped s.issued s.acked way run

-- the acknowledged lines have run, and the replies on the way are the right ones
pub record Replies (s : SenderData) (linked dropped : Bool) (log : List Piece) (way : List Answer) : Type 0 where
  pub fair : IsFair false s.ended
  pub acked_run : s.acked ≤ lines_run log
  pub reads : s.ended ≡ None → linked ≡ true → s.ready ≡ true → IsRead s dropped way (lines_run log)

-- how many Resends are on the way
abbrev pub resends : List Heard → ℕ
resends [] = 0
resends (ok_heard number ∷ way) = resends way
resends (resend_heard number ∷ way) = suc (resends way)
resends (start_heard ∷ way) = resends way
resends (talk_heard ∷ way) = resends way

-- how many `ok`s on the way name a line
abbrev pub named_on : List Heard → ℕ
named_on [] = 0
named_on (ok_heard None ∷ way) = named_on way
named_on (ok_heard (Some number) ∷ way) = suc (named_on way)
named_on (resend_heard number ∷ way) = named_on way
named_on (start_heard ∷ way) = named_on way
named_on (talk_heard ∷ way) = named_on way

-- a hello on the wire to the printer is the last one sent but for as many as are behind it
abbrev pub AreUpAhead : ℕ → List Sent → Type 0
AreUpAhead hellos [] = Unit {0}
AreUpAhead hellos (intact (greeting number) ∷ up) = (number + length up < hellos) × AreUpAhead hellos up
AreUpAhead hellos (intact (command place text) ∷ up) = AreUpAhead hellos up
AreUpAhead hellos (corrupted bytes ∷ up) = AreUpAhead hellos up

-- so is one that waits, with this number of lines behind the queue
abbrev pub AreQueueAhead : ℕ → ℕ → List Piece → Type 0
AreQueueAhead hellos behind [] = Unit {0}
AreQueueAhead hellos behind (greeting number ∷ queue) = (number + (length queue + behind) < hellos) × AreQueueAhead hellos behind queue
AreQueueAhead hellos behind (command place text ∷ queue) = AreQueueAhead hellos behind queue

-- so is one that an `ok` names, with this number of lines behind the replies; what is behind it are those, other such `ok`s, and
-- a Resend for each hello that came corrupted
abbrev pub AreNamesAhead : ℕ → ℕ → List Heard → Type 0
AreNamesAhead hellos behind [] = Unit {0}
AreNamesAhead hellos behind (ok_heard None ∷ way) = AreNamesAhead hellos behind way
AreNamesAhead hellos behind (ok_heard (Some number) ∷ way) =
    (number + (named_on way + resends way + behind) < hellos) × AreNamesAhead hellos behind way
AreNamesAhead hellos behind (resend_heard number ∷ way) = AreNamesAhead hellos behind way
AreNamesAhead hellos behind (start_heard ∷ way) = AreNamesAhead hellos behind way
AreNamesAhead hellos behind (talk_heard ∷ way) = AreNamesAhead hellos behind way

-- before the `ok` of the last hello was read, if `ok`s count by their numbers: each reply on the way may be lost
pub record IsNamedEarly (s : SenderData) (ran : Bool) (queue : List Piece) (up : List Sent) (way : List Heard) : Type 0 where
  pub ups : Each IsSentEarly up
  pub waits : Each IsGreeting queue
  pub up_ahead : AreUpAhead s.hellos up
  pub queue_ahead : AreQueueAhead s.hellos (length up) queue
  pub names_ahead : AreNamesAhead s.hellos (length up + length queue) way
  pub unrun_ok : ran ≡ false → named_on way ≡ 0
  pub fair : IsFair false s.ended

-- where such a session is
pub data NamedPhase (issued : List (List ℕ)) (s : SenderData) (linked : Bool) (a : Wires) (way : List Heard) : Type 0 where
  named_shut : linked ≡ false → a.up ≡ [] → way ≡ [] → NamedPhase issued s linked a way
  named_early : linked ≡ true → s.ready ≡ false → IsNamedEarly s a.ran a.queue a.up way → NamedPhase issued s linked a way
  named_late : linked ≡ true → s.ready ≡ true → a.ran ≡ true → Each (IsSentLate issued) a.up → Each IsCommand a.queue → NamedPhase issued s linked a way

-- the replies on the way, if `all` lines were issued, `acked` acknowledged and `run` have run: an `ok` names a line that ran,
-- and a Resend asks for a line that didn't, or for the first number if the printer restarted
abbrev pub NamesRun : Bool → ℕ → ℕ → ℕ → List Heard → Type 0
NamesRun dropped all acked run [] = Unit {0}
NamesRun dropped all acked run (ok_heard None ∷ way) = NamesRun dropped all acked run way
NamesRun dropped all acked run (ok_heard (Some number) ∷ way) = (number ≤ wire_number run) × NamesRun dropped all (max acked (place_of number)) run way
NamesRun dropped all acked run (resend_heard number ∷ way) = (IsAsked all acked number ⊎ ((dropped ≡ true) × (number ≡ 1))) × NamesRun dropped all acked run way
NamesRun dropped all acked run (start_heard ∷ way) = NamesRun dropped all acked run way
NamesRun dropped all acked run (talk_heard ∷ way) = NamesRun dropped all acked run way

-- the acknowledged lines have run, and the replies on the way are the right ones
pub record NamedReplies (s : SenderData) (linked dropped : Bool) (log : List Piece) (way : List Heard) : Type 0 where
  pub fair : IsFair dropped s.ended
  pub acked_run : s.acked ≤ lines_run log
  pub reads : s.ended ≡ None → linked ≡ true → s.ready ≡ true → NamesRun dropped s.issued s.acked (lines_run log) way

-- what is on the way if `ok`s count by their numbers, which the printer's have
pub record Named (issued : List (List ℕ)) (s : SenderData) (linked : Bool) (oks : Oks) (a : Wires) (down : List (List ℕ)) : Type 0 where
  pub by_number : s.numbered ≡ true
  pub numbers : oks.numbered ≡ true
  pub phase : NamedPhase issued s linked a (map heard_in down)
  pub replies : NamedReplies s linked a.dropped a.log (map heard_in down)

-- what the printer accepted and the sender holds
pub record Numbers (issued : List (List ℕ)) (s : SenderData) (last : ℕ) (a : Wires) : Type 0 where
  pub sound : IsSound s
  pub holds : HoldsIssued issued s
  pub fit : Each IsFit issued
  pub printed : Printed issued a.ran a.dropped last a.queue a.log

-- what is on the way if the sender counts `ok`s, and the link loses no reply
pub record Counted (issued : List (List ℕ)) (s : SenderData) (linked : Bool) (oks : Oks) (a : Wires) (down : List (List ℕ)) : Type 0 where
  pub counts : s.numbered ≡ false
  pub plain : oks.lost ≡ false
  pub way : List Answer
  pub shown : map heard_in down ≡ replies_on way
  pub phase : Phase issued s linked a way
  pub replies : Replies s linked a.dropped a.log way

-- what is on the way from the printer, by what an `ok` counts
pub data Reads (issued : List (List ℕ)) (s : SenderData) (linked : Bool) (oks : Oks) (a : Wires) (down : List (List ℕ)) : Type 0 where
  counting : Counted issued s linked oks a down → Reads issued s linked oks a down
  naming : Named issued s linked oks a down → Reads issued s linked oks a down

-- a sender's session began so, the printer has restarted only if it may, and no line was issued before the `ok` of the hello
pub record Began (start : Start) (s : SenderData) (dropped : Bool) : Type 0 where
  pub kind : s.numbered ≡ start.numbered
  pub known : dropped ≡ true → start.restarted ≡ true
  pub none_early : NoneEarly s

-- a sender that issued these lines and a world fit together, in a session that began so
pub record Meets (start : Start) (issued : List (List ℕ)) (s : SenderData) (w : WorldData) : Type 0 where
  pub wires : Wires
  pub begun : Began start s wires.dropped
  pub shows : Shows start wires w
  pub numbers : Numbers issued s w.printer.last wires
  pub reads : Reads issued s w.linked w.printer.oks wires w.down
