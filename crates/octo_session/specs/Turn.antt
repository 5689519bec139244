-- What a turn promises.
use Rattle.std.specs.Prelude.{◌≡◌, ◌≢◌, ◌⊎◌, ◌↔◌, ◌≤◌, ℕ, Bool, true, false, List, [], ◌∷◌, map, Option, None, Some, IfSome}
use Rattle.job_desk.specs.Issued.{line_of}
use Rattle.job_desk.specs.declared.issued.Note.{Note}
use Rattle.job_desk.specs.Data.{Data, Line}
use Rattle.job_desk.specs.Pull.{pull_step}
use Rattle.job_desk.specs.Table.{is_stopping}
use Rattle.send_window.specs.declared.session_end.SessionEnd.{SessionEnd}
use Rattle.job_desk.specs.declared.link_fact.LinkFact.{LinkFact}
use Rattle.job_desk.specs.declared.link_fact.LinkFact.TheVariants as fact
use Rattle.print_queue.specs.declared.ending.Ending.{Ending}
use Rattle.printer_model.specs.declared.event.WorldEvent.{WorldEvent}
use Rattle.send_window.specs.Data.{SenderData}
use Rattle.send_window.specs.Sending.{next_of, room_of, last_room_of}
use Rattle.octo_session.specs.Data.{SessionData, IsSession, doing, port_of}
use Rattle.octo_session.specs.DeskTurn.{IsNoted, IsQuietTurn, IsTurnEnding}
use Rattle.printer_link.specs.Link.{LinkKind}
use Rattle.octo_session.specs.Found.{Got, lost, unasked, is_whole, may_issue, temps_in, temps_kept, end_by, can_find, up_after, ready_after}
use Rattle.octo_session.specs.Steps.{TakesSome, turn_steps}
use Rattle.octo_session.specs.declared.found.Doing.{Doing}
use Rattle.octo_session.specs.declared.found.Doing.TheVariants.{Dialling, HangingUp, UsingLink, Resting}
use Rattle.octo_session.specs.declared.found.Found.{Found}
use Rattle.octo_session.specs.declared.found.Turned.{Turned}

-- the fact of a turn: Quiet if it made no note
abbrev pub fact_of : Option Note → LinkFact
fact_of None = fact.Quiet
fact_of (Some note) = note.fact

-- the lines that a turn issued: none if it made no note
abbrev pub note_lines : Option Note → List Line
note_lines None = []
note_lines (Some note) = map line_of note.issued.items

-- whether no call of the link failed
abbrev pub is_unbroken : LinkFact → Bool
is_unbroken fact.Failed = false
is_unbroken _ = true

-- the texts of lines
abbrev pub texts_in : List Line → List (List ℕ)
texts_in lines = map (λ line. line.text) lines

-- the line that was drawn, if any
abbrev pub lines_drawn : Option Line → List Line
lines_drawn None = []
lines_drawn (Some line) = line ∷ []

-- after a turn that began with this desk nothing is left to issue or send: no room for a line or no line to issue, and no frame
-- unsent; and the line that stops the printer doesn't wait for room in the window
pub record IsSpent (moment : ℕ) (before d : Data) (s : SenderData) : Type 0 where
  pub issued : (room_of s ≡ 0) ⊎ ((pull_step moment d).0 ≡ None)
  pub stopped : is_stopping before ≡ true → (last_room_of s ≡ 0) ⊎ ((pull_step moment d).0 ≡ None)
  pub sent : next_of s ≡ None

-- nothing happened that a note would record
pub record IsUneventful (lines : List Line) (before acked : ℕ) (got : Got) (found : LinkFact) : Type 0 where
  pub no_line : lines ≡ []
  pub same_acked : acked ≡ before
  pub no_temps : temps_in got ≡ None
  pub quiet : found ≡ fact.Quiet

-- the note of a turn
pub record IsNoteOf (moment acked : ℕ) (lines : List Line) (got : Got) (found : LinkFact) (note : Note) : Type 0 where
  pub its_moment : note.moment ≡ moment
  pub its_acked : note.acked ≡ acked
  pub its_lines : map line_of note.issued.items ≡ lines
  pub its_temps : note.temps ≡ temps_in got
  pub its_fact : note.fact ≡ found

-- a note of a turn says its moment and how many lines are acknowledged, and this is what it made of the desk
pub record IsNoteOn (moment acked : ℕ) (old new : Data) (ending : Option Ending) (note : Note) : Type 0 where
  pub its_moment : note.moment ≡ moment
  pub its_acked : note.acked ≡ acked
  pub noted : IsNoted moment acked note.fact (map line_of note.issued.items) old ending new

-- nothing happened, by what is known before a note is made
pub record IsStill (found : Found) (before acked : ℕ) : Type 0 where
  pub no_line : found.issued.items ≡ []
  pub same_acked : acked ≡ before
  pub no_temps : temps_kept found.received ≡ None
  pub quiet : found.fact ≡ fact.Quiet

-- the note made of it
abbrev pub IsKeptIn : Found → ℕ → ℕ → Note → Type 0
IsKeptIn found moment acked note =
    note ≡ record { moment = moment; acked = acked; issued = found.issued; temps = temps_kept found.received; fact = found.fact }

-- what a turn makes of the desk; one that does nothing leaves it
abbrev pub IsDeskTurn : Doing → ℕ → ℕ → LinkFact → List Line → Data → Option Ending → Data → Type 0
IsDeskTurn Dialling moment acked found lines old ending new = IsNoted moment acked found lines old ending new
IsDeskTurn HangingUp moment acked found lines old ending new = IsNoted moment acked found lines old ending new
IsDeskTurn UsingLink moment acked found lines old ending new = IsNoted moment acked found lines old ending new
IsDeskTurn Resting moment acked found lines old ending new = (lines ≡ []) × (ending ≡ None) × (new ≡ old)

-- what a turn received, found and issued, with all that hangs on it
pub record IsTurn (moment : ℕ) (kind : LinkKind) (old_past new_past : Option (List WorldEvent)) (old_calls new_calls : Option ℕ) (old new : SessionData)
    (turned : Turned) : Type 0 where
  pub got : Got
  pub found : LinkFact
  pub lines : List Line
  -- it receives exactly if the link is open and isn't hung up
  pub asked : (got ≡ unasked) ↔ (doing old ≢ UsingLink)
  pub heard : turned.heard ≡ is_whole got
  -- it makes no note exactly if nothing happened, and else the note records what did
  pub none : (turned.note ≡ None) ↔ IsUneventful lines old.sender.acked new.sender.acked got found
  pub some : IfSome turned.note (λ note. IsNoteOf moment new.sender.acked lines got found note)
  -- the session ends exactly if a receiving that didn't fail and the moment end it
  pub ended : (end : SessionEnd) → (found ≡ fact.Ended end) ↔ (end_by got moment old.sender ≡ Some end)
  -- a receiving that fails is the turn's failure
  pub broken : got ≡ lost → found ≡ fact.Failed
  -- lines are issued only after a receiving that didn't fail
  pub none_issued : may_issue got found ≡ false → lines ≡ []
  pub desk : IsDeskTurn (doing old) moment new.sender.acked found lines old.desk turned.ending new.desk
  pub steps : TakesSome moment kind old_past new_past old_calls new_calls (turn_steps (doing old) old.up got found (texts_in lines)) old.sender new.sender

-- what a turn leaves of a session, by its note
pub record IsTurnByNote (moment : ℕ) (kind : LinkKind) (old new : SessionData) (turned : Turned) : Type 0 where
  -- what it found: the state of the link and of the hello
  pub finds : can_find (doing old) (fact_of turned.note) ≡ true
  pub up : new.up ≡ up_after (fact_of turned.note) old.up
  pub no_port : (fact_of turned.note ≡ fact.NoPort) ↔ ((doing old ≡ Dialling) × (kind.listed (port_of old.desk) ≡ false))
  pub ready : (fact_of turned.note ≡ fact.Ready) ↔ ((old.sender.ready ≡ false) × (new.sender.ready ≡ true))
  pub ready_is : new.sender.ready ≡ ready_after (fact_of turned.note) old.sender.ready
  -- in the turn in which the hello is acknowledged nothing is issued; a quiet turn leaves nothing to issue or send
  pub silent : fact_of turned.note ≡ fact.Ready → note_lines turned.note ≡ []
  pub sent : fact_of turned.note ≡ fact.Ready → next_of new.sender ≡ None
  pub spent : new.up ≡ true → fact_of turned.note ≡ fact.Quiet → IsSpent moment old.desk new.desk new.sender
  -- the count of acknowledged lines falls only if a link is made, to 0
  pub not_fallen : (fact_of turned.note ≡ fact.Opened) ⊎ (old.sender.acked ≤ new.sender.acked)
  pub within : new.sender.acked ≤ old.sender.issued
  pub none_acked : fact_of turned.note ≡ fact.Opened → new.sender.acked ≡ 0
  -- what the note says of the desk; without a note the desk took at most a quiet one
  pub noted : IfSome turned.note (λ note. IsNoteOn moment new.sender.acked old.desk new.desk turned.ending note)
  pub still : turned.note ≡ None → IsQuietTurn (doing old) moment old.desk turned.ending new.desk
  -- it ends only the active print
  pub ends : IfSome turned.ending (λ ending. IsTurnEnding (fact_of turned.note) old.desk new.desk ending)
  -- what stays, and what holds between turns
  pub greatest : new.desk.greatest ≡ old.desk.greatest
  pub before : IsSession old
  pub joined : IsSession new
