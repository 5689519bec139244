-- A history and the recorded history of a link, side by side.
use Rattle.std.specs.Prelude.{◌≡◌, ℕ, ◌+◌, ◌≤◌, Bool, false, List, ◌++◌, length, Some, Option}
use Rattle.std.specs.List.{list_any}
use Rattle.printer_model.specs.World.{is_send}
use Rattle.printer_model.specs.Executed.{opens, till}
use Rattle.printer_model.specs.declared.event.WorldEvent.{WorldEvent}
use Rattle.printer_link.specs.Link.{LinkKind, world_in}
use Rattle.send_window.specs.declared.session_end.SessionEnd.{SessionEnd}
use Rattle.octo_asks.specs.History.{History}
use Rattle.octo_session.specs.Tied.{IsTied}
use Rattle.octo_session.specs.Causes.{IsEndCaused}
use Rattle.octo_house_rules.specs.Sessions.{sessions, session_texts, most_in, acked_in, is_open, last_end}
use Rattle.octo_house_rules.specs.Timeline.{Timeline, history_of, events_of, past_after}
use Rattle.octo_house_rules.specs.Recorded.{WhileRecorded}

-- Session by session a history is tied to what happened on its link since an earlier history of the link: what the printer
-- executed are the first of the lines that the history says were issued, in order and each once; the acknowledged lines
-- are counted over the received replies, by whether `ok`s count by their numbers, and all of them were executed; each line that
-- was sent is a hello or an issued line above those acknowledged; and the link is up exactly if the history says that a session
-- is open.
pub record Tied (numbered : Bool) (kind : LinkKind) (front : List WorldEvent) (history : History) (past : List WorldEvent) : Type 0 where
  -- the link was made once for each session
  pub counted : opens past ≡ opens front + sessions history
  pub each : (session : ℕ) → 1 ≤ session → session ≤ sessions history
      → IsTied numbered kind (session_texts session history) (acked_in session history) past (opens front + session)
  -- a session issues at most as many lines as it has numbers for, and none is issued before the first
  pub few : (session : ℕ) → session ≤ sessions history → length (session_texts session history) ≤ most_in session
  -- once a link was made, it is up exactly if a session is open: after the note of an end it is down
  pub open_as : 1 ≤ sessions history → (world_in kind past).linked ≡ is_open history

-- the two were tied when a timeline had come so far, after which the link has recorded these events
pub record WasTied (numbered : Bool) (kind : LinkKind) (front : List WorldEvent) (first : Timeline) (since : List WorldEvent) : Type 0 where
  pub tied : Tied numbered kind front (history_of first) (past_after front first)
  -- a session whose end the history has just noted ended with a cause that the link's history shows
  pub caused : (end : SessionEnd) → last_end (history_of first) ≡ Some end → IsEndCaused numbered kind end (past_after front first)
  -- once a session is closed no line is sent in it any more
  pub unsent : is_open (history_of first) ≡ false → list_any is_send (till 0 since) ≡ false

-- they were tied after every entry of a timeline
abbrev pub TiedThroughout : Bool → LinkKind → List WorldEvent → Timeline → Type 0
TiedThroughout numbered kind front timeline =
    (first later : Timeline) → timeline ≡ first ++ later → WasTied numbered kind front first (events_of later)

-- the two are tied now, and one order of both was tied after every entry
pub record AreTied (numbered : Bool) (kind : LinkKind) (front : List WorldEvent) (history : History) (past : List WorldEvent) : Type 0 where
  pub now : Tied numbered kind front history past
  pub timeline : Timeline
  pub history_is : history ≡ history_of timeline
  pub past_is : past ≡ past_after front timeline
  pub throughout : TiedThroughout numbered kind front timeline

-- what the history grew by is tied to the link's history, now and after every entry
abbrev pub TiesLines : Bool → LinkKind → (before now : Option History) → (front past : Option (List WorldEvent)) → Type 0
TiesLines numbered kind before now front past =
    WhileRecorded before now front past (λ old added events. AreTied numbered kind old added events)
