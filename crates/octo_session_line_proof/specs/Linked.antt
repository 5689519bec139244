-- What holds between the turns of a session and the recorded history of its link.
use Rattle.std.specs.Prelude.{◌≡◌, ◌⊎◌, ℕ, Bool, true, false, List, [], ◌∷◌, ◌++◌, Option, Some}
use Rattle.job_desk.specs.declared.link_fact.LinkFact.{LinkFact}
use Rattle.job_desk.specs.declared.link_fact.LinkFact.TheVariants as fact
use Rattle.std.specs.List.{list_any}
use Rattle.printer_model.specs.World.{is_restart, can_happen, apply}
use Rattle.printer_model.specs.Exchanged.{sends_since}
use Rattle.printer_model.specs.declared.event.WorldEvent.{WorldEvent}
use Rattle.printer_model.specs.declared.event.WorldEvent.TheVariants.{Opened}
use Rattle.printer_link.specs.Link.{LinkKind, world_in}
use Rattle.send_window.specs.Counting.{IsQuiet}
use Rattle.send_window.specs.Data.{IsSound, NoneEarly}
use Rattle.octo_session.specs.Data.{SessionData}
use Rattle.octo_session_line_proof.specs.Traces.{IsTraced, HasGreeted}
use Rattle.octo_session_line_proof.specs.Wires.{Start}
use Rattle.octo_session.specs.Causes.{IsCaused}
use Rattle.octo_session.specs.Sends.{traffic_from}
use Rattle.printer_link.specs.Suits.{Suits}
use Rattle.octo_session.specs.Turn.{IsTurn, IsTurnByNote}
use Rattle.octo_session.specs.declared.found.Turned.{Turned}

-- how a session began after these events, which has had these others
abbrev pub start_of : LinkKind → List WorldEvent → Bool → List WorldEvent → Start
start_of kind front by_number rest = record { log = (world_in kind front).log; numbered = by_number; restarted = list_any is_restart rest }

-- no turn of the session has made a link yet
pub record IsUnopened (kind : LinkKind) (issued : List (List ℕ)) (x : SessionData) (past : List WorldEvent) : Type 0 where
  pub none_issued : issued ≡ []
  pub down : x.up ≡ false
  pub closed : (world_in kind past).linked ≡ false
  pub sound : IsSound x.sender
  pub suits : Suits x.sender.numbered kind.oks

-- the last link of the history is the session's, and these are the texts of the lines issued since it was made
pub record IsOpened (kind : LinkKind) (issued : List (List ℕ)) (x : SessionData) (past : List WorldEvent) : Type 0 where
  -- what came before that link, and what came since
  pub front : List WorldEvent
  pub last : ℕ
  pub rest : List WorldEvent
  pub is : past ≡ front ++ Opened last ∷ rest
  pub can : can_happen (world_in kind front) (Opened last) ≡ true
  -- sender, wires and printer fit together
  pub traced : IsTraced (start_of kind front x.sender.numbered rest) (apply (world_in kind front) (Opened last)) issued x.sender rest
  -- the link is open exactly if the session is up
  pub open_as : (world_in kind past).linked ≡ x.up
  -- while it is up, each limit that passed in silence brought a line, and each hello that the sender returned was sent; without a line
  -- before the `ok` of the hello, which the account would take for one
  pub quiet : x.up ≡ true → IsQuiet (sends_since 0 rest) x.sender
  pub greets : x.up ≡ true → NoneEarly x.sender → HasGreeted x.sender.numbered (traffic_from (apply (world_in kind front) (Opened last)) rest) x.sender
  -- the sender ended with a cause, if it ended
  pub caused : IsCaused x.sender.numbered x.sender.ended (apply (world_in kind front) (Opened last)) rest
  pub suits : Suits x.sender.numbered kind.oks

-- a session, the texts issued in its last link and a history fit together
pub data IsLinked (kind : LinkKind) (issued : List (List ℕ)) (x : SessionData) (past : List WorldEvent) : Type 0 where
  unopened : IsUnopened kind issued x past → IsLinked kind issued x past
  opened : IsOpened kind issued x past → IsLinked kind issued x past

-- the same if the link records its history
abbrev pub LinkedAs : LinkKind → Option (List WorldEvent) → List (List ℕ) → SessionData → Type 0
LinkedAs kind recorded issued x = (past : List WorldEvent) → recorded ≡ Some past → IsLinked kind issued x past

-- a turn has made a link, and all this holds, if the link records its history
abbrev pub OpenedAs : LinkKind → Option (List WorldEvent) → List (List ℕ) → SessionData → Type 0
OpenedAs kind recorded issued x = (past : List WorldEvent) → recorded ≡ Some past → IsOpened kind issued x past

-- a turn made a link before, or one that found this makes one
abbrev pub IsOpening : LinkKind → Option (List WorldEvent) → List (List ℕ) → SessionData → LinkFact → Type 0
IsOpening kind recorded issued x found =
    OpenedAs kind recorded issued x ⊎ ((found ≡ fact.Opened) × LinkedAs kind recorded issued x)

-- what `Session::turn` promises of a turn over a link, at some moment and by some counts of calls
pub record IsTurnOver (kind : LinkKind) (old_past new_past : Option (List WorldEvent)) (old new : SessionData) (turned : Turned) : Type 0 where
  pub moment : ℕ
  pub old_calls : Option ℕ
  pub new_calls : Option ℕ
  pub turn : IsTurn moment kind old_past new_past old_calls new_calls old new turned
  pub by_note : IsTurnByNote moment kind old new turned
