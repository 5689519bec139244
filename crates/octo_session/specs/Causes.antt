-- Why a session ended, by its history.
use Rattle.std.specs.Prelude.{◌≡◌, ◌⊎◌, ◌≤◌, Bool, true, false, List, Option, None, Some, ℕ, ◌∷◌, ◌++◌}
use Rattle.std.specs.List.{list_any}
use Rattle.send_window.specs.declared.session_end.SessionEnd.{SessionEnd}
use Rattle.send_window.specs.declared.session_end.SessionEnd.TheVariants.{NoAnswer, AskedBack, AskedAhead, Counts, Restarted, LostOk, NumbersUsed}
use Rattle.printer_model.specs.World.{WorldData, is_restart, apply}
use Rattle.printer_model.specs.Exchanged.{sends_since, replies_from}
use Rattle.printer_model.specs.declared.event.WorldEvent.{WorldEvent}
use Rattle.send_window.specs.Counting.{IsUnbegun, is_resend}
use Rattle.printer_model.specs.Executed.{opens}
use Rattle.printer_model.specs.declared.event.WorldEvent.TheVariants.{Opened}
use Rattle.printer_link.specs.Link.{LinkKind, world_in}
use Rattle.octo_session.specs.Sends.{traffic_from}

-- the printer is silent: the hello has no `ok` yet, or at least four lines were sent since a reply was received
abbrev pub IsSilentSince : Bool → WorldData → List WorldEvent → Type 0
IsSilentSince numbered made rest = IsUnbegun numbered (traffic_from made rest) ⊎ (4 ≤ sends_since 0 rest)

-- the printer asks for an acknowledged line only if `ok`s count by their numbers and it restarted
abbrev pub MayAskBack : Bool → List WorldEvent → Type 0
MayAskBack false rest = ⊥
MayAskBack true rest = list_any is_restart rest ≡ true

-- why a session may end, by whether `ok`s count by their numbers: for no answer only if the printer is silent, as restarted
-- only if the printer restarted, for a missing `ok` only if the printer sent a Resend
abbrev pub IsCaused : Bool → Option SessionEnd → WorldData → List WorldEvent → Type 0
IsCaused numbered None made rest = Unit {0}
IsCaused numbered (Some (NoAnswer count)) made rest = IsSilentSince numbered made rest
IsCaused numbered (Some (AskedBack number acknowledged)) made rest = MayAskBack numbered rest
IsCaused numbered (Some (AskedAhead number all)) made rest = ⊥
IsCaused numbered (Some (Counts number expected)) made rest = ⊥
IsCaused numbered (Some Restarted) made rest = list_any is_restart rest ≡ true
IsCaused numbered (Some (LostOk limits)) made rest = list_any is_resend (replies_from made rest) ≡ true
IsCaused numbered (Some (NumbersUsed all)) made rest = Unit {0}

-- an end of the last session has its cause in the history
pub record IsEndCaused (numbered : Bool) (kind : LinkKind) (end : SessionEnd) (past : List WorldEvent) : Type 0 where
  pub front : List WorldEvent
  pub last : ℕ
  pub rest : List WorldEvent
  pub is : past ≡ front ++ Opened last ∷ rest
  pub same_session : opens rest ≡ 0
  pub caused : IsCaused numbered (Some end) (apply (world_in kind front) (Opened last)) rest

-- the same if the link records its history
abbrev pub EndCausedAs : Bool → LinkKind → Option (List WorldEvent) → SessionEnd → Type 0
EndCausedAs numbered kind recorded end = (past : List WorldEvent) → recorded ≡ Some past → IsEndCaused numbered kind end past
