-- How the issued texts, the acknowledged lines and a history are tied together, session by session.
use Rattle.std.specs.Prelude.{◌≡◌, ◌⊎◌, ℕ, ◌-◌, List, Option, Some}
use Rattle.printer_model.specs.Executed.{opens}
use Rattle.printer_model.specs.declared.event.WorldEvent.{WorldEvent}
use Rattle.printer_link.specs.Link.{LinkKind}
use Rattle.octo_session.specs.Data.{SessionData}
use Rattle.octo_session_line_proof.specs.Linked.{IsUnopened}
use Rattle.octo_session.specs.Tied.{IsTied}

-- the last session of a recorded history is tied
abbrev pub TiedAs : LinkKind → Option (List WorldEvent) → List (List ℕ) → SessionData → Type 0
TiedAs kind recorded issued x =
    (past : List WorldEvent) → recorded ≡ Some past → IsTied x.sender.numbered kind issued x.sender.acked past (opens past)

-- a session that no link was made for yet, by its recorded history
pub record WasUnopened (kind : LinkKind) (recorded : Option (List WorldEvent)) (issued : List (List ℕ)) (x : SessionData) : Type 0 where
  pub past : List WorldEvent
  pub is : recorded ≡ Some past
  pub unopened : IsUnopened kind issued x past

-- after a later link was made: the session before it, if there was one, is tied, with what ran in the dial
abbrev pub FormerTiedAs : LinkKind → Option (List WorldEvent) → Option (List WorldEvent) → List (List ℕ) → SessionData → Type 0
FormerTiedAs kind recorded later issued x =
    (past : List WorldEvent) → later ≡ Some past
    → WasUnopened kind recorded issued x ⊎ IsTied x.sender.numbered kind issued x.sender.acked past (opens past - 1)
