-- What the turns of a session have added to the history of a link.
use Rattle.std.specs.Prelude.{◌≡◌, ℕ, List, ◌++◌}
use Rattle.printer_model.specs.Executed.{opens}
use Rattle.printer_model.specs.declared.event.WorldEvent.{WorldEvent}
use Rattle.printer_link.specs.Link.{LinkKind}
use Rattle.octo_session.specs.Data.{SessionData}
use Rattle.octo_session_line_proof.specs.Linked.{IsOpened}

-- one link was made, and lines of these texts were issued since
pub record IsMade (kind : LinkKind) (issued : List (List ℕ)) (x : SessionData) (past added : List WorldEvent) : Type 0 where
  pub once : opens added ≡ 1
  pub opened : IsOpened kind issued x (past ++ added)
