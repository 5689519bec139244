-- What a turn leaves of a print over a prompt link.
use Rattle.std.specs.Prelude.{◌≡◌, ℕ, List, Option, None, Some}
use Rattle.printer_model.specs.declared.event.WorldEvent.{WorldEvent}
use Rattle.printer_link.specs.Link.{LinkKind}
use Rattle.octo_session.specs.Data.{SessionData}
use Rattle.octo_session_print.specs.Plan.{PrintData}
use Rattle.octo_session_print.specs.OnWay.{IsOnWay}
use Rattle.octo_session_print.specs.declared.end.PrintEnd.{PrintEnd}
use Rattle.octo_session_print.specs.declared.end.PrintEnd.TheVariants as end

-- fewer turns to come, or a print that is done
abbrev pub LeavesOnWay : Option PrintEnd → LinkKind → PrintData → ℕ → ℕ → ℕ → Option (List WorldEvent) → SessionData → Type 0
LeavesOnWay None kind p poll_ms at left past x = IsOnWay kind p poll_ms at left past x
LeavesOnWay (Some how) kind p poll_ms at left past x = how ≡ end.Done
