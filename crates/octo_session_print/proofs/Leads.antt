-- A turn of a print over a prompt link leads it on, or it's done.
use Rattle.std.proofs.Common.{ℕ, ◌-◌, ◌≤◌, List, sym, subst, arith}
use Rattle.std.specs.Prelude.{Option}
use Rattle.job_desk.specs.declared.link_fact.LinkFact.{LinkFact}
use Rattle.printer_model.specs.declared.event.WorldEvent.{WorldEvent}
use Rattle.printer_link.specs.Link.{LinkKind}
use Rattle.octo_session.specs.Data.{SessionData}
use Rattle.octo_session.specs.Turn.{fact_of}
use Rattle.octo_session.specs.declared.found.Turned.{Turned}
use Rattle.octo_session_print.specs.Plan.{PrintData}
use Rattle.octo_session_print.specs.OnWay.{IsOnWay, dials, greets, waits, goes, LeadsOn}
use Rattle.octo_session_print.proofs.Turns.{HasTurned, its_fact}
use Rattle.octo_session_print.proofs.Greets.{dial_leads, hello_leads, ok_leads}
use Rattle.octo_session_print.proofs.Parts.{some_left}
use Rattle.octo_session_print.proofs.Goes.{going_leads}

module _ (moment at poll_ms : ℕ) (kind : LinkKind) (old_past new_past : Option (List WorldEvent)) (old_calls new_calls : Option ℕ) (old mid : SessionData) (turned : Turned) (h : HasTurned moment at poll_ms kind old_past new_past old_calls new_calls old mid turned) (p : PrintData) (left : ℕ) where
  by_way : IsOnWay kind p poll_ms moment left old_past old → LeadsOn h.turn.found turned.ending kind p poll_ms at (left - 1) new_past mid
  by_way (dials d) = dial_leads moment at poll_ms kind old_past new_past old_calls new_calls old mid turned h p left d
  by_way (greets g) = hello_leads moment at poll_ms kind old_past new_past old_calls new_calls old mid turned h p left g
  by_way (waits g) = ok_leads moment at poll_ms kind old_past new_past old_calls new_calls old mid turned h p left g
  by_way (goes g) = going_leads moment at poll_ms kind old_past new_past old_calls new_calls old mid turned h p left g

  pub turn_leads : IsOnWay kind p poll_ms moment left old_past old → LeadsOn (fact_of turned.note) turned.ending kind p poll_ms at (left - 1) new_past mid
  turn_leads way =
      let L : LinkFact → Type 0 = λ f. LeadsOn f turned.ending kind p poll_ms at (left - 1) new_past mid in
      subst L (sym (its_fact moment at poll_ms kind old_past new_past old_calls new_calls old mid turned h)) (by_way way)

-- a print on its way has a turn left
pub turn_left : (kind : LinkKind) (p : PrintData) (poll_ms at left : ℕ) (past : Option (List WorldEvent)) (x : SessionData) →
    IsOnWay kind p poll_ms at left past x → 1 ≤ left
turn_left kind p poll_ms at left past x (dials d) = omega (arith, d.enough)
turn_left kind p poll_ms at left past x (greets g) = omega (arith, g.enough)
turn_left kind p poll_ms at left past x (waits g) = omega (arith, g.enough)
turn_left kind p poll_ms at left past x (goes g) = some_left kind p poll_ms at left past x g
