-- No step changes by what an `ok` counts.
use Rattle.std.proofs.Common.{◌≡◌, ℕ, List, [], ◌∷◌, refl, ◌∙◌, ap}
use Rattle.std.specs.Prelude.{Option}
use Rattle.marlin_reply.specs.Kind.{kind_of}
use Rattle.printer_link.specs.Link.{LinkKind}
use Rattle.printer_model.specs.declared.event.WorldEvent.{WorldEvent}
use Rattle.send_window.specs.Data.{SenderData}
use Rattle.send_window.specs.Session.{hears as sender_hears, ticks as sender_ticks, gives as sender_gives}
use Rattle.send_window.proofs.Sending.{keeps_kind}
use Rattle.octo_session.specs.Steps.{Step, opens, finds_no_port, fails_to_dial, hears, listens, fails_to_receive, ticks, issues, gives, fails_to_send, hangs_up, after_step, after_steps, turn_steps}
use Rattle.octo_session.specs.Data.{SessionData, doing}
use Rattle.octo_session.specs.Turn.{IsTurn, texts_in}
use Rattle.octo_session.specs.declared.found.Turned.{Turned}

step_kind : (moment : ℕ) (step : Step) (s : SenderData) → (after_step moment step s).numbered ≡ s.numbered
step_kind moment opens s = refl
step_kind moment finds_no_port s = refl
step_kind moment fails_to_dial s = refl
step_kind moment (hears bytes) s = keeps_kind (sender_hears (kind_of bytes) moment) s
step_kind moment listens s = refl
step_kind moment fails_to_receive s = refl
step_kind moment ticks s = keeps_kind (sender_ticks moment) s
step_kind moment (issues text) s = refl
step_kind moment gives s = keeps_kind (sender_gives moment) s
step_kind moment fails_to_send s = keeps_kind (sender_gives moment) s
step_kind moment (hangs_up was_up) s = refl

pub steps_kind : (moment : ℕ) (steps : List Step) (s : SenderData) → (after_steps moment steps s).numbered ≡ s.numbered
steps_kind moment [] s = refl
steps_kind moment (step ∷ steps) s = steps_kind moment steps (after_step moment step s) ∙ step_kind moment step s

pub turn_numbered : (moment : ℕ) (kind : LinkKind) (old_past new_past : Option (List WorldEvent)) (old_calls new_calls : Option ℕ) (old new : SessionData) (turned : Turned) →
    IsTurn moment kind old_past new_past old_calls new_calls old new turned → new.sender.numbered ≡ old.sender.numbered
turn_numbered moment kind old_past new_past old_calls new_calls old new turned t =
    ap (λ (s : SenderData). s.numbered) t.steps.takes.sender
    ∙ steps_kind moment (turn_steps (doing old) old.up t.got t.found (texts_in t.lines) t.steps.count) old.sender
