-- Which issued lines were sent.
use Rattle.std.specs.Prelude.{ℕ, ◌<◌, ◌⊎◌, List, [], ◌∷◌}
use Rattle.marlin_frame.specs.Frame.{frame_of}
use Rattle.marlin_frame.specs.Numbering.{wire_number}
use Rattle.printer_link.specs.Link.{IsSendOf}
use Rattle.printer_model.specs.declared.event.WorldEvent.{WorldEvent}
use Rattle.octo_session.specs.Sends.{IsIssued}

-- one of these events sends the bytes
abbrev pub WasSent : List ℕ → List WorldEvent → Type 0
WasSent bytes [] = ⊥
WasSent bytes (event ∷ events) = IsSendOf bytes event ⊎ WasSent bytes events

-- each issued line above those acknowledged was sent in these events, under its number
abbrev pub AreAllSent : List (List ℕ) → ℕ → List WorldEvent → Type 0
AreAllSent issued acked events =
    (place : ℕ) (text : List ℕ) → acked < place → IsIssued issued place text → WasSent (frame_of (wire_number place) text) events
