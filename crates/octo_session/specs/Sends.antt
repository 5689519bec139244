-- The lines and replies of a session, by its history, and which lines a host may send in it.
use Rattle.std.specs.Prelude.{◌≡◌, ℕ, ◌-◌, ◌<◌, ◌≤◌, Bool, true, false, List, [], ◌∷◌, ◌++◌, map, slice_get, Some, ◌⊎◌}
use Rattle.marlin_frame.specs.Frame.{frame_of, fails}
use Rattle.marlin_frame.specs.Numbering.{wire_number, hello_frame}
use Rattle.marlin_reply.specs.Kind.{kind_of}
use Rattle.printer_model.specs.World.{WorldData, apply}
use Rattle.printer_model.specs.Exchanged.{received_by, closes_next}
use Rattle.printer_model.specs.declared.event.WorldEvent.{WorldEvent}
use Rattle.printer_model.specs.declared.event.WorldEvent.TheVariants.{Send, Recv}
use Rattle.send_window.specs.Counting.{Traffic, sent, received, acked_as}
use Rattle.send_window.specs.Data.{most_hellos}
use Rattle.send_window.specs.Sending.{hello_with}

-- the line or the reply that goes over the link by an event
abbrev pub traffic_by : WorldData → WorldEvent → List Traffic
traffic_by w (Send line) = sent ∷ []
traffic_by w Recv = map (λ line. received (kind_of line)) (received_by w Recv)
traffic_by w _ = []

-- those that go by events, in order
abbrev pub traffic_from : WorldData → List WorldEvent → List Traffic
traffic_from w [] = []
traffic_from w (event ∷ events) = traffic_by w event ++ traffic_from (apply w event) events

-- the text is at a place among the issued ones
pub record IsIssued (issued : List (List ℕ)) (place : ℕ) (text : List ℕ) : Type 0 where
  pub counted : 1 ≤ place
  pub found : slice_get issued (place - 1) ≡ Some text

-- an issued line above those acknowledged, under its number
pub record IsLineAbove (issued : List (List ℕ)) (acked : ℕ) (bytes : List ℕ) : Type 0 where
  pub place : ℕ
  pub text : List ℕ
  pub above : acked < place
  pub its : IsIssued issued place text
  pub framed : bytes ≡ frame_of (wire_number place) text

-- a hello, by whether `ok`s count by their numbers: then each one has a number of its own
abbrev pub IsHello : Bool → List ℕ → Type 0
IsHello false bytes = bytes ≡ hello_frame
IsHello true bytes = (number : ℕ) × (number < most_hellos) × (bytes ≡ hello_with number)

-- the host sent a hello or a line above those acknowledged; or a line failed, and the link is closed next
abbrev pub IsSendFit : Bool → List (List ℕ) → ℕ → List ℕ → List WorldEvent → Type 0
IsSendFit numbered issued acked bytes later =
    IsHello numbered bytes ⊎ (IsLineAbove issued acked bytes ⊎ ((fails bytes ≡ true) × (closes_next later ≡ true)))

-- if the event is a line that the host sent, it is such a line
abbrev pub IsEventFit : Bool → List (List ℕ) → ℕ → WorldEvent → List WorldEvent → Type 0
IsEventFit numbered issued acked (Send line) later = IsSendFit numbered issued acked line.items later
IsEventFit numbered issued acked _ later = Unit {0}

-- each line sent by these events is such a line, if these lines and replies came before the events; by whether `ok`s count by their numbers
abbrev pub AreSendsFit : Bool → List (List ℕ) → List Traffic → WorldData → List WorldEvent → Type 0
AreSendsFit numbered issued traffic w [] = Unit {0}
AreSendsFit numbered issued traffic w (event ∷ events) =
    IsEventFit numbered issued (acked_as numbered traffic) event events
    × AreSendsFit numbered issued (traffic ++ traffic_by w event) (apply w event) events
