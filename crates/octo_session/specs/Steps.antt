-- A turn as a list of steps: each is one call on the sender, one on the link, or both.
use Rattle.std.specs.Prelude.{◌≡◌, ℕ, ◌<◌, ◌≤◌, ◌^◌, Bool, true, false, List, [], ◌∷◌, ◌++◌, map, replicate, Option, None, Some, is_some, All}
use Rattle.byte_text.specs.Sendable.{IsSendable}
use Rattle.marlin_reply.specs.Kind.{kind_of}
use Rattle.job_desk.specs.declared.link_fact.LinkFact.{LinkFact}
use Rattle.job_desk.specs.declared.link_fact.LinkFact.TheVariants as fact
use Rattle.send_window.specs.Data.{SenderData, sender_after_dial}
use Rattle.send_window.specs.Sending.{Outgoing, bytes_of_outgoing, next_of, last_room_of, frame_step, push_step}
use Rattle.send_window.specs.Hearing.{hear_step, tick_step}
use Rattle.printer_model.specs.World.{WorldData, world_from}
use Rattle.printer_link.specs.Link.{LinkKind, Grows, IsDial, IsRuns, IsSend, IsSendOf, IsSendLoss, IsHeard, IsSilence, IsLoss, IsHangUp, counted_one, dial_events, recv_events}
use Rattle.printer_model.specs.declared.event.WorldEvent.{WorldEvent}
use Rattle.octo_session.specs.Found.{Got, unasked, lost, nothing, whole}
use Rattle.octo_session.specs.declared.found.Doing.{Doing}
use Rattle.octo_session.specs.declared.found.Doing.TheVariants.{Dialling, HangingUp, UsingLink, Resting}

-- a step of a turn
pub data Step : Type 0 where
  -- a link is made, and the hello is to be sent from then on
  opens : Step
  -- a dial finds that its port isn't listed
  finds_no_port : Step
  -- a dial fails
  fails_to_dial : Step
  -- a reply line is received, and the sender hears it
  hears : List ℕ → Step
  -- no line has arrived
  listens : Step
  -- a receiving fails
  fails_to_receive : Step
  -- the sender's clock ticks
  ticks : Step
  -- a text is issued
  issues : List ℕ → Step
  -- what is to be sent next is sent
  gives : Step
  -- what is to be sent next is taken out, and the sending fails
  fails_to_send : Step
  -- the link is hung up, if it was up
  hangs_up : Bool → Step

-- the sender after a step at a moment
abbrev pub after_step : ℕ → Step → SenderData → SenderData
after_step moment opens s = sender_after_dial s
after_step moment finds_no_port s = s
after_step moment fails_to_dial s = s
after_step moment (hears bytes) s = hear_step (kind_of bytes) moment s
after_step moment listens s = s
after_step moment fails_to_receive s = s
after_step moment ticks s = tick_step moment s
after_step moment (issues text) s = push_step text s
after_step moment gives s = frame_step moment s
after_step moment fails_to_send s = frame_step moment s
after_step moment (hangs_up was_up) s = s

-- the sender after these steps
abbrev pub after_steps : ℕ → List Step → SenderData → SenderData
after_steps moment [] s = s
after_steps moment (step ∷ steps) s = after_steps moment steps (after_step moment step s)

-- a text consists of bytes
abbrev pub AreBytes : List ℕ → Type 0
AreBytes text = All (λ b. b < 2 ^ 8) text

-- what holds of the sender before a step: a line is issued only if the window has room, or would have it with one more line
-- for the one that stops the printer, and it may be sent; and a frame is taken out only if one waits
abbrev pub IsAllowed : Step → SenderData → Type 0
IsAllowed opens s = Unit {0}
IsAllowed finds_no_port s = Unit {0}
IsAllowed fails_to_dial s = Unit {0}
IsAllowed (hears bytes) s = Unit {0}
IsAllowed listens s = Unit {0}
IsAllowed fails_to_receive s = Unit {0}
IsAllowed ticks s = Unit {0}
IsAllowed (issues text) s = (0 < last_room_of s) × IsSendable text × AreBytes text
IsAllowed gives s = is_some (next_of s) ≡ true
IsAllowed fails_to_send s = is_some (next_of s) ≡ true
IsAllowed (hangs_up was_up) s = Unit {0}

-- before each of these steps it does
abbrev pub AreAllowed : ℕ → List Step → SenderData → Type 0
AreAllowed moment [] s = Unit {0}
AreAllowed moment (step ∷ steps) s = IsAllowed step s × AreAllowed moment steps (after_step moment step s)

-- what is to be sent next is sent
abbrev pub IsGiven : Option Outgoing → WorldData → List WorldEvent → Type 0
IsGiven None w added = ⊥
IsGiven (Some next) w added = IsSend (bytes_of_outgoing next) w added

-- the printer keeps 1 to 16 lines waiting
pub record HasPlaces (w : WorldData) : Type 0 where
  pub some : 1 ≤ w.printer.slots
  pub few : w.printer.slots ≤ 16

-- what a step adds to the recorded history of the link
abbrev pub IsDone : Step → SenderData → WorldData → List WorldEvent → Type 0
IsDone opens s w added = IsDial w added × HasPlaces w
IsDone finds_no_port s w added = added ≡ []
IsDone fails_to_dial s w added = IsRuns w added
IsDone (hears bytes) s w added = IsHeard bytes w added
IsDone listens s w added = IsSilence w added
IsDone fails_to_receive s w added = IsLoss w added
IsDone ticks s w added = added ≡ []
IsDone (issues text) s w added = added ≡ []
IsDone gives s w added = IsGiven (next_of s) w added
IsDone fails_to_send s w added = IsSendLoss w added
IsDone (hangs_up was_up) s w added = IsHangUp was_up w added

-- what is to be sent next is sent, and nothing else happens
abbrev pub IsGivenAlone : Option Outgoing → List WorldEvent → Type 0
IsGivenAlone None added = ⊥
IsGivenAlone (Some next) added = (sent : WorldEvent) × (added ≡ sent ∷ []) × IsSendOf (bytes_of_outgoing next) sent

-- what a step adds over a prompt link, to the event
abbrev pub IsDonePromptly : Step → SenderData → WorldData → List WorldEvent → Type 0
IsDonePromptly opens s w added = (last : ℕ) × (added ≡ dial_events w last)
IsDonePromptly finds_no_port s w added = Unit {0}
IsDonePromptly fails_to_dial s w added = Unit {0}
IsDonePromptly (hears bytes) s w added = added ≡ recv_events true w
IsDonePromptly listens s w added = added ≡ recv_events true w
IsDonePromptly fails_to_receive s w added = Unit {0}
IsDonePromptly ticks s w added = Unit {0}
IsDonePromptly (issues text) s w added = Unit {0}
IsDonePromptly gives s w added = IsGivenAlone (next_of s) added
IsDonePromptly fails_to_send s w added = Unit {0}
IsDonePromptly (hangs_up was_up) s w added = Unit {0}

-- the same over a link that is prompt or not
abbrev pub IsAdded : Bool → Step → SenderData → WorldData → List WorldEvent → Type 0
IsAdded is_prompt step s w added = IsDone step s w added × (is_prompt ≡ true → IsDonePromptly step s w added)

-- what these steps add, one after the other
abbrev pub AreAdded : ℕ → Bool → List Step → SenderData → WorldData → List WorldEvent → Type 0
AreAdded moment is_prompt [] s w added = added ≡ []
AreAdded moment is_prompt (step ∷ steps) s w added =
    (first : List WorldEvent) × (rest : List WorldEvent) × (added ≡ first ++ rest)
    × IsAdded is_prompt step s w first × AreAdded moment is_prompt steps (after_step moment step s) (world_from w first) rest

-- the count of the link's calls after a step
abbrev pub calls_by : Step → Option ℕ → Option ℕ
calls_by opens calls = counted_one calls
calls_by finds_no_port calls = counted_one calls
calls_by fails_to_dial calls = counted_one calls
calls_by (hears bytes) calls = counted_one calls
calls_by listens calls = counted_one calls
calls_by fails_to_receive calls = counted_one calls
calls_by ticks calls = calls
calls_by (issues text) calls = calls
calls_by gives calls = counted_one calls
calls_by fails_to_send calls = counted_one calls
calls_by (hangs_up was_up) calls = calls

-- after these steps
abbrev pub calls_after : List Step → Option ℕ → Option ℕ
calls_after [] calls = calls
calls_after (step ∷ steps) calls = calls_after steps (calls_by step calls)

-- texts are issued, each as it comes
abbrev pub issuing : List (List ℕ) → List Step
issuing texts = map issues texts

-- a sender issues these texts
pub record Issues (moment : ℕ) (texts : List (List ℕ)) (old new : SenderData) : Type 0 where
  pub sender : new ≡ after_steps moment (issuing texts) old
  pub allowed : AreAllowed moment (issuing texts) old

-- a sender and a link take these steps
pub record Takes (moment : ℕ) (kind : LinkKind) (old_past new_past : Option (List WorldEvent)) (old_calls new_calls : Option ℕ) (steps : List Step)
    (old new : SenderData) : Type 0 where
  pub sender : new ≡ after_steps moment steps old
  pub allowed : AreAllowed moment steps old
  pub past : Grows kind old_past new_past (AreAdded moment kind.prompt steps old)
  pub calls : new_calls ≡ calls_after steps old_calls

-- the step of a receiving
abbrev pub received_by : Got → List Step
received_by unasked = []
received_by lost = fails_to_receive ∷ []
received_by nothing = listens ∷ []
received_by (whole bytes) = hears bytes ∷ []

-- a number of frames is sent, and if not all are sent the sending of one more fails
abbrev pub sends : Bool → ℕ → List Step
sends true count = replicate count gives
sends false count = replicate count gives ++ fails_to_send ∷ []

-- texts are issued, and then frames sent
abbrev pub issues_then_sends : Bool → List (List ℕ) → ℕ → List Step
issues_then_sends all texts count = issuing texts ++ sends all count

-- what a turn over an open link does after its receiving, by what it finds
abbrev pub clock_steps : LinkFact → List (List ℕ) → ℕ → List Step
clock_steps fact.Quiet texts count = ticks ∷ issues_then_sends true texts count
clock_steps fact.Opened texts count = []
clock_steps fact.Ready texts count = ticks ∷ []
clock_steps fact.Closed texts count = []
clock_steps fact.NoPort texts count = []
clock_steps fact.Failed texts count = ticks ∷ issues_then_sends false texts count
clock_steps (fact.Ended end) texts count = ticks ∷ hangs_up true ∷ []

-- a turn over an open link, by what it receives and finds
abbrev pub steps_over_link : Got → LinkFact → List (List ℕ) → ℕ → List Step
steps_over_link unasked found texts count = []
steps_over_link lost found texts count = fails_to_receive ∷ []
steps_over_link nothing found texts count = listens ∷ clock_steps found texts count
steps_over_link (whole bytes) found texts count = hears bytes ∷ clock_steps found texts count

-- a turn that dials, by what it finds
abbrev pub dial_steps : LinkFact → List Step
dial_steps fact.Quiet = []
dial_steps fact.Opened = opens ∷ []
dial_steps fact.Ready = []
dial_steps fact.Closed = []
dial_steps fact.NoPort = finds_no_port ∷ []
dial_steps fact.Failed = fails_to_dial ∷ []
dial_steps (fact.Ended end) = []

-- a turn, by what it does, receives, finds and issues, and how many frames it takes out
abbrev pub turn_steps : Doing → Bool → Got → LinkFact → List (List ℕ) → ℕ → List Step
turn_steps Dialling was_up got found texts count = dial_steps found
turn_steps HangingUp was_up got found texts count = hangs_up was_up ∷ []
turn_steps UsingLink was_up got found texts count = steps_over_link got found texts count
turn_steps Resting was_up got found texts count = []

-- the sender and the link take these steps, with some count of frames
pub record TakesSome (moment : ℕ) (kind : LinkKind) (old_past new_past : Option (List WorldEvent)) (old_calls new_calls : Option ℕ) (steps : ℕ → List Step)
    (old new : SenderData) : Type 0 where
  pub count : ℕ
  pub takes : Takes moment kind old_past new_past old_calls new_calls (steps count) old new
