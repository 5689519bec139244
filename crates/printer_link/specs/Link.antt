-- What the calls of a link add to its recorded history.
use Rattle.std.specs.Prelude.{◌≡◌, ◌<◌, ◌≤◌, ℕ, ◌+◌, Bool, true, false, if◌then◌else◌, List, [], ◌∷◌, ◌++◌, length, replicate, Option, Some, None, is_some, min}
use Rattle.std.specs.List.{list_all}
use Rattle.octo_outside.specs.Recorded.{Became, last_count}
use Rattle.marlin_frame.specs.Frame.{fails}
use Rattle.printer_model.specs.Printer.{is_full}
use Rattle.printer_model.specs.World.{WorldData, is_empty, is_free, is_run, can_happen, happen, world_from, world_of}
use Rattle.printer_model.specs.declared.oks.Oks.{Oks}
use Rattle.printer_model.specs.declared.event.WorldEvent.{WorldEvent}
use Rattle.printer_model.specs.declared.event.WorldEvent.TheVariants.{Opened, Send, Arrive, Run, Recv, Closed}

-- what no call of a link changes: how many lines the printer's queue holds, its acknowledgements, whether each line arrives
-- whole and is answered at once, and which names are listed
pub record LinkKind : Type 0 where
  pub slots : ℕ
  pub oks : Oks
  pub prompt : Bool
  pub listed : List ℕ → Bool

-- 1 to 16 lines are held
pub record HasSlots (kind : LinkKind) : Type 0 where
  pub some : 1 ≤ kind.slots
  pub few : kind.slots ≤ 16

-- the world that a history leads to
abbrev pub world_in : LinkKind → List WorldEvent → WorldData
world_in kind past = world_of kind.slots kind.oks past

-- a recorded history stays recorded and grew by such an addition; one that isn't recorded stays so
pub record Recorded (old new : Option (List WorldEvent)) (Addition : List WorldEvent → List WorldEvent → Type 0) : Type 0 where
  pub stays : is_some new ≡ is_some old
  pub grew : Became old new Addition

-- the same for an addition that the world before it determines
abbrev pub Grows : LinkKind → Option (List WorldEvent) → Option (List WorldEvent) → (WorldData → List WorldEvent → Type 0) → Type 0
Grows kind old new Addition = Recorded old new (λ past added. Addition (world_in kind past) added)

-- the link is up exactly if the world of its history is open
abbrev pub IsOpenAs : LinkKind → Option (List WorldEvent) → Bool → Type 0
IsOpenAs kind None up = Unit {0}
IsOpenAs kind (Some past) up = (world_in kind past).linked ≡ up

-- nothing happens
abbrev pub IsNothing : WorldData → List WorldEvent → Type 0
IsNothing w added = added ≡ []

-- only runs
abbrev pub IsRuns : WorldData → List WorldEvent → Type 0
IsRuns w added = list_all is_run added ≡ true

-- runs, and then a link is made
pub record IsDial (w : WorldData) (added : List WorldEvent) : Type 0 where
  pub runs : List WorldEvent
  pub last : ℕ
  pub is : added ≡ runs ++ Opened last ∷ []
  pub only_runs : list_all is_run runs ≡ true
  pub opens : can_happen (world_from w runs) (Opened last) ≡ true

-- the event sends these bytes
abbrev pub IsSendOf : List ℕ → WorldEvent → Type 0
IsSendOf bytes (Send line) = line.items ≡ bytes
IsSendOf bytes _ = ⊥

-- a line is sent, and round it only what the line and the printer do
pub record IsSend (line : List ℕ) (w : WorldData) (added : List WorldEvent) : Type 0 where
  pub before : List WorldEvent
  pub sent : WorldEvent
  pub after : List WorldEvent
  pub is : added ≡ before ++ sent ∷ after
  pub line_is : IsSendOf line sent
  pub free_before : list_all is_free before ≡ true
  pub free_after : list_all is_free after ≡ true
  pub sends : can_happen (world_from w before) sent ≡ true

-- a reply is received whole, and round it only what the line and the printer do
pub record IsHeard (into : List ℕ) (w : WorldData) (added : List WorldEvent) : Type 0 where
  pub before : List WorldEvent
  pub reply : List ℕ
  pub rest : List (List ℕ)
  pub after : List WorldEvent
  pub is : added ≡ before ++ Recv ∷ after
  pub front : (world_from w before).down ≡ reply ∷ rest
  pub linked : (world_from w before).linked ≡ true
  pub whole : into ≡ reply
  pub free_before : list_all is_free before ≡ true
  pub free_after : list_all is_free after ≡ true

-- nothing could be received, after what the line and the printer do
pub record IsSilence (w : WorldData) (added : List WorldEvent) : Type 0 where
  pub free : list_all is_free added ≡ true
  pub empty : (world_from w added).down ≡ []

-- the link is closed, after what the line and the printer do
pub record IsLoss (w : WorldData) (added : List WorldEvent) : Type 0 where
  pub before : List WorldEvent
  pub is : added ≡ before ++ Closed ∷ []
  pub free : list_all is_free before ≡ true
  pub linked : (world_from w before).linked ≡ true

-- a line that fails its checksum is sent
abbrev pub SendsFailing : WorldData → WorldEvent → Type 0
SendsFailing w (Send line) = (fails line.items ≡ true) × (can_happen w (Send line) ≡ true)
SendsFailing w _ = ⊥

-- at most one line is sent, and it fails its checksum
abbrev pub MaySendFailing : WorldData → List WorldEvent → Type 0
MaySendFailing w [] = Unit {0}
MaySendFailing w (event ∷ []) = SendsFailing w event
MaySendFailing w _ = ⊥

-- the link is closed in a send, after what the line and the printer do and perhaps a line that fails
pub record IsSendLoss (w : WorldData) (added : List WorldEvent) : Type 0 where
  pub before : List WorldEvent
  pub failing : List WorldEvent
  pub after : List WorldEvent
  pub is : added ≡ before ++ failing ++ after ++ Closed ∷ []
  pub may_send : MaySendFailing (world_from w before) failing
  pub free_before : list_all is_free before ≡ true
  pub free_after : list_all is_free after ≡ true
  pub linked : (world_from w (before ++ failing ++ after)).linked ≡ true

-- the link is closed if it was up, and nothing else
abbrev pub IsHangUp : Bool → WorldData → List WorldEvent → Type 0
IsHangUp true w added = (added ≡ Closed ∷ []) × (w.linked ≡ true)
IsHangUp false w added = added ≡ []

-- the count of calls after one more, at most its type's last value
abbrev pub counted_one : Option ℕ → Option ℕ
counted_one None = None
counted_one (Some calls) = Some (min (calls + 1) last_count)

-- the count of calls, if recorded, rose by at least this number, unless it is at its type's last value
abbrev pub RoseBy : ℕ → Option ℕ → Option ℕ → Type 0
RoseBy n None None = Unit {0}
RoseBy n (Some before) (Some now) = now < last_count → before + n ≤ now
RoseBy n _ _ = ⊥

-- a dial: the printer runs all that waits, and then the link is made
abbrev pub dial_events : WorldData → ℕ → List WorldEvent
dial_events w last = replicate (length w.printer.queue) Run ++ Opened last ∷ []

-- what arrives of a wire to the printer, in order, until the queue is full
abbrev pub arrivals : WorldData → List (List ℕ) → List WorldEvent
arrivals w [] = []
arrivals w (line ∷ rest) = if is_full w.printer then [] else Arrive ∷ arrivals (happen w Arrive) rest

-- one run, if it is due and something waits
abbrev pub due_run : Bool → WorldData → List WorldEvent
due_run due w = if due then (if is_empty w.printer.queue then [] else Run ∷ []) else []

-- the front of the wire from the printer is received, if there is one
abbrev pub due_recv : WorldData → List WorldEvent
due_recv w = if is_empty w.down then [] else Recv ∷ []

-- what arrives, and then a run if it is due
abbrev pub printer_events : Bool → WorldData → List WorldEvent
printer_events due w = arrivals w w.up ++ due_run due (world_from w (arrivals w w.up))

-- a call of `recv`: what arrives, a run if it is due, and the front of the wire from the printer
abbrev pub recv_events : Bool → WorldData → List WorldEvent
recv_events due w = printer_events due w ++ due_recv (world_from w (printer_events due w))
