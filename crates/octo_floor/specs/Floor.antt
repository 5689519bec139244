-- A floor as plain data.
use Rattle.std.specs.Prelude.{◌≡◌, ℕ, ◌+◌, ◌<◌, ◌≤◌, Bool, true, false, List, [], length, map, All, None, Some, slice_get, count_by, Option}
use Rattle.print_queue.specs.declared.entry.QueueEntry.{QueueEntry}
use Rattle.octo_session.specs.Data.{SessionData}
use Rattle.printer_link.specs.Link.{LinkKind}
use Rattle.printer_link.specs.Suits.{SuitsAs}
use Rattle.printer_model.specs.declared.event.WorldEvent.{WorldEvent}
use Rattle.octo_floor_bay.specs.Bay.{BayData}
use Rattle.octo_floor_bay.specs.Prints.{IsInStep}
use Rattle.octo_floor_bay.specs.Events.{started_rows, endings}
use Rattle.octo_floor_bay.specs.Stock.{Stock, AllMayCome, after_events}
use Rattle.octo_floor.specs.Ledger.{LedgerData}
use Rattle.printer_link.specs.Calls.{LinkState}
use Rattle.octo_floor.specs.Objects.{StoreState}
use Rattle.octo_floor.specs.Phases.{IsAtRest}

-- a floor: each printer with its port and its material, what they share, and whether the first round was made
pub record FloorData : Type 0 where
  pub bays : List BayData
  pub ports : List (List ℕ)
  pub materials : List (List ℕ)
  pub ledger : LedgerData
  pub began : Bool

-- a bay of a session with which nothing was done
abbrev pub new_bay : SessionData → BayData
new_bay session = record { session = session; deeds = [] }

-- each bay is in step with a link, from any moment on at which the link suits its sender
abbrev pub AreFresh : List BayData → Type 0
AreFresh bays =
    (printer : ℕ) (b : BayData) (kind : LinkKind) (front : Option (List WorldEvent)) → slice_get bays printer ≡ Some b
    → SuitsAs b.session.sender.numbered front kind.oks → IsInStep kind front front b

-- a floor of these sessions, before any round
abbrev pub new_floor : List SessionData → (ports materials : List (List ℕ)) → List QueueEntry → ℕ → FloorData
new_floor sessions ports materials queue records = record {
  bays = map new_bay sessions;
  ports = ports;
  materials = materials;
  ledger = record {
    stock = record { queue = queue; passed = []; records = records };
    history = [];
    ends_written = [];
    fault = None;
  };
  began = false;
}

-- whether a print is active
abbrev pub is_active : BayData → Bool
is_active b = b.session.desk.active

-- the events of a ledger may have come, one after the other, from a first stock to the ledger's
pub record HasCome (materials : List (List ℕ)) (l : LedgerData) : Type 0 where
  pub first : Stock
  pub came : AllMayCome materials first l.history
  pub stock_is : l.stock ≡ after_events l.history first

-- 2 to 8 printers at rest. The print of each is one that the floor started, and not more ended than were started
pub record IsFloor (f : FloorData) : Type 0 where
  pub some : 2 ≤ length f.bays
  pub few : length f.bays ≤ 8
  pub ports : length f.ports ≡ length f.bays
  pub materials : length f.materials ≡ length f.bays
  pub at_rest : All (λ (b : BayData). IsAtRest b.session) f.bays
  pub recorded : All (λ (b : BayData). b.session.desk.greatest ≤ f.ledger.stock.records) f.bays
  pub own : All (λ (b : BayData). is_active b ≡ true → f.ledger.stock.records < b.session.desk.greatest + length (started_rows f.ledger.history)) f.bays
  pub ended : length (endings f.ledger.history) + count_by is_active f.bays ≤ length (started_rows f.ledger.history)
  pub came : HasCome f.materials f.ledger

-- a floor with its links, the first printer's first, and its keeper and shelf
pub record Setting : Type 0 where
  pub floor : FloorData
  pub links : List LinkState
  pub store : StoreState

-- a setting, made of its parts
abbrev pub setting : FloorData → List LinkState → StoreState → Setting
setting floor links store = record { floor = floor; links = links; store = store }

-- each link is up exactly if its printer's session says so
abbrev pub AreUp : List BayData → List LinkState → Type 0
AreUp bays links =
    (printer : ℕ) (b : BayData) (link : LinkState) → slice_get bays printer ≡ Some b → slice_get links printer ≡ Some link → link.up ≡ b.session.up
