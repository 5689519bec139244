-- A run of a floor, until nothing goes on and nothing more can be started.
use Rattle.std.specs.Prelude.{◌≡◌, ◌≢◌, ◌⊎◌, ℕ, ◌+◌, ◌<◌, ◌≤◌, Bool, true, false, List, [], ◌∷◌, length, All, Option, None, Some, slice_get, count_by}
use Rattle.octo_outside.specs.Recorded.{last_count}
use Rattle.octo_floor_bay.specs.Bay.{BayData}
use Rattle.octo_floor_bay.specs.Events.{started_rows, endings}
use Rattle.octo_floor_bay.specs.Stock.{Start, copies_left}
use Rattle.octo_floor_bay.specs.declared.end.FloorEnd.{FloorEnd}
use Rattle.octo_floor_bay.specs.declared.end.FloorFault.{FloorFault}
use Rattle.octo_floor_bay.specs.declared.end.Why.{Why}
use Rattle.octo_floor_bay.specs.declared.end.Why.TheVariants as why
use Rattle.octo_floor_bay.specs.Written.{most_records}
use Rattle.octo_floor.specs.Counted.{is_done, is_failed}
use Rattle.printer_link.specs.Calls.{LinkState}
use Rattle.octo_floor.specs.Phases.{Phase, offline, connected, leaving, lost, phase_of}
use Rattle.octo_floor.specs.Floor.{FloorData, Setting}

-- a setting as a run begins: no fault came in it yet
abbrev pub run_begun : Setting → Setting
run_begun x = record x { floor = record x.floor { ledger = record x.floor.ledger { fault = None } } }

-- whether a printer is lost
abbrev pub is_lost_in : Phase → Bool
is_lost_in offline = false
is_lost_in connected = false
is_lost_in leaving = false
is_lost_in lost = true

abbrev pub is_lost : BayData → Bool
is_lost b = is_lost_in (phase_of b.session)

-- whether a printer has left: it is offline or lost
abbrev pub has_left_in : Phase → Bool
has_left_in offline = true
has_left_in connected = false
has_left_in leaving = false
has_left_in lost = true

abbrev pub has_left : BayData → Bool
has_left b = has_left_in (phase_of b.session)

-- whether a printer was connected and not disconnected since
abbrev pub is_open_in : Phase → Bool
is_open_in offline = false
is_open_in connected = true
is_open_in leaving = false
is_open_in lost = true

abbrev pub is_open : BayData → Bool
is_open b = is_open_in (phase_of b.session)

-- a floor of which no printer is being disconnected, before its first round; or with all printers connected and not disconnected since
abbrev pub IsOpen : FloorData → Type 0
IsOpen f =
    (printer : ℕ) (b : BayData) → slice_get f.bays printer ≡ Some b
    → ((f.began ≡ false) × (phase_of b.session ≢ leaving)) ⊎ (is_open b ≡ true)

-- the numbers that a run returns: the prints that the floor started, those that are done and that failed, the copies that are left, and
-- the printers that are lost
pub record AreNumbersOf (f : FloorData) (end : FloorEnd) : Type 0 where
  pub prints : end.prints ≡ length (started_rows f.ledger.history)
  pub done : end.done ≡ count_by is_done (endings f.ledger.history)
  pub failed : end.failed ≡ count_by is_failed (endings f.ledger.history)
  pub left : end.left ≡ copies_left f.ledger.stock.queue
  pub lost : end.lost ≡ count_by is_lost f.bays

-- each printer has left
abbrev pub HaveLeft : FloorData → Type 0
HaveLeft f = All (λ (b : BayData). has_left b ≡ true) f.bays

-- nothing more can be started: no entry fits a printer that isn't lost, or no more records may be held
abbrev pub NothingToStart : FloorData → Type 0
NothingToStart f =
    (printer : ℕ) (b : BayData) (material : List ℕ) → slice_get f.bays printer ≡ Some b → slice_get f.materials printer ≡ Some material
    → is_lost b ≡ false → Start f.ledger.stock material None ⊎ (most_records ≤ f.ledger.stock.records)

-- two counts of calls together, if both are recorded
abbrev pub both_calls : Option ℕ → Option ℕ → Option ℕ
both_calls None _ = None
both_calls (Some a) None = None
both_calls (Some a) (Some b) = Some (a + b)

-- the calls of all links, if each records its calls
abbrev pub calls_of : List LinkState → Option ℕ
calls_of [] = Some 0
calls_of (link ∷ links) = both_calls link.calls (calls_of links)

-- no count of calls is at its type's last value
abbrev pub AreCounting : List LinkState → Type 0
AreCounting links = (printer : ℕ) (link : LinkState) (calls : ℕ) → slice_get links printer ≡ Some link → link.calls ≡ Some calls → calls < last_count

-- the links were called at least this number of times, less 8
abbrev pub AreCalled : ℕ → List LinkState → List LinkState → Type 0
AreCalled turns old new =
    (before now : ℕ) → calls_of old ≡ Some before → calls_of new ≡ Some now → AreCounting new → before + turns ≤ now + 8

-- how a run ended: over or after a fault each printer has left; and over, if the printers were open at first, nothing is left to start
abbrev pub EndsFor : FloorData → FloorData → Why → Type 0
EndsFor old new why.Over = HaveLeft new × (new.ledger.fault ≡ None) × (IsOpen old → NothingToStart new)
EndsFor old new (why.Fault fault) = HaveLeft new × (new.ledger.fault ≡ Some fault)
EndsFor old new why.TurnsUsed = Unit {0}

-- why a run that is over ended
abbrev pub reason_of : Option FloorFault → Why
reason_of None = why.Over
reason_of (Some fault) = why.Fault fault
