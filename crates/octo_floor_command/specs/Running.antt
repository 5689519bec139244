-- What running a floor by settings comes to: theorem Floor.
use Rattle.std.specs.Prelude.{◌≡◌, ◌≢◌, ℕ, ◌≤◌, List, Option, None, Some, Ok, Err, AllPairs, slice_get}
use Rattle.octo_outside.specs.Recorded.{Rose}
use Rattle.octo_outside.specs.Traits.{Files}
use Rattle.octo_files.specs.declared.report.Report.{Report}
use Rattle.print_queue.specs.Lawful.{IsOrdered}
use Rattle.printer_model.specs.declared.event.WorldEvent.{WorldEvent}
use Rattle.octo_settings.specs.declared.floor.FloorSettings.{FloorSettings}
use Rattle.octo_floor_bay.specs.Bay.{BayData}
use Rattle.octo_floor_bay.specs.Prints.{IsSoundOver}
use Rattle.octo_floor_bay.specs.Events.{started_rows}
use Rattle.octo_floor_bay.specs.declared.end.FloorEnd.{FloorEnd}
use Rattle.octo_floor_bay.specs.declared.end.FloorFault.{FloorFault}
use Rattle.octo_floor_bay.specs.declared.end.FloorFault.TheVariants as fault
use Rattle.octo_floor_bay.specs.declared.end.Why.{Why}
use Rattle.octo_floor_bay.specs.declared.end.Why.TheVariants as why
use Rattle.printer_link.specs.Calls.{LinkState}
use Rattle.octo_floor.specs.Floor.{FloorData, AreUp}
use Rattle.octo_floor.specs.Points.{GoesOn}
use Rattle.octo_floor.specs.Tables.{AreKept}
use Rattle.octo_floor.specs.Rounds.{HasRounds}
use Rattle.octo_floor.specs.Run.{AreCalled, AreNumbersOf, HaveLeft, NothingToStart}
use Rattle.octo_floor_command.specs.Beginning.{Around, floor_in, IsUnrun, IsBegun}
use Rattle.octo_floor_command.specs.Reports.{floor_fault_report}
use Rattle.octo_floor_command.specs.Settings.{HaveFloorSettings}
use Rattle.octo_floor_command.specs.declared.report.FloorReport.{FloorReport}
use Rattle.octo_floor_command.specs.declared.report.FloorReport.TheVariants as floor

-- the prints of each printer are sound: what it did is tied to what its link recorded from first to last
abbrev pub AreSoundOver : List LinkState → List LinkState → List BayData → Type 0
AreSoundOver first last bays =
    (printer : ℕ) (b : BayData) (link link' : LinkState) → slice_get bays printer ≡ Some b
    → slice_get first printer ≡ Some link → slice_get last printer ≡ Some link' → (front past : List WorldEvent)
    → link.past ≡ Some front → link'.past ≡ Some past → IsSoundOver link.kind front past b

-- how a new floor's run ended: over or after a fault each printer is offline or lost; and over, nothing is left to start
abbrev pub EndsSo : FloorData → Why → Type 0
EndsSo f why.Over = HaveLeft f × (f.ledger.fault ≡ None) × NothingToStart f
EndsSo f (why.Fault fault) = HaveLeft f × (f.ledger.fault ≡ Some fault)
EndsSo f why.TurnsUsed = Unit {0}

-- a fault is the keeper's or the shelf's only if that one's count rose
abbrev pub IsFaultCaused : Around → Around → FloorFault → Type 0
IsFaultCaused old new fault.KeeperFailed = Rose old.store.keeper_faults new.store.keeper_faults
IsFaultCaused old new fault.ShelfFailed = Rose old.store.shelf_faults new.store.shelf_faults
IsFaultCaused old new fault.NoMemory = Unit {0}

-- a floor of these settings began and ran
pub record HasRun (f : FloorSettings) (turns : ℕ) (old new : Around) (end : FloorEnd) (floor : FloorData) : Type 0 where
  -- as it was when the floor had begun
  pub between : Around
  pub unrun : IsUnrun old between
  pub first : FloorData
  pub begun : IsBegun f old.store.tables first
  -- what all of its events tell: the copies, the tables, what each printer did and why it is lost, what was passed over, and faults
  pub goes : GoesOn (floor_in between first) (floor_in new floor) floor.ledger.history
  -- its rounds, each of which leaves idle only printers that had nothing to start
  pub rounds : HasRounds turns (floor_in between first) (floor_in new floor) end.why
  pub differ : AllPairs (λ a b. a.number ≢ b.number) (started_rows floor.ledger.history)
  -- the keeper's tables are the floor's, and those at first with what it did
  pub kept : IsOrdered begun.loaded.queue → AreKept begun.loaded floor.ledger new.store.tables
  -- each printer beside its link
  pub sound : AreSoundOver old.links new.links floor.bays
  pub up : AreUp floor.bays new.links
  -- how it ended
  pub numbers : AreNumbersOf floor end
  pub ends : EndsSo floor end.why
  pub used : end.why ≡ why.TurnsUsed → AreCalled turns old.links new.links
  pub caused : (fault : FloorFault) → end.why ≡ why.Fault fault → IsFaultCaused old new fault

-- what running a floor by these settings comes to: it doesn't begin, or it runs
pub data RunsBy (f : FloorSettings) (turns : ℕ) (old new : Around) : FloorReport → Option FloorData → Type 0 where
  not_begun : (fault : FloorFault) → IsUnrun old new → RunsBy f turns old new (floor_fault_report fault) None
  ran : (end : FloorEnd) (last : FloorData) → HasRun f turns old new end last → RunsBy f turns old new (floor.Ran end turns) (Some last)

-- and by the settings of a file
pub data Floors (files : Option Files) (settings : List ℕ) (turns : ℕ) (old new : Around) : FloorReport → Option FloorData → Type 0 where
  no_settings : (r : Report) → HaveFloorSettings files settings (Err r) → IsUnrun old new
      → Floors files settings turns old new (floor.Command r) None
  by_settings : (f : FloorSettings) (r : FloorReport) (known : Option FloorData) → HaveFloorSettings files settings (Ok f)
      → RunsBy f turns old new r known → Floors files settings turns old new r known

-- a failure at the beginning is reported only if the object's count rose
pub record HasFloorCauses (old new : Around) (r : FloorReport) : Type 0 where
  pub keeper : r ≡ floor.KeeperFailed → Rose old.store.keeper_faults new.store.keeper_faults
  pub shelf : r ≡ floor.ShelfFailed → Rose old.store.shelf_faults new.store.shelf_faults
  pub keeper_counted : old.store.keeper_faults ≤ new.store.keeper_faults
  pub shelf_counted : old.store.shelf_faults ≤ new.store.shelf_faults
