-- How the printers of a floor leave.
use Rattle.std.specs.Prelude.{◌≡◌, ◌≢◌, ℕ, ◌<◌, ◌≤◌, Bool, true, false, List, [], length, Option, None, Some, slice_get, slice_set}
use Rattle.job_desk.specs.declared.state.State.TheVariants as state
use Rattle.printer_link.specs.Link.{LinkKind}
use Rattle.printer_model.specs.declared.event.WorldEvent.{WorldEvent}
use Rattle.octo_floor_bay.specs.Bay.{BayData, RunsOn, after_deed, run_in}
use Rattle.octo_floor_bay.specs.Prints.{IsInStep}
use Rattle.octo_floor_bay.specs.declared.deed.Deed.TheVariants as deed
use Rattle.octo_floor_bay.specs.Stock.{Start}
use Rattle.octo_floor.specs.Ledger.{LedgerData}
use Rattle.octo_floor.specs.Step.{IsFree}
use Rattle.octo_floor.specs.Floor.{FloorData, IsFloor}
use Rattle.octo_floor.specs.Run.{is_lost, HaveLeft}

-- a printer neither connects nor prints, and has nothing to start
pub record IsIdle (l : LedgerData) (material : List ℕ) (b : BayData) : Type 0 where
  pub connected : b.session.desk.state ≢ state.Connecting
  pub no_print : b.session.desk.active ≡ false
  pub nothing : IsFree l b → Start l.stock material None

-- each printer does
abbrev pub AreIdle : FloorData → Type 0
AreIdle f =
    (printer : ℕ) (b : BayData) (material : List ℕ) → slice_get f.bays printer ≡ Some b → slice_get f.materials printer ≡ Some material
    → IsIdle f.ledger material b

-- a bay that is disconnected unless it is lost, which stays so
abbrev pub disconnected_unless : Bool → BayData → BayData
disconnected_unless true b = b
disconnected_unless false b = after_deed deed.Disconnected b

-- so it is, and stays beside its link's history
pub record IsDisconnected (old new : BayData) : Type 0 where
  pub bay_is : new ≡ disconnected_unless (is_lost old) old
  pub run : RunsOn [] [] (run_in old) (run_in new)
  pub tied : (kind : LinkKind) (front past : Option (List WorldEvent)) → IsInStep kind front past old → IsInStep kind front past new

-- a printer of a floor is disconnected; all else stays
pub record IsDisconnectedAt (printer : ℕ) (old new : FloorData) : Type 0 where
  pub bay : BayData
  pub its_bay : slice_get old.bays printer ≡ Some bay
  pub after : BayData
  pub left : IsDisconnected bay after
  pub floor_is : new ≡ record old { bays = slice_set old.bays printer after }

-- the first printers are disconnected, this number of them; the others stay
pub record AreDisconnected (count : ℕ) (old new : FloorData) : Type 0 where
  pub same : new ≡ record old { bays = new.bays }
  pub bays : length new.bays ≡ length old.bays
  pub first : (printer : ℕ) (b b' : BayData) → printer < count → slice_get old.bays printer ≡ Some b → slice_get new.bays printer ≡ Some b'
      → IsDisconnected b b'
  pub others : (printer : ℕ) (b b' : BayData) → count ≤ printer → slice_get old.bays printer ≡ Some b → slice_get new.bays printer ≡ Some b'
      → b' ≡ b

-- printers that leave go on so; else they begin to leave, all at once, if the run is over
abbrev pub Leaves : Bool → FloorData → Bool → FloorData → Type 0
Leaves true old leaves new = (leaves ≡ true) × (new ≡ old)
Leaves false old true new = AreIdle old × AreDisconnected (length old.bays) old new × IsFloor new
Leaves false old false new = (HaveLeft old → ⊥) × (new ≡ old)
