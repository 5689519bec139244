-- A round: the part of each printer, from 0 up.
use Rattle.std.specs.Prelude.{◌≡◌, ℕ, zero, suc, ◌||◌, Bool, true, false, List, [], ◌++◌, length, Option, Some, slice_get, slice_set}
use Rattle.printer_link.specs.Link.{LinkKind}
use Rattle.printer_model.specs.declared.event.WorldEvent.{WorldEvent}
use Rattle.octo_floor_bay.specs.Bay.{BayData, RunsOn, after_deed, run_in}
use Rattle.octo_floor_bay.specs.Prints.{IsInStep}
use Rattle.octo_floor_bay.specs.declared.deed.Deed.TheVariants as deed
use Rattle.octo_floor_bay.specs.Events.{FloorHistory}
use Rattle.printer_link.specs.Calls.{LinkState}
use Rattle.octo_floor.specs.Objects.{StoreState}
use Rattle.octo_floor.specs.Step.{IsStep}
use Rattle.octo_floor.specs.Floor.{FloorData, Setting}

-- a bay that begins to connect in the first round
abbrev pub dialled : Bool → List ℕ → BayData → BayData
dialled true port b = b
dialled false port b = after_deed (deed.Connected port) b

-- so it does, and stays beside its link's history
pub record IsDialled (began : Bool) (port : List ℕ) (old new : BayData) : Type 0 where
  pub bay_is : new ≡ dialled began port old
  pub run : RunsOn [] [] (run_in old) (run_in new)
  pub tied : (kind : LinkKind) (front past : Option (List WorldEvent)) → IsInStep kind front past old → IsInStep kind front past new

-- one printer's part of a round of a floor, over its link
pub record IsStepOver (printer moment : ℕ) (link link' : LinkState) (store store' : StoreState) (old new : FloorData) (heard : Bool)
    (events : FloorHistory) : Type 0 where
  pub bay : BayData
  pub port : List ℕ
  pub material : List ℕ
  pub its_bay : slice_get old.bays printer ≡ Some bay
  pub its_port : slice_get old.ports printer ≡ Some port
  pub its_material : slice_get old.materials printer ≡ Some material
  -- it begins to connect in the first round, and does its part
  pub begun : BayData
  pub dials : IsDialled old.began port bay begun
  pub after : BayData
  pub step : IsStep printer moment material link link' store store' old.ledger new.ledger begun after heard events
  -- the other printers stay
  pub floor_is : new ≡ record old { bays = slice_set old.bays printer after; ledger = new.ledger }

-- the same with all links
pub record IsStepAt (printer moment : ℕ) (x y : Setting) (heard : Bool) (events : FloorHistory) : Type 0 where
  pub link : LinkState
  pub link' : LinkState
  pub its_link : slice_get x.links printer ≡ Some link
  pub over : IsStepOver printer moment link link' x.store y.store x.floor y.floor heard events
  pub links_are : y.links ≡ slice_set x.links printer link'

-- the parts of the first printers, this number of them
abbrev pub Steps : ℕ → ℕ → Setting → Setting → Bool → FloorHistory → Type 0
Steps zero moment x y heard events = (y ≡ x) × (heard ≡ false) × (events ≡ [])
Steps (suc printer) moment x y heard events =
    (mid : Setting) × (before : Bool) × (hears : Bool) × (former : FloorHistory) × (added : FloorHistory)
    × Steps printer moment x mid before former × IsStepAt printer moment mid y hears added
    × (heard ≡ (before || hears)) × (events ≡ former ++ added)

-- a round: the parts of all printers, after which the first round was made
pub record IsRound (moment : ℕ) (x y : Setting) (heard : Bool) (events : FloorHistory) : Type 0 where
  pub stepped : Setting
  pub steps : Steps (length x.floor.bays) moment x stepped heard events
  pub made : y ≡ record stepped { floor = record stepped.floor { began = true } }
