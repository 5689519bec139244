-- What the printers of a floor share, as plain data.
use Rattle.std.specs.Prelude.{ℕ, Bool, List, [], ◌∷◌, ◌++◌, Option, None, Some}
use Rattle.job_desk.specs.declared.issued.Note.{Note}
use Rattle.print_queue.specs.declared.ending.Ending.{Ending}
use Rattle.octo_floor_bay.specs.Events.{FloorHistory}
use Rattle.octo_floor_bay.specs.Stock.{Stock}
use Rattle.octo_floor_bay.specs.declared.end.FloorFault.{FloorFault}
use Rattle.octo_floor_bay.specs.declared.event.FloorEvent.TheVariants.{Noted, Ended}

-- the queue with the number of records, the events so far, whether the keeper wrote each end among them, and the first fault of a run
pub record LedgerData : Type 0 where
  pub stock : Stock
  pub history : FloorHistory
  pub ends_written : List Bool
  pub fault : Option FloorFault

-- events are added
abbrev pub with_events : FloorHistory → LedgerData → LedgerData
with_events events l = record l { history = l.history ++ events }

-- the first fault stays
abbrev pub first_fault : Option FloorFault → FloorFault → Option FloorFault
first_fault None fault = Some fault
first_fault (Some first) fault = Some first

-- it's known whether one more end was written
abbrev pub with_end_written : Bool → LedgerData → LedgerData
with_end_written was l = record l { ends_written = l.ends_written ++ was ∷ [] }

-- a fault came
abbrev pub with_fault : FloorFault → LedgerData → LedgerData
with_fault fault l = record l { fault = first_fault l.fault fault }

-- the event of a turn's note
abbrev pub noted_events : ℕ → Option Note → FloorHistory
noted_events printer None = []
noted_events printer (Some note) = Noted printer note ∷ []

-- the event of a turn's ending
abbrev pub ended_events : ℕ → Option Ending → FloorHistory
ended_events printer None = []
ended_events printer (Some ending) = Ended printer ending ∷ []
