-- What the keeper writes of a floor's events.
use Rattle.std.specs.Prelude.{◌≡◌, ℕ, suc, Option, None, Some}
use Rattle.octo_keeper.specs.Tables.{changed}
use Rattle.octo_keeper.specs.declared.tables.Tables.{Tables}
use Rattle.octo_keeper.specs.declared.tables.Change.TheVariants as change
use Rattle.print_queue.specs.declared.entry.QueueEntry.{QueueEntry}
use Rattle.print_queue.specs.declared.ending.Outcome.TheVariants as outcome
use Rattle.print_queue.specs.declared.row.PrintRow.{PrintRow}
use Rattle.octo_floor_bay.specs.Stock.{Stock}
use Rattle.octo_floor_bay.specs.declared.event.FloorEvent.{FloorEvent}
use Rattle.octo_floor_bay.specs.declared.event.FloorEvent.TheVariants.{Noted, Ended, Started, Passed}

-- the most records of prints with which a floor starts one more
abbrev pub most_records : ℕ
most_records = 100000

-- the record with which a print of an entry begins, of a file of this number of commands
abbrev pub row_of : Stock → QueueEntry → ℕ → PrintRow
row_of s entry commands = record {
  number = suc s.records;
  user = entry.user;
  file = entry.file;
  commands = commands;
  outcome = outcome.Active;
}

-- the tables after an event, if it was written
abbrev pub written : FloorEvent → Tables → Tables
written (Started at row entry) t = changed (change.Begin None row (Some entry)) t
written (Ended at ending) t = changed (change.End ending) t
written (Passed entry) t = t
written (Noted at note) t = t
