-- A ledger's fields, seen as plain data.
use Rattle.std.specs.Prelude.{◌≤◌, length}
use Rattle.octo_floor_bay.specs.Events.{started_rows}
use Rattle.octo_floor.specs.Counted.{IsTallyOf}
use Rattle.octo_floor.specs.Ledger.{LedgerData}
use Rattle.octo_floor.specs.declared.ledger.Ledger.TheInside.{Inside}

-- the data that the fields hold
abbrev pub ledger_of : Inside → LedgerData
ledger_of l = record { stock = l.stock; history = l.history; ends_written = l.ends_written; fault = l.fault }

-- the prints are counted, and each that was started has its record
pub record IsKept (l : Inside) : Type 0 where
  pub tally : IsTallyOf l.history l.tally
  pub recorded : length (started_rows l.history) ≤ l.stock.records
