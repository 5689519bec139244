-- What a keeper's tables are to a floor.
use Rattle.std.specs.Prelude.{◌≡◌, ◌+◌, Bool, true, false, List, [], ◌∷◌, ◌++◌, length, Option, None, Some}
use Rattle.octo_keeper.specs.Tables.{with_end, AreNumbered}
use Rattle.octo_keeper.specs.declared.tables.Tables.{Tables}
use Rattle.print_queue.specs.declared.ending.Ending.{Ending}
use Rattle.print_queue.specs.declared.row.PrintRow.{PrintRow}
use Rattle.octo_floor_bay.specs.Events.{FloorHistory, started_rows, endings}
use Rattle.octo_floor_bay.specs.declared.event.FloorEvent.TheVariants.{Noted, Ended, Started, Passed}
use Rattle.octo_floor.specs.Ledger.{LedgerData}

-- records after a print ended, if the keeper wrote that
abbrev pub with_end_if : Bool → Ending → List PrintRow → List PrintRow
with_end_if true ending rows = with_end ending rows
with_end_if false ending rows = rows

-- the first of the ends were written or not, and the others
abbrev pub first_written : List Bool → Bool
first_written [] = false
first_written (was ∷ others) = was

abbrev pub others_written : List Bool → List Bool
others_written [] = []
others_written (was ∷ others) = others

-- the records that events leave: a start adds its record, and an end that was written says how that print ended
abbrev pub rows_after : FloorHistory → List Bool → List PrintRow → List PrintRow
rows_after [] writes rows = rows
rows_after (Started printer row entry ∷ events) writes rows = rows_after events writes (rows ++ row ∷ [])
rows_after (Ended printer ending ∷ events) writes rows = rows_after events (others_written writes) (with_end_if (first_written writes) ending rows)
rows_after (Noted printer note ∷ events) writes rows = rows_after events writes rows
rows_after (Passed entry ∷ events) writes rows = rows_after events writes rows

-- tables that were these at first: the queue is the floor's, the users are as at first, and the records are those at first and then
-- those of the prints that were started, each with its outcome if that was written
pub record AreKeptSince (first : Tables) (l : LedgerData) (t : Tables) : Type 0 where
  pub queue : t.queue ≡ l.stock.queue
  pub users : t.users ≡ first.users
  pub prints : t.prints ≡ first.prints ++ rows_after l.history l.ends_written []
  pub ends : length l.ends_written ≡ length (endings l.history)
  -- the numbers of records go on
  pub numbered : AreNumbered first.prints
  pub records : length first.prints + length (started_rows l.history) ≡ l.stock.records

-- the same if the keeper records its tables
abbrev pub AreKept : Tables → LedgerData → Option Tables → Type 0
AreKept first l None = Unit {0}
AreKept first l (Some t) = AreKeptSince first l t
