-- The ends of former prints, as they are stored.
use Rattle.std.specs.Prelude.{ℕ, zero, suc, List, [], ◌∷◌, map}
use Rattle.octo_keeper.specs.Tables.{with_end}
use Rattle.octo_keeper.specs.declared.tables.Tables.{Tables}
use Rattle.print_queue.specs.declared.ending.Outcome.{Outcome}
use Rattle.print_queue.specs.declared.ending.Outcome.TheVariants as outcome
use Rattle.print_queue.specs.declared.row.PrintRow.{PrintRow}

-- the outcome of a print that its host can no longer end: one that was still going on has failed
abbrev pub outcome_settled : Outcome → Outcome
outcome_settled outcome.Active = outcome.Failed
outcome_settled outcome.Done = outcome.Done
outcome_settled outcome.Cancelled = outcome.Cancelled
outcome_settled outcome.Failed = outcome.Failed

-- its record
abbrev pub row_settled : PrintRow → PrintRow
row_settled row = record row { outcome = outcome_settled row.outcome }

-- each print that was still going on has failed
abbrev pub settled : Tables → Tables
settled t = record t { prints = map row_settled t.prints }

-- the first n of the records are settled
abbrev pub rows_settled_to : ℕ → List PrintRow → List PrintRow
rows_settled_to zero rows = rows
rows_settled_to (suc n) [] = []
rows_settled_to (suc n) (row ∷ rows) = row_settled row ∷ rows_settled_to n rows

-- the first n prints are settled
abbrev pub settled_to : ℕ → Tables → Tables
settled_to n t = record t { prints = rows_settled_to n t.prints }

-- records after this outcome of the print of that number was settled
abbrev pub failed_if : Outcome → ℕ → List PrintRow → List PrintRow
failed_if outcome.Active number rows = with_end (record { print = number; outcome = outcome.Failed }) rows
failed_if outcome.Done number rows = rows
failed_if outcome.Cancelled number rows = rows
failed_if outcome.Failed number rows = rows

-- this print has failed, if its record reads as going on
abbrev pub settled_by : PrintRow → Tables → Tables
settled_by row t = record t { prints = failed_if row.outcome row.number t.prints }
