-- Print records to try a database with.
use Rattle.std.specs.Prelude.{◌≡◌, ◌≢◌, ◌≤◌, ℕ, ◌+◌, zero, suc, [], ◌∷◌, ◌++◌, length, codes, Option}
use Rattle.std.specs.Option.{option_map}
use Rattle.print_queue.specs.declared.ending.Outcome.TheVariants.{Done}
use Rattle.print_queue.specs.declared.row.PrintRow.{PrintRow}
use Rattle.octo_keeper.specs.declared.tables.Tables.{Tables}

-- the record of a finished print
abbrev pub finished_row : ℕ → PrintRow
finished_row number = record {
  number = number;
  user = codes "ana";
  file = codes "hollow_box.gcode";
  commands = 218;
  outcome = Done;
}

-- the tables with one finished print more
abbrev pub with_print : ℕ → Tables → Tables
with_print number t = record t { prints = t.prints ++ finished_row number ∷ [] }

-- the tables with a number of records more, numbered from `first` on
abbrev pub with_prints : ℕ → ℕ → Tables → Tables
with_prints first zero t = t
with_prints first (suc n) t = with_print (first + n) (with_prints first n t)

-- the tables with a number of records more, numbered after those that they hold
abbrev pub with_more : ℕ → Tables → Tables
with_more n t = with_prints (length t.prints + 1) n t

-- at most that number of records was added, numbered from `first` on
abbrev pub AddsFrom : ℕ → ℕ → Option Tables → Option Tables → Type 0
AddsFrom first most old new = (n : ℕ) × (n ≤ most) × (new ≡ option_map (with_prints first n) old)

-- at most that number of records was added
abbrev pub AddsUpTo : ℕ → Option Tables → Option Tables → Type 0
AddsUpTo most old new = (n : ℕ) × (n ≤ most) × (new ≡ option_map (with_more n) old)
