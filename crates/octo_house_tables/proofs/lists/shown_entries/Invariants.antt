use Rattle.std.proofs.Common.{◌≡◌, ◌++◌, map, filter, drop}
use Rattle.print_queue.specs.Rows.{is_of}
use Rattle.octo_asks.specs.Shown.{shown_entry}
use Rattle.octo_house_tables.proofs.lists.shown_entries.Given as goal

-- what is shown and what is to come are the whole
abbrev pub invariant-loop-row : goal.invariant-loop-row
invariant-loop-row l =
    map shown_entry (filter (is_of l.user) l.rows) ≡ l.list ++ map shown_entry (filter (is_of l.user) (drop l.row-index l.rows))
