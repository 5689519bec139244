use Rattle.std.proofs.Common.{◌≡◌, ◌≤◌, ◌++◌, length, map, filter, reverse, take}
use Rattle.octo_asks.specs.Shown.{shown_print}
use Rattle.octo_house_rules.specs.Reads.{is_print_of}
use Rattle.octo_house_tables.proofs.Newest.{newest}
use Rattle.octo_house_tables.proofs.lists.shown_prints.Given as goal

-- what is shown and what is to come of the first rows are the whole
abbrev pub invariant-loop-free : goal.invariant-loop-free
invariant-loop-free l = record {
  whole : map shown_print (take 100 (reverse (filter (is_print_of l.user) l.rows))) ≡ l.list ++ newest shown_print (is_print_of l.user) l.free l.left l.rows;
  within : l.left ≤ length l.rows;
}

abbrev pub decreases-loop-free : goal.decreases-loop-free
decreases-loop-free l = l.left
