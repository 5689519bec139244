use Rattle.std.proofs.Common.{◌≡◌, ◌+◌, drop}
use Rattle.octo_keeper.specs.Sound.{are_numbered_from}
use Rattle.octo_keeper.proofs.checks.are_numbered.Given as goal

-- what is left to test
abbrev pub invariant-loop-row : goal.invariant-loop-row
invariant-loop-row l = record {
  test : are_numbered_from 1 l.rows ≡ are_numbered_from l.number (drop l.row-index l.rows);
  number : l.number ≡ l.row-index + 1;
}
