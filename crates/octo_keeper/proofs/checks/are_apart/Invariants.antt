use Rattle.std.proofs.Common.{◌≡◌, length}
use Rattle.octo_keeper.specs.Sound.{are_apart}
use Rattle.octo_keeper.proofs.checks.are_apart.Given as goal

-- what is left to test
abbrev pub invariant-loop-rest : goal.invariant-loop-rest
invariant-loop-rest l = are_apart l.rows ≡ are_apart l.rest

abbrev pub decreases-loop-rest : goal.decreases-loop-rest
decreases-loop-rest l = length l.rest
