use Rattle.std.proofs.Common.{◌≡◌, length}
use Rattle.test_makers.proofs.parts.ports_of.Given as goal

-- the ports so far
abbrev pub invariant-loop : goal.invariant-loop
invariant-loop l = length l.names ≡ l.counter
