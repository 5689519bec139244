use Rattle.std.proofs.Common.{◌≡◌, length}
use Rattle.test_makers.proofs.parts.names.Given as goal

-- the names so far
abbrev pub invariant-loop-text : goal.invariant-loop-text
invariant-loop-text l = length l.names ≡ l.text-index
