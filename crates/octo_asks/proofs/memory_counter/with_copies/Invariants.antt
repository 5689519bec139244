use Rattle.std.proofs.Common.{◌≡◌, map}
use Rattle.octo_asks.specs.Waiting.{ask_of}
use Rattle.octo_asks.proofs.memory_counter.with_copies.Given as goal

-- the asks so far
abbrev pub invariant-loop-worker : goal.invariant-loop-worker
invariant-loop-worker l = map ask_of l.list.items ≡ l.yielded
