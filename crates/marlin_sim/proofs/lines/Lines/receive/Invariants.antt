use Rattle.std.proofs.Common.{◌≡◌, ◌++◌, length, List, ℕ}
use Rattle.marlin_sim.specs.Lines.{to_come}
use Rattle.marlin_sim.proofs.lines.Lines.receive.Given as goal

-- what is to arrive is the same, with the rest still to be received, and that is the end of the bytes
abbrev pub invariant-loop-piece : goal.invariant-loop-piece
invariant-loop-piece l = record {
  comes : (more : List ℕ) → to_come l.plan l.self (l.rest ++ more) ≡ to_come l.plan l.initial.self (l.bytes ++ more);
  front : (front : List ℕ) × (l.bytes ≡ front ++ l.rest);
}

abbrev pub decreases-loop-piece : goal.decreases-loop-piece
decreases-loop-piece l = length l.rest
