use Rattle.std.proofs.Common.{◌≡◌, length, All}
use Rattle.octo_floor_bay.specs.Bay.{IsNewSession}
use Rattle.test_makers.proofs.parts.sessions.Given as goal

-- the sessions so far
abbrev pub invariant-loop : goal.invariant-loop
invariant-loop l = record {
  new : All IsNewSession l.sessions;
  count : length l.sessions ≡ l.counter;
}
