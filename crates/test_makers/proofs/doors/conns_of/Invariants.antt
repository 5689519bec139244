use Rattle.std.proofs.Common.{◌≡◌, length, All}
use Rattle.octo_outside_doors.specs.Memory.{IsUntouched}
use Rattle.test_makers.proofs.doors.conns_of.Given as goal

-- no connection was touched yet, and there is one for each input so far
abbrev pub invariant-loop-input : goal.invariant-loop-input
invariant-loop-input l = record {
  untouched : All IsUntouched l.conns;
  count : length l.conns ≡ l.input-index;
}
