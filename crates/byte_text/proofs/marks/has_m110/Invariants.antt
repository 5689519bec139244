use Rattle.std.proofs.Common.{◌≡◌, drop}
use Rattle.byte_text.specs.Marks.{has_m110}
use Rattle.byte_text.proofs.marks.has_m110.Given as goal

abbrev pub invariant-loop-start : goal.invariant-loop-start
invariant-loop-start l = has_m110 l.bytes ≡ has_m110 (drop l.start l.bytes)
