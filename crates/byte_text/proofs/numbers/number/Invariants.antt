use Rattle.std.proofs.Common.{◌≡◌, ◌≤◌, drop}
use Rattle.byte_text.specs.Number.{number_of}
use Rattle.byte_text.proofs.NumberLaws.{number_after}
use Rattle.byte_text.proofs.numbers.number.Given as goal

abbrev pub invariant-loop-byte : goal.invariant-loop-byte
invariant-loop-byte l = (l.value ≤ 4294967295) × (number_of l.bytes ≡ number_after l.value (drop l.byte-index l.bytes))
