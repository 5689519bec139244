use Rattle.std.proofs.Common.{◌≡◌, drop, fold, bit_xor}
use Rattle.byte_text.proofs.xor.Given as goal

abbrev pub invariant-loop-byte : goal.invariant-loop-byte
invariant-loop-byte l = fold bit_xor 0 l.bytes ≡ fold bit_xor l.sum (drop l.byte-index l.bytes)
