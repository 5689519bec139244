use Rattle.std.proofs.Common.{◌≡◌, map, take}
use Rattle.arrayvec.specs.ArrayVec.{array_vec_len}
use Rattle.octo_log.specs.Lines.{shown_byte}
use Rattle.octo_log.proofs.line.line_of.Given as goal

abbrev pub invariant-loop-byte : goal.invariant-loop-byte
invariant-loop-byte l = (l.line.items ≡ map shown_byte (take l.byte-index l.words)) × (array_vec_len l.line ≡ l.byte-index)
