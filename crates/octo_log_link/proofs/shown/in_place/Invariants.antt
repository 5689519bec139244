use Rattle.std.proofs.Common.{◌≡◌, ◌+◌, ◌++◌, map, take}
use Rattle.arrayvec.specs.ArrayVec.{array_vec_len}
use Rattle.octo_log.specs.Lines.{shown_byte}
use Rattle.octo_log_link.specs.Progress.{before_words}
use Rattle.octo_log_link.proofs.shown.in_place.Given as goal

abbrev pub invariant-loop-byte : goal.invariant-loop-byte
invariant-loop-byte l = (l.placed.items ≡ before_words ++ map shown_byte (take l.byte-index l.words)) × (array_vec_len l.placed ≡ l.byte-index + 6)
