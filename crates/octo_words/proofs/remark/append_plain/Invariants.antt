use Rattle.std.proofs.Common.{◌≡◌, false}
use Rattle.byte_text.specs.Marks.{has_byte}
use Rattle.octo_words.proofs.remark.append_plain.Given as goal

-- the line has no line feed
abbrev pub invariant-loop-byte : goal.invariant-loop-byte
invariant-loop-byte l = has_byte 10 l.line ≡ false
