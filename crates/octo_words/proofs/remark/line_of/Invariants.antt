use Rattle.std.proofs.Common.{◌≡◌, false}
use Rattle.byte_text.specs.Marks.{has_byte}
use Rattle.octo_words.proofs.remark.line_of.Given as goal

-- the line has no line feed
abbrev pub invariant-loop-part : goal.invariant-loop-part
invariant-loop-part l = has_byte 10 l.line ≡ false
