use Rattle.std.proofs.Common.{◌≡◌, take, min}
use Rattle.byte_text.specs.Number.{decimal_value}
use Rattle.gcode_words.proofs.number.decimal_up_to.Given as goal

abbrev pub invariant-loop-digit : goal.invariant-loop-digit
invariant-loop-digit l = l.value ≡ min (decimal_value (take l.digit-index l.digits)) l.most
