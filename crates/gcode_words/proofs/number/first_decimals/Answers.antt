use Rattle.std.proofs.Common.{arith}
use Rattle.gcode_words.proofs.Digits.{decimal_value-none, decimals-step, decimals-grow}
use Rattle.gcode_words.proofs.number.first_decimals.Goals as goal

pub loop-place-init : goal.loop-place-init
loop-place-init c = record { value = decimal_value-none; small = omega arith }

pub loop-place-preserved : goal.loop-place-preserved
loop-place-preserved c = record {
  value = decimals-step c.args.decimals.now c.loop-place.place c.loop-place.value c.digit_at.result (omega arith) c.loop-place.invariant.value c.digit_at.ensures.value;
  small = decimals-grow c.loop-place.place c.loop-place.value c.digit_at.result (omega arith) c.loop-place.invariant.small c.digit_at.ensures.bound;
}
