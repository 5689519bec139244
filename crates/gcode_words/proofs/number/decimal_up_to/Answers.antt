use Rattle.std.proofs.Common.{◌≡◌, ◌+◌, [], take, min, arith}
use Rattle.byte_text.specs.Number.{decimal_value}
use Rattle.gcode_words.proofs.Digits.{decimal_value-none, decimal_value-more}
use Rattle.gcode_words.proofs.number.decimal_up_to.Goals as goal

pub loop-digit-init : goal.loop-digit-init
loop-digit-init c = let e : 0 ≡ decimal_value [] = decimal_value-none in omega arith

pub loop-digit-preserved : goal.loop-digit-preserved
loop-digit-preserved c =
    let more = decimal_value-more c.args.digits.now c.loop-digit.digit-index (omega arith) in
    let e : c.min-value.result ≡ min (decimal_value (take (c.loop-digit.digit-index + 1) c.args.digits.now)) c.args.most = omega arith in
    e
