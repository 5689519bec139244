use Rattle.std.proofs.lemmas.Result.{err_from_is_err_and}
use Rattle.gcode_measure.proofs.RestLaws.{HasHead-start, HasHead-more, HasHead-fault, HasHead-end}
use Rattle.gcode_measure.proofs.remainder.head_before.Goals as goal

pub loop-i-init : goal.loop-i-init
loop-i-init c = HasHead-start _ _ c.new-head.ensures.value c.new-head.ensures.near

pub returns-in_err-head : goal.returns-in_err-head
returns-in_err-head c =
    let told = err_from_is_err_and c.from_residual.result c.from_residual.ensures.1 in
    rw (told.1, told.2)
    (HasHead-fault c.args.job.now c.args.from c.loop-i.i c.loop-i.head c.get-text.result.now c.line.result c.in_err-head.field-0.0 c.loop-i.invariant c.requires
    c.loop-i-test.true c.get-text.ensures.value c.line.ensures c.in_err-head.ensures.value)

pub loop-i-preserved : goal.loop-i-preserved
loop-i-preserved c =
    let value = c.in_ok-head.ensures.value in
    HasHead-more c.args.job.now c.args.from c.loop-i.i c.loop-i.head c.get-text.result.now c.line.result c.in_ok-head.head c.loop-i.invariant c.requires
    c.loop-i-test.true c.get-text.ensures.value c.line.ensures value.0 value.1 c.in_ok-head.ensures.near

pub returns : goal.returns
returns c = HasHead-end c.args.job.now c.args.from c.loop-i.i c.loop-i.head c.loop-i.invariant c.requires c.loop-i-test.false
