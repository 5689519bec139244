use Rattle.std.proofs.Common.{sym, arith, ◌<◌, ◌≤◌, length}
use Rattle.std.proofs.lemmas.Result.{err_from_is_err_and}
use Rattle.gcode_measure.proofs.MeasureLaws.{HasRun-more, HasRun-fault, HasRun-end}
use Rattle.gcode_measure.proofs.measuring.measure.Goals as goal

pub returns-in_err-take : goal.returns-in_err-take
returns-in_err-take c =
    let within : c.loop-i.i < length c.args.job.now.commands = omega arith in
    let told = err_from_is_err_and c.from_residual.result c.from_residual.ensures.1 in
    rw (told.1, told.2)
    (sym (HasRun-fault c.args.job.now c.loop-i.i c.loop-i.pass.head c.loop-i.pass.measure c.get.result.now c.line.result c.in_err-take.field-0.0
    c.loop-i.invariant within c.get.ensures.value c.line.ensures c.in_err-take.ensures))

pub loop-i-preserved : goal.loop-i-preserved
loop-i-preserved c =
    let within : c.loop-i.i < length c.args.job.now.commands = omega arith in
    let taken = c.in_ok-take.ensures in
    HasRun-more c.args.job.now c.loop-i.i c.loop-i.pass.head c.loop-i.pass.measure c.get.result.now c.line.result c.take.new.self.head c.take.new.self.measure
    c.loop-i.invariant within c.get.ensures.value c.line.ensures taken.0 taken.1 taken.2

pub returns : goal.returns
returns c =
    let past : length c.args.job.now.commands ≤ c.loop-i.i = omega arith in
    sym (HasRun-end c.args.job.now c.loop-i.i c.loop-i.pass.head c.loop-i.pass.measure c.loop-i.invariant past)
