use Rattle.std.proofs.Common.{◌<◌, length, sym, ◌∙◌, arith}
use Rattle.temp_rules.proofs.Commands.{first_hot-found, first_hot-cool}
use Rattle.temp_rules.proofs.job.first_hot.Goals as goal

pub returns-in-Err : goal.returns-in-Err
returns-in-Err c =
    let within : c.loop-i.i < length c.args.job.now.commands = omega arith in
    first_hot-found c.args.limits.now c.args.job.now.commands c.loop-i.i c.get.result.now c.line.result c.in-Err.hot within c.get.ensures.value c.line.ensures c.in-Err.ensures
    ∙ sym c.loop-i.invariant

pub loop-i-preserved : goal.loop-i-preserved
loop-i-preserved c =
    let within : c.loop-i.i < length c.args.job.now.commands = omega arith in
    c.loop-i.invariant
    ∙ first_hot-cool c.args.limits.now c.args.job.now.commands c.loop-i.i c.get.result.now within c.get.ensures.value c.in_default.ensures
