use Rattle.gcode_measure.proofs.GoesOnLaws.{rest-goes_on}
use Rattle.std.proofs.Common.{◌<◌, ◌≤◌, length, inr, sym, ap, ◌∙◌, Err, arith}
use Rattle.gcode_measure.specs.declared.fault.RestFault.TheVariants as fault
use Rattle.gcode_measure.proofs.RestLaws.{rest_of-past, rest_of-refused, rest_of-sound}
use Rattle.gcode_measure.proofs.remainder.rest.Goals as goal

pub returns-then-from-count-clause-exact : goal.returns-then-from-count-clause-exact
returns-then-from-count-clause-exact c =
    let past : length c.args.job.now.commands < c.args.from = omega arith in
    inr (sym (rest_of-past c.args.job.now c.args.from past ∙ ap (λ n. Err (fault.Past n)) (sym c.count-then-from-count.ensures.value)))

pub returns-in-Err-clause-exact : goal.returns-in-Err-clause-exact
returns-in-Err-clause-exact c =
    let within : c.args.from ≤ length c.args.job.now.commands = omega arith in
    inr (sym (rest_of-refused c.args.job.now c.args.from c.in-Err.fault within c.in-Err.ensures))

pub returns-in-Ok-write_rest-clause-exact : goal.returns-in-Ok-write_rest-clause-exact
returns-in-Ok-write_rest-clause-exact c =
    let within : c.args.from ≤ length c.args.job.now.commands = omega arith in
    inr (sym (rest_of-sound c.args.job.now c.args.from c.in-Ok.head c.in-Ok-write_rest.text within c.in-Ok.ensures c.in-Ok-write_rest.ensures))

pub returns-in-Ok-write_rest-clause-goes_on : goal.returns-in-Ok-write_rest-clause-goes_on
returns-in-Ok-write_rest-clause-goes_on c =
    rest-goes_on c.args.job.now c.args.from c.in-Ok.head c.in-Ok-write_rest.text c.in-Ok.ensures c.in-Ok-write_rest.ensures
