use Rattle.std.proofs.Common.{◌∙◌, ◌<◌, ◌+◌, ◌-◌, ℕ, ap, sym, arith}
use Rattle.octo_commands_print.specs.Draws.{number_after}
use Rattle.octo_commands_print.proofs.DrawLaws.{after-more}
use Rattle.octo_commands_print.proofs.schedule.skip.Goals as goal

pub loop-preserved : goal.loop-preserved
loop-preserved c =
    let within : c.loop.counter < c.args.count = omega arith in
    c.loop.invariant ∙ after-more c.loop.numbers c.args.count c.loop.counter within
    ∙ ap (λ (number : ℕ). number_after number (c.args.count - (c.loop.counter + 1))) (sym c.draw.ensures.number)
