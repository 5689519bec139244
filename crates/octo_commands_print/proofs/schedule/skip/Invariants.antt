use Rattle.std.proofs.Common.{◌≡◌, ◌-◌}
use Rattle.octo_commands_print.specs.Draws.{number_after}
use Rattle.octo_commands_print.proofs.schedule.skip.Given as goal

abbrev pub invariant-loop : goal.invariant-loop
invariant-loop l = number_after l.initial.numbers l.count ≡ number_after l.numbers (l.count - l.counter)
