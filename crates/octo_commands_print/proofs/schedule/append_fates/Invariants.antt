use Rattle.std.proofs.Common.{◌≡◌, ◌≤◌, ◌-◌, ◌++◌}
use Rattle.octo_commands_print.specs.Draws.{draws}
use Rattle.octo_commands_print.specs.Fates.{fates_after}
use Rattle.octo_commands_print.proofs.schedule.append_fates.Given as goal

abbrev pub invariant-loop : goal.invariant-loop
invariant-loop l = record {
  fates : l.initial.fates ++ fates_after 0 (draws l.initial.numbers l.count) ≡ l.fates ++ fates_after l.harmed (draws l.numbers (l.count - l.counter));
  few : l.harmed ≤ 2;
}
