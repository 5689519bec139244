use Rattle.std.proofs.Common.{◌≡◌, ◌-◌, ◌++◌}
use Rattle.octo_commands_print.specs.Draws.{draws, number_after}
use Rattle.octo_commands_print.specs.File.{draw_lines}
use Rattle.octo_commands_print.proofs.file.append_lines.Given as goal

abbrev pub invariant-loop : goal.invariant-loop
invariant-loop l = record {
  lines : l.initial.file ++ draw_lines (draws l.initial.numbers l.commands) ≡ l.file ++ draw_lines (draws l.numbers (l.commands - l.counter));
  number : number_after l.initial.numbers l.commands ≡ number_after l.numbers (l.commands - l.counter);
}
