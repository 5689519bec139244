use Rattle.std.proofs.Common.{◌≡◌, drop, All}
use Rattle.byte_text.specs.Sendable.{IsSendable}
use Rattle.job_desk.specs.Views.{bytes_of}
use Rattle.octo_house_rules.specs.Prints.{commands_in}
use Rattle.octo_house_tables.proofs.Commands.{prepended}
use Rattle.octo_house_tables.proofs.texts.read_lines.Given as goal

-- what was read and what is left to read
abbrev pub invariant-loop-text : goal.invariant-loop-text
invariant-loop-text l = record {
  read : commands_in l.texts ≡ prepended (bytes_of l.lines.items) (commands_in (drop l.text-index l.texts));
  sendable : All IsSendable (bytes_of l.lines.items);
}
