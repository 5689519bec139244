use Rattle.std.proofs.Common.{sym, ◌∙◌, arith}
use Rattle.gcode_lines.proofs.Sendable.{sendable_one, short_from_test}
use Rattle.gcode_lines.proofs.single.one_command.Goals as goal

pub bounded_text-requires : goal.bounded_text-requires
bounded_text-requires c =
    (omega arith, short_from_test c.command_text-text.result.now (sym c.is_too_long.ensures ∙ c.if-is_too_long.false))

pub returns-clause-sendable : goal.returns-clause-sendable
returns-clause-sendable c =
    rw (c.bounded_text.ensures, c.command_text-text.ensures) (sendable_one c.args.line.now (rw c.command_text-text.ensures at (sym c.is_empty.ensures ∙ c.if-is_empty.false)) (rw c.command_text-text.ensures at (sym c.has_m110.ensures ∙ c.if-has_m110.false)) (rw c.command_text-text.ensures at (sym c.is_too_long.ensures ∙ c.if-is_too_long.false)) (rw c.command_text-text.ensures at (sym c.has_control.ensures ∙ c.if-has_control.false)))
