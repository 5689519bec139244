use Rattle.std.proofs.Common.{take, sym, ap, ◌∙◌}
use Rattle.std.specs.List.{before_first}
use Rattle.gcode_lines.specs.Text.{is_mark}
use Rattle.gcode_lines.proofs.FirstLine.{feed_after-command, command-line}
use Rattle.gcode_lines.proofs.line.first_line.Goals as goal

pub returns-clause-value : goal.returns-clause-value
returns-clause-value c =
    let bytes = c.args.bytes.now in
    ap (λ n. take n bytes) (feed_after-command bytes c.command_len-command.result c.line_len-others.result c.command_len-command.ensures.value c.line_len-others.ensures.value)

pub invariant_of-result : goal.invariant_of-result
invariant_of-result c =
    let bytes = c.args.bytes.now in
    let whole = ap (λ n. take n bytes) (feed_after-command bytes c.command_len-command.result c.line_len-others.result c.command_len-command.ensures.value c.line_len-others.ensures.value) in
    record {
      cut = ap (λ n. take n bytes) c.command_len-command.ensures.value ∙ command-line bytes ∙ sym (ap (before_first is_mark) whole);
    }
