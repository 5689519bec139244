use Rattle.gcode_lines.specs.Text.{command_part, command_text, begin_of, number_len}
use Rattle.gcode_lines.proofs.TextCut.{IsPart-ends, IsPart-command_text}
use Rattle.gcode_lines.proofs.text.text_in.Goals as goal

pub returns-clause-fits : goal.returns-clause-fits
unfolding command_text command_part begin_of number_len
returns-clause-fits c =
    let line = c.args.line.bytes.now in
    let ends = IsPart-ends line (begin_of line) (command_text line) (IsPart-command_text line) in
    rw (c.order_mark_len-mark.ensures.value, c.blanks_in_front.ensures.value, c.without_number-text.ensures.value, c.trimmed-trimmed.ensures, c.without_order_mark-command.ensures.value, c.args.line.cut) ends
