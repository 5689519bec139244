use Rattle.std.proofs.Common.{sym, ◌∙◌}
use Rattle.gcode_lines.proofs.Sendable.{short_from_test}
use Rattle.gcode_lines.proofs.places.Places.read_line.Goals as goal

pub add-requires-clause-short : goal.add-requires-clause-short
add-requires-clause-short c = short_from_test c.text_in-found.result.text.now c.if-is_plain.ensures.short

pub add-requires-2-clause-short : goal.add-requires-2-clause-short
add-requires-2-clause-short c =
    short_from_test c.text_in-found.result.text.now (sym c.is_too_long.ensures ∙ c.if-is_too_long.false)
