use Rattle.std.proofs.Common.{◌≡◌, ◌++◌, drop, map}
use Rattle.gcode_lines.specs.Job.{texts_of}
use Rattle.gcode_measure.specs.Rest.{line_of, rest_lines, text_of_lines}
use Rattle.gcode_measure.proofs.remainder.write_rest.Given as goal

abbrev pub invariant-loop-i : goal.invariant-loop-i
invariant-loop-i l =
    text_of_lines (rest_lines l.head (drop l.from (texts_of l.job))) ≡ l.text ++ text_of_lines (map line_of (drop l.i (texts_of l.job)))
