use Rattle.std.proofs.Common.{◌≡◌, ◌++◌, drop}
use Rattle.std.specs.Prelude.{filter}
use Rattle.printer_model.specs.Executed.{is_counted}
use Rattle.printer_model.proofs.session_executed.counted_lines.Given as goal

abbrev pub invariant-loop-line : goal.invariant-loop-line
invariant-loop-line l = l.counted.items ++ filter is_counted (drop l.line-index l.lines) ≡ filter is_counted l.lines
