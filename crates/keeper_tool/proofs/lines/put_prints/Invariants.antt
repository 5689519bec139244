use Rattle.std.proofs.Common.{◌≡◌, ◌++◌, drop, flat_map}
use Rattle.keeper_tool.specs.Lines.{print_line}
use Rattle.keeper_tool.proofs.lines.put_prints.Given as goal

-- the text so far, with the lines that are left, is the whole
abbrev pub invariant-loop-print : goal.invariant-loop-print
invariant-loop-print l = l.fn.text ++ flat_map print_line l.prints ≡ l.text ++ flat_map print_line (drop l.print-index l.prints)
