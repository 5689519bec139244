use Rattle.std.proofs.Common.{◌≡◌, ◌++◌, drop, flat_map}
use Rattle.keeper_tool.specs.Lines.{entry_line}
use Rattle.keeper_tool.proofs.lines.put_entries.Given as goal

-- the text so far, with the lines that are left, is the whole
abbrev pub invariant-loop-entry : goal.invariant-loop-entry
invariant-loop-entry l = l.fn.text ++ flat_map entry_line l.entries ≡ l.text ++ flat_map entry_line (drop l.entry-index l.entries)
