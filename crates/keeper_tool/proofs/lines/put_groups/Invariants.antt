use Rattle.std.proofs.Common.{◌≡◌, ◌++◌, drop, flat_map}
use Rattle.keeper_tool.specs.Lines.{word_after}
use Rattle.keeper_tool.proofs.lines.put_groups.Given as goal

-- the text so far, with the lines that are left, is the whole
abbrev pub invariant-loop-group : goal.invariant-loop-group
invariant-loop-group l = l.fn.text ++ flat_map word_after l.groups ≡ l.text ++ flat_map word_after (drop l.group-index l.groups)
