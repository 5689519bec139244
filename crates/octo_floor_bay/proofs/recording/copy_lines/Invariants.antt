use Rattle.std.proofs.Common.{◌≡◌, take}
use Rattle.octo_floor_bay.proofs.recording.copy_lines.Given as goal

-- the lines so far
abbrev pub invariant-loop-line : goal.invariant-loop-line
invariant-loop-line l = l.copy.items ≡ take l.line-index l.line-items
