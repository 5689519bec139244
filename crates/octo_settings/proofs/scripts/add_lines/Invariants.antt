use Rattle.std.proofs.Common.{◌≡◌, ◌+◌, ◌≤◌, length, drop}
use Rattle.job_desk.specs.Data.{texts_at}
use Rattle.job_desk.specs.Scripts.{most_script_lines}
use Rattle.octo_settings.specs.Scripts.{with_lines}
use Rattle.octo_settings.proofs.scripts.add_lines.Given as goal

abbrev pub invariant-loop-i : goal.invariant-loop-i
invariant-loop-i l =
    (with_lines l.limits l.point 1 l.lines l.initial.scripts ≡ with_lines l.limits l.point (l.i + 1) (drop l.i l.lines) l.scripts)
    × (length (texts_at l.point l.scripts) + length l.lines ≤ most_script_lines + l.i)
