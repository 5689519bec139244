use Rattle.std.proofs.Common.{◌≡◌, take}
use Rattle.std.specs.Prelude.{fold}
use Rattle.gcode_lines.specs.Job.{texts_of}
use Rattle.temp_rules.specs.Most.{no_targets, with_text}
use Rattle.octo_files.proofs.checking.targets_of.Given as goal

abbrev pub invariant-loop-i : goal.invariant-loop-i
invariant-loop-i l = l.targets ≡ fold with_text no_targets (take l.i (texts_of l.job))
