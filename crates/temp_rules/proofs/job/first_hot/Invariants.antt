use Rattle.std.proofs.Common.{◌≡◌, drop}
use Rattle.temp_rules.specs.Hot.{first_hot_of}
use Rattle.temp_rules.proofs.job.first_hot.Given as goal

abbrev pub invariant-loop-i : goal.invariant-loop-i
invariant-loop-i l = first_hot_of l.limits l.job.commands ≡ first_hot_of l.limits (drop l.i l.job.commands)
