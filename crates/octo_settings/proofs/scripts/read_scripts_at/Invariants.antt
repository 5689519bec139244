use Rattle.std.proofs.Common.{◌≡◌, drop}
use Rattle.job_desk.specs.Scripts.{no_scripts}
use Rattle.octo_settings.specs.Scripts.{scripts_at}
use Rattle.octo_settings.specs.Seen.{members_or}
use Rattle.octo_settings.proofs.scripts.read_scripts_at.Given as goal

abbrev pub invariant-loop-point : goal.invariant-loop-point
invariant-loop-point l =
    scripts_at l.limits (members_or l.table) l.points no_scripts ≡ scripts_at l.limits (members_or l.table) (drop l.point-index l.points) l.scripts
