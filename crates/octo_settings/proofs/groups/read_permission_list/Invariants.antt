use Rattle.std.proofs.Common.{◌≡◌, drop}
use Rattle.octo_settings.specs.Groups.{permission_of}
use Rattle.octo_settings.specs.Values.{each, each_from}
use Rattle.octo_settings.proofs.Each.{prepended}
use Rattle.octo_settings.proofs.groups.read_permission_list.Given as goal

abbrev pub invariant-loop-i : goal.invariant-loop-i
invariant-loop-i l = each (permission_of l.key) l.texts ≡ prepended l.permissions (each_from (λ n x. permission_of l.key x) l.i (drop l.i l.texts))
