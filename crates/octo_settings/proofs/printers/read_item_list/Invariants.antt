use Rattle.std.proofs.Common.{◌≡◌, ℕ, List, drop}
use Rattle.octo_settings.specs.Printers.{item_of}
use Rattle.octo_settings.specs.Values.{each, each_from}
use Rattle.octo_settings.proofs.Each.{prepended}
use Rattle.octo_settings.proofs.printers.read_item_list.Given as goal

abbrev pub invariant-loop-i : goal.invariant-loop-i
invariant-loop-i l = each (item_of l.key) l.texts ≡ prepended {B = List ℕ} l.names (each_from (λ n x. item_of l.key x) l.i (drop l.i l.texts))
