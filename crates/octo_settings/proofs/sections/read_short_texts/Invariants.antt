use Rattle.std.proofs.Common.{◌≡◌, ℕ, List, drop}
use Rattle.octo_settings.specs.Sections.{short_text}
use Rattle.octo_settings.specs.Values.{each, each_from}
use Rattle.octo_settings.proofs.Each.{prepended}
use Rattle.octo_settings.proofs.sections.read_short_texts.Given as goal

abbrev pub invariant-loop-i : goal.invariant-loop-i
invariant-loop-i l = each (short_text l.key) l.texts ≡ prepended {B = List ℕ} l.names (each_from (λ n x. short_text l.key x) l.i (drop l.i l.texts))
