use Rattle.std.proofs.Common.{◌≡◌, drop}
use Rattle.byte_text.specs.Marks.{contains_text}
use Rattle.octo_settings.proofs.scripts.contains.Given as goal

abbrev pub invariant-loop-start : goal.invariant-loop-start
invariant-loop-start l = contains_text l.mark l.bytes ≡ contains_text l.mark (drop l.start l.bytes)
