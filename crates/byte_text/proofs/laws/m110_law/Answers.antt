use Rattle.byte_text.proofs.MarkLaws.{has_m110-around, has_m110-no_m}
use Rattle.byte_text.proofs.laws.m110_law.Goals as goal

pub returns : goal.returns
returns c = record { around = has_m110-around; needs_m = has_m110-no_m }
