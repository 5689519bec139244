use Rattle.octo_floor_bay.proofs.Sound.{sound_over}
use Rattle.octo_floor_bay.proofs.laws.prints_are_sound.Goals as goal

pub returns : goal.returns
returns c = sound_over
