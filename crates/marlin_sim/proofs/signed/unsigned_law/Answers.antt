use Rattle.std.proofs.Common.{refl}
use Rattle.marlin_sim.specs.Run.{first_world}
use Rattle.marlin_sim.proofs.Unsigned.{steps_same}
use Rattle.marlin_sim.proofs.signed.unsigned_law.Goals as goal

pub returns : goal.returns
returns c plan input events steps unsigned = steps_same events (first_world plan input) steps refl unsigned
