use Rattle.octo_serve.proofs.Seating.{opens}
use Rattle.octo_serve.proofs.workers.ends.Goals as goal

pub vacant-requires : goal.vacant-requires
vacant-requires g c = opens
