use Rattle.std.proofs.Common.{rules}
use Rattle.octo_serve.proofs.Sitting.{looks_for_close_as}
use Rattle.octo_serve.proofs.waiting.look_for_close.Goals as goal

pub load-requires : goal.load-requires
load-requires c = (search rules, search rules, looks_for_close_as _ _ _ _ _ c.requires.worker)
