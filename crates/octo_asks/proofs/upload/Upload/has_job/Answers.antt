use Rattle.std.proofs.Common.{sym, ◌∙◌}
use Rattle.octo_asks.proofs.JobFiles.{has_one}
use Rattle.octo_asks.proofs.upload.Upload.has_job.Goals as goal

pub returns : goal.returns
returns c = λ on. has_one c.self.inside.read c.args.self.now (sym c.self.view_is) c.self.invariant (sym c.is_ok.ensures.value ∙ on)
