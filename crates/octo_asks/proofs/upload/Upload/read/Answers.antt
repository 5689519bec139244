use Rattle.octo_asks.proofs.JobFiles.{file_is, job_is}
use Rattle.octo_asks.proofs.upload.Upload.read.Goals as goal

pub invariant_of-result : goal.invariant_of-result
invariant_of-result c = job_is c.args.bytes.now c.in-Ok.job c.in-Ok.ensures.exact

pub returns-in-Ok : goal.returns-in-Ok
returns-in-Ok c = file_is c.args.bytes.now c.in-Ok.job c.in-Ok.ensures.exact
