use Rattle.std.proofs.Common.{Ok, Err, ap, inr}
use Rattle.octo_api_requests.proofs.Asked.{uploads_one}
use Rattle.octo_api_requests.proofs.upload.upload_of.Goals as goal

pub returns-in-Ok-clause-asks : goal.returns-in-Ok-clause-asks
returns-in-Ok-clause-asks c = uploads_one c.args.body.now c.args.kind.now (Ok c.in-Ok.parts) _ c.in-Ok.ensures.says c.file_of.ensures.asks

pub returns-in-Err-clause-asks : goal.returns-in-Err-clause-asks
returns-in-Err-clause-asks c = uploads_one c.args.body.now c.args.kind.now (Err c.in-Err.fault) _ c.in-Err.ensures.says (inr (ap Err c.refused_by.ensures))
