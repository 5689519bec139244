use Rattle.octo_api_requests.proofs.Others.{plain_callers}
use Rattle.octo_api_requests.proofs.request.request_in.Goals as goal

pub returns-in-Nothing-clause-asks : goal.returns-in-Nothing-clause-asks
returns-in-Nothing-clause-asks c = rw c.in-Nothing.is c.request_without_body.ensures.asks

pub returns-in-Nothing-clause-callers : goal.returns-in-Nothing-clause-callers
returns-in-Nothing-clause-callers c wants = plain_callers c.args.wanted c.in-Nothing.request _ c.in-Nothing.is wants c.request_without_body.ensures.same

pub returns-in-Json-clause-asks : goal.returns-in-Json-clause-asks
returns-in-Json-clause-asks c = rw c.in-Json.is c.json_request.ensures.asks

pub returns-in-Upload-clause-asks : goal.returns-in-Upload-clause-asks
returns-in-Upload-clause-asks c = rw c.in-Upload.is c.upload_request.ensures.asks
