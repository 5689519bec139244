use Rattle.std.proofs.Common.{inr, Ok, Err, ap}
use Rattle.serde_json.specs.View.{view}
use Rattle.octo_api_requests.specs.Bodies.{asked_in}
use Rattle.octo_api_requests.specs.BodyFaults.{fault_in}
use Rattle.octo_api_requests.proofs.Asked.{gives_read, gives_none}
use Rattle.octo_api_requests.proofs.Others.{body_callers}
use Rattle.octo_api_requests.proofs.request.asked_json.Goals as goal

pub returns-in-Ok-clause-asks : goal.returns-in-Ok-clause-asks
returns-in-Ok-clause-asks c =
    let body = view c.args.body.now in
    inr (gives_read (fault_in c.args.form.now body) (asked_in c.args.form.now body) c.in-Ok.request c.in-Ok.ensures)

pub returns-in-Ok-clause-callers : goal.returns-in-Ok-clause-callers
returns-in-Ok-clause-callers c = body_callers c.args.form.now (view c.args.body.now) (Ok c.in-Ok.request) c.in-Ok.ensures

pub returns-in-Err-clause-asks : goal.returns-in-Err-clause-asks
returns-in-Err-clause-asks c =
    let body = view c.args.body.now in
    gives_none (fault_in c.args.form.now body) (asked_in c.args.form.now body) c.in-Err.unread _ (ap Err c.refusal_of.ensures) c.in-Err.ensures
