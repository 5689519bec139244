use Rattle.std.proofs.Common.{subst}
use Rattle.octo_session.specs.Data.{SessionData}
use Rattle.octo_session.specs.Found.{got_of}
use Rattle.octo_session.specs.FoundBy.{IsFoundBy}
use Rattle.octo_session.proofs.session.Session.turn_while_up.Goals as goal

pub returns-clause-found_by : goal.returns-clause-found_by
returns-clause-found_by g c =
    let found = c.receive_then_send-found.result in
    let P : SessionData → Type 0 = λ s. IsFoundBy c.args.moment (got_of found.received c.receive_then_send-found.new.line.items) found s.sender
    c.receive_then_send-found.new.sender in
    subst P c.self.view_is c.receive_then_send-found.ensures.found_by
