use Rattle.std.proofs.Common.{◌≡◌, ◌⊎◌, inl, inr, ℕ, List, [], Option, Some, refl, sym, ap, subst, ◌∙◌}
use Rattle.std.specs.Prelude.{IfSome}
use Rattle.octo_asks.specs.History.{History}
use Rattle.octo_outside.specs.Conns.{ConnState}
use Rattle.octo_outside_doors.specs.Doors.{Comes}
use Rattle.octo_outside_doors.specs.declared.door.Knock.{Knock}
use Rattle.octo_api_worker.specs.Worked.{HasVisited}
use Rattle.octo_api_worker.proofs.Asked.{once_none, once_after}
use Rattle.octo_api_worker.proofs.Walking.{visit_served, visit_quiet, visit_closed, visit_ended, visit_failed, opens_or_closes}
use Rattle.octo_api_worker.proofs.at_door.look_at_door.Goals as goal

pub returns-then-closed-clause-visited : goal.returns-then-closed-clause-visited
returns-then-closed-clause-visited g c inputs coming =
    visit_closed c.args.terms.now inputs _ _ _ _ _ coming refl c.closed.ensures.mine

pub returns-in-Ok-Conn-clause-visited : goal.returns-in-Ok-Conn-clause-visited
returns-in-Ok-Conn-clause-visited g c inputs coming =
    let Came : Option (List (List ℕ)) → Type 0 = λ was. IfSome was (λ all. Comes (g.D.Conn.Conn.state) all c.in-Ok-Conn.field-0 (g.D.Door.state c.accept.new.self).coming) in
    let Knocks : Knock g.row.D-Conn.Denot → Type 0 = λ k. Comes (g.D.Conn.Conn.state) inputs k (g.D.Door.state c.accept.new.self).coming in
    let From : Option History → Type 0 = λ mine. HasVisited c.args.terms.now inputs (g.D.Door.state c.serve_and_finish.new.door).coming (g.D.Door.state c.args.door.now).served (g.D.Door.state c.serve_and_finish.new.door).served mine (g.A.Asker.state c.serve_and_finish.new.asker).mine c.serve_and_finish.result in
    let Kept : Option (List ConnState) → Type 0 = λ kept. HasVisited c.args.terms.now inputs (g.D.Door.state c.serve_and_finish.new.door).coming kept (g.D.Door.state c.serve_and_finish.new.door).served (g.A.Asker.state c.closed.new.self).mine (g.A.Asker.state c.serve_and_finish.new.asker).mine c.serve_and_finish.result in
    subst From c.closed.ensures.mine (subst Kept c.in-Ok-Conn.ensures.served
    (visit_served (g.D.Conn.Conn.state) c.args.terms.now c.in-Ok-Conn.conn inputs
    (g.D.Door.state c.accept.new.self).coming (g.D.Door.state c.serve_and_finish.new.door).coming _ _ _ _ c.serve_and_finish.result
    (subst Knocks c.in-Ok-Conn.field-0-is (subst Came coming c.in-Ok-Conn.ensures.ok)) c.serve_and_finish.ensures.coming (opens_or_closes _ _ c.serve_and_finish.ensures.either) c.serve_and_finish.ensures.served))

pub returns-in-Ok-Quiet-clause-visited : goal.returns-in-Ok-Quiet-clause-visited
returns-in-Ok-Quiet-clause-visited g c inputs coming =
    let Came : Option (List (List ℕ)) → Type 0 = λ was. IfSome was (λ all. Comes (g.D.Conn.Conn.state) all c.in-Ok-Quiet.field-0 (g.D.Door.state c.accept.new.self).coming) in
    let Knocks : Knock g.row.D-Conn.Denot → Type 0 = λ k. Comes (g.D.Conn.Conn.state) inputs k (g.D.Door.state c.accept.new.self).coming in
    visit_quiet (g.D.Conn.Conn.state) c.args.terms.now inputs (g.D.Door.state c.accept.new.self).coming _ _ _ _
    (subst Knocks c.in-Ok-Quiet.field-0-is (subst Came coming c.in-Ok-Quiet.ensures.ok)) c.in-Ok-Quiet.ensures.served c.closed.ensures.mine

pub returns-in-Ok-Ended-clause-visited : goal.returns-in-Ok-Ended-clause-visited
returns-in-Ok-Ended-clause-visited g c inputs coming =
    let Came : Option (List (List ℕ)) → Type 0 = λ was. IfSome was (λ all. Comes (g.D.Conn.Conn.state) all c.in-Ok-Ended.field-0 (g.D.Door.state c.accept.new.self).coming) in
    let Knocks : Knock g.row.D-Conn.Denot → Type 0 = λ k. Comes (g.D.Conn.Conn.state) inputs k (g.D.Door.state c.accept.new.self).coming in
    visit_ended (g.D.Conn.Conn.state) c.args.terms.now inputs (g.D.Door.state c.accept.new.self).coming _ _ _ _
    (subst Knocks c.in-Ok-Ended.field-0-is (subst Came coming c.in-Ok-Ended.ensures.ok)) c.in-Ok-Ended.ensures.served c.closed.ensures.mine

pub returns-in-Err-clause-visited : goal.returns-in-Err-clause-visited
returns-in-Err-clause-visited g c inputs coming =
    let Came : Option (List (List ℕ)) → Type 0 = λ was. IfSome was (λ _. (g.D.Door.state c.accept.new.self).coming ≡ Some []) in
    visit_failed c.args.terms.now inputs (g.D.Door.state c.accept.new.self).coming _ _ _ _ (subst Came coming c.in-Err.ensures.err) c.in-Err.ensures.served c.closed.ensures.mine

pub returns-then-closed-clause-once : goal.returns-then-closed-clause-once
returns-then-closed-clause-once g c = once_none _ _ c.closed.ensures.mine

pub returns-in-Ok-Conn-clause-once : goal.returns-in-Ok-Conn-clause-once
returns-in-Ok-Conn-clause-once g c = once_after _ _ _ c.closed.ensures.mine c.serve_and_finish.ensures.once

pub returns-in-Ok-Quiet-clause-once : goal.returns-in-Ok-Quiet-clause-once
returns-in-Ok-Quiet-clause-once g c = once_none _ _ c.closed.ensures.mine

pub returns-in-Ok-Ended-clause-once : goal.returns-in-Ok-Ended-clause-once
returns-in-Ok-Ended-clause-once g c = once_none _ _ c.closed.ensures.mine

pub returns-in-Err-clause-once : goal.returns-in-Err-clause-once
returns-in-Err-clause-once g c = once_none _ _ c.closed.ensures.mine
