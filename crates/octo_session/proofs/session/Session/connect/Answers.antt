use Rattle.octo_session.proofs.Counts.{counts_connect}
use Rattle.octo_session.proofs.Desk.{joined_by}
use Rattle.octo_session.proofs.Links.{links_connect}
use Rattle.octo_session.proofs.session.Session.connect.Goals as goal

pub invariant_of-self : goal.invariant_of-self
invariant_of-self c =
    joined_by c.self.inside.desk c.connect.new.self c.self.inside.sender c.self.inside.up c.self.invariant
    (rw c.connect.ensures.after (counts_connect c.self.inside.desk.state c.args.port.now c.self.inside.desk))
    (rw c.connect.ensures.after (links_connect c.args.port.now c.self.inside.desk))

pub returns-clause-joined : goal.returns-clause-joined
returns-clause-joined c =
    joined_by c.self.inside.desk c.connect.new.self c.self.inside.sender c.self.inside.up c.self.invariant
    (rw c.connect.ensures.after (counts_connect c.self.inside.desk.state c.args.port.now c.self.inside.desk))
    (rw c.connect.ensures.after (links_connect c.args.port.now c.self.inside.desk))
