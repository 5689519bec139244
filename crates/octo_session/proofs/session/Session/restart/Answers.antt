use Rattle.octo_session.proofs.Counts.{counts_restart}
use Rattle.octo_session.proofs.Desk.{joined_by}
use Rattle.octo_session.proofs.Links.{links_restart}
use Rattle.octo_session.proofs.session.Session.restart.Goals as goal

pub invariant_of-self : goal.invariant_of-self
invariant_of-self c =
    joined_by c.self.inside.desk c.restart.new.self c.self.inside.sender c.self.inside.up c.self.invariant
    (rw c.restart.ensures.after (counts_restart c.self.inside.desk.state c.args.print c.self.inside.desk))
    (rw c.restart.ensures.after (links_restart c.args.print c.self.inside.desk))

pub returns-clause-joined : goal.returns-clause-joined
returns-clause-joined c =
    joined_by c.self.inside.desk c.restart.new.self c.self.inside.sender c.self.inside.up c.self.invariant
    (rw c.restart.ensures.after (counts_restart c.self.inside.desk.state c.args.print c.self.inside.desk))
    (rw c.restart.ensures.after (links_restart c.args.print c.self.inside.desk))
