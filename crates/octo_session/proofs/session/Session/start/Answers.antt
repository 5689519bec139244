use Rattle.octo_session.proofs.Counts.{counts_start}
use Rattle.octo_session.proofs.Desk.{joined_by}
use Rattle.octo_session.proofs.Links.{links_start}
use Rattle.octo_session.proofs.session.Session.start.Goals as goal

pub invariant_of-self : goal.invariant_of-self
invariant_of-self c =
    joined_by c.self.inside.desk c.start.new.self c.self.inside.sender c.self.inside.up c.self.invariant
    (rw c.start.ensures.after (counts_start c.self.inside.desk.state c.args.print c.self.inside.desk))
    (rw c.start.ensures.after (links_start c.args.print c.self.inside.desk))

pub returns-clause-joined : goal.returns-clause-joined
returns-clause-joined c =
    joined_by c.self.inside.desk c.start.new.self c.self.inside.sender c.self.inside.up c.self.invariant
    (rw c.start.ensures.after (counts_start c.self.inside.desk.state c.args.print c.self.inside.desk))
    (rw c.start.ensures.after (links_start c.args.print c.self.inside.desk))
