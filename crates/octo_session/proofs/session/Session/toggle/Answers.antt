use Rattle.octo_session.proofs.Counts.{counts_toggle}
use Rattle.octo_session.proofs.Desk.{joined_by}
use Rattle.octo_session.proofs.Links.{links_toggle}
use Rattle.octo_session.proofs.session.Session.toggle.Goals as goal

pub invariant_of-self : goal.invariant_of-self
invariant_of-self c =
    joined_by c.self.inside.desk c.toggle.new.self c.self.inside.sender c.self.inside.up c.self.invariant
    (rw c.toggle.ensures.after (counts_toggle c.self.inside.desk.state c.self.inside.desk))
    (rw c.toggle.ensures.after (links_toggle c.self.inside.desk))

pub returns-clause-joined : goal.returns-clause-joined
returns-clause-joined c =
    joined_by c.self.inside.desk c.toggle.new.self c.self.inside.sender c.self.inside.up c.self.invariant
    (rw c.toggle.ensures.after (counts_toggle c.self.inside.desk.state c.self.inside.desk))
    (rw c.toggle.ensures.after (links_toggle c.self.inside.desk))
