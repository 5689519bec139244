use Rattle.octo_session.proofs.Counts.{counts_cancel}
use Rattle.octo_session.proofs.Desk.{joined_by}
use Rattle.octo_session.proofs.Links.{links_cancel}
use Rattle.octo_session.proofs.session.Session.cancel.Goals as goal

pub invariant_of-self : goal.invariant_of-self
invariant_of-self c =
    joined_by c.self.inside.desk c.cancel.new.self c.self.inside.sender c.self.inside.up c.self.invariant
    (rw c.cancel.ensures.after (counts_cancel c.self.inside.desk.state c.self.inside.desk))
    (rw c.cancel.ensures.after (links_cancel c.self.inside.desk))

pub returns-clause-joined : goal.returns-clause-joined
returns-clause-joined c =
    joined_by c.self.inside.desk c.cancel.new.self c.self.inside.sender c.self.inside.up c.self.invariant
    (rw c.cancel.ensures.after (counts_cancel c.self.inside.desk.state c.self.inside.desk))
    (rw c.cancel.ensures.after (links_cancel c.self.inside.desk))
