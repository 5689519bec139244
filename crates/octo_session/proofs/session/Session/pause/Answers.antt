use Rattle.octo_session.proofs.Counts.{counts_pause}
use Rattle.octo_session.proofs.Desk.{joined_by}
use Rattle.octo_session.proofs.Links.{links_pause}
use Rattle.octo_session.proofs.session.Session.pause.Goals as goal

pub invariant_of-self : goal.invariant_of-self
invariant_of-self c =
    joined_by c.self.inside.desk c.pause.new.self c.self.inside.sender c.self.inside.up c.self.invariant
    (rw c.pause.ensures.after (counts_pause c.self.inside.desk.state c.self.inside.desk))
    (rw c.pause.ensures.after (links_pause c.self.inside.desk))

pub returns-clause-joined : goal.returns-clause-joined
returns-clause-joined c =
    joined_by c.self.inside.desk c.pause.new.self c.self.inside.sender c.self.inside.up c.self.invariant
    (rw c.pause.ensures.after (counts_pause c.self.inside.desk.state c.self.inside.desk))
    (rw c.pause.ensures.after (links_pause c.self.inside.desk))
