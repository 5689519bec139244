use Rattle.job_desk.specs.Views.{bytes_of}
use Rattle.octo_session.proofs.Counts.{counts_manual}
use Rattle.octo_session.proofs.Desk.{joined_by}
use Rattle.octo_session.proofs.Links.{links_manual}
use Rattle.octo_session.proofs.session.Session.manual.Goals as goal

pub invariant_of-self : goal.invariant_of-self
invariant_of-self c =
    joined_by c.self.inside.desk c.manual.new.self c.self.inside.sender c.self.inside.up c.self.invariant
    (rw c.manual.ensures.after (counts_manual c.self.inside.desk.state (bytes_of c.args.lines.now) c.self.inside.desk))
    (rw c.manual.ensures.after (links_manual (bytes_of c.args.lines.now) c.self.inside.desk))

pub returns-clause-joined : goal.returns-clause-joined
returns-clause-joined c =
    joined_by c.self.inside.desk c.manual.new.self c.self.inside.sender c.self.inside.up c.self.invariant
    (rw c.manual.ensures.after (counts_manual c.self.inside.desk.state (bytes_of c.args.lines.now) c.self.inside.desk))
    (rw c.manual.ensures.after (links_manual (bytes_of c.args.lines.now) c.self.inside.desk))
