use Rattle.job_desk.specs.Data.{named_file}
use Rattle.octo_session.proofs.Counts.{counts_select}
use Rattle.octo_session.proofs.Desk.{joined_by}
use Rattle.octo_session.proofs.Links.{links_select}
use Rattle.octo_session.proofs.session.Session.select.Goals as goal

pub invariant_of-self : goal.invariant_of-self
invariant_of-self c =
    joined_by c.self.inside.desk c.select.new.self c.self.inside.sender c.self.inside.up c.self.invariant
    (rw c.select.ensures.after (counts_select c.self.inside.desk.state (named_file c.args.name.now c.args.job) c.self.inside.desk))
    (rw c.select.ensures.after (links_select (named_file c.args.name.now c.args.job) c.self.inside.desk))

pub returns-clause-joined : goal.returns-clause-joined
returns-clause-joined c =
    joined_by c.self.inside.desk c.select.new.self c.self.inside.sender c.self.inside.up c.self.invariant
    (rw c.select.ensures.after (counts_select c.self.inside.desk.state (named_file c.args.name.now c.args.job) c.self.inside.desk))
    (rw c.select.ensures.after (links_select (named_file c.args.name.now c.args.job) c.self.inside.desk))
