use Rattle.octo_session.proofs.Counts.{counts_drop_file}
use Rattle.octo_session.proofs.Desk.{joined_by}
use Rattle.octo_session.proofs.Links.{links_drop_file}
use Rattle.octo_session.proofs.session.Session.drop_file.Goals as goal

pub invariant_of-self : goal.invariant_of-self
invariant_of-self c =
    joined_by c.self.inside.desk c.drop_file.new.self c.self.inside.sender c.self.inside.up c.self.invariant
    (rw c.drop_file.ensures.after (counts_drop_file c.args.name.now c.self.inside.desk))
    (rw c.drop_file.ensures.after (links_drop_file c.args.name.now c.self.inside.desk))

pub returns-clause-joined : goal.returns-clause-joined
returns-clause-joined c =
    joined_by c.self.inside.desk c.drop_file.new.self c.self.inside.sender c.self.inside.up c.self.invariant
    (rw c.drop_file.ensures.after (counts_drop_file c.args.name.now c.self.inside.desk))
    (rw c.drop_file.ensures.after (links_drop_file c.args.name.now c.self.inside.desk))
