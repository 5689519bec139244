use Rattle.octo_house.proofs.Stays.{apart-by, cancel-stays}
use Rattle.octo_house.proofs.host_desk.HostDesk.cancel.Goals as goal

pub returns-clause-apart : goal.returns-clause-apart
returns-clause-apart c =
    apart-by c.args.self.now.session c.cancel.new.self _ c.cancel.ensures.after
    (cancel-stays c.args.self.now.session.desk.state c.args.self.now.session.desk)
